-- What lines one after the other show, by how they are answered:
--   LineSays, Said, lines-said    lines that are read are each accepted by their own tests
--   lines-further             the text after m lines and k more
--   Passed, lines-passed      each of them passes its own test, and what follows is the text after them
--   Stopped, lines-stopped    lines that are refused: the first that is, with its number, and its place counted from that of the first line
--   Alike, lines-alike        two ways to read lines that agree on each of them read all of them alike
use mathlib.Core.Path.{◌≡◌, refl, sym, ap, ◌∙◌, subst, subst⁻¹}
use mathlib.Core.Bool.{Bool, true, false, cond, true≢false, false≢true}
use mathlib.Core.List.{List, [], ◌∷◌, ◌++◌}
use Prim.Native.Nat.{ℕ, zero, suc, ◌+◌, ◌<◌, ◌≤◌}
use native.Mathlib.Nat.{add-zero, zero-add, lt_of_not-le}
use native.Mathlib.Decide.{dec_le}
use native.Mathlib.Omega.{arith}
use lib.Dec.{eqb, ltb, lit≤}
use lib.ListN.{length, get_or, length-append, get_or-append}
use lib.Seq.{get_or-append_seam}
use borrow.Author.Tests.{eqb-true, eqb-false}
use Rattle.text.specs.Text.{before, after, has_byte, line_end, index_of}
use Rattle.fields.specs.Fields.{unless}
use Rattle.fields.proofs.Chains.{unless-passed}
use Rattle.sections.specs.Sections.{Read, items, line_refused, line_refusal, lines_from, lines_of}

abbrev items_of : {A : Type 0} → Read A → List A
items_of (items l rest) = l
items_of (line_refused number place) = []

abbrev pub is_read : {A : Type 0} → Read A → Bool
is_read (items l rest) = true
is_read (line_refused number place) = false

module _ {A : Type 0} (refusal : ℕ → List ℕ → ℕ) (item : List ℕ → A) (d : A) where
  -- what some line said that was accepted as the j-th, from 0
  pub record LineSays (j : ℕ) (x : A) : Type 0 where
    pub line : List ℕ
    pub passes : refusal j line ≡ 0
    pub is : x ≡ item line

  abbrev pub Said : List A → Type 0
  Said l = (j : ℕ) → j < length l → LineSays j (get_or l j d)

  none_said : Said []
  none_said j h = absurd (omega arith)

  more-said : (read : List A) (line : List ℕ) → refusal (length read) line ≡ 0 → Said read → Said (read ++ (item line ∷ []))
  more-said read line e s j h = go (dec_le (length read) j)
    where
      go : Dec (length read ≤ j) → LineSays j (get_or (read ++ (item line ∷ [])) j d)
      go (yes last) =
          let k : j ≡ length read = omega (arith, length-append read (item line ∷ [])) in
          record { line = line; passes = ap (λ (i : ℕ). refusal i line) k ∙ e; is = ap (λ (i : ℕ). get_or (read ++ (item line ∷ [])) i d) k ∙ get_or-append_seam read (item line) [] d }
      go (no early) = subst⁻¹ (LineSays j) (get_or-append read (item line ∷ []) d j (lt_of_not-le early)) (s j (lt_of_not-le early))

  pub lines-said : (left place : ℕ) (rest : List ℕ) (read l : List A) (end : List ℕ) → Said read → lines_of refusal item left place rest read ≡ items l end
      → Said l × (length l ≡ length read + left)
  unfolding lines_of unless
  lines-said zero place rest read l end s e = let k : read ≡ l = ap items_of e in (subst Said k s, ap length (sym k) ∙ sym (add-zero (length read)))
  lines-said (suc left) place rest read l end s e = go (has-line) refl (eqb (line_refusal (refusal (length read)) rest) 0) refl (lines-said left (suc place) (after line_end rest) (read ++ (item (before line_end rest) ∷ [])) l end) e
    where
      has-line : Bool
      has-line = ltb (index_of line_end rest) (length rest)

      own : ℕ
      own = refusal (length read) (before line_end rest)

      more : List A
      more = read ++ (item (before line_end rest) ∷ [])

      go : (b : Bool) → has-line ≡ b → (t : Bool) → eqb (unless b 2 own) 0 ≡ t
          → (Said more → lines_of refusal item left (suc place) (after line_end rest) more ≡ items l end → Said l × (length l ≡ length more + left))
          → cond t (lines_of refusal item left (suc place) (after line_end rest) more) (line_refused (unless b 2 own) place) ≡ items l end
          → Said l × (length l ≡ length read + suc left)
      go true h true z ih q =
          let r = ih (more-said read (before line_end rest) (eqb-true own 0 z) s) q in
          (r.0, omega (arith, r.1, length-append read (item (before line_end rest) ∷ [])))
      go b h false z ih q = absurd (false≢true (ap is_read q))
      go false h true z ih q = absurd (omega (arith, eqb-true 2 0 z))

abbrev number_in : {A : Type 0} → Read A → ℕ
number_in (items l rest) = 0
number_in (line_refused number place) = number

abbrev place_in : {A : Type 0} → Read A → ℕ
place_in (items l rest) = 0
place_in (line_refused number place) = place

abbrev rest_in : {A : Type 0} → Read A → List ℕ
rest_in (items l rest) = rest
rest_in (line_refused number place) = []

pub lines-further : (m k : ℕ) (text : List ℕ) → lines_from k (lines_from m text) ≡ lines_from (m + k) text
unfolding lines_from
lines-further zero k text = ap (λ (i : ℕ). lines_from i text) (sym (zero-add k))
lines-further (suc m) k text =
    let e : suc (m + k) ≡ suc m + k = omega arith in
    lines-further m k (after line_end text) ∙ ap (λ (i : ℕ). lines_from i text) e

module _ (refusal : ℕ → List ℕ → ℕ) where
  -- the line of `rest` after k others passes, where `from` lines of its kind stand before `rest`
  abbrev pub PassesAt : ℕ → List ℕ → ℕ → Type 0
  PassesAt from rest k = line_refusal (refusal (from + k)) (lines_from k rest) ≡ 0

  abbrev Passing : ℕ → List ℕ → ℕ → Type 0
  Passing from rest count = (k : ℕ) → k < count → PassesAt from rest k

  pub record Passed (from : ℕ) (rest : List ℕ) (count : ℕ) (end : List ℕ) : Type 0 where
    pub passing : Passing from rest count
    pub end_is : end ≡ lines_from count rest

  -- the first line that is refused, after `lines` others
  pub record Stopped (from : ℕ) (rest : List ℕ) (count low number place : ℕ) : Type 0 where
    pub lines : ℕ
    pub within : lines < count
    pub place_is : place ≡ low + lines
    pub refused : line_refusal (refusal (from + lines)) (lines_from lines rest) ≡ number
    pub some : number ≡ 0 → ⊥
    pub passing : Passing from rest lines

  -- the first line passes, and so do those after it
  passing-cons : (from count : ℕ) (rest : List ℕ) → line_refusal (refusal from) rest ≡ 0 → Passing (from + 1) (after line_end rest) count → Passing from rest (suc count)
  unfolding lines_from
  passing-cons from count rest first p zero h = ap (λ (i : ℕ). line_refusal (refusal i) rest) (add-zero from) ∙ first
  passing-cons from count rest first p (suc k) h =
      let e : from + suc k ≡ from + 1 + k = omega arith in
      ap (λ (i : ℕ). line_refusal (refusal i) (lines_from k (after line_end rest))) e ∙ p k (omega arith)

  module _ {A : Type 0} (item : List ℕ → A) where
    pub lines-passed : (left place : ℕ) (rest : List ℕ) (read l : List A) (end : List ℕ) → lines_of refusal item left place rest read ≡ items l end → Passed (length read) rest left end
    unfolding lines_of lines_from
    lines-passed zero place rest read l end e = record { passing = λ k h. absurd (omega arith); end_is = sym (ap rest_in e) }
    lines-passed (suc left) place rest read l end e = go (eqb line 0) refl (lines-passed left (suc place) (after line_end rest) more l end) e
      where
        line : ℕ
        line = line_refusal (refusal (length read)) rest

        more : List A
        more = read ++ (item (before line_end rest) ∷ [])

        go : (t : Bool) → eqb line 0 ≡ t → (lines_of refusal item left (suc place) (after line_end rest) more ≡ items l end → Passed (length more) (after line_end rest) left end)
            → cond t (lines_of refusal item left (suc place) (after line_end rest) more) (line_refused line place) ≡ items l end → Passed (length read) rest (suc left) end
        go true z ih q =
            let r = ih q in
            record {
              passing = passing-cons (length read) left rest (eqb-true line 0 z) (subst (λ (k : ℕ). Passing k (after line_end rest) left) (length-append read (item (before line_end rest) ∷ [])) r.passing);
              end_is = r.end_is;
            }
        go false z ih q = absurd (false≢true (ap is_read q))

    pub lines-stopped : (number place left low : ℕ) (rest : List ℕ) (read : List A) → lines_of refusal item left low rest read ≡ line_refused number place → Stopped (length read) rest left low number place
    unfolding lines_of lines_from
    lines-stopped number place zero low rest read e = absurd (true≢false (ap is_read e))
    lines-stopped number place (suc left) low rest read e = go (eqb line 0) refl (lines-stopped number place left (suc low) (after line_end rest) more) e
      where
        line : ℕ
        line = line_refusal (refusal (length read)) rest

        more : List A
        more = read ++ (item (before line_end rest) ∷ [])

        long : length more ≡ length read + 1
        long = length-append read (item (before line_end rest) ∷ [])

        go : (t : Bool) → eqb line 0 ≡ t
            → (lines_of refusal item left (suc low) (after line_end rest) more ≡ line_refused number place → Stopped (length more) (after line_end rest) left (suc low) number place)
            → cond t (lines_of refusal item left (suc low) (after line_end rest) more) (line_refused line low) ≡ line_refused number place → Stopped (length read) rest (suc left) low number place
        go true z ih q =
            let r = ih q in
            let e : length read + suc r.lines ≡ length more + r.lines = omega (arith, long) in
            record {
              lines = suc r.lines;
              within = omega (arith, r.within);
              place_is = omega (arith, r.place_is);
              refused = ap (λ (i : ℕ). line_refusal (refusal i) (lines_from r.lines (after line_end rest))) e ∙ r.refused;
              some = r.some;
              passing = passing-cons (length read) r.lines rest (eqb-true line 0 z) (subst (λ (k : ℕ). Passing k (after line_end rest) r.lines) long r.passing);
            }
        go false z ih q =
            let n : line ≡ number = ap number_in q in
            record {
              lines = 0;
              within = omega arith;
              place_is = sym (ap place_in q) ∙ sym (add-zero low);
              refused = ap (λ (i : ℕ). line_refusal (refusal i) rest) (add-zero (length read)) ∙ n;
              some = λ e. eqb-false line 0 z (n ∙ e);
              passing = λ k h. absurd (omega arith);
            }

module _ {A : Type 0} (refusal other : ℕ → List ℕ → ℕ) (item further : List ℕ → A) where
  -- the line is refused alike, as whichever of its kind, and says the same where it passes
  abbrev pub Alike : List ℕ → Type 0
  Alike line = (j : ℕ) → (refusal j line ≡ other j line) × (refusal j line ≡ 0 → item line ≡ further line)

  pub lines-alike : (left place : ℕ) (rest : List ℕ) (read : List A) → ((k : ℕ) → k < left → Alike (before line_end (lines_from k rest)))
      → lines_of refusal item left place rest read ≡ lines_of other further left place rest read
  unfolding lines_of lines_from
  lines-alike zero place rest read alike = refl
  lines-alike (suc left) place rest read alike =
      ap (λ (n : ℕ). cond (eqb (unless (has_byte line_end rest) 2 n) 0) (lines_of refusal item left (suc place) (after line_end rest) (more (item line))) (line_refused (unless (has_byte line_end rest) 2 n) place)) same.0
      ∙ go (eqb number 0) refl (lines-alike left (suc place) (after line_end rest) (more (further line)) (λ k h. alike (suc k) (omega arith)))
    where
      line : List ℕ
      line = before line_end rest

      same : (refusal (length read) line ≡ other (length read) line) × (refusal (length read) line ≡ 0 → item line ≡ further line)
      same = alike 0 (omega arith) (length read)

      more : A → List A
      more x = read ++ (x ∷ [])

      number : ℕ
      number = unless (has_byte line_end rest) 2 (other (length read) line)

      go : (t : Bool) → eqb number 0 ≡ t
          → lines_of refusal item left (suc place) (after line_end rest) (more (further line)) ≡ lines_of other further left (suc place) (after line_end rest) (more (further line))
          → cond t (lines_of refusal item left (suc place) (after line_end rest) (more (item line))) (line_refused number place) ≡ cond t (lines_of other further left (suc place) (after line_end rest) (more (further line))) (line_refused number place)
      go true z ih =
          let passes = (unless-passed (has_byte line_end rest) 2 (other (length read) line) (lit≤ tt) (eqb-true number 0 z)).1 in
          ap (λ (x : A). lines_of refusal item left (suc place) (after line_end rest) (more x)) (same.1 (same.0 ∙ passes)) ∙ ih
      go false z ih = refl
