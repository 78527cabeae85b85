-- The lines of a text in their order, where `due k` gives the number of the line with k others before it, 0 where it passes:
--   due_at, DuePassing, FirstRefused    a line's number; the first lines pass; one of those due is refused, and all before it pass
--   due-own                            a line's number is that of the tests due there, or 2
--   refused-next                       a line that is refused, after some that pass
--   due-read                           lines of one kind, after some that pass: the first refused one is among them, or they pass too
--   refused-pass, refused-once         where one is refused not all pass, and only one is the first
--   line-answered, text-answered       what holds of an answer that goes by one line's number, and by the text's length before it
use mathlib.Core.Path.{◌≡◌, refl, sym, ap, ◌∙◌}
use mathlib.Core.Bool.{Bool, true, false, cond}
use mathlib.Core.List.{List, []}
use Prim.Native.Nat.{ℕ, ◌+◌, ◌-◌, ◌<◌, ◌≤◌}
use native.Mathlib.Decide.{dec_le}
use native.Mathlib.Nat.{zero-add, lt_of_not-le}
use native.Mathlib.Omega.{arith}
use lib.Dec.{eqb, ltb}
use lib.ListN.{length}
use borrow.Author.Tests.{eqb-true, eqb-false, ltb-true, ltb-false}
use Rattle.text.specs.Text.{text_bytes, before, has_byte, line_end}
use Rattle.fields.specs.Fields.{unless}
use Rattle.sections.specs.Sections.{Read, items, line_refused, line_refusal, lines_from, lines_of}
use Rattle.sections.proofs.LinesRead.{lines-further, lines-passed, lines-stopped}

module _ (due : ℕ → List ℕ → ℕ) (text : List ℕ) where
  abbrev pub due_at : ℕ → ℕ
  due_at k = line_refusal (due k) (lines_from k text)

  abbrev pub DuePassing : ℕ → Type 0
  DuePassing count = (k : ℕ) → k < count → due_at k ≡ 0

  -- of `count` lines the first that is refused
  pub record FirstRefused (count number place : ℕ) : Type 0 where
    pub place-low : 1 ≤ place
    pub place-due : place ≤ count
    pub refused : due_at (place - 1) ≡ number
    pub some : number ≡ 0 → ⊥
    pub earlier-pass : DuePassing (place - 1)

  pub due-own : (Number : ℕ → Type 0) (k : ℕ) → Number 2 → ((l : List ℕ) → Number (due k l)) → Number (due_at k)
  unfolding unless
  due-own Number k two own = go (has_byte line_end (lines_from k text))
    where
      go : (b : Bool) → Number (unless b 2 (due k (before line_end (lines_from k text))))
      go true = own (before line_end (lines_from k text))
      go false = two

  pub refused-next : {count : ℕ} (lines number place : ℕ) → place ≡ lines + 1 → lines < count → due_at lines ≡ number → (number ≡ 0 → ⊥) → DuePassing lines → FirstRefused count number place
  refused-next lines number place at within is some passing =
      let i : place - 1 ≡ lines = omega (arith, at) in
      record {
        place-low = omega (arith, at);
        place-due = omega (arith, at);
        refused = ap due_at i ∙ is;
        some = some;
        earlier-pass = λ k b. passing k (omega (arith, i));
      }

  -- `many` lines of one kind after m lines that pass, in the text from there
  module _ {A : Type 0} (refusal : ℕ → List ℕ → ℕ) (item : List ℕ → A) (m many low : ℕ) {count : ℕ} (within : m + many ≤ count) (low-is : low ≡ m + 1)
      (same : (j : ℕ) (l : List ℕ) → j < many → due (m + j) l ≡ refusal j l) (rest : List ℕ) (rest-is : rest ≡ lines_from m text) (passing : DuePassing m) where
    at : (j : ℕ) → j < many → due_at (m + j) ≡ line_refusal (refusal (0 + j)) (lines_from j rest)
    at j k =
        let e : lines_from (m + j) text ≡ lines_from j rest = sym (lines-further m j text) ∙ ap (lines_from j) (sym rest-is) in
        ap (λ (r : List ℕ). line_refusal (due (m + j)) r) e
        ∙ ap (unless (has_byte line_end (lines_from j rest)) 2) (same j (before line_end (lines_from j rest)) k ∙ ap (λ (i : ℕ). refusal i (before line_end (lines_from j rest))) (sym (zero-add j)))

    -- the first `lines` of them pass too
    further : (lines : ℕ) → lines ≤ many → ((j : ℕ) → j < lines → line_refusal (refusal (0 + j)) (lines_from j rest) ≡ 0) → DuePassing (m + lines)
    further lines most p k b = go (dec_le m k)
      where
        go : Dec (m ≤ k) → due_at k ≡ 0
        go (yes a) = let e : k ≡ m + (k - m) = omega arith in ap due_at e ∙ at (k - m) (omega arith) ∙ p (k - m) (omega arith)
        go (no a) = passing k (lt_of_not-le a)

    pub due-read : (Means : Read A → Type 0) → ((number place : ℕ) → FirstRefused count number place → Means (line_refused number place))
        → ((l : List A) (end : List ℕ) → end ≡ lines_from (m + many) text → DuePassing (m + many) → Means (items l end)) → Means (lines_of refusal item many low rest [])
    due-read Means stopped passed = go (lines_of refusal item many low rest []) refl
      where
        go : (r : Read A) → lines_of refusal item many low rest [] ≡ r → Means r
        go (items l end) x =
            let p = lines-passed refusal item many low rest [] l end x in
            passed l end (p.end_is ∙ ap (lines_from many) rest-is ∙ lines-further m many text) (further many (omega arith) p.passing)
        go (line_refused number place) x =
            let s = lines-stopped refusal item number place many low rest [] x in
            stopped number place (refused-next (m + s.lines) number place (omega (arith, s.place_is)) (omega (arith, s.within)) (at s.lines s.within ∙ s.refused) s.some
            (further s.lines (omega (arith, s.within)) s.passing))

  -- no text is refused at two places, nor where all pass
  pub refused-pass : {X : Type 0} {count number place : ℕ} → FirstRefused count number place → DuePassing count → X
  refused-pass {place = place} f p = absurd (f.some (sym f.refused ∙ p (place - 1) (omega (arith, f.place-low, f.place-due))))

  pub refused-once : {count number place other later : ℕ} → FirstRefused count number place → FirstRefused count other later → (other ≡ number) × (later ≡ place)
  refused-once {number = number} {place = place} {other = other} {later = later} f g = go (dec_le place later) (dec_le later place)
    where
      go : Dec (place ≤ later) → Dec (later ≤ place) → (other ≡ number) × (later ≡ place)
      go (yes a) (yes b) =
          let e : later ≡ place = omega arith in
          (sym g.refused ∙ ap (λ (k : ℕ). due_at (k - 1)) e ∙ f.refused, e)
      go (no a) b = absurd (g.some (sym g.refused ∙ f.earlier-pass (later - 1) (omega (arith, lt_of_not-le a, g.place-low))))
      go (yes a) (no b) = absurd (f.some (sym f.refused ∙ g.earlier-pass (place - 1) (omega (arith, lt_of_not-le b, f.place-low))))

module _ {P : Type 0} (Means : P → Type 0) (number : ℕ) {pass stop : P} where
  pub line-answered : (number ≡ 0 → Means pass) → ((number ≡ 0 → ⊥) → Means stop) → Means (cond (eqb number 0) pass stop)
  line-answered p s = go (eqb number 0) refl
    where
      go : (t : Bool) → eqb number 0 ≡ t → Means (cond t pass stop)
      go true z = p (eqb-true number 0 z)
      go false z = s (eqb-false number 0 z)

  pub text-answered : (text : List ℕ) {long : P} → (text_bytes < length text → Means long) → (length text ≤ text_bytes → number ≡ 0 → Means pass)
      → (length text ≤ text_bytes → (number ≡ 0 → ⊥) → Means stop) → Means (cond (ltb text_bytes (length text)) long (cond (eqb number 0) pass stop))
  text-answered text {long} l p s = go (ltb text_bytes (length text)) refl
    where
      go : (t : Bool) → ltb text_bytes (length text) ≡ t → Means (cond t long (cond (eqb number 0) pass stop))
      go true b = l (ltb-true text_bytes (length text) b)
      go false b = let few = ltb-false text_bytes (length text) b in line-answered (p few) (s few)
