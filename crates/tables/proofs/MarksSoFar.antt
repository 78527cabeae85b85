-- A line of marks, read one after the other by a loop:
--   MarksRead                     the invariant: the first x bytes of the line are marks, and are kept doubled
--   marks-begun, marks-turned     it holds at first, and after a mark
--   marks-short, mark-other, marks-passed, marks-kept, marks-padded    what the loop answers: another length, another mark, all read
use mathlib.Core.Path.{◌≡◌, refl, sym, ap, ap₂, ◌∙◌}
use mathlib.Core.Bool.{true, false}
use mathlib.Core.List.{List, [], ◌∷◌, ◌++◌}
use Prim.Native.Nat.{ℕ, ◌+◌, ◌-◌, ◌<◌, ◌≤◌, ◌^◌, zero-le}
use native.Mathlib.Numerals.{add-one}
use native.Mathlib.Omega.{arith}
use lib.ListN.{length, take, drop, replicate, get_or, set, length-set, take-append-drop}
use lib.Seq.{take-suc, take-suc-set, take_all, drop-cons}
use borrow.Author.Tests.{eq-eqb, ne_eqb}
use Rattle.integer.specs.Padded.{padded}
use Rattle.integer.proofs.Arrays.{padded-taken}
use Rattle.integer.proofs.Bools.{both}
use Rattle.fields.specs.Fields.{unless}
use Rattle.tables.specs.TableLines.{is_mark, doubled_mark, all_marks, mark_refusal, marks_of}

marks-append : (a b : List ℕ) → marks_of (a ++ b) ≡ marks_of a ++ marks_of b
unfolding marks_of
marks-append [] b = refl
marks-append (x ∷ a) b = ap (λ (l : List ℕ). doubled_mark x ∷ l) (marks-append a b)

-- after marks, what follows decides
all_after : (a b : List ℕ) → all_marks a ≡ true → all_marks (a ++ b) ≡ all_marks b
unfolding all_marks
all_after [] b e = refl
all_after (x ∷ a) b e = let p = both (is_mark x) (all_marks a) e in rw p.0 (all_after a b p.1)

pub record MarksRead (line marks : List ℕ) (x : ℕ) : Type 0 where
  pub within : x ≤ length line
  pub size : length marks ≡ 256
  pub kept : take x marks ≡ marks_of (take x line)
  pub all : all_marks (take x line) ≡ true

pub marks-begun : (line marks : List ℕ) → length marks ≡ 256 → MarksRead line marks 0
unfolding marks_of all_marks
marks-begun line marks e = record { within = zero-le; size = e; kept = refl; all = refl }

pub marks-short : (inputs : ℕ) (line : List ℕ) → (length line ≡ 2 ^ inputs → ⊥) → 2 ≡ mark_refusal inputs line
unfolding mark_refusal unless
marks-short inputs line n = rw (ne_eqb (length line) (2 ^ inputs) n)

module _ {line marks : List ℕ} {x : ℕ} (read : MarksRead line marks x) where
  -- the line's next byte
  module _ (more : x < length line) where
    pub marks-turned : length line ≤ 256 → is_mark (get_or line x 0) ≡ true → {v : ℕ} → v ≡ doubled_mark (get_or line x 0) → MarksRead line (set marks x v) (x + 1)
    unfolding marks_of all_marks
    marks-turned few mark {v} is =
        let h : x < length marks = omega (arith, read.size) in
        let next : take (x + 1) line ≡ take x line ++ (get_or line x 0 ∷ []) = ap (λ (k : ℕ). take k line) (add-one x) ∙ take-suc line x 0 more in
        record {
          within = omega arith;
          size = length-set marks x v ∙ read.size;
          kept =
              ap (λ (k : ℕ). take k (set marks x v)) (add-one x)
              ∙ take-suc-set marks x v h
              ∙ ap₂ (λ (l : List ℕ) (y : ℕ). l ++ (y ∷ [])) read.kept is
              ∙ sym (ap marks_of next ∙ marks-append (take x line) (get_or line x 0 ∷ []));
          all = ap all_marks next ∙ all_after (take x line) (get_or line x 0 ∷ []) read.all ∙ rw mark;
        }

    pub mark-other : (inputs : ℕ) → length line ≡ 2 ^ inputs → is_mark (get_or line x 0) ≡ false → 15 ≡ mark_refusal inputs line
    unfolding mark_refusal all_marks unless
    mark-other inputs long other =
        let some : all_marks line ≡ false
        = ap all_marks (sym (take-append-drop x line)) ∙ all_after (take x line) (drop x line) read.all ∙ ap all_marks (drop-cons line x 0 more) ∙ rw other in
        rw (eq-eqb (length line) (2 ^ inputs) long, some)

  module _ (inputs : ℕ) (long : length line ≡ 2 ^ inputs) (end : length line ≤ x) where
    pub marks-passed : 0 ≡ mark_refusal inputs line
    unfolding mark_refusal unless
    marks-passed = let every : all_marks line ≡ true = ap all_marks (sym (take_all x line end)) ∙ read.all in rw (eq-eqb (length line) (2 ^ inputs) long, every)

    pub marks-kept : take (2 ^ inputs) marks ≡ marks_of line
    marks-kept =
        let e : 2 ^ inputs ≡ x = omega (arith, read.within, long) in
        ap (λ (k : ℕ). take k marks) e ∙ read.kept ∙ ap marks_of (take_all x line end)

    pub marks-padded : drop x marks ≡ replicate (256 - x) 0 → 2 ^ inputs ≤ 256 → marks ≡ padded 256 0 (take (2 ^ inputs) marks)
    marks-padded spare few =
        let e : x ≡ 2 ^ inputs = omega (arith, read.within, long) in
        padded-taken 256 (2 ^ inputs) 0 marks (omega (arith, e, read.within, read.size)) (ap (λ (k : ℕ). drop k marks) (sym e) ∙ spare ∙ ap (λ (k : ℕ). replicate (256 - k) 0) e)
