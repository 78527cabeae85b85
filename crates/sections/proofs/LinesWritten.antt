-- Lines that are written one after the other are read as what they were written from:
--   Told                     a line that is not refused, and says the item, of at most so many bytes
--   told-has, told-before, told-after    such a line in front of a rest is cut off
--   lines-read, lines-short  a line for each item: they are read as the items, and each has at most so many bytes
use mathlib.Core.Path.{◌≡◌, ap, ◌∙◌, subst}
use mathlib.Core.Bool.{true}
use mathlib.Core.List.{List, [], ◌∷◌, ◌++◌, append_assoc, append-nil}
use Prim.Native.Nat.{ℕ, suc, ◌+◌, ◌<◌, ◌≤◌, ◌*◌}
use native.Mathlib.Omega.{arith}
use lib.IntN.{ℤ}
use lib.ListN.{length, get_or, length-append}
use native.Mathlib.Nat.{add-zero, zero-add}
use Rattle.text.specs.Text.{line_end, before, after, has_byte}
use Rattle.writing.specs.Writing.{numbers_of, line_of, gather}
use Rattle.writing.proofs.LineFields.{Lacks, gather-cons, line-has, line_before, line_after}
use Rattle.writing.proofs.Writings.{gather-length}
use Rattle.fields.specs.Fields.{unless}
use Rattle.sections.specs.Sections.{each_line, items, lines_of}

-- `text` is a line, with its end, that is not refused and says x, of at most so many bytes
pub record Told {A : Type 0} (bytes : ℕ) (refusal : List ℕ → ℕ) (item : List ℕ → A) (text : List ℕ) (x : A) : Type 0 where
  pub word : List ℕ
  pub numbers : List ℤ
  pub is : text ≡ line_of word numbers
  pub one_line : Lacks line_end word
  pub passes : refusal (word ++ numbers_of numbers) ≡ 0
  pub says : item (word ++ numbers_of numbers) ≡ x
  pub short : length (line_of word numbers) ≤ bytes

-- a line in front of a rest is cut off, and not refused
module _ {A : Type 0} {bytes : ℕ} {refusal : List ℕ → ℕ} {item : List ℕ → A} {text : List ℕ} {x : A} (t : Told bytes refusal item text x) (rest : List ℕ) where
  pub told-has : has_byte line_end (text ++ rest) ≡ true
  told-has = rw t.is (line-has t.word t.numbers rest t.one_line)

  pub told-before : before line_end (text ++ rest) ≡ t.word ++ numbers_of t.numbers
  told-before = rw t.is (line_before t.word t.numbers rest t.one_line)

  pub told-after : after line_end (text ++ rest) ≡ rest
  told-after = rw t.is (line_after t.word t.numbers rest t.one_line)

pub each-cons : {A : Type 0} (line : A → List ℕ) (none x : A) (l : List A) → each_line line none (x ∷ l) ≡ line x ++ each_line line none l
unfolding each_line
each-cons line none x l = gather-cons (λ i. line (get_or (x ∷ l) i none)) (length l)

-- a line for each item
module _ {A : Type 0} {bytes : ℕ} (refusal : ℕ → List ℕ → ℕ) (item : List ℕ → A) (line : A → List ℕ) (none : A) where
  line_read : (left place : ℕ) (text rest : List ℕ) (read : List A) (x : A) → Told bytes (refusal (length read)) item text x
      → lines_of refusal item (suc left) place (text ++ rest) read ≡ lines_of refusal item left (suc place) rest (read ++ (x ∷ []))
  unfolding lines_of unless
  line_read left place text rest read x t = rw (told-has t rest, told-before t rest, t.passes, told-after t rest, t.says)

  -- after those that were read
  more-lines : (l read : List A) (place : ℕ) (rest : List ℕ) → ((j : ℕ) → j < length l → Told bytes (refusal (length read + j)) item (line (get_or l j none)) (get_or l j none))
      → lines_of refusal item (length l) place (each_line line none l ++ rest) read ≡ items (read ++ l) rest
  unfolding lines_of each_line gather
  more-lines [] read place rest t = rw (append-nil read)
  more-lines (x ∷ l) read place rest t =
      ap (λ (text : List ℕ). lines_of refusal item (suc (length l)) place text read) (ap (λ (text : List ℕ). text ++ rest) (each-cons line none x l) ∙ append_assoc (line x) (each_line line none l) rest)
      ∙ line_read (length l) place (line x) (each_line line none l ++ rest) read x (now (length read + 0) (add-zero (length read)) (t 0 (omega arith)))
      ∙ more-lines l (read ++ (x ∷ [])) (suc place) rest (λ j h. later j (t (suc j) (omega arith)))
      ∙ ap (λ (all : List A). items all rest) (append_assoc read (x ∷ []) l)
    where
      now : (k : ℕ) → k ≡ length read → Told bytes (refusal k) item (line x) x → Told bytes (refusal (length read)) item (line x) x
      now k e q = subst (λ (k : ℕ). Told bytes (refusal k) item (line x) x) e q

      later : (j : ℕ) → Told bytes (refusal (length read + suc j)) item (line (get_or l j none)) (get_or l j none)
          → Told bytes (refusal (length (read ++ (x ∷ [])) + j)) item (line (get_or l j none)) (get_or l j none)
      later j q =
          let e : length read + suc j ≡ length (read ++ (x ∷ [])) + j = omega (arith, length-append read (x ∷ [])) in
          subst (λ (k : ℕ). Told bytes (refusal k) item (line (get_or l j none)) (get_or l j none)) e q

  module _ (l : List A) (t : (j : ℕ) → j < length l → Told bytes (refusal j) item (line (get_or l j none)) (get_or l j none)) where
    pub lines-read : (place : ℕ) (rest : List ℕ) → lines_of refusal item (length l) place (each_line line none l ++ rest) [] ≡ items l rest
    lines-read place rest = more-lines l [] place rest (λ j h. rw zero-add (t j h))

    pub lines-short : length (each_line line none l) ≤ length l * bytes
    unfolding each_line
    lines-short = gather-length bytes (λ i. line (get_or l i none)) (length l) (λ i h. rw (t i h).is (t i h).short)
