-- Lines that are written as a word and numbers, and what the tests on fields show:
--   plain-line, plain-count, plain_value, plain-numbers    a word and numbers: it has that form, and its numbers are read
--   value-after-word, line-after-word                      the same after a first word and a comma
--   range, in-range, fits-range                            a number within its range, both ways
--   absent                                                 a field that is not there counts as 0
use mathlib.Core.Path.{◌≡◌, refl, sym, ap, ◌∙◌}
use mathlib.Core.Bool.{true}
use mathlib.Core.List.{List, ◌∷◌, ◌++◌, map}
use Prim.Native.Nat.{ℕ, zero, suc, ◌+◌, ◌-◌, ◌<◌, ◌≤◌}
use native.Mathlib.Nat.{lt_of_not-le}
use native.Mathlib.Decide.{dec_le}
use native.Mathlib.Omega.{arith}
use lib.Dec.{leb}
use lib.ListN.{length, get_or, length-map, get_or-eq_default}
use borrow.Author.Tests.{leb-true, eq-eqb, le-leb}
use lib.IntN.{pos}
use Rattle.text.specs.Text.{field_of, field_count, number_of, well_formed, comma}
use Rattle.integer.proofs.Bools.{both}
use Rattle.text.proofs.Parts.{no_field}
use Rattle.writing.specs.Writing.{Small, numbers_of}
use Rattle.text.proofs.Words.{same_self}
use Rattle.writing.proofs.LineFields.{Lacks, first_field, next_field, next-count, word-field, line-count, natural-field}
use Rattle.fields.specs.Fields.{in_range, value_at, is_line, fits, is_number, numbers_from}

pub range : (v low high : ℕ) → in_range v low high ≡ true → (low ≤ v) × (v ≤ high)
unfolding in_range
range v low high e = let b = both (leb low v) (leb v high) e in (leb-true low v b.0, leb-true v high b.1)

pub fits-range : (l : List ℕ) (k low high : ℕ) → fits l k low high ≡ true → (low ≤ value_at l k) × (value_at l k ≤ high)
unfolding fits
fits-range l k low high e = range (value_at l k) low high e

pub absent : (l : List ℕ) (k : ℕ) → field_count l ≤ k → value_at l k ≡ 0
unfolding value_at number_of well_formed
absent l k h = rw (no_field l k h).0

numbers-all : (l : List ℕ) (k count : ℕ) → ((i : ℕ) → k ≤ i → i < k + count → is_number (number_of (field_of l i)) ≡ true) → numbers_from l k count ≡ true
unfolding numbers_from
numbers-all l k zero h = refl
numbers-all l k (suc count) h = rw (h k (omega arith) (omega arith)) (numbers-all l (suc k) count (λ i a b. h i (omega arith) (omega arith)))

-- ns stand after a word, all below 10,000
module _ (word ns : List ℕ) (small : Small ns) (lacks : Lacks comma word) where
  pub plain-count : field_count (word ++ numbers_of (map pos ns)) ≡ suc (length ns)
  plain-count = line-count word (map pos ns) lacks ∙ ap suc (length-map ns pos)

  -- 0 where no number is left
  pub plain_value : (k : ℕ) → value_at (word ++ numbers_of (map pos ns)) (suc k) ≡ get_or ns k 0
  unfolding value_at
  plain_value k = go (dec_le (length ns) k)
    where
      go : Dec (length ns ≤ k) → value_at (word ++ numbers_of (map pos ns)) (suc k) ≡ get_or ns k 0
      go (yes none) = absent (word ++ numbers_of (map pos ns)) (suc k) (omega (arith, plain-count)) ∙ sym (get_or-eq_default ns 0 none)
      go (no some) = rw (natural-field word ns small k lacks (lt_of_not-le some))

  pub plain-numbers : numbers_from (word ++ numbers_of (map pos ns)) 1 (length ns) ≡ true
  plain-numbers = numbers-all (word ++ numbers_of (map pos ns)) 1 (length ns) each
    where
      each : (i : ℕ) → 1 ≤ i → i < 1 + length ns → is_number (number_of (field_of (word ++ numbers_of (map pos ns)) i)) ≡ true
      each zero a b = absurd (omega arith)
      each (suc i) a b = rw (natural-field word ns small i lacks (omega arith))

  pub plain-line : is_line (word ++ numbers_of (map pos ns)) word 1 (suc (length ns)) ≡ true
  unfolding is_line
  plain-line =
      let z : suc (length ns) - 1 ≡ length ns = omega arith in
      rw (eq-eqb (field_count (word ++ numbers_of (map pos ns))) (suc (length ns)) plain-count, word-field word (map pos ns) lacks, same_self word, z) plain-numbers

pub in-range : (v low high : ℕ) → low ≤ v → v ≤ high → in_range v low high ≡ true
unfolding in_range
in-range v low high a b = rw (le-leb low v a, le-leb v high b)

-- after a first word and a comma
module _ (word rest : List ℕ) (lacks : Lacks comma word) where
  pub value-after-word : (k : ℕ) → value_at (word ++ (comma ∷ rest)) (suc k) ≡ value_at rest k
  unfolding value_at
  value-after-word k = rw (next_field word rest lacks k)

  numbers-after-word : (k count : ℕ) → numbers_from (word ++ (comma ∷ rest)) (suc k) count ≡ numbers_from rest k count
  unfolding numbers_from
  numbers-after-word k zero = refl
  numbers-after-word k (suc count) = rw (next_field word rest lacks k, numbers-after-word (suc k) count)

  pub line-after-word : (from fields : ℕ) → field_count rest ≡ fields → numbers_from rest from (fields - from) ≡ true → is_line (word ++ (comma ∷ rest)) word (suc from) (suc fields) ≡ true
  unfolding is_line
  line-after-word from fields c e =
      let z : suc fields - suc from ≡ fields - from = omega arith in
      rw (eq-eqb (field_count (word ++ (comma ∷ rest))) (suc fields) (next-count word rest lacks ∙ ap suc c), first_field word rest lacks, same_self word, z, numbers-after-word from (fields - from)) e
