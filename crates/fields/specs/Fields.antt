-- The fields of a line and the tests on them (document 01, "The circuit text", "What is returned"):
--   "Fields stand in fixed order, parted by commas" "The words are compared byte for byte."
--   "within a line 2, 3, then 4, 5, 6"
-- A field that is no number, or is not there, counts as 0 where its value is asked; a line with a bad number is refused before that matters.
use Rattle.std.specs.Prelude.{ℕ, zero, suc, ◌-◌, ◌≤◌, Bool, true, false, ◌&&◌, List, [], ◌∷◌, ◌++◌, map, ◌⊎◌, ◌≡◌, eqb, leb, ℤ, pos}
use Rattle.text.specs.Text.{field_of, field_count, same_bytes, number_of, signed_number_of}
use Rattle.writing.specs.Writing.{numbers_of}
use Rattle.std.specs.Prelude.{Option, Some, None, unwrap_or}

abbrev pub is_number : Option ℕ → Bool
is_number (Some v) = true
is_number None = false

abbrev pub number_value : Option ℕ → ℕ
number_value (Some v) = v
number_value None = 0

unfoldable pub value_at : List ℕ → ℕ → ℕ
value_at l k = number_value (number_of (field_of l k))

-- where the number may have a sign
unfoldable pub signed_value_at : List ℕ → ℕ → ℤ
signed_value_at l k = unwrap_or (signed_number_of (field_of l k)) (pos 0)

-- the `count` fields from k on are numbers
unfoldable pub numbers_from : List ℕ → ℕ → ℕ → Bool
numbers_from l k zero = true
numbers_from l k (suc count) = is_number (number_of (field_of l k)) && numbers_from l (suc k) count

-- a line of that word with that many fields, numbers from field `from` on
unfoldable pub is_line : List ℕ → List ℕ → ℕ → ℕ → Bool
is_line l word from fields = (eqb (field_count l) fields && same_bytes (field_of l 0) word) && numbers_from l from (fields - from)

unfoldable pub in_range : ℕ → ℕ → ℕ → Bool
in_range v low high = leb low v && leb v high

-- as it is written, without its end: a word, then numbers, each after a comma
abbrev pub line_from : List ℕ → List ℕ → List ℕ
line_from word ns = word ++ numbers_of (map pos ns)

-- field k is a number from low to high
unfoldable pub fits : List ℕ → ℕ → ℕ → ℕ → Bool
fits l k low high = in_range (value_at l k) low high

-- the number of a test that fails, else what comes next: the tests of a line are a chain of these, and 0 where all pass
unfoldable pub unless : Bool → ℕ → ℕ → ℕ
unless true number next = next
unless false number next = number

-- among tests with their numbers, one of number k fails
abbrev pub Fails : List (ℕ × Bool) → ℕ → Type 0
Fails [] k = ⊥
Fails (t ∷ rest) k = ((t.0 ≡ k) × (t.1 ≡ false)) ⊎ Fails rest k

-- "within a line 2, 3, then 4, 5, 6": the least number of a test that fails, and 0 where none does
pub record LeastFailing (tests : List (ℕ × Bool)) (number : ℕ) : Type 0 where
  pub given : (number ≡ 0) ⊎ Fails tests number
  pub least : (k : ℕ) → Fails tests k → (1 ≤ number) × (number ≤ k)
