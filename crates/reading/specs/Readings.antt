-- Readings of a list of rows with some inputs fixed (document 01, "Fixture readings"):
--   "It sums the row values of rows that agree with them and divides once, in binary64, by the count of those rows. The answer is a case: a plain
--   syndrome, a weighted sum (M above 1 or a weight above 1), a constrained value with its number of fixed inputs (mask not 0; this case goes
--   first), or a refusal." "A pair call .. returns the sound reading, the faulty one and sound minus faulty."
--   "Sizes, labels and readings returned with a refusal are 0."
-- and weights with a sign (document 02, note 4): "Any weight other than 1 now makes a reading a weighted sum. Readings may be negative; the fraction is exact all the same."
use Rattle.std.specs.Prelude.{ℕ, zero, suc, ◌+◌, Bool, true, false, cond, List, eqb, Float, ℤ, pos, length}
use Rattle.std.specs.Int.Bits.{bit_and}
use Rattle.std.specs.Int.Count.{ones}
use Rattle.std.specs.Float.{fin, binary64}
use Rattle.std.specs.Float.Ieee.{of_int, div, sub}
use Rattle.integer.specs.Sum.{sum_to}
use Rattle.integer.specs.Tab.{nth}
use Rattle.reading.specs.declared.ReadingPair.{ReadingPair}
use Rattle.reading.specs.declared.Reading as code
use Rattle.reading.specs.declared.Reading.TheVariants.{Syndrome as ReadSyndrome, Weighted as ReadWeighted, Constrained as ReadConstrained, Refused as ReadRefused}
use Rattle.refusals.specs.Refusals.{refusal_number, refusal_place}

-- "The answer is a case"; a constrained value with its number of fixed inputs, a refusal with document 01's number and place
pub data ReadingAnswer : Type 0 where
  Syndrome : Float → ReadingAnswer
  Weighted : Float → ReadingAnswer
  Constrained : Float → ℕ → ReadingAnswer
  Unreadable : ℕ → ℕ → ReadingAnswer

-- what a reading of the code says
abbrev pub read_as : code.Reading → ReadingAnswer
read_as (ReadSyndrome x) = Syndrome x
read_as (ReadWeighted x) = Weighted x
read_as (ReadConstrained x fixed) = Constrained x fixed
read_as (ReadRefused r) = Unreadable (refusal_number r) (refusal_place r)

-- the row has the given values at the inputs of the mask
unfoldable pub agrees : ℕ → ℕ → ℕ → Bool
agrees mask values row = eqb (bit_and row mask) values

-- how many of 0, .., n - 1 pass
unfoldable pub count_to : ℕ → (ℕ → Bool) → ℕ
count_to zero p = 0
count_to (suc n) p = count_to n p + cond (p n) 1 0

-- "the count of those rows", of n
unfoldable pub count_of : ℕ → ℕ → ℕ → ℕ
count_of mask values n = count_to n (agrees mask values)

abbrev pub term_at : ℕ → ℕ → List ℤ → ℕ → ℤ
term_at mask values rows x = cond (agrees mask values x) (nth rows x) (pos 0)

-- the whole sum: of "the row values of rows that agree"
unfoldable pub whole_sum : ℕ → ℕ → List ℤ → ℤ
whole_sum mask values rows = sum_to (length rows) (term_at mask values rows)

-- "divides once, in binary64"
unfoldable pub quotient : ℤ → ℕ → Float
quotient sum count = div binary64 (of_int binary64 sum) (of_int binary64 (pos count))

unfoldable pub mean_of : ℕ → ℕ → List ℤ → Float
mean_of mask values rows = quotient (whole_sum mask values rows) (count_of mask values (length rows))

-- the case of a value: constrained unless the mask is 0, then weighted or plain
abbrev pub case_with : Bool → Bool → ℕ → Float → ReadingAnswer
case_with false weighted fixed x = Constrained x fixed
case_with true true fixed x = Weighted x
case_with true false fixed x = Syndrome x

unfoldable pub case_of : Bool → ℕ → Float → ReadingAnswer
case_of weighted mask x = case_with (eqb mask 0) weighted (ones mask) x

unfoldable pub pair_of : Float → Float → ReadingPair
pair_of sound faulty = record { sound = sound; faulty = faulty; difference = sub binary64 sound faulty }

-- +0, the reading with a refusal
abbrev pub none : Float
none = fin false 0 (pos 0)

-- document 01's number and values of a reading
abbrev pub reading_number : ReadingAnswer → ℕ
reading_number (Syndrome x) = 0
reading_number (Weighted x) = 0
reading_number (Constrained x fixed) = 0
reading_number (Unreadable number place) = number

abbrev pub reading_place : ReadingAnswer → ℕ
reading_place (Syndrome x) = 0
reading_place (Weighted x) = 0
reading_place (Constrained x fixed) = 0
reading_place (Unreadable number place) = place

abbrev pub reading_of : ReadingAnswer → Float
reading_of (Syndrome x) = x
reading_of (Weighted x) = x
reading_of (Constrained x fixed) = x
reading_of (Unreadable number place) = none

abbrev pub fixed_of : ReadingAnswer → ℕ
fixed_of (Syndrome x) = 0
fixed_of (Weighted x) = 0
fixed_of (Constrained x fixed) = fixed
fixed_of (Unreadable number place) = 0
