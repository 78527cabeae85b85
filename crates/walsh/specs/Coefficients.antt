-- The answer of the call for one coefficient, by document 01's order for calls on lists: "Calls on lists test 9, 12, 10, 8, 11." It lends no result,
-- so 8 and 11 cannot come.
use Rattle.std.specs.Prelude.{ℕ, List, ℤ, pos, ltb, length, Result}
use Rattle.transform.specs.Spectrum.{coefficient_of}
use Rattle.refusals.specs.Refusals.{told}
use Rattle.refusals.specs.declared.Refusal.{Refusal}
use Rattle.screen.specs.Answers.{Answer, Done, Refused, minus, screen_of}

-- a coefficient, or document 01's number and place of the refusal
pub data Found : Type 0 where
  Coefficient : ℤ → Found
  Unfound : ℕ → ℕ → Found

-- what an answer of the code says
abbrev pub found_by : Result ℤ Refusal → Found
found_by = told Coefficient Unfound

-- the call for one coefficient has no result to lend; 12 unless the label is below the length
abbrev pub found : Answer → ℤ → Found
found Done z = Coefficient z
found (Refused number place) z = Unfound number place

unfoldable pub found_of : List ℤ → ℕ → Found
found_of rows label = found (screen_of (minus 1000) (pos 1000) (ltb label (length rows)) rows 0 0) (coefficient_of rows label)

abbrev pub found_number : Found → ℕ
found_number (Coefficient z) = 0
found_number (Unfound number place) = number

abbrev pub found_place : Found → ℕ
found_place (Coefficient z) = 0
found_place (Unfound number place) = place

-- "Sizes, labels and readings returned with a refusal are 0": so is the coefficient
abbrev pub found_value : Found → ℤ
found_value (Coefficient z) = z
found_value (Unfound number place) = pos 0
