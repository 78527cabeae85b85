-- A fault of a circuit or a table as the fault calls on coefficients are given it (document 01): the pairs of "Q lines `fault,LINE,VALUE`, with one
-- to three LINE,VALUE pairs" as "one to three rising inputs in 1 to n with values 0 or 1".
use Rattle.std.specs.Prelude.{ℕ, ◌≤◌, Bool, true, false, cond, List, [], ◌∷◌, map, eqb}
use Rattle.faults.specs.Faults.{Stuck, stuck_of}
use Rattle.statements.specs.Items.{Fault}
use Rattle.statements.specs.declared.Pair.{Pair}

-- a pair that names no line is not there: lines count from 1
unfoldable pub with_pair : Pair → List Pair → List Pair
with_pair s rest = cond (eqb s.line 0) rest (s ∷ rest)

-- the pairs that are there, in the text's order
unfoldable pub present_pairs : Fault → List Pair
present_pairs f = with_pair f.first (with_pair f.second (with_pair f.third []))

abbrev pub pair_line : Pair → ℕ
pair_line s = s.line

-- VALUE as a number
abbrev pub bit_for : Bool → ℕ
bit_for true = 1
bit_for false = 0

abbrev pub pair_value : Pair → ℕ
pair_value s = bit_for s.value

unfoldable pub stuck_lines : Fault → List ℕ
stuck_lines f = map pair_line (present_pairs f)

unfoldable pub stuck_values : Fault → List ℕ
stuck_values f = map pair_value (present_pairs f)

-- the lines with their values
unfoldable pub pairs_of : Fault → List Stuck
pairs_of f = stuck_of (stuck_lines f) (stuck_values f)

-- the fault names inputs only; a pair that is not there has line 0, and a bridge that is not there joins 0 and 0
pub record OfInputs (inputs : ℕ) (f : Fault) : Type 0 where
  pub first : f.first.line ≤ inputs
  pub second : f.second.line ≤ inputs
  pub third : f.third.line ≤ inputs
  pub bridge-rises : f.bridge.first ≤ f.bridge.second
  pub bridge-high : f.bridge.second ≤ inputs
