-- The number of a gate's line:
--   gate-least     it is the least number of a test that fails, "2, 3, then 4"
--   gate-number    it is 0 or 2 to 6
use Prim.Native.Nat.{ℕ}
use mathlib.Core.List.{List}
use lib.Dec.{lit≤, lit<}
use Rattle.fields.specs.Fields.{LeastFailing}
use Rattle.fields.proofs.Chains.{LineNumber, RisingTests, chain-least, chain-number}
use Rattle.gate_lines.specs.GateLines.{gate_tests, gate_refusal}

module _ (own : ℕ) (l : List ℕ) where
  gate-rising : RisingTests 6 1 (gate_tests own l)
  gate-rising = (lit< tt, (lit< tt, (lit< tt, lit≤ tt)))

  pub gate-least : LeastFailing (gate_tests own l) (gate_refusal own l)
  unfolding gate_refusal
  gate-least = chain-least 6 1 (gate_tests own l) gate-rising

  pub gate-number : LineNumber (gate_refusal own l)
  unfolding gate_refusal
  gate-number = chain-number 1 (gate_tests own l) (lit≤ tt) gate-rising
