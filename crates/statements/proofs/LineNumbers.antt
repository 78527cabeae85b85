-- The number of a line, for each kind:
--   head-least, output-least, fault-least, bridge-least    it is the least number of a test that fails, "2, 3, then 4, 5, 6"
--   head-number, output-number, fault-number              it is 0 or 2 to 6
use mathlib.Core.List.{List}
use Prim.Native.Nat.{ℕ}
use lib.Dec.{lit≤, lit<}
use Rattle.fields.specs.Fields.{LeastFailing}
use Rattle.fields.proofs.Chains.{LineNumber, RisingTests, chain-least, chain-number}
use Rattle.statements.specs.Lines.{head_tests, head_refusal, output_tests, output_refusal, fault_tests, fault_refusal, bridge_tests, bridge_refusal}

module _ (l : List ℕ) where
  head-rising : RisingTests 6 1 (head_tests l)
  head-rising = (lit< tt, (lit< tt, lit≤ tt))

  pub head-least : LeastFailing (head_tests l) (head_refusal l)
  unfolding head_refusal
  head-least = chain-least 6 1 (head_tests l) head-rising

  pub head-number : LineNumber (head_refusal l)
  unfolding head_refusal
  head-number = chain-number 1 (head_tests l) (lit≤ tt) head-rising

module _ (top : ℕ) (l : List ℕ) where
  output-rising : RisingTests 6 1 (output_tests top l)
  output-rising = (lit< tt, (lit< tt, (lit< tt, lit≤ tt)))

  pub output-least : LeastFailing (output_tests top l) (output_refusal top l)
  unfolding output_refusal
  output-least = chain-least 6 1 (output_tests top l) output-rising

  pub output-number : LineNumber (output_refusal top l)
  unfolding output_refusal
  output-number = chain-number 1 (output_tests top l) (lit≤ tt) output-rising

  fault-rising : RisingTests 6 1 (fault_tests top l)
  fault-rising = (lit< tt, (lit< tt, (lit< tt, (lit< tt, lit≤ tt))))

  pub fault-least : LeastFailing (fault_tests top l) (fault_refusal top l)
  unfolding fault_refusal
  fault-least = chain-least 6 1 (fault_tests top l) fault-rising

  pub fault-number : LineNumber (fault_refusal top l)
  unfolding fault_refusal
  fault-number = chain-number 1 (fault_tests top l) (lit≤ tt) fault-rising

pub bridge-least : (inputs : ℕ) (l : List ℕ) → LeastFailing (bridge_tests inputs l) (bridge_refusal inputs l)
unfolding bridge_refusal
bridge-least inputs l = chain-least 19 1 (bridge_tests inputs l) (lit< tt, (lit< tt, (lit< tt, lit≤ tt)))
