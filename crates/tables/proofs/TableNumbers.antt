-- The number of a table's first line, and that of its line of marks:
--   table-head-least, marks-least    it is the least number of a test that fails: "2, 3", and "15 at line 2, after 2"
use mathlib.Core.List.{List}
use Prim.Native.Nat.{ℕ}
use lib.Dec.{lit≤, lit<}
use Rattle.fields.specs.Fields.{LeastFailing}
use Rattle.fields.proofs.Chains.{chain-least}
use Rattle.tables.specs.TableLines.{table_head_tests, table_head_refusal, mark_tests, mark_refusal}

pub table-head-least : (l : List ℕ) → LeastFailing (table_head_tests l) (table_head_refusal l)
unfolding table_head_refusal
table-head-least l = chain-least 3 1 (table_head_tests l) (lit< tt, (lit< tt, lit≤ tt))

pub marks-least : (inputs : ℕ) (l : List ℕ) → LeastFailing (mark_tests inputs l) (mark_refusal inputs l)
unfolding mark_refusal
marks-least inputs l = chain-least 15 1 (mark_tests inputs l) (lit< tt, (lit< tt, lit≤ tt))
