-- The table as data, and what a fault number names (document 02, note 1):
--   "Add a text `table,N,Q,K`, one line of 2^N marks `0`, `1` or `-` by row number, then fault lines that name inputs only" "A free row counts one half
--   (source document 004, eq. 11 and 12), so all coefficients of a table are kept and printed doubled."
use Rattle.std.specs.Prelude.{ℕ, List}
use Rattle.statements.specs.Items.{Fault}
use Rattle.sections.specs.FaultLines.{fault_numbered}

-- N inputs, the doubled marks by row number (0, 1 for a free row, 2), Q faults, cap K
pub record TruthTable : Type 0 where
  pub inputs : ℕ
  pub marks : List ℕ
  pub faults : List Fault
  pub cap : ℕ

-- 0 for the sound table, else 1 to Q
abbrev pub table_fault_at : TruthTable → ℕ → Fault
table_fault_at t number = fault_numbered t.faults number
