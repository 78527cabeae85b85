-- The rows of a table, sound and under a fault (document 02, note 1):
--   "Under a fault a row takes the mark of the row with its stuck inputs replaced." "A free row counts one half (source document 004, eq. 11 and 12),
--   so all coefficients of a table are kept and printed doubled."
-- and under a bridge (note 8): "Both inputs then show the AND of what is applied."
-- A fault that names no line replaces no input: so the rows of the sound table are those under `sound`.
use Rattle.std.specs.Prelude.{ℕ, ◌^◌, cond, List, [], eqb, ℤ, pos, get_or}
use Rattle.integer.specs.Tab.{tab}
use Rattle.faults.specs.Faults.{replaced_all, bridged_row}
use Rattle.statements.specs.declared.Bridge.{Bridge}
use Rattle.statements.specs.Items.{Fault}
use Rattle.tables.specs.Tables.{TruthTable}
use Rattle.lookup.specs.StuckPairs.{pairs_of}

-- the row in which each stuck input has its VALUE
abbrev pub stuck_row_number : Fault → ℕ → ℕ
stuck_row_number f x = replaced_all (pairs_of f) x

-- the row with the bridge's inputs replaced by their AND; x itself where there is no bridge
unfoldable pub bridge_row : Bridge → ℕ → ℕ
bridge_row b x = cond (eqb b.first 0) x (bridged_row b.first b.second x)

-- the row in which each input has what it shows
unfoldable pub fault_row : Fault → ℕ → ℕ
fault_row f x = stuck_row_number f (bridge_row f.bridge x)

-- twice what row x counts under the fault
unfoldable pub table_row : TruthTable → Fault → ℕ → ℤ
table_row t f x = pos (get_or t.marks (fault_row f x) 0)

unfoldable pub table_rows : TruthTable → Fault → List ℤ
table_rows t f = tab (2 ^ t.inputs) (table_row t f)

-- a table as far as its rows ask: they come from its inputs and its marks alone
abbrev pub table_of_marks : ℕ → List ℕ → TruthTable
table_of_marks inputs marks = record { inputs = inputs; marks = marks; faults = []; cap = 0 }
