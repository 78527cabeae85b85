-- The text of a table, written field by field; of a well-formed table it is accepted, and no other text is (proofs/AcceptedTables `tables-exactly`).
-- Document 02, note 1: "Add a text `table,N,Q,K`, one line of 2^N marks `0`, `1` or `-` by row number, then fault lines that name inputs only"
use Rattle.std.specs.Prelude.{ℕ, List, [], ◌∷◌, ◌++◌, map, pos, length}
use Rattle.text.specs.Text.{line_end}
use Rattle.writing.specs.Writing.{line_of}
use Rattle.statements.specs.Items.{sound}
use Rattle.sections.specs.Sections.{each_line}
use Rattle.sections.specs.FaultLines.{fault_line}
use Rattle.tables.specs.Tables.{TruthTable}
use Rattle.tables.specs.TableForms.{mark_for}
use Rattle.tables.specs.TableLines.{table_word}

-- no table's text is longer: its first line has at most 13 bytes, its marks 257 and 32 faults 18 each
abbrev pub table_bytes : ℕ
table_bytes = 846

unfoldable pub table_head_line : TruthTable → List ℕ
table_head_line t = line_of table_word (pos t.inputs ∷ pos (length t.faults) ∷ pos t.cap ∷ [])

unfoldable pub mark_line : TruthTable → List ℕ
mark_line t = map mark_for t.marks ++ (line_end ∷ [])

unfoldable pub table_text : TruthTable → List ℕ
table_text t = table_head_line t ++ (mark_line t ++ each_line fault_line sound t.faults)
