-- The whole text of a table: the table that it states, or its refusal with number and place (document 02, note 1, and document 01, "What is returned"):
--   "Text: 1 first, then line by line; within a line 2, 3, then 4, 5, 6." "bytes after the last due line; the place is the next line"
--   "Turned away: 15 at line 2, after 2"
use Rattle.std.specs.Prelude.{ℕ, ◌+◌, cond, List, [], eqb, ltb, length}
use Rattle.text.specs.Text.{text_bytes, before, after, line_end}
use Rattle.statements.specs.Lines.{fault_line_of}
use Rattle.statements.specs.Items.{Fault}
use Rattle.sections.specs.Sections.{Read, items, line_refused, line_refusal, lines_of}
use Rattle.sections.specs.FaultLines.{nth_fault_refusal}
use Rattle.tables.specs.Tables.{TruthTable}
use Rattle.tables.specs.TableLines.{table_head_refusal, table_head_of, mark_refusal, marks_of}
use Rattle.tables.specs.declared.TableHead.{TableHead}

pub data TableParse : Type 0 where
  accepted_table : TruthTable → TableParse
  rejected_table : ℕ → ℕ → TableParse

-- what is made of a table's text: of the table of an accepted one, or of a rejection's number and place
abbrev pub on_table : {A : Type 0} → (TruthTable → A) → (ℕ → ℕ → A) → TableParse → A
on_table found refuse (accepted_table t) = found t
on_table found refuse (rejected_table number place) = refuse number place

-- the fault lines begin at the text's third line; the last line that may be stuck is the last input
unfoldable pub table_faults_in : TableHead → List ℕ → Read Fault
table_faults_in h rest = lines_of (nth_fault_refusal h.inputs h.inputs) fault_line_of h.faults 3 rest []

abbrev pub on_faults : Read Fault → (List Fault → List ℕ → TableParse) → TableParse
on_faults (items l rest) next = next l rest
on_faults (line_refused number place) next = rejected_table number place

unfoldable pub table_end : TableHead → List ℕ → List Fault → List ℕ → TableParse
table_end h marks faults rest =
    cond (ltb 0 (length rest)) (rejected_table 7 (h.faults + 3))
    (accepted_table (record { inputs = h.inputs; marks = marks; faults = faults; cap = h.cap }))

-- the marks are the text's second line
unfoldable pub table_body : TableHead → List ℕ → TableParse
table_body h rest =
    cond (eqb (line_refusal (mark_refusal h.inputs) rest) 0)
    (on_faults (table_faults_in h (after line_end rest)) (λ faults end. table_end h (marks_of (before line_end rest)) faults end))
    (rejected_table (line_refusal (mark_refusal h.inputs) rest) 2)

unfoldable pub table_of : List ℕ → TableParse
table_of text =
    cond (ltb text_bytes (length text)) (rejected_table 1 0)
    (cond (eqb (line_refusal table_head_refusal text) 0)
    (table_body (table_head_of (before line_end text)) (after line_end text))
    (rejected_table (line_refusal table_head_refusal text) 1))
