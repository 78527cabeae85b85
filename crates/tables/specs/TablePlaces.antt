-- Where a table's text is refused, and where it is not, said of its lines (document 02, note 1, and document 01, "What is returned"). A second statement beside
-- `table_of`, which walks through the text: here each line is looked at by how many stand before it. They agree (proofs/TableRefusals).
use Rattle.std.specs.Prelude.{ℕ, ◌+◌, ◌-◌, ◌<◌, ◌≤◌, cond, List, [], ◌⊎◌, ◌≡◌, eqb, length}
use Rattle.text.specs.Text.{text_bytes, before, line_end}
use Rattle.statements.specs.Lines.{fault_line_refusal}
use Rattle.sections.specs.Sections.{line_refusal, lines_from}
use Rattle.tables.specs.TableLines.{table_head_refusal, table_head_of, mark_refusal}
use Rattle.tables.specs.declared.TableHead.{TableHead}

-- what the text's first line says
abbrev pub table_head_in : List ℕ → TableHead
table_head_in text = table_head_of (before line_end text)

-- the head, the marks, and Q faults
abbrev pub table_lines_due : TableHead → ℕ
table_lines_due h = 2 + h.faults

-- by which number a line with k lines before it is refused, as the line that is due there
unfoldable pub table_due_refusal : TableHead → ℕ → List ℕ → ℕ
table_due_refusal h k l = cond (eqb k 0) (table_head_refusal l) (cond (eqb k 1) (mark_refusal h.inputs l) (fault_line_refusal h.inputs h.inputs l))

-- the number of the text's line with k lines before it, 0 where it passes
unfoldable pub table_refusal_at : List ℕ → ℕ → ℕ
table_refusal_at text k = line_refusal (table_due_refusal (table_head_in text) k) (lines_from k text)

-- "2, 3, 5, 6" of a table's lines, "15 at line 2", and 19 of a bridge (note 8)
abbrev pub TableLineNumber : ℕ → ℕ → Type 0
TableLineNumber number place = (number ≡ 2) ⊎ ((number ≡ 3) ⊎ ((number ≡ 5) ⊎ ((number ≡ 6) ⊎ (((number ≡ 15) × (place ≡ 2)) ⊎ (number ≡ 19)))))

-- by a line's number at its place: it is one of those due, and every line before it passes
pub record TableLineFails (text : List ℕ) (number place : ℕ) : Type 0 where
  pub few : length text ≤ text_bytes
  pub number_is : TableLineNumber number place
  pub place-low : 1 ≤ place
  pub place-due : place ≤ table_lines_due (table_head_in text)
  pub refused : table_refusal_at text (place - 1) ≡ number
  pub earlier-pass : (k : ℕ) → k < place - 1 → table_refusal_at text k ≡ 0

-- the lines that are due pass
pub record TableDuePass (text : List ℕ) : Type 0 where
  pub few : length text ≤ text_bytes
  pub each : (k : ℕ) → k < table_lines_due (table_head_in text) → table_refusal_at text k ≡ 0

-- the text after them
abbrev pub after_table : List ℕ → List ℕ
after_table text = lines_from (table_lines_due (table_head_in text)) text

-- 7
pub record TableBytesFollow (text : List ℕ) (place : ℕ) : Type 0 where
  pub pass : TableDuePass text
  pub bytes : 0 < length (after_table text)
  pub place_is : place ≡ table_lines_due (table_head_in text) + 1

-- none of 1 to 7, 15 and 19 applies
pub record TableNoneApplies (text : List ℕ) : Type 0 where
  pub pass : TableDuePass text
  pub all : after_table text ≡ []
