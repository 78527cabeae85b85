-- Where a text is refused, and where it is not, said of its lines (document 01, "What is returned"):
--   "Text: 1 first, then line by line" "Place is a line of the text (from 1)" "bytes after the last due line; the place is the next line"
--   "A text is accepted exactly when none of 1 to 7 applies."
-- A second statement beside `parse_of`, which walks through the text: here each line is looked at by how many stand before it. They agree (proofs/Refusals).
use Rattle.std.specs.Prelude.{ℕ, ◌+◌, ◌-◌, ◌<◌, ◌≤◌, cond, List, [], ◌⊎◌, ◌≡◌, eqb, leb, length}
use Rattle.text.specs.Text.{text_bytes, before, line_end}
use Rattle.statements.specs.Lines.{head_refusal, head_of, output_refusal, fault_line_refusal}
use Rattle.gate_lines.specs.GateLines.{gate_refusal}
use Rattle.statements.specs.declared.Head.{Head}
use Rattle.sections.specs.Sections.{line_refusal, lines_from}

-- what the text's first line says
abbrev pub text_head : List ℕ → Head
text_head text = head_of (before line_end text)

-- the lines in their order are the head, G gates, M outputs and Q faults
abbrev pub lines_due : Head → ℕ
lines_due h = 1 + h.gates + h.outputs + h.faults

-- by which number a line with k lines before it is refused, as the line that is due there. "The j-th gate (from 1) drives line N+j": it has j lines before it
unfoldable pub due_refusal : Head → ℕ → List ℕ → ℕ
due_refusal h k l =
    cond (eqb k 0) (head_refusal l)
    (cond (leb k h.gates) (gate_refusal (h.inputs + k) l)
    (cond (leb k (h.gates + h.outputs)) (output_refusal (h.inputs + h.gates) l)
    (fault_line_refusal h.inputs (h.inputs + h.gates) l)))

-- the number of the text's line with k lines before it, 0 where it passes
unfoldable pub refusal_at : List ℕ → ℕ → ℕ
refusal_at text k = line_refusal (due_refusal (text_head text) k) (lines_from k text)

-- "2, 3, then 4, 5, 6" of a circuit's lines, and 19 of a bridge (document 02, note 8)
abbrev pub CircuitLineNumber : ℕ → Type 0
CircuitLineNumber number = ((2 ≤ number) × (number ≤ 6)) ⊎ (number ≡ 19)

-- by a line's number at its place: it is one of those due, and every line before it passes
pub record LineFails (text : List ℕ) (number place : ℕ) : Type 0 where
  pub few : length text ≤ text_bytes
  pub number_is : CircuitLineNumber number
  pub place-low : 1 ≤ place
  pub place-due : place ≤ lines_due (text_head text)
  pub refused : refusal_at text (place - 1) ≡ number
  pub earlier-pass : (k : ℕ) → k < place - 1 → refusal_at text k ≡ 0

-- the lines that are due pass
pub record DuePass (text : List ℕ) : Type 0 where
  pub few : length text ≤ text_bytes
  pub each : (k : ℕ) → k < lines_due (text_head text) → refusal_at text k ≡ 0

-- the text after them
abbrev pub after_due : List ℕ → List ℕ
after_due text = lines_from (lines_due (text_head text)) text

-- 7
pub record BytesFollow (text : List ℕ) (place : ℕ) : Type 0 where
  pub pass : DuePass text
  pub bytes : 0 < length (after_due text)
  pub place_is : place ≡ lines_due (text_head text) + 1

-- none of 1 to 7 and 19 applies
pub record NoneApplies (text : List ℕ) : Type 0 where
  pub pass : DuePass text
  pub all : after_due text ≡ []
