-- The lines of a report (document 01, "Plan"):
--   "The report is `plan,SIZE`; `label,LABEL,VALUE` with the sound coefficient; for each fault `fault,NUMBER,LABEL,VALUE` with the plan's first
--   covering label and the faulted coefficient. Labels stand as in the plan, faults as in the text. A refusal is one line `refused,NUMBER,PLACE`."
use Rattle.std.specs.Prelude.{ℕ, suc, Bool, List, [], ◌∷◌, ◌++◌, ℤ, pos, length, get_or}
use Rattle.text.specs.Text.{bytes_of}
use Rattle.cover.specs.Cover.{covers, fault_rows}
use Rattle.integer.specs.First.{first_where}
use Rattle.statements.specs.Lines.{fault_word}
use Rattle.writing.specs.Writing.{gather, line_of}
use Rattle.transform.specs.Spectrum.{coefficient_of}

-- the bytes lent for all lines
abbrev pub report_bytes : ℕ
report_bytes = 1024

abbrev pub plan_word : List ℕ
plan_word = bytes_of "plan"

abbrev pub label_word : List ℕ
label_word = bytes_of "label"

abbrev pub refused_word : List ℕ
refused_word = bytes_of "refused"

unfoldable pub plan_line : ℕ → List ℕ
plan_line size = line_of plan_word (pos size ∷ [])

unfoldable pub refused_line : ℕ → ℕ → List ℕ
refused_line number place = line_of refused_word (pos number ∷ pos place ∷ [])

-- the line of label i of the plan, from 0, with the sound coefficient
unfoldable pub label_line : List ℤ → List ℕ → ℕ → List ℕ
label_line rows labels i = line_of label_word (pos (get_or labels i 0) ∷ coefficient_of rows (get_or labels i 0) ∷ [])

unfoldable pub label_covers : List ℤ → List ℤ → List ℕ → ℕ → Bool
label_covers rows faulted labels i = covers rows faulted (get_or labels i 0)

-- the plan's first label that covers the fault
unfoldable pub covering_label : List ℤ → List ℤ → List ℕ → ℕ
covering_label rows faulted labels = get_or labels (first_where (label_covers rows faulted labels) (length labels)) 0

-- the line of fault f, from 0, with the faulted coefficient
unfoldable pub fault_report_line : List ℤ → List (List ℤ) → List ℕ → ℕ → List ℕ
fault_report_line rows faults labels f =
    line_of fault_word (pos (suc f) ∷ pos (covering_label rows (fault_rows faults f) labels) ∷ coefficient_of (fault_rows faults f) (covering_label rows (fault_rows faults f) labels) ∷ [])

unfoldable pub plan_lines : List ℤ → List (List ℤ) → List ℕ → List ℕ
plan_lines rows faults labels =
    plan_line (length labels) ++ (gather (label_line rows labels) (length labels) ++ gather (fault_report_line rows faults labels) (length faults))
