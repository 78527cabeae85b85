-- Which texts are accepted as tables:
--   table-accepted-only    a text that is accepted as a table is the text of that table
--   tables-exactly         the texts of the well-formed tables, and no others
--   table-short            such a text is at most 846 bytes long
use mathlib.Core.Path.{◌≡◌, ap, ap₂, ◌∙◌}
use mathlib.Core.List.{List, [], ◌++◌, append-nil}
use mathlib.Core.Logic.{◌↔◌}
use Prim.Native.Nat.{ℕ, ◌≤◌}
use native.Mathlib.Omega.{arith}
use lib.ListN.{length}
use Rattle.text.specs.Text.{before, after, line_end}
use Rattle.statements.specs.Items.{sound}
use Rattle.statements.specs.Lines.{fault_line_of}
use Rattle.sections.specs.FaultLines.{fault_line, nth_fault_refusal}
use Rattle.sections.proofs.BridgesWritten.{fault-only}
use Rattle.sections.proofs.LinesOnly.{line_taken, lines-only}
use Rattle.tables.specs.TableLines.{table_head_refusal, table_head_of, mark_refusal}
use Rattle.tables.specs.TableParsing.{accepted_table, table_faults_in, table_of}
use Rattle.tables.specs.TableText.{table_bytes, mark_line, table_text}
use Rattle.tables.specs.TableWellFormed.{TableRight}
use Rattle.tables.specs.Tables.{TruthTable}
use Rattle.tables.specs.declared.TableHead.{TableHead}
use Rattle.tables.proofs.TableAcceptance.{TableRead, table-read-through, table-right}
use Rattle.tables.proofs.TableLinesWritten.{table_head_written, table-head-only, marks-only}
use Rattle.tables.proofs.TablesWritten.{table_faults_text, table-text-short, table-text-accepted}

module _ (h : TableHead) (t : TruthTable) (rest : List ℕ) (b : TableRead h rest t) where
  -- the head is t's, and what stands after it is what is written for t
  table-body-only : (h ≡ table_head_written t) × (rest ≡ mark_line t ++ table_faults_text t)
  unfolding table_faults_in
  table-body-only =
      let m = line_taken (mark_refusal h.inputs) rest b.marks-pass in
      let f = lines-only (nth_fault_refusal h.inputs h.inputs) fault_line_of fault_line sound (λ j. fault-only h.inputs h.inputs) h.faults 3 (after line_end rest) t.faults [] b.faults-read in (
        rw (f.0, b.inputs_are, b.cap-is),
        m.0 ∙ ap₂ ◌++◌ (marks-only h.inputs (before line_end rest) t m.1 b.marks-read) (f.1 ∙ append-nil (table_faults_text t)),
      )

pub table-accepted-only : (text : List ℕ) (t : TruthTable) → table_of text ≡ accepted_table t → text ≡ table_text t
unfolding table_text
table-accepted-only text t e =
    let r = table-read-through text t e in
    let l = line_taken table_head_refusal text r.0 in
    let b = table-body-only (table_head_of (before line_end text)) t (after line_end text) r.1 in
    l.0 ∙ ap₂ ◌++◌ (table-head-only (before line_end text) t l.1 b.0) b.1

pub tables-exactly : (text : List ℕ) (t : TruthTable) → (table_of text ≡ accepted_table t) ↔ (TableRight t × (text ≡ table_text t))
tables-exactly text t = (λ e. (table-right text t e, table-accepted-only text t e), λ r. ap table_of r.1 ∙ table-text-accepted t r.0)

pub table-short : (text : List ℕ) (t : TruthTable) → table_of text ≡ accepted_table t → length text ≤ table_bytes
table-short text t e = omega (arith, ap length (table-accepted-only text t e), table-text-short t (table-right text t e))
