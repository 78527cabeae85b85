-- Every well-formed table has a text:
--   table-text-accepted       the text of a well-formed table is accepted as that table
--   table-accepted-exactly    the well-formed tables are those that some text is accepted as
--   table-text-short          such a text is at most 846 bytes long
use mathlib.Core.Path.{◌≡◌, sym, ap, ◌∙◌}
use mathlib.Core.List.{List, [], ◌++◌, append-nil}
use mathlib.Core.Logic.{◌↔◌}
use Prim.Native.Nat.{ℕ, ◌<◌, ◌≤◌}
use native.Mathlib.Omega.{arith}
use lib.ListN.{length, get_or, length-append}
use borrow.Author.Tests.{le-ltb}
use Rattle.text.specs.Text.{text_bytes}
use Rattle.statements.specs.Items.{sound}
use Rattle.statements.specs.Lines.{fault_line_of}
use Rattle.sections.specs.FaultLines.{fault_line, nth_fault_refusal}
use Rattle.sections.specs.Sections.{each_line}
use Rattle.sections.proofs.LinesWritten.{told-has, told-before, told-after, lines-read, lines-short, Told}
use Rattle.fields.specs.Fields.{unless}
use Rattle.tables.specs.TableLines.{table_head_refusal, table_head_of}
use Rattle.tables.specs.TableParsing.{accepted_table, table_faults_in, table_end, table_body, table_of}
use Rattle.tables.specs.TableText.{table_bytes, table_head_line, mark_line, table_text}
use Rattle.tables.specs.TableWellFormed.{TableRight}
use Rattle.tables.specs.Tables.{TruthTable}
use Rattle.tables.specs.declared.TableHead.{TableHead}
use Rattle.tables.proofs.TableAcceptance.{table-right}
use Rattle.tables.proofs.TableLinesWritten.{table_head_written, table-head-told, marks-told, input-fault-told}

table-head-read : {bytes : ℕ} (text rest : List ℕ) (h : TableHead) → Told bytes table_head_refusal table_head_of text h → length (text ++ rest) ≤ text_bytes → table_of (text ++ rest) ≡ table_body h rest
unfolding table_of unless
table-head-read text rest h t few = rw (le-ltb text_bytes (length (text ++ rest)) few, told-has t rest, told-before t rest, t.passes, told-after t rest, t.says)

-- the text after the line of marks
abbrev pub table_faults_text : TruthTable → List ℕ
table_faults_text t = each_line fault_line sound t.faults

module _ (t : TruthTable) (w : TableRight t) where
  table-faults-told : (j : ℕ) → j < length t.faults → Told 18 (nth_fault_refusal t.inputs t.inputs j) fault_line_of (fault_line (get_or t.faults j sound)) (get_or t.faults j sound)
  table-faults-told j h = input-fault-told t.inputs (get_or t.faults j sound) w.inputs-high (w.faults-right j h)

  table-body-accepted : (rest : List ℕ) → rest ≡ table_faults_text t ++ [] → table_body (table_head_written t) (mark_line t ++ rest) ≡ accepted_table t
  unfolding table_body table_faults_in table_end unless
  table-body-accepted rest e =
      let m = marks-told t w in
      rw (
        told-has m rest,
        told-before m rest,
        m.passes,
        told-after m rest,
        m.says,
        e,
        lines-read (nth_fault_refusal t.inputs t.inputs) fault_line_of fault_line sound t.faults table-faults-told 3 [],
      )

  pub table-text-short : length (table_text t) ≤ table_bytes
  unfolding table_text
  table-text-short =
      let h = table-head-told t w in
      let m = marks-told t w in
      omega (
        arith,
        length-append (table_head_line t) (mark_line t ++ table_faults_text t),
        length-append (mark_line t) (table_faults_text t),
        ap length h.is,
        h.short,
        ap length m.is,
        m.short,
        lines-short (nth_fault_refusal t.inputs t.inputs) fault_line_of fault_line sound t.faults table-faults-told,
        w.faults-high,
      )

  pub table-text-accepted : table_of (table_text t) ≡ accepted_table t
  unfolding table_text
  table-text-accepted =
      table-head-read (table_head_line t) (mark_line t ++ table_faults_text t) (table_head_written t) (table-head-told t w) (omega (arith, table-text-short))
      ∙ table-body-accepted (table_faults_text t) (sym (append-nil (table_faults_text t)))

pub table-accepted-exactly : (t : TruthTable) → ((text : List ℕ) × (table_of text ≡ accepted_table t)) ↔ TableRight t
table-accepted-exactly t = (λ e. table-right e.0 t e.1, λ w. (table_text t, table-text-accepted t w))
