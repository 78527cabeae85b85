-- The parser's stages of a table put together, in the words of their answers:
--   table-no-marks, marks-stop          a mark line without an end, and one that is refused
--   table-faults-stop                   a fault line that is refused
--   table-bytes-left, table-all-read    what is left after the last line refuses the text, else it is accepted
--   table-too-long, table-no-head, table-head-stop, table-head-passed    the same for the text's length and first line
use mathlib.Core.Path.{◌≡◌, sym, ◌∙◌}
use mathlib.Core.List.{List}
use Prim.Native.Nat.{ℕ, ◌+◌, ◌^◌, ◌<◌, ◌≤◌}
use native.Mathlib.Omega.{arith}
use lib.ListN.{length, take}
use borrow.Author.Tests.{lt-ltb, le-ltb, ne_eqb}
use Rattle.refusals.specs.Refusals.{refusal_number, refusal_place}
use Rattle.refusals.specs.declared.Refusal.{Refusal}
use Rattle.text.specs.Text.{text_bytes}
use Rattle.statements.specs.Items.{Fault}
use Rattle.sections.specs.Sections.{items, line_refused, FirstLine, NoLine}
use Rattle.sections.proofs.LineLoops.{line-number, missing-number, refusal-numbered}
use Rattle.tables.specs.TableLines.{table_head_refusal, table_head_of, mark_refusal, marks_of}
use Rattle.tables.specs.TableParsing.{accepted_table, rejected_table, table_faults_in, table_end, table_body, table_of}
use Rattle.tables.specs.TableArrays.{truth_table_of}
use Rattle.tables.specs.declared.Table.TheInside.{Inside}
use Rattle.tables.specs.declared.TableHead.{TableHead}

-- the mark line, with which `text` begins
module _ (h : TableHead) (text : List ℕ) where
  pub table-no-marks : (r : Refusal) → NoLine text 2 r → rejected_table (refusal_number r) (refusal_place r) ≡ table_body h text
  unfolding table_body
  table-no-marks r none =
      rw (missing-number (mark_refusal h.inputs) text 2 r none, none.2, ne_eqb (refusal_number r) 0 (refusal-numbered r))

  module _ {line : List ℕ} (after-marks : List ℕ) (at : FirstLine text line after-marks) where
    pub marks-stop : (r : Refusal) → refusal_number r ≡ mark_refusal h.inputs line → refusal_place r ≡ 2 → rejected_table (refusal_number r) (refusal_place r) ≡ table_body h text
    unfolding table_body
    marks-stop r e place =
        rw (line-number (mark_refusal h.inputs) text line after-marks at, ← e, place, ne_eqb (refusal_number r) 0 (refusal-numbered r))

    module _ (marks-passed : mark_refusal h.inputs line ≡ 0) where
      pub table-faults-stop : {number place : ℕ} → line_refused number place ≡ table_faults_in h after-marks → rejected_table number place ≡ table_body h text
      unfolding table_body
      table-faults-stop e = rw (line-number (mark_refusal h.inputs) text line after-marks at, marks-passed, ← at.2, ← e)

      module _ {faults : List Fault} (rest : List ℕ) (faults-read : items faults rest ≡ table_faults_in h after-marks) where
        through : table_body h text ≡ table_end h (marks_of line) faults rest
        unfolding table_body
        through = rw (line-number (mark_refusal h.inputs) text line after-marks at, marks-passed, ← at.2, ← faults-read, ← at.1)

        pub table-bytes-left : (length rest ≡ 0 → ⊥) → rejected_table 7 (h.faults + 3) ≡ table_body h text
        unfolding table_end
        table-bytes-left k = sym (through ∙ rw (lt-ltb 0 (length rest) (omega (arith, k))))

        pub table-all-read : length rest ≡ 0 → (t : Inside) → t.head ≡ h → take (2 ^ h.inputs) t.marks ≡ marks_of line → take h.faults t.faults ≡ faults
            → accepted_table (truth_table_of t) ≡ table_body h text
        unfolding table_end
        table-all-read k t e m f = rw (e, m, f) (sym (through ∙ rw (le-ltb 0 (length rest) (omega (arith, k)))))

module _ (text : List ℕ) where
  pub table-too-long : text_bytes < length text → rejected_table 1 0 ≡ table_of text
  unfolding table_of
  table-too-long k = rw (lt-ltb text_bytes (length text) k)

  module _ (few : length text ≤ text_bytes) where
    pub table-no-head : (r : Refusal) → NoLine text 1 r → rejected_table (refusal_number r) (refusal_place r) ≡ table_of text
    unfolding table_of
    table-no-head r none =
        rw (le-ltb text_bytes (length text) few, missing-number table_head_refusal text 1 r none, none.2, ne_eqb (refusal_number r) 0 (refusal-numbered r))

    module _ {line : List ℕ} (rest : List ℕ) (at : FirstLine text line rest) where
      pub table-head-stop : (r : Refusal) → refusal_number r ≡ table_head_refusal line → refusal_place r ≡ 1 → rejected_table (refusal_number r) (refusal_place r) ≡ table_of text
      unfolding table_of
      table-head-stop r e place =
          rw (le-ltb text_bytes (length text) few, line-number table_head_refusal text line rest at, ← e, place, ne_eqb (refusal_number r) 0 (refusal-numbered r))

      pub table-head-passed : table_head_refusal line ≡ 0 → table_body (table_head_of line) rest ≡ table_of text
      unfolding table_of
      table-head-passed z =
          rw (le-ltb text_bytes (length text) few, line-number table_head_refusal text line rest at, z, at.1, at.2)
