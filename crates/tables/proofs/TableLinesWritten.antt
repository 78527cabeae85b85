-- The first line of a table, its marks and its faults are accepted as what they were written from, and no other lines are:
--   table-head-told, marks-told, input-fault-told    of a well-formed table, with the most bytes of each
--   table-head-only, marks-only                      a line that is accepted is the line of what it says
use mathlib.Core.Path.{◌≡◌, refl, sym, ap, ◌∙◌}
use mathlib.Core.Bool.{Bool, true, false, cond}
use mathlib.Core.List.{List, [], ◌∷◌, ◌++◌, append-nil, map}
use Prim.Native.Nat.{ℕ, zero, suc, ◌+◌, ◌<◌, ◌≤◌, ◌^◌}
use mathlib.Core.Logic.{inl, inr}
use native.Mathlib.Omega.{arith}
use lib.Dec.{eqb, lit≤}
use lib.IntN.{ℤ, pos}
use lib.ListN.{length, get_or, length-append, length-map}
use lib.Pow.{pow_mono}
use borrow.Author.Tests.{eq-eqb}
use Rattle.integer.specs.ListTests.{any}
use Rattle.text.specs.Text.{line_end, index_of}
use Rattle.writing.specs.Writing.{Small, decimal_to, decimal_of, integer_of, gather, number_field, numbers_of, line_of}
use Rattle.writing.proofs.LineFields.{Lacks, AtMost, most-small, line-longest, numbers-cons}
use Rattle.writing.proofs.Writings.{line-long, natural-length}
use Rattle.fields.specs.Fields.{value_at, is_line, unless, line_from}
use Rattle.fields.proofs.Chains.{unless-passed}
use Rattle.fields.proofs.JoinedLines.{line-ended}
use Rattle.fields.proofs.PlainLines.{plain_value}
use Rattle.statements.specs.Lines.{fault_word, fault_refusal, fault_of, fault_line_refusal, fault_line_of}
use Rattle.statements.specs.Items.{Fault}
use Rattle.statements.specs.declared.Pair.{Pair}
use Rattle.sections.specs.FaultLines.{Above, StuckFault, FaultRight, pair_written, stuck_line, fault_line}
use Rattle.sections.proofs.FaultsRight.{free-line}
use Rattle.sections.proofs.BridgesWritten.{fault-told}
use Rattle.sections.proofs.FaultsWritten.{stuck-told}
use Rattle.sections.proofs.LinesWritten.{Told}
use Rattle.tables.specs.TableForms.{mark_for}
use Rattle.tables.specs.TableLines.{table_word, is_table_head, table_head_refusal, table_head_of, all_marks, mark_refusal, marks_of}
use Rattle.tables.specs.TableText.{table_head_line, mark_line}
use Rattle.tables.specs.TableWellFormed.{TableRight}
use Rattle.tables.specs.Tables.{TruthTable}
use Rattle.tables.specs.declared.TableHead.{TableHead}
use Rattle.tables.proofs.TableAcceptance.{marks-fit}
use Rattle.tables.proofs.TableFormsMeant.{table-head-form, marks-joined, values-marked}

-- ---- the first line

abbrev pub table_head_written : TruthTable → TableHead
table_head_written t = record { inputs = t.inputs; faults = length t.faults; cap = t.cap }

pub table-head-told : (t : TruthTable) → TableRight t → Told 13 table_head_refusal table_head_of (table_head_line t) (table_head_written t)
unfolding table_head_line table_head_refusal table_head_of unless index_of any line_of numbers_of gather number_field integer_of decimal_of decimal_to
table-head-told t w =
    record {
      word = table_word;
      numbers = map pos ns;
      is = refl;
      one_line = refl;
      passes = rw (
        (table-head-form.form (line_from table_word ns)).1 (ns, small, refl, refl),
        (table-head-form.range t.inputs (length t.faults) t.cap small).1 (w.inputs-low, w.inputs-high, w.faults-low, w.faults-high, w.cap-low, w.cap-high),
      );
      says = rw (at 0, at 1, at 2);
      short = line-longest table_word longest ns high;
    }
  where
    ns : List ℕ
    ns = t.inputs ∷ length t.faults ∷ t.cap ∷ []

    -- their line has 13 bytes
    longest : List ℕ
    longest = 8 ∷ 32 ∷ 4 ∷ []

    high : AtMost longest ns
    high = (w.inputs-high, (w.faults-high, (w.cap-high, tt)))

    small : Small ns
    small = most-small longest ns refl high

    at : (k : ℕ) → value_at (line_from table_word ns) (suc k) ≡ get_or ns k 0
    at k = plain_value table_word ns small refl k

pub table-head-only : (l : List ℕ) (t : TruthTable) → table_head_refusal l ≡ 0 → table_head_of l ≡ table_head_written t → l ++ (line_end ∷ []) ≡ table_head_line t
unfolding table_head_refusal is_table_head table_head_of table_head_line
table-head-only l t e is =
    line-ended l table_word 3 (unless-passed (is_line l table_word 1 4) 2 _ (lit≤ tt) e).0
    ∙ ap (λ (h : TableHead). line_of table_word (pos h.inputs ∷ pos h.faults ∷ pos h.cap ∷ [])) is

-- ---- the marks

marks-one-line : (values : List ℕ) → Lacks line_end (map mark_for values)
unfolding index_of
marks-one-line [] = refl
marks-one-line (zero ∷ values) = ap suc (marks-one-line values)
marks-one-line (suc zero ∷ values) = ap suc (marks-one-line values)
marks-one-line (suc (suc v) ∷ values) = ap suc (marks-one-line values)

pub marks-told : (t : TruthTable) → TableRight t → Told 257 (mark_refusal t.inputs) marks_of (mark_line t) t.marks
unfolding mark_line mark_refusal unless line_of numbers_of gather
marks-told t w =
    record {
      word = written;
      numbers = [];
      is = refl;
      one_line = marks-one-line t.marks;
      passes = rw (append-nil written, eq-eqb (length written) (2 ^ t.inputs) (long ∙ w.marks-all), marked.0);
      says = ap marks_of (append-nil written) ∙ marked.1;
      short = omega (arith, line-long written [], long, w.marks-all, most);
    }
  where
    written : List ℕ
    written = map mark_for t.marks

    long : length written ≡ length t.marks
    long = length-map t.marks mark_for

    marked : (all_marks written ≡ true) × (marks_of written ≡ t.marks)
    marked = values-marked t.marks w.marks-doubled

    most : 2 ^ t.inputs ≤ 256
    most = pow_mono w.inputs-high

pub marks-only : (inputs : ℕ) (l : List ℕ) (t : TruthTable) → mark_refusal inputs l ≡ 0 → t.marks ≡ marks_of l → l ++ (line_end ∷ []) ≡ mark_line t
unfolding mark_line
marks-only inputs l t e is = ap (λ (m : List ℕ). m ++ (line_end ∷ [])) (marks-joined l (marks-fit inputs l e).1 ∙ ap (map mark_for) (sym is))

-- ---- the faults, whose lines are inputs: of one digit

numbers-long : (a b : List ℤ) → length (numbers_of (a ++ b)) ≡ length (numbers_of a) + length (numbers_of b)
unfolding numbers_of gather
numbers-long [] b = omega arith
numbers-long (z ∷ a) b =
    omega (
      arith,
      ap length (numbers-cons z (a ++ b)),
      ap length (numbers-cons z a),
      length-append (integer_of z) (numbers_of (a ++ b)),
      length-append (integer_of z) (numbers_of a),
      numbers-long a b,
    )

pair-short : (s : Pair) → s.line ≤ 8 → length (numbers_of (pair_written s)) ≤ 4
unfolding pair_written numbers_of gather number_field
pair-short s h = go (eqb s.line 0)
  where
    value : ℕ
    value = cond s.value 1 0

    bit : (v : Bool) → cond v 1 0 < 10
    bit true = omega arith
    bit false = omega arith

    go : (none : Bool) → length (numbers_of (cond none [] (pos s.line ∷ pos value ∷ []))) ≤ 4
    go true = omega arith
    go false =
        omega (
          arith,
          length-append (integer_of (pos s.line)) (numbers_of (pos value ∷ [])),
          natural-length 0 s.line (omega arith),
          natural-length 0 value (bit s.value),
        )

module _ (top : ℕ) (f : Fault) (most : top ≤ 8) (r : StuckFault top f) where
  above_low : (last : ℕ) (s : Pair) → Above last top s → s.line ≤ 8
  above_low last s (inl none) = omega (arith, free-line none)
  above_low last s (inr some) = omega (arith, some.1)

  stuck-inputs-short : length (stuck_line f) ≤ 18
  unfolding stuck_line
  stuck-inputs-short =
      let a = pair_written f.first in
      let b = pair_written f.second in
      let c = pair_written f.third in
      omega (
        arith,
        line-long fault_word (a ++ (b ++ c)),
        numbers-long a (b ++ c),
        numbers-long b c,
        pair-short f.first (omega (arith, r.first-high)),
        pair-short f.second (above_low f.first.line f.second r.second),
        pair-short f.third (above_low f.second.line f.third r.third),
      )

  stuck-inputs-told : Told 18 (fault_refusal top) fault_of (stuck_line f) f
  stuck-inputs-told =
      let t = stuck-told top f (omega arith) r in
      record { word = t.word; numbers = t.numbers; is = t.is; one_line = t.one_line; passes = t.passes; says = t.says; short = omega (arith, ap length t.is, stuck-inputs-short) }

pub input-fault-told : (top : ℕ) (f : Fault) → top ≤ 8 → FaultRight top top f → Told 18 (fault_line_refusal top top) fault_line_of (fault_line f) f
input-fault-told top f most = fault-told 18 top top f (omega arith) (omega arith) (stuck-inputs-told top f most)
