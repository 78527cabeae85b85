-- What acceptance of a table means:
--   table-right                      an accepted table has 2^N marks of 0, 1 and 2, is within the ranges, and its faults name inputs
--   TableRead, table-read-through    how an accepted text is read: its first line, its marks, its fault lines
--   table-body-well-formed    so is the table that the lines after a right first line give
--   table-head-fits, marks-fit, marks-below    what the tests of the first two lines show
use mathlib.Core.Path.{◌≡◌, refl, sym, ap, ◌∙◌, subst}
use mathlib.Core.Bool.{Bool, true, false, cond, ◌&&◌, false≢true}
use mathlib.Core.List.{List, [], ◌∷◌}
use Prim.Native.Nat.{ℕ, zero, suc, ◌+◌, ◌<◌, ◌^◌}
use native.Mathlib.Omega.{arith}
use lib.Dec.{eqb, lit≤}
use lib.ListN.{length, length-map}
use borrow.Author.Tests.{eqb-true, lt-ltb}
use Rattle.text.specs.Text.{before, after, has_byte, line_end}
use Rattle.integer.specs.ListTests.{Below}
use Rattle.integer.proofs.Bools.{both}
use Rattle.statements.specs.Items.{sound}
use Rattle.statements.specs.Lines.{fault_line_of}
use Rattle.statements.specs.Items.{Fault}
use Rattle.fields.specs.Fields.{fits}
use Rattle.fields.proofs.Chains.{unless-passed}
use Rattle.fields.proofs.PlainLines.{fits-range}
use Rattle.sections.specs.Sections.{Read, items, line_refused, line_refusal}
use Rattle.sections.specs.FaultLines.{nth_fault_refusal}
use Rattle.sections.proofs.BridgesWritten.{fault-right}
use Rattle.sections.proofs.LinesDue.{line-answered, text-answered}
use Rattle.sections.proofs.LinesRead.{lines-said}
use Rattle.tables.specs.TableLines.{is_table_head, table_head_fits, table_head_refusal, table_head_of, one_mark, free_mark, doubled_mark, all_marks, mark_refusal, marks_of}
use Rattle.tables.specs.TableHeads.{TableHeadRight}
use Rattle.tables.specs.TableParsing.{TableParse, accepted_table, rejected_table, table_faults_in, on_faults, table_end, table_body, table_of}
use Rattle.tables.specs.TableWellFormed.{TableRight}
use Rattle.tables.specs.Tables.{TruthTable}
use Rattle.tables.specs.declared.TableHead.{TableHead}

-- one line

pub table-head-fits : (l : List ℕ) → table_head_refusal l ≡ 0 → TableHeadRight (table_head_of l)
unfolding table_head_refusal table_head_fits table_head_of
table-head-fits l e =
    let a = both (fits l 1 1 8 && fits l 2 1 32) (fits l 3 1 4) (unless-passed (table_head_fits l) 3 0 (lit≤ tt) (unless-passed (is_table_head l) 2 _ (lit≤ tt) e).1).0 in
    let b = both (fits l 1 1 8) (fits l 2 1 32) a.0 in
    let n = fits-range l 1 1 8 b.0 in
    let q = fits-range l 2 1 32 b.1 in
    let k = fits-range l 3 1 4 a.1 in
    record { inputs-low = n.0; inputs-high = n.1; faults-low = q.0; faults-high = q.1; cap-low = k.0; cap-high = k.1 }

-- a line of marks that is not refused has 2^N of them, and nothing else
pub marks-fit : (inputs : ℕ) (l : List ℕ) → mark_refusal inputs l ≡ 0 → (length l ≡ 2 ^ inputs) × (all_marks l ≡ true)
unfolding mark_refusal
marks-fit inputs l e =
    let long = unless-passed (eqb (length l) (2 ^ inputs)) 2 _ (lit≤ tt) e in
    (eqb-true (length l) (2 ^ inputs) long.0, (unless-passed (all_marks l) 15 0 (lit≤ tt) long.1).0)

doubled-below : (b : ℕ) → doubled_mark b < 3
unfolding doubled_mark
doubled-below b = go (eqb b one_mark) (eqb b free_mark)
  where
    go : (one free : Bool) → cond one 2 (cond free 1 0) < 3
    go true free = omega arith
    go false true = omega arith
    go false false = omega arith

pub marks-below : (l : List ℕ) → Below 3 (marks_of l)
unfolding marks_of
marks-below [] i h = absurd (omega arith)
marks-below (b ∷ l) zero h = doubled-below b
marks-below (b ∷ l) (suc i) h = marks-below l i (omega arith)

pub marks-length : (l : List ℕ) → length (marks_of l) ≡ length l
unfolding marks_of
marks-length l = length-map l doubled_mark

-- the whole text

abbrev is_taken : TableParse → Bool
is_taken (accepted_table t) = true
is_taken (rejected_table number place) = false

abbrev table_in : TruthTable → TableParse → TruthTable
table_in d (accepted_table t) = t
table_in d (rejected_table number place) = d

-- a rejection is no acceptance
pub table-never : {X : Type 0} (number place : ℕ) (t : TruthTable) → rejected_table number place ≡ accepted_table t → X
table-never number place t e = absurd (false≢true (ap is_taken e))

-- the lines after an accepted text's first are read: the marks, then the fault lines, and nothing is left
pub record TableRead (h : TableHead) (rest : List ℕ) (t : TruthTable) : Type 0 where
  pub marks-pass : line_refusal (mark_refusal h.inputs) rest ≡ 0
  pub marks-read : t.marks ≡ marks_of (before line_end rest)
  pub faults-read : table_faults_in h (after line_end rest) ≡ items t.faults []
  pub inputs_are : t.inputs ≡ h.inputs
  pub cap-is : t.cap ≡ h.cap

table-body-read : (h : TableHead) (rest : List ℕ) (t : TruthTable) → table_body h rest ≡ accepted_table t → TableRead h rest t
unfolding table_body table_end
table-body-read h rest t =
    line-answered (λ r. r ≡ accepted_table t → TableRead h rest t) number (λ z. from-faults z (table_faults_in h (after line_end rest)) refl) (λ s. table-never number 2 t)
  where
    number : ℕ
    number = line_refusal (mark_refusal h.inputs) rest

    marks : List ℕ
    marks = marks_of (before line_end rest)

    from_end : number ≡ 0 → (faults : List Fault) (end : List ℕ) → table_faults_in h (after line_end rest) ≡ items faults end → table_end h marks faults end ≡ accepted_table t → TableRead h rest t
    from_end z faults [] y e =
        let s : TruthTable = record { inputs = h.inputs; marks = marks; faults = faults; cap = h.cap } in
        subst (TableRead h rest) (ap (table_in s) e) record { marks-pass = z; marks-read = refl; faults-read = y; inputs_are = refl; cap-is = refl }
    from_end z faults (u ∷ end) y e = table-never 7 (h.faults + 3) t (sym (rw (lt-ltb 0 (length (u ∷ end)) (omega arith))) ∙ e)

    from-faults : number ≡ 0 → (r : Read Fault) → table_faults_in h (after line_end rest) ≡ r → on_faults r (table_end h marks) ≡ accepted_table t → TableRead h rest t
    from-faults z (items faults end) y e = from_end z faults end y e
    from-faults z (line_refused number place) y e = table-never number place t e

table-body-right : (h : TableHead) → TableHeadRight h → (rest : List ℕ) (t : TruthTable) → TableRead h rest t → TableRight t
unfolding table_faults_in
table-body-right h right rest t b =
    let m = marks-fit h.inputs (before line_end rest) (unless-passed (has_byte line_end rest) 2 _ (lit≤ tt) b.marks-pass).1 in
    let f = lines-said (nth_fault_refusal h.inputs h.inputs) fault_line_of sound h.faults 3 (after line_end rest) [] t.faults [] (λ j k. absurd (omega arith)) b.faults-read in
    record {
      inputs-low = omega (arith, right.inputs-low, b.inputs_are);
      inputs-high = omega (arith, right.inputs-high, b.inputs_are);
      marks-all = ap length b.marks-read ∙ marks-length (before line_end rest) ∙ m.0 ∙ ap (λ (n : ℕ). 2 ^ n) (sym b.inputs_are);
      marks-doubled = rw b.marks-read (marks-below (before line_end rest));
      faults-low = omega (arith, right.faults-low, f.1);
      faults-high = omega (arith, right.faults-high, f.1);
      cap-low = omega (arith, right.cap-low, b.cap-is);
      cap-high = omega (arith, right.cap-high, b.cap-is);
      faults-right = λ j k. let s = f.0 j k in rw (b.inputs_are, s.is) (fault-right h.inputs h.inputs s.line s.passes);
    }

-- what holds of the table that the lines after a right first line give
pub table-body-well-formed : (h : TableHead) → TableHeadRight h → (rest : List ℕ) (t : TruthTable) → accepted_table t ≡ table_body h rest → TableRight t
table-body-well-formed h right rest t e = table-body-right h right rest t (table-body-read h rest t (sym e))

-- the first line passes, and the lines after it are read
pub table-read-through : (text : List ℕ) (t : TruthTable) → table_of text ≡ accepted_table t
    → (line_refusal table_head_refusal text ≡ 0) × TableRead (table_head_of (before line_end text)) (after line_end text) t
unfolding table_of
table-read-through text t =
    text-answered (λ r. r ≡ accepted_table t → (number ≡ 0) × TableRead head (after line_end text) t) number text (λ b. table-never 1 0 t)
    (λ few z q. (z, table-body-read head (after line_end text) t q)) (λ few s. table-never number 1 t)
  where
    head : TableHead
    head = table_head_of (before line_end text)

    number : ℕ
    number = line_refusal table_head_refusal text

pub table-right : (text : List ℕ) (t : TruthTable) → table_of text ≡ accepted_table t → TableRight t
table-right text t e =
    let r = table-read-through text t e in
    table-body-right (table_head_of (before line_end text)) (table-head-fits (before line_end text) (unless-passed (has_byte line_end text) 2 _ (lit≤ tt) r.0).1) (after line_end text) t r.1
