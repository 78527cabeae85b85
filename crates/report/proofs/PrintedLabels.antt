-- The line of each fault in the report on a text with a plan:
--   printed-covers    its label is the plan's first whose coefficients, sound and faulted, differ
--   printed-line      it has the fault's number, that label and its faulted coefficient
use mathlib.Core.Path.{◌≡◌, refl, subst}
use mathlib.Core.Bool.{Bool, true, false}
use mathlib.Core.List.{List, [], ◌∷◌}
use Prim.Native.Nat.{ℕ, suc, ◌<◌}
use native.Mathlib.Omega.{arith}
use lib.Dec.{ltb}
use lib.IntN.{ℤ, pos}
use lib.ListN.{length, get_or}
use borrow.Author.Tests.{ltb-true, ltb-false}
use Rattle.cover.specs.Cover.{covers, fault_rows}
use Rattle.integer.specs.First.{first_where}
use Rattle.integer.proofs.Differing.{differ-ne, differ-eq}
use Rattle.integer.proofs.Entries.{at_mem, mem-at}
use Rattle.integer.proofs.Firsts.{first-before, first-at, first-all}
use Rattle.devices.specs.Describing.{described, description_of}
use Rattle.devices.specs.Problems.{Problem, rows_at, Proper}
use Rattle.devices.proofs.Descriptions.{described-proper}
use Rattle.planner.specs.PlanCall.{Verdict, planned, verdict_of, plan_numbers}
use Rattle.planner.specs.Demand.{Shows, Right}
use Rattle.planner.proofs.Demanded.{right-verdict}
use Rattle.search.proofs.SetsBySize.{kept-four}
use Rattle.report_lines.specs.ReportLines.{label_covers, covering_label, fault_report_line}
use Rattle.statements.specs.Lines.{fault_word}
use Rattle.transform.specs.Spectrum.{coefficient_of}
use Rattle.writing.specs.Writing.{line_of}
use Rattle.report.specs.Printed.{PrintedFor}

-- a plan's labels show every fault
plan-labels : (q : Problem) → Proper q → (labels : List ℕ) → verdict_of q ≡ planned labels → Shows q labels
plan-labels q w labels e =
    let r = subst (λ (v : Verdict). Right q (plan_numbers v)) e (right-verdict q w) in
    subst (Shows q) (kept-four labels (let k = r.plan-within refl in omega (arith, k, w.cap-high))) (r.plan-shows refl)

-- fault f, from 0
module _ (q : Problem) (labels : List ℕ) (f : ℕ) (h : f < length q.faulted) where
  abbrev F : List ℤ
  F = fault_rows q.faulted f

  abbrev p : ℕ → Bool
  p = label_covers q.sound F labels

  abbrev at : ℕ
  at = first_where p (length labels)

  equal-at : (i : ℕ) → p i ≡ false → coefficient_of q.sound (get_or labels i 0) ≡ coefficient_of (rows_at q (suc f)) (get_or labels i 0)
  unfolding label_covers covers
  equal-at i e = differ-eq (coefficient_of q.sound (get_or labels i 0)) (coefficient_of F (get_or labels i 0)) e

  some-covers : Shows q labels → at < length labels
  some-covers s = go (ltb at (length labels)) refl
    where
      go : (t : Bool) → ltb at (length labels) ≡ t → at < length labels
      go true e = ltb-true at (length labels) e
      go false e =
          let c = s.each (suc f) (omega arith, omega (arith, h)) in
          let i = mem-at c.0 labels c.1 in
          let same = equal-at i.0 (first-all p (length labels) (ltb-false at (length labels) e) i.0 i.1) in
          absurd (c.2 (subst (λ (l : ℕ). coefficient_of q.sound l ≡ coefficient_of (rows_at q (suc f)) l) i.2 same))

  first-covers : Shows q labels → PrintedFor q labels (suc f) (covering_label q.sound F labels)
  unfolding covering_label label_covers covers
  first-covers s =
      let low = some-covers s in
      record {
        listed = at_mem labels at low;
        shown = λ e. differ-ne (coefficient_of q.sound (get_or labels at 0)) (coefficient_of F (get_or labels at 0)) (first-at p (length labels) low) e;
        at = at;
        at_low = low;
        at_label = refl;
        first = λ i k. equal-at i (first-before p (length labels) i k);
      }

  pub printed-line : fault_report_line q.sound q.faulted labels f
      ≡ line_of fault_word (pos (suc f) ∷ pos (covering_label q.sound F labels) ∷ coefficient_of (rows_at q (suc f)) (covering_label q.sound F labels) ∷ [])
  unfolding fault_report_line
  printed-line = refl

pub printed-covers : (text : List ℕ) (q : Problem) (labels : List ℕ) → description_of text ≡ described q → verdict_of q ≡ planned labels
    → (f : ℕ) → f < length q.faulted → PrintedFor q labels (suc f) (covering_label q.sound (fault_rows q.faulted f) labels)
printed-covers text q labels accept plan f h = first-covers q labels f h (plan-labels q (described-proper text q accept) labels plan)
