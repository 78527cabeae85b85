-- The report:
--   report-fits        the report on any text has at most 715 bytes
--   report-front       it stands at the front of the lent bytes, as many as the call counts
--   plan-lines-length, labels-room, faults-room, plan-written    all lines of a plan, and writing them one part after the other
--   verdict-fitting    the numbers of a verdict are small, and its labels are at most 4 labels below 2^N
--   text-refuses, text-unplanned, text-planned    the lines of a text, by what it describes and what is planned
--   short-out, short-work, report-served    the call, by the lent buffers
use mathlib.Core.Path.{◌≡◌, refl, sym, ap, ap₂, ◌∙◌, subst}
use mathlib.Core.Bool.{Bool, true, false, cond, or-true}
use mathlib.Core.List.{List, ◌++◌, append_assoc}
use mathlib.Core.Option.{Option, none, some}
use Prim.Native.Nat.{ℕ, suc, ◌+◌, ◌*◌, ◌^◌, ◌<◌, ◌≤◌}
use native.Mathlib.Omega.{arith}
use lib.Dec.{ltb, lit≤}
use lib.ListN.{length, take, drop, get_or, length-append}
use lib.Seq.{take-append_seam}
use borrow.Author.Tests.{lt-ltb, le-ltb, ltb-true}
use Rattle.integer.specs.ListTests.{Below}
use Rattle.integer.proofs.Entries.{at_mem}
use Rattle.cover.specs.Cover.{signature_of}
use Rattle.cover.proofs.Signatures.{signature-found}
use Rattle.devices.specs.Describing.{Description, described, refused_at, description_of, on_description}
use Rattle.devices.specs.Problems.{Problem, Proper}
use Rattle.devices.proofs.Descriptions.{described-proper, refusal-small}
use Rattle.std.specs.Prelude.{Result, Ok, Err}
use Rattle.std.specs.Result.{result_unwrap_or}
use Rattle.refusals.specs.Refusals.{refusal_number, refusal_place}
use Rattle.refusals.specs.declared.Refusal.{Refusal}
use Rattle.sections.proofs.LineLoops.{refusal-numbered}
use Rattle.search.specs.Sets.{four_of}
use Rattle.search.specs.declared.LabelSet.{LabelSet}
use Rattle.writing.specs.Writing.{placed, gather}
use Rattle.writing.proofs.Writings.{length-placed, placed-more, placed-front, gather-length}
use Rattle.planner.specs.PlanCall.{Verdict, refused, planned, searched, silent_first, hidden_first, unless_fault, verdict_of, working_numbers, plan_verdict, Planned, plan_numbers, planned_as, WorkKept}
use Rattle.search.proofs.SetsBySize.{kept-four}
use Rattle.planner.proofs.PlanLaws.{kept}
use Rattle.report_lines.specs.ReportLines.{plan_line, refused_line, label_line, fault_report_line, plan_lines, report_bytes}
use Rattle.report_lines.proofs.ReportLines.{refused-length, plan-length, label-line-length, fault-line-length}
use Rattle.report.specs.ReportCall.{verdict_lines, problem_report, report_of, short, Reported, report_answer, report_left, report_verdict, reported_as}

module _ (p : Problem) (right : Proper p) (labels : List ℕ) (low : Below (2 ^ p.inputs) labels) where
  label-part : length (gather (label_line p.sound labels) (length labels)) ≤ length labels * 17
  label-part = gather-length 17 (label_line p.sound labels) (length labels) (label-line-length p right labels low)

  fault-part : length (gather (fault_report_line p.sound p.faulted labels) (length p.faulted)) ≤ length p.faulted * 20
  fault-part =
      gather-length 20 (fault_report_line p.sound p.faulted labels) (length p.faulted) (fault-line-length p right labels low)

  module _ (small : length labels ≤ 4) where
    abbrev A : List ℕ
    A = plan_line (length labels)

    abbrev B : List ℕ
    B = gather (label_line p.sound labels) (length labels)

    abbrev C : List ℕ
    C = gather (fault_report_line p.sound p.faulted labels) (length p.faulted)

    long : length (plan_lines p.sound p.faulted labels) ≡ length A + length B + length C
    unfolding plan_lines
    long = omega (arith, length-append A (B ++ C), length-append B C)

    pub plan-lines-length : length (plan_lines p.sound p.faulted labels) ≤ 715
    plan-lines-length =
        let a = plan-length (length labels) (omega (arith, small)) in
        omega (arith, long, a, label-part, fault-part, small, right.faults-high)

    -- written one after the other
    module _ (out : List ℕ) (wide : report_bytes ≤ length out) {at : ℕ} {one : List ℕ} (first : (at ≡ 0 + length A) × (one ≡ placed 0 A out)) where
      head : length A ≤ 7
      head = plan-length (length labels) (omega (arith, small))

      pub labels-room : at + 17 * length labels ≤ length one
      labels-room =
          let k = ap length first.1 ∙ length-placed 0 A out (omega (arith, head, wide)) in
          omega (arith, head, k, first.0, small, wide)

      module _ {labels-end : ℕ} {two : List ℕ} (second : (labels-end ≡ at + length B) × (two ≡ placed at B one)) where
        pair : two ≡ placed 0 (A ++ B) out
        pair = second.1 ∙ placed-more 0 A B out one at first.1 first.0 (omega (arith, head, label-part, small, wide))

        pair_end : labels-end ≡ 0 + length (A ++ B)
        pair_end = omega (arith, first.0, second.0, length-append A B)

        pair-length : length (A ++ B) ≤ 75
        pair-length = omega (arith, head, label-part, small, length-append A B)

        pub faults-room : labels-end + 640 ≤ length two
        faults-room =
            let k = ap length pair ∙ length-placed 0 (A ++ B) out (omega (arith, pair-length, wide)) in
            omega (arith, pair-length, pair_end, k, wide)

        pub plan-written : {end : ℕ} {three : List ℕ} → (end ≡ labels-end + length C) × (three ≡ placed labels-end C two)
            → (end ≡ length (plan_lines p.sound p.faulted labels)) × (three ≡ placed 0 (plan_lines p.sound p.faulted labels) out)
        unfolding plan_lines
        plan-written third = (
          omega (arith, third.0, pair_end, length-append A B, long),
          third.1
              ∙ placed-more 0 (A ++ B) C out _ _ pair pair_end (omega (arith, pair-length, fault-part, right.faults-high, wide))
              ∙ ap (λ (l : List ℕ). placed 0 l out) (append_assoc A B C),
        )

-- ---- verdicts

-- a verdict's numbers are small, and its labels below 2^N
abbrev pub LinesFit : Problem → Verdict → Type 0
LinesFit p (refused number place) = (1 ≤ number) × (number < 100) × (place < 1000)
LinesFit p (planned labels) = Below (2 ^ p.inputs) labels × (length labels ≤ 4)

searched-fitting : (p : Problem) → Proper p → (o : Option (List ℕ)) → signature_of p.sound p.faulted p.cap ≡ o → LinesFit p (searched o)
searched-fitting p right none e = (lit≤ tt, lit≤ tt, lit≤ tt)
searched-fitting p right (some labels) e =
    let r = signature-found p.sound p.faulted p.cap labels e in (
      λ i h. subst (λ (k : ℕ). get_or labels i 0 < k) (right.rows_all 0 (omega arith)) (r.0.labels (get_or labels i 0) (at_mem labels i h)),
      omega (arith, r.2, right.cap-high),
    )

pub verdict-fitting : (p : Problem) → Proper p → LinesFit p (verdict_of p)
unfolding verdict_of
verdict-fitting p right =
    fault-fitting 13 (silent_first p) _ (lit≤ tt) (lit≤ tt)
    (fault-fitting 16 (hidden_first p) _ (lit≤ tt) (lit≤ tt) (searched-fitting p right (signature_of p.sound p.faulted p.cap) refl))
  where
    fault-fitting : (number first : ℕ) (next : Verdict) → 1 ≤ number → number < 100 → LinesFit p next → LinesFit p (unless_fault number first (length p.faulted) next)
    fault-fitting number first next low high fit = go (ltb first (length p.faulted)) refl
      where
        go : (t : Bool) → ltb first (length p.faulted) ≡ t → LinesFit p (cond t (refused number (suc first)) next)
        go true e = (low, high, omega (arith, ltb-true first (length p.faulted) e, right.faults-high))
        go false e = fit

verdict-length : (p : Problem) (right : Proper p) (v : Verdict) → LinesFit p v → length (verdict_lines p v) ≤ 715
verdict-length p right (refused number place) f = let l = refused-length number place f.1 f.2 in omega (arith, l)
verdict-length p right (planned labels) f = plan-lines-length p right labels f.0 f.1

-- the lines of what is planned, by what the code answers
module _ (q : Problem) where
  refused-by : (r : Refusal) (v : Verdict) → LinesFit q v → planned_as (Err r) ≡ plan_numbers v → (refusal_place r < 1000) × (refused_line (refusal_number r) (refusal_place r) ≡ verdict_lines q v)
  refused-by r (refused number place) f e =
      let n : refusal_number r ≡ number = ap (λ (x : Planned). x.number) e in
      let p : refusal_place r ≡ place = ap (λ (x : Planned). x.place) e in
      (subst (λ (k : ℕ). k < 1000) (sym p) f.2, ap₂ refused_line n p)
  refused-by r (planned labels) f e = absurd (refusal-numbered r (ap (λ (x : Planned). x.number) e))

  planned-by : (s : LabelSet) (v : Verdict) → LinesFit q v → planned_as (Ok s) ≡ plan_numbers v
      → (length s ≤ 4) × Below (2 ^ q.inputs) s × (plan_lines q.sound q.faulted s ≡ verdict_lines q v)
  planned-by s (refused number place) f e = let k = ap (λ (x : Planned). x.number) e in absurd (omega (arith, f.0, k))
  planned-by s (planned labels) f e =
      let n : length s ≡ length labels = ap (λ (x : Planned). x.size) e in
      let l : four_of s ≡ four_of labels = ap (λ (x : Planned). x.labels) e in
      let same : s ≡ labels = sym (kept-four s (omega (arith, n, f.1))) ∙ ap₂ take n l ∙ kept-four labels f.1 in
      rw same (f.1, f.0, refl)

-- every report fits
pub report-fits : (text : List ℕ) → length (report_of text) ≤ 715
unfolding report_of
report-fits text = go (description_of text) refl
  where
    go : (d : Description) → description_of text ≡ d → length (on_description problem_report refused_line d) ≤ 715
    go (described p) e = let w = described-proper text p e in verdict-length p w (verdict_of p) (verdict-fitting p w)
    go (refused_at number place) e =
        let s = refusal-small text number place e in
        let l = refused-length number place s.1 s.2 in
        omega (arith, l)

-- ---- the call

-- by what was described
module _ (text : List ℕ) where
  pub text-refuses : (r : Refusal) → refused_at (refusal_number r) (refusal_place r) ≡ description_of text
      → (refusal_place r < 1000) × (refused_line (refusal_number r) (refusal_place r) ≡ report_of text)
  unfolding report_of
  text-refuses r e = ((refusal-small text _ _ (sym e)).2, ap (on_description problem_report refused_line) e)

  text-serves : (p : Problem) → described p ≡ description_of text → verdict_lines p (verdict_of p) ≡ report_of text
  unfolding report_of
  text-serves p e = ap (on_description problem_report refused_line) e

-- what is planned, by what the code answers
module _ (text : List ℕ) (p : Problem) (is : described p ≡ description_of text) where
  fits : LinesFit p (verdict_of p)
  fits = verdict-fitting p (described-proper text p (sym is))

  pub text-unplanned : (r : Refusal) → planned_as (Err r) ≡ plan_numbers (verdict_of p) → (refusal_place r < 1000) × (refused_line (refusal_number r) (refusal_place r) ≡ report_of text)
  text-unplanned r e = let b = refused-by p r (verdict_of p) fits e in (b.0, b.1 ∙ text-serves text p is)

  pub text-planned : (s : LabelSet) → planned_as (Ok s) ≡ plan_numbers (verdict_of p)
      → (length s ≤ 4) × Below (2 ^ p.inputs) s × (plan_lines p.sound p.faulted s ≡ report_of text)
  text-planned s e = let b = planned-by p s (verdict_of p) fits e in (b.0, b.1, b.2 ∙ text-serves text p is)

-- by the lent buffers
module _ (text out work : List ℕ) where
  -- number 8, and both buffers untouched
  abbrev pub Short : Type 0
  Short =
      (record { number = 8; bytes = 0 } ≡ report_answer text (length out) (length work))
      × ((out ≡ report_left text (length work) out) × WorkKept (report_verdict text (length out) (length work)) work work)

  too_short : short (length out) (length work) ≡ true → Short
  unfolding report_answer report_left
  too_short e = (rw e, (rw e, kept (report_verdict text (length out) (length work)) work))

  pub short-out : length out < report_bytes → Short
  unfolding short
  short-out h = too_short (rw (lt-ltb (length out) report_bytes h))

  pub short-work : length work < working_numbers → Short
  unfolding short
  short-work h = too_short (rw (lt-ltb (length work) working_numbers h) (or-true (ltb (length out) report_bytes)))

  pub report-served : report_bytes ≤ length out → working_numbers ≤ length work → {end : ℕ} {now after : List ℕ}
      → (end ≡ length (report_of text)) × ((now ≡ placed 0 (report_of text) out) × WorkKept (plan_verdict text (length work)) work after)
      → (record { number = 0; bytes = end } ≡ report_answer text (length out) (length work))
      × ((now ≡ report_left text (length work) out) × WorkKept (report_verdict text (length out) (length work)) work after)
  unfolding short report_answer report_left report_verdict
  report-served h k r =
      rw (le-ltb (length out) report_bytes h, le-ltb (length work) working_numbers k)
      (ap (λ (n : ℕ). record { number = 0; bytes = n }) r.0, (r.1.0 ∙ placed-front (report_of text) out, r.1.1))

-- the report stands at the front of the lent bytes, as many as the call counts
pub report-front : (r : Result ℕ Refusal) (text out now : List ℕ) (work : ℕ) → report_bytes ≤ length out → working_numbers ≤ work
    → reported_as r ≡ report_answer text (length out) work → now ≡ report_left text work out
    → ((result_unwrap_or r 0 ≤ length now) × (result_unwrap_or r 0 ≡ length (take (result_unwrap_or r 0) now))) × (take (result_unwrap_or r 0) now ≡ report_of text)
unfolding report_answer report_left short
report-front r text out now work b w is left = go r is
  where
    now-is : now ≡ report_of text ++ drop (length (report_of text)) out
    now-is = left ∙ rw (le-ltb (length out) report_bytes b, le-ltb work working_numbers w)

    served : (a : Reported) → a ≡ report_answer text (length out) work → a ≡ record { number = 0; bytes = length (report_of text) }
    served a e = e ∙ rw (le-ltb (length out) report_bytes b, le-ltb work working_numbers w)

    front : (bytes : ℕ) → bytes ≡ length (report_of text) → ((bytes ≤ length now) × (bytes ≡ length (take bytes now))) × (take bytes now ≡ report_of text)
    front bytes e =
        let same : take bytes now ≡ report_of text = ap₂ take e now-is ∙ take-append_seam (report_of text) (drop (length (report_of text)) out) in
        ((omega (arith, e, ap length now-is, length-append (report_of text) (drop (length (report_of text)) out)), e ∙ sym (ap length same)), same)

    go : (r : Result ℕ Refusal) → reported_as r ≡ report_answer text (length out) work
        → ((result_unwrap_or r 0 ≤ length now) × (result_unwrap_or r 0 ≡ length (take (result_unwrap_or r 0) now))) × (take (result_unwrap_or r 0) now ≡ report_of text)
    go (Ok bytes) e = front bytes (ap (λ (a : Reported). a.bytes) (served (reported_as (Ok bytes)) e))
    go (Err f) e = absurd (refusal-numbered f (ap (λ (a : Reported). a.number) (served (reported_as (Err f)) e)))
