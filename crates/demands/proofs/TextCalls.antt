-- The calls on a text refuse by the paper's tests, in their order:
--   circuit-tested, plan-tested, report-tested, reading-tested, pair-tested    each call
--   plan-writing, report-writing, report-working                               what the plan and the report leave in what they were lent
--   plan-zero, report-zero, reading-zero, pair-zero                            what is returned with a refusal
--   tables-unread, tables-unpaired                                             a table is never read: 1 where it is too long, else 2 at line 1
use mathlib.Core.Path.{◌≡◌, refl, sym, ap, ◌∙◌, subst}
use mathlib.Core.Bool.{Bool, true, false, cond, ◌&&◌, ◌||◌, or-true}
use mathlib.Core.List.{List, [], ◌∷◌}
use mathlib.Core.Logic.{◌⊎◌, inl, inr}
use Prim.Native.Nat.{ℕ, ◌^◌, ◌<◌, ◌≤◌}
use native.Mathlib.Omega.{arith}
use lib.Bits.{bit_and}
use lib.Count.{ones}
use lib.Dec.{eqb, ltb, leb}
use lib.Ieee.{Float}
use lib.ListN.{length}
use borrow.Author.Tests.{eqb-true, ltb-true, ltb-false, leb-true, lt-ltb, le-ltb, le-leb, eq-eqb, ne_eqb}
use Rattle.integer.proofs.Bools.{both, clash}
use Rattle.screen.specs.Answers.{Done, Refused, answer_number, answer_place, refuse_if}
use Rattle.netlist.specs.Circuits.{Netlist}
use Rattle.netlist.specs.Parsing.{Parse, accepted, rejected, parse_of, on_parse}
use Rattle.netlist.proofs.Assembling.{too_long}
use Rattle.text.specs.Text.{text_bytes}
use Rattle.tables.specs.TableLines.{is_table}
use Rattle.devices.proofs.TextKinds.{table-unparsed}
use Rattle.devices.specs.Describing.{Description, described, refused_at, description_of, on_description}
use Rattle.devices.specs.Problems.{Problem}
use Rattle.circuit.specs.CircuitCall.{room_answer, fault_answer, circuit_answer}
use Rattle.planner.specs.PlanCall.{Verdict, refused, planned, verdict_of, working_numbers, problem_verdict, plan_verdict, plan_numbers, plan_answer, verdict_number, may_use, WorkKept, Planned}
use Rattle.planner.specs.Demand.{Named, Possible, FirstFault, Right}
use Rattle.planner.proofs.Demanded.{demand-three}
use Rattle.report_lines.specs.ReportLines.{refused_line, report_bytes}
use Rattle.report.specs.ReportCall.{verdict_lines, problem_report, report_of, short, report_answer, report_left, report_verdict, Reported}
use Rattle.reading.specs.Readings.{ReadingAnswer, Syndrome, Weighted, Constrained, Unreadable as Unread, none, case_with, case_of, reading_number, reading_place, reading_of, fixed_of}
use Rattle.fixture.proofs.Exactly.{case-done}
use Rattle.fixture.specs.ReadingCall.{Compared, fixes_inputs, is_weighted, fault_mean, unless12, circuit_reading, reading_answer, unread, pair_numbers, names_fault, circuit_pair, pair_answer}
use Rattle.demands.specs.Tests.{NoRefusal, RefusedIf, by-this, by-later, AtNone, OnDevice, OnText}
use Rattle.demands.specs.Refusals.{CircuitTests, FaultTests, PlanTests, FixesInputs, ReadingTests, CircuitFault, PairTests}
use Rattle.demands.specs.DemandOne.{PlanWrites, ReportWrites}
use Rattle.demands.proofs.ListCalls.{refused-if}

-- ---- the circuit call

pub circuit-tested : (text : List ℕ) (fault room : ℕ) → OnDevice text (CircuitTests fault room) (answer_number (circuit_answer text fault room)) (answer_place (circuit_answer text fault room))
unfolding circuit_answer fault_answer room_answer
circuit-tested text fault room = go (description_of text) refl
  where
    go : (d : Description) → description_of text ≡ d
        → OnDevice text (CircuitTests fault room) (answer_number (on_description (fault_answer fault room) Refused d)) (answer_place (on_description (fault_answer fault room) Refused d))
    go (refused_at number place) e = inl e
    go (described n) e = inr (
      n,
      e,
      refused-if (ltb (length n.faulted) fault) (λ a. answer_number (refuse_if a 12 0 (room_answer n.inputs room))) (λ a. answer_place (refuse_if a 12 0 (room_answer n.inputs room)))
          (λ a. ((ltb-true (length n.faulted) fault a, refl), refl))
          (λ a. (
            λ p f. absurd (omega (arith, f.0, ltb-false (length n.faulted) fault a)),
            refused-if (ltb room (2 ^ n.inputs)) (λ b. answer_number (refuse_if b 8 0 Done)) (λ b. answer_place (refuse_if b 8 0 Done))
                (λ b. ((ltb-true room (2 ^ n.inputs) b, refl), refl))
                (λ b. (λ p f. absurd (omega (arith, f.0, ltb-false room (2 ^ n.inputs) b)), (refl, refl))),
          )),
    )

-- ---- the plan call

module _ (text : List ℕ) (work : ℕ) where
  abbrev plan : Planned
  plan = plan_answer text work

  plan-rejected : (number place : ℕ) → description_of text ≡ refused_at number place → plan ≡ plan_numbers (refused number place)
  unfolding plan_answer plan_verdict
  plan-rejected number place e = rw e

  plan-accepted : (n : Problem) → description_of text ≡ described n → plan ≡ plan_numbers (problem_verdict work n)
  unfolding plan_answer plan_verdict
  plan-accepted n e = rw e

  -- with enough working numbers, by demand 3
  plan-right : (n : Problem) → Right n plan → FaultTests n (RefusedIf 14 (AtNone (Possible n → ⊥)) NoRefusal) plan.number plan.place
  plan-right n r = go r.no_other
    where
      some : {Kind : ℕ → Type 0} (p : ℕ) → FirstFault n Kind p → (f : ℕ) × Named n f × Kind f
      some p s = (p, s.named, s.here)

      go : (plan.number ≡ 0) ⊎ ((plan.number ≡ 13) ⊎ ((plan.number ≡ 16) ⊎ (plan.number ≡ 14))) → FaultTests n (RefusedIf 14 (AtNone (Possible n → ⊥)) NoRefusal) plan.number plan.place
      go (inl z) =
          let none = r.plan-none-hidden z in
          by-later (λ p s. none.0 (some p s)) (by-later (λ p s. none.1 (some p s)) (by-later (λ p f. f.0 (r.planned-exactly.0 z)) (z, r.plan-place z)))
      go (inr (inl z)) = by-this (r.silent-first z) z
      go (inr (inr (inl z))) = by-later (λ p s. (r.hidden-exactly.0 z).0 (some p s)) (by-this (r.hidden-first z) z)
      go (inr (inr (inr z))) =
          let none = r.unplanned-exactly.0 z in
          by-later (λ p s. none.1 (some p s)) (by-later (λ p s. none.2 (some p s)) (by-this (none.0, r.unplanned-place z) z))

  pub plan-tested : OnDevice text (PlanTests work) plan.number plan.place
  plan-tested = go (description_of text) refl
    where
      go : (d : Description) → description_of text ≡ d → OnDevice text (PlanTests work) plan.number plan.place
      go (refused_at number place) e = subst (λ (a : Planned). OnDevice text (PlanTests work) a.number a.place) (sym (plan-rejected number place e)) (inl e)
      go (described n) e = inr (n, e, enough (ltb work working_numbers) refl)
        where
          enough : (t : Bool) → ltb work working_numbers ≡ t → PlanTests work n plan.number plan.place
          enough true t =
              let h = ltb-true work working_numbers t in
              let s : plan ≡ plan_numbers (refused 8 0) = plan-accepted n e ∙ ap (λ (b : Bool). plan_numbers (cond b (refused 8 0) (verdict_of n))) t in
              by-this (h, ap (λ (a : Planned). a.place) s) (ap (λ (a : Planned). a.number) s)
          enough false t =
              let h = ltb-false work working_numbers t in
              by-later (λ p f. absurd (omega (arith, f.0, h))) (plan-right n (demand-three text n work e h))

  pub plan-zero : (plan.number ≡ 0 → ⊥) → (plan.size ≡ 0) × (plan.labels ≡ 0 ∷ 0 ∷ 0 ∷ 0 ∷ [])
  unfolding plan_answer
  plan-zero = go (plan_verdict text work)
    where
      go : (v : Verdict) → ((plan_numbers v).number ≡ 0 → ⊥) → ((plan_numbers v).size ≡ 0) × ((plan_numbers v).labels ≡ 0 ∷ 0 ∷ 0 ∷ 0 ∷ [])
      go (refused number place) f = (refl, refl)
      go (planned labels) f = absurd (f refl)

-- ---- the working numbers

number_is : (v : Verdict) → (plan_numbers v).number ≡ verdict_number v
number_is (refused number place) = refl
number_is (planned labels) = refl

kept_by : (v : Verdict) → (verdict_number v ≡ 0 → ⊥) → (verdict_number v ≡ 13 → ⊥) → (verdict_number v ≡ 16 → ⊥) → (verdict_number v ≡ 14 → ⊥) → may_use v ≡ false
unfolding may_use
kept_by v a b c d = rw (ne_eqb (verdict_number v) 0 a, ne_eqb (verdict_number v) 13 b, ne_eqb (verdict_number v) 16 c, ne_eqb (verdict_number v) 14 d)

pub plan-writing : (text before after : List ℕ) → WorkKept (plan_verdict text (length before)) before after → PlanWrites text before after
unfolding plan_answer
plan-writing text before after k =
    let v = plan_verdict text (length before) in
    let n = number_is v in
    record { later = k.later-kept; refused = λ a b c d. k.all-kept (kept_by v (λ e. a (n ∙ e)) (λ e. b (n ∙ e)) (λ e. c (n ∙ e)) (λ e. d (n ∙ e))) }

-- ---- the report call

module _ (room work : ℕ) where
  short-there : short room work ≡ true → (room < report_bytes) ⊎ (work < working_numbers)
  unfolding short
  short-there t = go (ltb room report_bytes) refl t
    where
      go : (a : Bool) → ltb room report_bytes ≡ a → (a || ltb work working_numbers) ≡ true → (room < report_bytes) ⊎ (work < working_numbers)
      go true e t = inl (ltb-true room report_bytes e)
      go false e t = inr (ltb-true work working_numbers t)

  short_back : (room < report_bytes) ⊎ (work < working_numbers) → short room work ≡ true
  unfolding short
  short_back (inl h) = rw (lt-ltb room report_bytes h)
  short_back (inr h) = rw (lt-ltb work working_numbers h) (or-true (ltb room report_bytes))

module _ (text : List ℕ) where
  abbrev reported : Bool → Reported
  reported t = cond t (record { number = 8; bytes = 0 }) (record { number = 0; bytes = length (report_of text) })

  pub report-tested : (room work : ℕ) → RefusedIf 8 (AtNone ((room < report_bytes) ⊎ (work < working_numbers))) NoRefusal (report_answer text room work).number 0
  unfolding report_answer
  report-tested room work =
      refused-if (short room work) (λ t. (reported t).number) (λ t. 0)
      (λ t. ((short-there room work t, refl), refl))
      (λ t. (λ p f. clash (sym (short_back room work f.0) ∙ t), (refl, refl)))

  pub report-zero : (room work : ℕ) → ((report_answer text room work).number ≡ 0 → ⊥) → (report_answer text room work).bytes ≡ 0
  unfolding report_answer
  report-zero room work = go (short room work)
    where
      go : (t : Bool) → ((reported t).number ≡ 0 → ⊥) → (reported t).bytes ≡ 0
      go true f = refl
      go false f = absurd (f refl)

  pub report-writing : (out : List ℕ) (work : ℕ) → ReportWrites text out work
  unfolding report_left report_of
  report-writing out work = record { short = λ h. rw (short_back (length out) work h); refusal-line = λ h f. go h f (description_of text) refl }
    where
      go : working_numbers ≤ work → ((plan_answer text work).number ≡ 0 → ⊥) → (d : Description) → description_of text ≡ d
          → on_description problem_report refused_line d ≡ refused_line (plan_answer text work).number (plan_answer text work).place
      go h f (refused_at number place) e = sym (ap (λ (a : Planned). refused_line a.number a.place) (plan-rejected text work number place e))
      go h f (described n) e = line (verdict_of n) (plan-accepted text work n e ∙ ap (λ (b : Bool). plan_numbers (cond b (refused 8 0) (verdict_of n))) (le-ltb work working_numbers h))
        where
          line : (v : Verdict) → plan_answer text work ≡ plan_numbers v → verdict_lines n v ≡ refused_line (plan_answer text work).number (plan_answer text work).place
          line (refused number place) q = sym (ap (λ (a : Planned). refused_line a.number a.place) q)
          line (planned labels) q = absurd (f (ap (λ (a : Planned). a.number) q))

  pub report-working : (room : ℕ) (before after : List ℕ) → WorkKept (report_verdict text room (length before)) before after
      → ((report_answer text room (length before)).number ≡ 8 → after ≡ before) × PlanWrites text before after
  unfolding report_answer report_verdict
  report-working room before after = go (short room (length before))
    where
      eight : WorkKept (refused 8 0) before after → after ≡ before
      eight k = k.all-kept (kept_by (refused 8 0) (λ z. absurd (omega arith)) (λ z. absurd (omega arith)) (λ z. absurd (omega arith)) (λ z. absurd (omega arith)))

      go : (t : Bool) → WorkKept (cond t (refused 8 0) (plan_verdict text (length before))) before after → ((reported t).number ≡ 8 → after ≡ before) × PlanWrites text before after
      go true k = (λ e. eight k, record { later = k.later-kept; refused = λ a b c d. eight k })
      go false k = (λ e. absurd (omega arith), plan-writing text before after k)

-- ---- readings

module _ (n : Netlist) (mask values : ℕ) where
  fixes-there : fixes_inputs n.inputs mask values ≡ true → FixesInputs n mask values
  unfolding fixes_inputs
  fixes-there e =
      let p = both (ltb mask (2 ^ n.inputs)) (eqb (bit_and values mask) values) e in
      (ltb-true mask (2 ^ n.inputs) p.0, eqb-true (bit_and values mask) values p.1)

  fixes-back : FixesInputs n mask values → fixes_inputs n.inputs mask values ≡ true
  unfolding fixes_inputs
  fixes-back f = rw (lt-ltb mask (2 ^ n.inputs) f.0, eq-eqb (bit_and values mask) values f.1)

  names-there : (fault : ℕ) → names_fault (length n.faults) fault ≡ true → CircuitFault n fault
  unfolding names_fault
  names-there fault e =
      let p = both (ltb 0 fault) (leb fault (length n.faults)) e in
      (ltb-true 0 fault p.0, leb-true fault (length n.faults) p.1)

  names-back : (fault : ℕ) → CircuitFault n fault → names_fault (length n.faults) fault ≡ true
  unfolding names_fault
  names-back fault f = rw (lt-ltb 0 fault f.0, le-leb fault (length n.faults) f.1)

case-place : (weighted : Bool) (mask : ℕ) (x : Float) → reading_place (case_of weighted mask x) ≡ 0
unfolding case_of
case-place weighted mask x = go (eqb mask 0) weighted
  where
    go : (plain heavy : Bool) → reading_place (case_with plain heavy (ones mask) x) ≡ 0
    go false heavy = refl
    go true true = refl
    go true false = refl

module _ (text : List ℕ) (mask values : ℕ) where
  pub reading-tested : OnText text (ReadingTests mask values) (reading_number (reading_answer text mask values)) (reading_place (reading_answer text mask values))
  unfolding reading_answer
  reading-tested = go (parse_of text) refl
    where
      go : (p : Parse) → parse_of text ≡ p
          → OnText text (ReadingTests mask values) (reading_number (on_parse (circuit_reading mask values) Unread p)) (reading_place (on_parse (circuit_reading mask values) Unread p))
      go (rejected number place) e = inl e
      go (accepted n) e = inr (n, e, fits (fixes_inputs n.inputs mask values) refl)
        where
          r : ReadingAnswer
          r = case_of (is_weighted n) mask (fault_mean n 0 mask values)

          fits : (t : Bool) → fixes_inputs n.inputs mask values ≡ t → ReadingTests mask values n (reading_number (unless12 t r)) (reading_place (unless12 t r))
          fits true t =
              by-later (λ p f. f.0 (fixes-there n mask values t)) (case-done (is_weighted n) mask (fault_mean n 0 mask values), case-place (is_weighted n) mask (fault_mean n 0 mask values))
          fits false t = by-this ((λ f. clash (sym (fixes-back n mask values f) ∙ t)), refl) refl

  pub reading-zero : (reading_number (reading_answer text mask values) ≡ 0 → ⊥) → (reading_of (reading_answer text mask values) ≡ none) × (fixed_of (reading_answer text mask values) ≡ 0)
  reading-zero = go (reading_answer text mask values)
    where
      go : (r : ReadingAnswer) → (reading_number r ≡ 0 → ⊥) → (reading_of r ≡ none) × (fixed_of r ≡ 0)
      go (Syndrome x) f = absurd (f refl)
      go (Weighted x) f = absurd (f refl)
      go (Constrained x fixed) f = absurd (f refl)
      go (Unread number place) f = (refl, refl)

  module _ (fault : ℕ) where
    pub pair-tested : OnText text (PairTests fault mask values) (pair_answer text fault mask values).number (pair_answer text fault mask values).place
    unfolding pair_answer unread pair_numbers
    pair-tested = go (parse_of text) refl
      where
        go : (p : Parse) → parse_of text ≡ p
            → OnText text (PairTests fault mask values) (on_parse (circuit_pair fault mask values) unread p).number (on_parse (circuit_pair fault mask values) unread p).place
        go (rejected number place) e = inl e
        go (accepted n) e = inr (n, e, suits (fixes_inputs n.inputs mask values) refl (names_fault (length n.faults) fault) refl)
          where
            answer : Bool → Compared
            answer t = cond t (pair_numbers n fault mask values) (unread 12 0)

            suits : (a : Bool) → fixes_inputs n.inputs mask values ≡ a → (b : Bool) → names_fault (length n.faults) fault ≡ b
                → PairTests fault mask values n (answer (a && b)).number (answer (a && b)).place
            suits true s true t = by-later (λ p f. f.0 (fixes-there n mask values s, names-there n mask values fault t)) (refl, refl)
            suits true s false t = by-this ((λ f. clash (sym (names-back n mask values fault f.1) ∙ t)), refl) refl
            suits false s b t = by-this ((λ f. clash (sym (fixes-back n mask values f.0) ∙ s)), refl) refl

    pub pair-zero : ((pair_answer text fault mask values).number ≡ 0 → ⊥)
        → ((pair_answer text fault mask values).readings.sound ≡ none)
        × ((pair_answer text fault mask values).readings.faulty ≡ none)
        × ((pair_answer text fault mask values).readings.difference ≡ none)
    unfolding pair_answer unread pair_numbers
    pair-zero = go (parse_of text)
      where
        suits : (n : Netlist) (t : Bool) → ((cond t (pair_numbers n fault mask values) (unread 12 0)).number ≡ 0 → ⊥)
            → ((cond t (pair_numbers n fault mask values) (unread 12 0)).readings.sound ≡ none)
            × ((cond t (pair_numbers n fault mask values) (unread 12 0)).readings.faulty ≡ none)
            × ((cond t (pair_numbers n fault mask values) (unread 12 0)).readings.difference ≡ none)
        suits n true f = absurd (f refl)
        suits n false f = (refl, refl, refl)

        go : (p : Parse) → ((on_parse (circuit_pair fault mask values) unread p).number ≡ 0 → ⊥)
            → ((on_parse (circuit_pair fault mask values) unread p).readings.sound ≡ none)
            × ((on_parse (circuit_pair fault mask values) unread p).readings.faulty ≡ none)
            × ((on_parse (circuit_pair fault mask values) unread p).readings.difference ≡ none)
        go (rejected number place) f = (refl, refl, refl)
        go (accepted n) f = suits n (fixes_inputs n.inputs mask values && names_fault (length n.faults) fault) f

-- ---- readings of tables

module _ (text : List ℕ) (mask values : ℕ) (table : is_table text ≡ true) where
  -- how document 01's parser refuses it
  abbrev Unparsed : ℕ → ℕ → Type 0
  Unparsed = RefusedIf 1 (AtNone (text_bytes < length text)) (λ number place. (number ≡ 2) × (place ≡ 1))

  -- and no circuit is stated
  refuses : {A : Type 0} (found : Netlist → A) (refuse : ℕ → ℕ → A) (number place : A → ℕ) → ((a b : ℕ) → (number (refuse a b) ≡ a) × (place (refuse a b) ≡ b))
      → Unparsed (number (on_parse found refuse (parse_of text))) (place (on_parse found refuse (parse_of text)))
  refuses {A} found refuse number place is = go (ltb text_bytes (length text)) refl
    where
      by : {a b : ℕ} → Unparsed a b → parse_of text ≡ rejected a b → Unparsed (number (on_parse found refuse (parse_of text))) (place (on_parse found refuse (parse_of text)))
      by {a} {b} u e =
          let there = ap (on_parse found refuse) e in
          subst (λ (x : A). Unparsed (number x) (place x)) (sym there)
          (subst (λ (k : ℕ). Unparsed k (place (refuse a b))) (sym (is a b).0) (subst (Unparsed a) (sym (is a b).1) u))

      go : (t : Bool) → ltb text_bytes (length text) ≡ t → Unparsed (number (on_parse found refuse (parse_of text))) (place (on_parse found refuse (parse_of text)))
      go true t = let h = ltb-true text_bytes (length text) t in by (by-this (h, refl) refl) (too_long text h)
      go false t = let h = ltb-false text_bytes (length text) t in by (by-later (λ p f. absurd (omega (arith, f.0, h))) (refl, refl)) (table-unparsed text table h)

  pub tables-unread : Unparsed (reading_number (reading_answer text mask values)) (reading_place (reading_answer text mask values))
  unfolding reading_answer
  tables-unread = refuses (circuit_reading mask values) Unread reading_number reading_place (λ a b. (refl, refl))

  pub tables-unpaired : (fault : ℕ) → Unparsed (pair_answer text fault mask values).number (pair_answer text fault mask values).place
  unfolding pair_answer unread
  tables-unpaired fault = refuses (circuit_pair fault mask values) unread (λ r. r.number) (λ r. r.place) (λ a b. (refl, refl))
