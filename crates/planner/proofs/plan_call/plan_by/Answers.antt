-- With every fault marked, what the search by masks finds is the signature.
use Rattle.std.proofs.Common.{refl, ap}
use Rattle.devices.specs.Forms.{problem_of}
use Rattle.planner.specs.PlanCall.{plan_numbers}
use Rattle.planner.proofs.PlanLaws.{all-marked, may-find, verdict-silent, verdict-hidden, verdict-chosen}
use Rattle.planner.proofs.plan_call.plan_by.Goals as goal
use Rattle.planner.proofs.plan_call.plan_by.Goals.{in-Some-silent_from, in-None}

pub returns-in-Some : goal.returns-in-Some
returns-in-Some c =
    let d = problem_of c.args.d.now in
    let u = c.in-Some.ensures.unchanged in
    elim c.match-silent_from.branch [
      | in-Some-silent_from w ↦ rw w.result-is (ap plan_numbers (verdict-silent d w.in-Some-silent_from.silent w.in-Some-silent_from.ensures.0 w.in-Some-silent_from.ensures.1))
      | in-None w ↦ rw w.result-is (ap plan_numbers (verdict-hidden d c.in-Some.unchanged u.0 u.1 w.in-None.ensures))
    ]

pub find-requires : goal.find-requires
find-requires c =
    let e = c.in_default.ensures in
    rw c.cap.ensures (may-find (all-marked c.requires.proper c.faults.ensures c.requires.labels_value e.unchanged (e.marked refl)))

pub returns : goal.returns
returns c =
    let e = c.in_default.ensures in
    rw c.ok_or.ensures.value
    (verdict-chosen (all-marked c.requires.proper c.faults.ensures c.requires.labels_value e.unchanged (e.marked refl)) c.find.result (rw c.cap.ensures at c.find.ensures))
