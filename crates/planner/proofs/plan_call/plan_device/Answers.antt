use Rattle.std.proofs.Common.{rules, ◌∙◌, ◌^◌, ◌≤◌, ℕ, arith, ap}
use Rattle.cover.specs.Order.{labels_below}
use Rattle.devices.specs.Forms.{problem_of}
use Rattle.planner.proofs.PlanLaws.{front-labels, front-used}
use Rattle.planner.proofs.plan_call.plan_device.Goals as goal

pub plan_by-requires-clause-labels_value : goal.plan_by-requires-clause-labels_value
plan_by-requires-clause-labels_value c =
    let few : c.inputs-due.result ≤ 8 = omega (arith, c.inputs-due.ensures.value, c.inputs-due.ensures.proper.inputs-high) in
    front-labels c.inputs-due.result few c.labels_below-labels.result c.labels_below-labels.ensures ∙ ap (λ (n : ℕ). labels_below (2 ^ n)) c.inputs-due.ensures.value

pub returns-clause-work_kept : goal.returns-clause-work_kept
returns-clause-work_kept c =
    let few : c.inputs-due.result ≤ 8 = omega (arith, c.inputs-due.ensures.value, c.inputs-due.ensures.proper.inputs-high) in
    front-used c.inputs-due.result few (problem_of c.args.d.now) c.plan_by.new.masks c.args.work.now (search rules)
