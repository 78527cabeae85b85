use Rattle.std.proofs.Common.{◌<◌, arith, sym, length, ◌∙◌}
use Rattle.devices.specs.Forms.{problem_of}
use Rattle.planner.proofs.PlanLaws.{compared-from, compared-silent, compared-one-more, compared_all}
use Rattle.planner.proofs.plan_call.silent_from.Goals as goal

pub loop-f-init : goal.loop-f-init
loop-f-init c = compared-from (problem_of c.args.d.now) c.requires.first.2 c.args.from c.outputs.ensures c.requires.first.0 c.requires.first.1

pub returns-then-unchanged : goal.returns-then-unchanged
returns-then-unchanged c =
    let low : c.loop-f.f < length (problem_of c.args.d.now).faulted = omega (arith, c.faults-f-end.ensures) in
    (compared-silent c.loop-f.invariant c.outputs-in-loop-f.ensures low (sym c.unchanged.ensures ∙ c.if-unchanged.true), low)

pub loop-f-preserved : goal.loop-f-preserved
loop-f-preserved c = compared-one-more c.loop-f.invariant c.outputs-in-loop-f.ensures (sym c.unchanged.ensures ∙ c.if-unchanged.false)

pub returns : goal.returns
returns c = compared_all (problem_of c.args.d.now) c.loop-f.f (omega (arith, c.faults-f-end.ensures)) c.loop-f.invariant
