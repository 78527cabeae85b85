use Rattle.std.proofs.Common.{◌≡◌, ◌∙◌, ◌<◌, arith, sym, length}
use Rattle.devices.specs.Forms.{problem_of}
use Rattle.planner.proofs.PlanLaws.{may-mark, marked-none, marked-unchanged, marked-one-more, marked_all}
use Rattle.planner.proofs.plan_call.mark_faults.Goals as goal

pub loop-f-init : goal.loop-f-init
loop-f-init c = marked-none (problem_of c.args.d.now) c.inputs-inputs.ensures.proper c.requires.sound_value c.clear.new.masks _ c.requires.lengths.1 c.clear.ensures

pub mark-requires : goal.mark-requires
mark-requires c =
    let m = may-mark c.loop-f.invariant c.rows.ensures (omega (arith, c.faults-f-end.ensures)) in
    record { inputs_bound = rw c.inputs-inputs.ensures.value m.0; labels_len = m.1.0; below = m.1.1.0; within = m.1.1.1 }

pub returns-then-mark-clause-unchanged : goal.returns-then-mark-clause-unchanged
returns-then-mark-clause-unchanged c =
    let low : c.loop-f.f < length (problem_of c.args.d.now).faulted = omega (arith, c.faults-f-end.ensures) in
    (marked-unchanged c.loop-f.invariant c.rows.ensures low (sym c.mark.ensures.value ∙ c.if-mark.true), low)

pub loop-f-preserved : goal.loop-f-preserved
loop-f-preserved c =
    marked-one-more c.loop-f.invariant c.rows.ensures (omega (arith, c.faults-f-end.ensures)) _ (sym c.mark.ensures.value ∙ c.if-mark.false)
    (c.mark.ensures.masks_after c.if-mark.false)

pub returns-clause-unchanged : goal.returns-clause-unchanged
returns-clause-unchanged c =
    let all : c.loop-f.f ≡ length (problem_of c.args.d.now).faulted = omega (arith, c.faults-f-end.ensures) in
    omega (arith, marked_all (problem_of c.args.d.now) c.loop-f.f all c.loop-f.invariant, all)
