use Rattle.std.proofs.Common.{◌∙◌, ap, length, subst, arith}
use Rattle.sections.proofs.HandedOn.{handed-on}
use Rattle.devices.specs.Forms.{problem_of}
use Rattle.planner.specs.PlanCall.{Verdict, plan_numbers, plan_answer, WorkKept}
use Rattle.planner.proofs.PlanLaws.{verdict-text, verdict-room, verdict-served}
use Rattle.planner.proofs.plan_call.plan.Goals as goal

pub returns-in_err-d-clause-value : goal.returns-in_err-d-clause-value
unfolding plan_answer
returns-in_err-d-clause-value c =
    rw (handed-on c.from_residual.ensures.1) (ap plan_numbers (verdict-text c.args.text.now (length c.args.work.now) c.in_err-d.ensures))

pub returns-then-work-lt-WORKING_NUMBERS-clause-value : goal.returns-then-work-lt-WORKING_NUMBERS-clause-value
unfolding plan_answer
returns-then-work-lt-WORKING_NUMBERS-clause-value c =
    ap plan_numbers (verdict-room c.args.text.now (length c.args.work.now) (problem_of c.in_ok-d.d) c.in_ok-d.ensures (omega arith))

pub returns-clause-value : goal.returns-clause-value
unfolding plan_answer
returns-clause-value c =
    c.plan_device.ensures.value ∙ ap plan_numbers (verdict-served c.args.text.now (length c.args.work.now) (problem_of c.in_ok-d.d) c.in_ok-d.ensures (omega arith))

pub returns-clause-work_kept : goal.returns-clause-work_kept
returns-clause-work_kept c =
    subst (λ (v : Verdict). WorkKept v c.args.work.now c.plan_device.new.work) (verdict-served c.args.text.now (length c.args.work.now) (problem_of c.in_ok-d.d) c.in_ok-d.ensures (omega arith))
    c.plan_device.ensures.work_kept
