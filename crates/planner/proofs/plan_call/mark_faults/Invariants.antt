-- Each fault before f changes a row, and the masks are those of the faults before it.
use Rattle.devices.specs.Forms.{problem_of}
use Rattle.planner.proofs.PlanLaws.{MarkedBelow}
use Rattle.planner.proofs.plan_call.mark_faults.Given as goal

abbrev pub invariant-loop-f : goal.invariant-loop-f
invariant-loop-f l = MarkedBelow (problem_of l.d) l.sound l.labels l.f l.masks
