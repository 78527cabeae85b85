-- No fault before f is silent.
use Rattle.devices.specs.Forms.{problem_of}
use Rattle.planner.proofs.PlanLaws.{ComparedBelow}
use Rattle.planner.proofs.plan_call.silent_from.Given as goal

abbrev pub invariant-loop-f : goal.invariant-loop-f
invariant-loop-f l = ComparedBelow (problem_of l.d) l.sound l.f
