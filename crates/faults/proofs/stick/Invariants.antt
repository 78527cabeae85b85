use Rattle.std.proofs.Common.{◌≡◌}
use Rattle.faults.proofs.OneStuck.{stuck-to}
use Rattle.faults.proofs.stick.Given as goal

abbrev pub invariant-loop-i : goal.invariant-loop-i
invariant-loop-i l = l.a ≡ stuck-to l.input l.value l.initial.a l.i
