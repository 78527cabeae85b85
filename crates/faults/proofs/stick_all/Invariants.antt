use Rattle.std.proofs.Common.{◌≡◌}
use Rattle.faults.proofs.OneStuck.{stuck-from}
use Rattle.faults.proofs.stick_all.Given as goal

abbrev pub invariant-loop-i : goal.invariant-loop-i
invariant-loop-i l = l.a ≡ stuck-from l.initial.a l.lines l.values l.i
