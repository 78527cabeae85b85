-- The loop's invariant: in each half the first i numbers are new, the sums below and the differences above.
use Rattle.std.proofs.Common.{◌≡◌}
use Rattle.transform.proofs.Butterflies.{at_turn}
use Rattle.transform.proofs.butterfly.Given as goal

abbrev pub invariant-loop-i : goal.invariant-loop-i
invariant-loop-i l = l.a ≡ at_turn l.initial.a l.h l.i
