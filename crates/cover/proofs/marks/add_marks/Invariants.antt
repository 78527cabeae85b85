-- The invariant: the first i masks have the bit where it is due, and the others are as they came.
use Rattle.std.proofs.Common.{◌≡◌}
use Rattle.cover.proofs.Marking.{added-to}
use Rattle.cover.proofs.marks.add_marks.Given as goal

abbrev pub invariant-loop-i : goal.invariant-loop-i
invariant-loop-i l = l.masks ≡ added-to l.coefficients l.labels l.bit l.initial.masks l.i
