use Rattle.std.proofs.Common.{◌≡◌}
use Rattle.integer.specs.Tab.{nth}
use Rattle.transform.specs.Spectrum.{signed_sum}
use Rattle.walsh.proofs.direct.signed_sum.Given as goal

abbrev pub invariant-loop-i : goal.invariant-loop-i
invariant-loop-i l = l.sum ≡ signed_sum l.i (nth l.rows) l.label
