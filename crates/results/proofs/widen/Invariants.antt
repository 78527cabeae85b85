use Rattle.std.proofs.Common.{◌≡◌, take}
use Rattle.results.proofs.widen.Given as goal

abbrev pub invariant-loop-i : goal.invariant-loop-i
invariant-loop-i l = take l.i l.work ≡ take l.i l.list
