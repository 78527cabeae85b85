use Rattle.std.proofs.Common.{◌≡◌, ◌++◌, drop}
use Rattle.integer.specs.Tab.{tab, nth}
use Rattle.results.proofs.narrow.Given as goal

abbrev pub invariant-loop-i : goal.invariant-loop-i
invariant-loop-i l = l.out ≡ tab l.i (nth l.work) ++ drop l.i l.initial.out
