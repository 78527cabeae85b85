use Rattle.std.proofs.Common.{◌≡◌, ◌++◌, drop}
use Rattle.integer.specs.Tab.{tab}
use Rattle.results.specs.Quotients.{quotient_at}
use Rattle.results.proofs.Divisor.divide.Given as goal

abbrev pub invariant-loop-i : goal.invariant-loop-i
invariant-loop-i l = l.out ≡ tab l.i (quotient_at l.fn.self.number l.sums) ++ drop l.i l.initial.out
