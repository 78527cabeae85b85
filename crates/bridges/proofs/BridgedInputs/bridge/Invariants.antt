use Rattle.std.proofs.Common.{◌≡◌, ◌++◌, drop}
use Rattle.integer.specs.Tab.{tab, nth}
use Rattle.bridges.specs.Bridges.{bridged_at}
use Rattle.bridges.proofs.BridgedInputs.bridge.Given as goal

abbrev pub invariant-loop-label : goal.invariant-loop-label
invariant-loop-label l = l.out ≡ tab l.label (bridged_at l.self.first l.self.second (nth l.self.coefficients.now)) ++ drop l.label l.initial.out
