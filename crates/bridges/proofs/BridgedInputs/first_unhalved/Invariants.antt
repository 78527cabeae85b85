use Rattle.std.proofs.Common.{◌≡◌, ◌<◌, ℕ, false}
use Rattle.bridges.specs.Bridges.{unhalved_at}
use Rattle.bridges.proofs.BridgedInputs.first_unhalved.Given as goal

abbrev pub invariant-loop-label : goal.invariant-loop-label
invariant-loop-label l = (x : ℕ) → x < l.label → unhalved_at l.self.first l.self.second l.self.coefficients.now x ≡ false
