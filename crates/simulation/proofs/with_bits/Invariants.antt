-- The first k outputs are written with their bits for weights.
use Rattle.std.proofs.Common.{◌≡◌, ◌++◌, drop}
use Rattle.integer.specs.Tab.{tab}
use Rattle.simulation.specs.Steps.{with_bit_at}
use Rattle.simulation.proofs.with_bits.Given as goal

abbrev pub invariant-loop-k : goal.invariant-loop-k
invariant-loop-k l = l.out ≡ tab l.k (with_bit_at l.outputs) ++ drop l.k l.fn.out
