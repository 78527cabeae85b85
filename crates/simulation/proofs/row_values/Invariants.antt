-- The first x rows are written, and the rest is as it was.
use Rattle.std.proofs.Common.{◌≡◌, ◌++◌, drop}
use Rattle.integer.specs.Tab.{tab}
use Rattle.simulation.specs.Steps.{read_sum}
use Rattle.simulation.proofs.row_values.Given as goal

abbrev pub invariant-loop-x : goal.invariant-loop-x
invariant-loop-x l = l.out ≡ tab l.x (read_sum l.values l.outputs) ++ drop l.x l.fn.out
