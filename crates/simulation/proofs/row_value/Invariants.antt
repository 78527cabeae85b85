-- The sum holds the terms of the outputs so far, each within 32,768.
use Rattle.std.proofs.Common.{◌≡◌, ◌≤◌, ◌*◌, nat_abs}
use Rattle.integer.specs.Sum.{sum_to}
use Rattle.simulation.specs.Steps.{read_term}
use Rattle.simulation.proofs.row_value.Given as goal

abbrev pub invariant-loop-output : goal.invariant-loop-output
invariant-loop-output l =
    (l.sum ≡ sum_to l.output-index (read_term l.values l.outputs l.x)) × (nat_abs (sum_to l.output-index (read_term l.values l.outputs l.x)) ≤ l.output-index * 32768)
