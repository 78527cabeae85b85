-- The columns are those of the first i inputs.
use Rattle.simulation.specs.Steps.{Columns, input_lines}
use Rattle.simulation.proofs.input_columns.Given as goal

abbrev pub invariant-loop-i : goal.invariant-loop-i
invariant-loop-i l = Columns l.values l.n (input_lines l.f l.i)
