-- The columns are those of the inputs and of the first j gates.
use Rattle.simulation.proofs.Columns.{lines_to}
use Rattle.simulation.specs.Steps.{Columns}
use Rattle.simulation.proofs.gate_columns.Given as goal

abbrev pub invariant-loop-j : goal.invariant-loop-j
invariant-loop-j l = Columns l.values l.n (lines_to l.c l.f l.j)
