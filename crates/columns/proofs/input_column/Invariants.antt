-- The invariant: the first x values of the column are made.
use Rattle.columns.specs.Steps.{Columned, input_rule}
use Rattle.columns.proofs.input_column.Given as goal

abbrev pub invariant-loop-x : goal.invariant-loop-x
invariant-loop-x l = Columned l.initial.values l.values l.column.line l.x (input_rule l.column.seen l.p l.q)
