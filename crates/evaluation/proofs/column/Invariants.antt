-- The invariant: the first x values of the column are made.
use Rattle.columns.specs.Steps.{Columned}
use Rattle.evaluation.specs.GateRules.{gate_rule}
use Rattle.evaluation.proofs.column.Given as goal

abbrev pub invariant-loop-x : goal.invariant-loop-x
invariant-loop-x g l = Columned l.initial.values l.values l.own.line l.x (gate_rule l.initial.values l.own.seen l.kind l.lines)
