use Rattle.std.proofs.Common.{ap, ◌∙◌, arith}
use Rattle.columns.specs.Steps.{seen_as, input_rule}
use Rattle.columns.proofs.AppliedInputs.{applied-both}
use Rattle.columns.proofs.Making.{column-start, column-turn, column_whole}
use Rattle.columns.proofs.input_column.Goals as goal

pub loop-x-init : goal.loop-x-init
loop-x-init c = column-start _ _ _

pub loop-x-preserved : goal.loop-x-preserved
loop-x-preserved c =
    let a = c.args in
    column-turn a.values.now a.column.line (input_rule a.column.seen a.p a.q) c.loop-x.x c.loop-x.invariant c.shows.result (omega arith)
    (c.shows.ensures ∙ ap (seen_as a.column.seen) (applied-both c.loop-x.x a.p a.q))

pub returns : goal.returns
returns c = column_whole _ _ _ (omega arith) c.loop-x.invariant
