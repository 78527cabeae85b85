use Rattle.std.proofs.Common.{arith}
use Rattle.columns.proofs.Making.{column-start, column_whole}
use Rattle.evaluation.proofs.Turns.{case-of, making-turn}
use Rattle.evaluation.proofs.column.Goals as goal

pub loop-x-init : goal.loop-x-init
loop-x-init g c = column-start _ _ _

pub gate_value-requires : goal.gate_value-requires
gate_value-requires g c = let e = c.bits_on-bits.ensures in case-of c.args.kind _ _ c.requires.0 e.1 e.2

pub loop-x-preserved : goal.loop-x-preserved
loop-x-preserved g c =
    let a = c.args in
    making-turn a.values.now a.own.seen a.kind a.lines a.own.line c.loop-x.x c.loop-x.invariant (omega arith) (omega arith) c.bits_on-bits.result c.bits_on-bits.ensures.0 c.gate_value.ensures c.shows.ensures

pub returns : goal.returns
returns g c = column_whole _ _ _ (omega arith) c.loop-x.invariant
