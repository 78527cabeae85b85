use Rattle.std.proofs.Common.{arith}
use Rattle.simulation.proofs.Columns.{input-next}
use Rattle.simulation.proofs.input_columns.Goals as goal

pub loop-i-preserved : goal.loop-i-preserved
loop-i-preserved c =
    input-next c.args.f c.args.n (omega arith) c.loop-i.i c.through.result c.through.ensures c.sources-p.ensures.first.0 c.sources-p.ensures.second.0 c.loop-i.invariant c.input_column.ensures
