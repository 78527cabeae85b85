use Rattle.std.proofs.Common.{arith}
use Rattle.evaluation.proofs.Turns.{no_gate_bits, few_bits, gate-bit-more, bits-all}
use Rattle.evaluation.proofs.bits_on.Goals as goal

pub loop-line-init : goal.loop-line-init
loop-line-init g c = no_gate_bits _ _ _

pub with_bit-bits-requires : goal.with_bit-bits-requires
with_bit-bits-requires g c = few_bits _ _ _ _ _ _ c.loop-line.invariant c.loop-line-test.true c.requires.0

pub loop-line-preserved : goal.loop-line-preserved
loop-line-preserved g c =
    let e = c.with_bit-bits.ensures in
    gate-bit-more c.args.values.now c.args.lines.now c.args.x c.loop-line.line-index _ _ c.loop-line.invariant (omega (arith, c.told-lines)) e.0 e.1 e.2

pub returns : goal.returns
returns g c = bits-all c.args.values.now c.args.lines.now c.args.x _ c.loop-line.bits c.told-lines (omega arith) c.loop-line.invariant
