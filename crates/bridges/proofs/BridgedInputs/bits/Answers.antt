use Rattle.std.proofs.Common.{arith}
use Rattle.bridges.proofs.BridgeSteps.{first_few, second_few, first_bit, second_bit}
use Rattle.bridges.proofs.BridgedInputs.bits.Goals as goal

pub overflow_shl-result : goal.overflow_shl-result
overflow_shl-result c = omega (arith, first_few _ _ _ c.args.self.now.inputs)

pub overflow_shl-result-2 : goal.overflow_shl-result-2
overflow_shl-result-2 c = omega (arith, second_few _ _ _ c.args.self.now.inputs)

pub returns : goal.returns
returns c = let g = c.args.self.now.inputs in (first_bit _ _ _ g, second_bit _ _ _ g)
