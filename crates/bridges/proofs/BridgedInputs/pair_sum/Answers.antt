use Rattle.std.proofs.Common.{arith}
use Rattle.std.proofs.lemmas.Int.{ints}
use Rattle.bridges.proofs.BridgeSteps.{pair_read}
use Rattle.bridges.proofs.BridgedInputs.pair_sum.Goals as goal

pub returns : goal.returns
returns c =
    let s = c.args.self.now in
    let r = pair_read _ _ _ _ _ _ s.inputs c.bits-i.ensures.0 c.bits-i.ensures.1 s.within c.requires in
    omega (arith, ints, r.sum_is, r.sum_room)
