use Rattle.std.proofs.Common.{◌≡◌, ◌+◌, ◌-◌, arith}
use Rattle.std.proofs.Math.ListN.{length-set}
use Rattle.search.proofs.Pruning.{unions-last, unions-more}
use Rattle.search.proofs.unions.Goals as goal

pub loop-i-init : goal.loop-i-init
loop-i-init c = (omega arith, simp length-set c.requires, unions-last c.args.masks.now c.args.rest.now c.requires)

pub loop-i-preserved : goal.loop-i-preserved
loop-i-preserved c =
    let l = c.loop-i in
    let back : l.i - 1 + 1 ≡ l.i = omega arith in
    (omega arith, simp length-set l.invariant.1, rw back (unions-more c.args.masks.now l.rest l.invariant.1 l.i c.loop-i-test.true l.invariant.0 l.invariant.2))
