use Rattle.std.proofs.Common.{◌∙◌, refl, arith}
use Rattle.std.proofs.lemmas.Int.{ints}
use Rattle.integer.specs.Tab.{tab, nth}
use Rattle.integer.proofs.Tabs.{write-turn}
use Rattle.results.proofs.Copies.{copied}
use Rattle.results.proofs.narrow.Goals as goal

pub loop-i-init : goal.loop-i-init
unfolding tab
loop-i-init c = refl

pub loop-i-preserved : goal.loop-i-preserved
loop-i-preserved c =
    let a = c.args in
    let i = c.loop-i.i in
    let s = c.requires.within i (omega arith) in
    write-turn a.out.now c.loop-i.out (nth a.work.now) i _ (omega (arith, c.requires.work_in_bounds)) c.loop-i.invariant (omega (arith, ints))

pub returns : goal.returns
returns c = c.loop-i.invariant ∙ copied c.args.work.now c.args.out.now c.loop-i.i (omega arith)
