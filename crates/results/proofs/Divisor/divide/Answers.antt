use Rattle.std.proofs.Common.{◌∙◌, refl, arith, rules}
use Rattle.integer.specs.Tab.{tab}
use Rattle.integer.proofs.Tabs.{write-turn}
use Rattle.results.specs.Quotients.{quotient_at}
use Rattle.results.proofs.Quotients.{quotient-fits, quotient-kept, quotients-written}
use Rattle.results.proofs.Divisor.divide.Goals as goal

pub loop-i-init : goal.loop-i-init
unfolding tab
loop-i-init c = refl

pub overflow_cast-out : goal.overflow_cast-out
overflow_cast-out c = quotient-fits c.args.self.number c.args.self.in_range c.args.sums.now c.loop-i.i (omega arith) (search rules) c.requires.within

pub loop-i-preserved : goal.loop-i-preserved
loop-i-preserved c =
    let a = c.args in
    write-turn a.out.now c.loop-i.out (quotient_at a.self.number a.sums.now) c.loop-i.i _ (omega (arith, c.requires.sums_in_bounds)) c.loop-i.invariant
    (quotient-kept a.self.number c.args.self.in_range a.sums.now c.loop-i.i (omega arith) (search rules) c.requires.within)

pub returns : goal.returns
returns c = c.loop-i.invariant ∙ quotients-written c.args.self.number c.args.sums.now c.args.out.now c.loop-i.i (omega arith)
