use Rattle.std.proofs.Common.{◌≡◌, ◌∙◌, ℕ, ap, arith}
use Rattle.transform.proofs.Butterflies.{at_turn, at-start, at-end, sum_fits, difference-fits, machine-turn}
use Rattle.transform.proofs.butterfly.Goals as goal

pub loop-i-init : goal.loop-i-init
loop-i-init c = at-start _ _

pub overflow_add-a : goal.overflow_add-a
overflow_add-a c = sum_fits c.args.a.now c.args.h c.loop-i.i c.requires.a_len c.loop-i-test.true c.loop-i.a c.loop-i.invariant c.requires.within

pub overflow_sub-a : goal.overflow_sub-a
overflow_sub-a c = difference-fits c.args.a.now c.args.h c.loop-i.i c.requires.a_len c.loop-i-test.true c.loop-i.a c.loop-i.invariant c.requires.within

pub loop-i-preserved : goal.loop-i-preserved
loop-i-preserved c = machine-turn c.args.a.now c.args.h c.loop-i.i c.requires.a_len c.loop-i-test.true c.loop-i.a c.loop-i.invariant c.requires.within

pub returns : goal.returns
returns c =
    let n : c.loop-i.i ≡ c.args.h = omega arith in
    c.loop-i.invariant ∙ ap (λ (k : ℕ). at_turn c.args.a.now c.args.h k) n ∙ at-end c.args.a.now c.args.h c.requires.a_len
