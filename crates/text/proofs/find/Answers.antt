use Rattle.std.proofs.Common.{arith, ◌≡◌, ◌∙◌, length, sym}
use Rattle.text.proofs.Parts.{index-hit, index-miss, index-end}
use Rattle.text.proofs.find.Goals as goal

pub returns-then-text-from : goal.returns-then-text-from
returns-then-text-from c = sym (index-end c.args.b c.args.text.now c.args.from (omega arith))

pub loop-i-preserved : goal.loop-i-preserved
loop-i-preserved c = sym (index-miss c.args.b c.args.text.now c.loop-i.i (omega arith) c.if-text-i.false) ∙ c.loop-i.invariant

pub returns : goal.returns
returns c =
    let all : c.loop-i.i ≡ length c.args.text.now = omega arith in
    sym all ∙ sym (index-end c.args.b c.args.text.now c.loop-i.i (omega arith)) ∙ c.loop-i.invariant

pub returns-then-text-i : goal.returns-then-text-i
returns-then-text-i c = sym (index-hit c.args.b c.args.text.now c.loop-i.i (omega arith) c.if-text-i.true) ∙ c.loop-i.invariant
