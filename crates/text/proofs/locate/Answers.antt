use Rattle.std.proofs.Common.{arith}
use Rattle.text.proofs.Parts.{rest-next, rest-past, rest-here}
use Rattle.text.proofs.locate.Goals as goal

pub returns-then-text-comma : goal.returns-then-text-comma
returns-then-text-comma c =
    let l = c.loop in
    rest-past c.args.text.now c.args.k l.counter l.start c.find-comma.result l.invariant.1 c.find-comma.ensures (omega arith) (omega arith) (omega arith)

pub loop-preserved : goal.loop-preserved
loop-preserved c =
    let l = c.loop in
    (omega arith, rest-next c.args.text.now c.args.k l.counter l.start c.find-comma.result l.invariant.1 c.find-comma.ensures (omega arith) (omega arith))

pub returns : goal.returns
returns c =
    let l = c.loop in
    rest-here c.args.text.now c.args.k l.counter l.start c.find.result l.invariant.1 c.find.ensures (omega arith)
