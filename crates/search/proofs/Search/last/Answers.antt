use Rattle.std.proofs.Common.{◌∙◌, ◌≡◌, ◌≤◌, ◌-◌, length, take, drop, length-drop, sym, ap, arith}
use Rattle.std.proofs.lemmas.List.{take_all}
use Rattle.search.specs.Steps.{choice_of}
use Rattle.search.proofs.Searching.{sought-end, passed, lacked, had}
use Rattle.search.proofs.Search.last.Goals as goal

pub loop-i-init : goal.loop-i-init
loop-i-init c =
    let s = c.args.self.now in
    let whole : take (length s.masks.now - c.args.start) (drop c.args.start s.masks.now) ≡ drop c.args.start s.masks.now = take_all _ _ (omega (arith, length-drop c.args.start s.masks.now)) in
    let r = c.lacking.result in
    let inside : r ≤ length (drop c.args.start s.masks.now) = rw whole at c.lacking.ensures.within in
    passed s.masks.now c.args.missing c.args.start r (omega (arith, inside, length-drop c.args.start s.masks.now, c.requires)) (rw whole at c.lacking.ensures.lack)

pub returns-then-not-lacks : goal.returns-then-not-lacks
returns-then-not-lacks c =
    let s = c.args.self.now in
    had s.masks.now c.loop-i.i c.loop-i-test.true s.labels.now c.args.missing c.lacks.result c.lacks.ensures c.if-not-lacks.true
    ∙ sym (ap (choice_of s.labels.now) c.loop-i.invariant)

pub loop-i-preserved : goal.loop-i-preserved
loop-i-preserved c =
    c.loop-i.invariant ∙ lacked c.args.self.now.masks.now c.loop-i.i c.loop-i-test.true c.args.missing c.lacks.result c.lacks.ensures c.if-not-lacks.false

pub returns : goal.returns
returns c =
    let s = c.args.self.now in
    sym (ap (choice_of s.labels.now) (c.loop-i.invariant ∙ sought-end s.masks.now c.loop-i.i 1 c.args.missing (omega arith) c.loop-i-test.false))
