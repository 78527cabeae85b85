use Rattle.std.proofs.Common.{◌∙◌, ◌≤◌, length, sym, ap, arith}
use Rattle.search.specs.Steps.{choice_of}
use Rattle.search.proofs.Pruning.{pruned}
use Rattle.search.proofs.Searching.{sought-end, took, left_out}
use Rattle.search.proofs.Search.+choose.Goals as goal

pub returns-then-lacks : goal.returns-then-lacks
returns-then-lacks t c =
    let a = c.args in
    let s = a.self.now in
    let l = c.loop-place in
    let inside : l.place ≤ length s.masks.now = omega (arith, c.loop-place-test.true) in
    sym (ap (choice_of s.labels.now) (l.invariant ∙ pruned s.masks.now s.rest.now l.place a.left a.missing c.lacks.result s.unions inside c.lacks.ensures c.if-lacks.true))

pub returns-in-Some : goal.returns-in-Some
returns-in-Some t c =
    let a = c.args in
    let s = a.self.now in
    let l = c.loop-place in
    took s.masks.now l.place c.loop-place-test.true s.labels.now a.left a.missing c.requires.0 _ c.choose.ensures c.in-Some.next c.in-Some.is
    ∙ sym (ap (choice_of s.labels.now) l.invariant)

pub loop-place-preserved : goal.loop-place-preserved
loop-place-preserved t c =
    let a = c.args in
    let s = a.self.now in
    c.loop-place.invariant
    ∙ left_out s.masks.now c.loop-place.place c.loop-place-test.true s.labels.now a.left a.missing c.requires.0 _ c.choose.ensures c.in_default.is

pub returns : goal.returns
returns t c =
    let a = c.args in
    let s = a.self.now in
    sym (ap (choice_of s.labels.now) (c.loop-place.invariant ∙ sought-end s.masks.now c.loop-place.place a.left a.missing c.requires.0 c.loop-place-test.false))
