use Rattle.std.proofs.Common.{◌∙◌, sym, arith}
use Rattle.search.proofs.Searching.{chunk-lacks}
use Rattle.search.proofs.lacking.Goals as goal

pub loop-four-preserved : goal.loop-four-preserved
loop-four-preserved c =
    let s = c.in-Some.ensures.steps in
    let i = c.loop-four.invariant in
    let more = chunk-lacks c.args.masks.now c.loop-four.count c.args.missing _ _ (sym i.2 ∙ s.1.0) (s.1.1 ∙ i.3) i.5 (c.four_lack.ensures c.if-not-four_lack.false) in
    (omega (arith, s.0, i.3), tt, more.0, s.0 ∙ i.3, more.1, more.2)
