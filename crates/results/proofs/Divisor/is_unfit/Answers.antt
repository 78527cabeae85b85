use Rattle.std.proofs.Common.{sym, arith, w64}
use Rattle.std.proofs.lemmas.Int.{to_z-of_z}
use Rattle.screen.specs.Answers.{outside}
use Rattle.results.proofs.Quotients.{quot-kept, rem-zero, zero-rem, unfit-left, unfit-whole}
use Rattle.results.proofs.Divisor.is_unfit.Goals as goal

pub returns-then-sum-d-ne0 : goal.returns-then-sum-d-ne0
returns-then-sum-d-ne0 c =
    let a = c.args in
    sym (unfit-left a.self.number a.low a.high a.sum (λ k. c.if-sum-d-ne0.true (zero-rem w64 (omega arith) a.sum a.self.number c.ranges.sum.sfits a.self.in_range k)))

pub returns : goal.returns
unfolding outside
returns c =
    let a = c.args in
    let q = quot-kept w64 (omega arith) a.sum a.self.number c.ranges.sum.sfits a.self.in_range in
    let e = unfit-whole a.self.number a.low a.high a.sum (rem-zero w64 (omega arith) a.sum a.self.number c.ranges.sum.sfits a.self.in_range c.if-sum-d-ne0.false) in
    rw (q, to_z-of_z w64 a.low c.ranges.low, to_z-of_z w64 a.high c.ranges.high, e)
