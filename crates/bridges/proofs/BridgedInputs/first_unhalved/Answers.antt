use Rattle.std.proofs.Common.{◌%◌, ◌∙◌, ℤ, nat_abs, sym, ap, w32, arith}
use borrow.Author.Count.{below_more}
use Rattle.results.proofs.Quotients.{rem-zero, zero-rem}
use Rattle.bridges.proofs.UnhalvedLabels.{unhalved-left, unhalved-whole, found-unhalved, none-unhalved}
use Rattle.bridges.proofs.BridgedInputs.first_unhalved.Goals as goal

pub returns-then-pair_sum-ne0 : goal.returns-then-pair_sum-ne0
returns-then-pair_sum-ne0 c =
    let a = c.args in
    let label = c.loop-label.label in
    let sum_is = ap (λ (z : ℤ). nat_abs z % 2) c.pair_sum.ensures in
    let left = unhalved-left a.self.now.first a.self.now.second a.self.now.coefficients.now label
    (λ e. c.if-pair_sum-ne0.true (zero-rem w32 (omega arith) c.pair_sum.result 2 c.pair_sum.type_inv (omega arith, omega arith) (sum_is ∙ e))) in
    (sym (found-unhalved a.self.now.first a.self.now.second a.self.now.coefficients.now label c.loop-label-test.true c.loop-label.invariant left), c.loop-label-test.true)

pub loop-label-preserved : goal.loop-label-preserved
loop-label-preserved c =
    let a = c.args in
    let sum_is = ap (λ (z : ℤ). nat_abs z % 2) c.pair_sum.ensures in
    below_more _ _ c.loop-label.invariant
    (unhalved-whole a.self.now.first a.self.now.second a.self.now.coefficients.now c.loop-label.label
    (sym sum_is ∙ rem-zero w32 (omega arith) c.pair_sum.result 2 c.pair_sum.type_inv (omega arith, omega arith) c.if-pair_sum-ne0.false))

pub returns : goal.returns
returns c =
    let a = c.args in
    omega (arith, none-unhalved a.self.now.first a.self.now.second a.self.now.coefficients.now c.loop-label.label (omega arith) c.loop-label-test.false c.loop-label.invariant)
