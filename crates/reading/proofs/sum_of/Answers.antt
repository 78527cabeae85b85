use Rattle.std.proofs.Common.{◌≡◌, ◌∙◌, sym, ℕ, refl, ap, length, arith}
use Rattle.integer.specs.Sum.{sum_to}
use Rattle.reading.specs.Readings.{term_at, whole_sum}
use Rattle.reading.proofs.Totals.{total_fits, sum-more, sum_left}
use Rattle.reading.proofs.sum_of.Goals as goal
use Rattle.reading.proofs.sum_of.Goals.{then-agrees, else-agrees}

pub loop-row-init : goal.loop-row-init
unfolding sum_to
loop-row-init c = refl

pub overflow_add-sum : goal.overflow_add-sum
overflow_add-sum c =
    let a = c.args in
    total_fits a.fixed.mask a.fixed.values a.rows.now c.loop-row.row _ c.loop-row.invariant c.requires.rows_len_bound c.requires.within c.loop-row-test.true

pub loop-row-preserved : goal.loop-row-preserved
loop-row-preserved c =
    let a = c.args in
    let row = c.loop-row.row in
    elim c.if-agrees.branch [
      | then-agrees w ↦
          w.sum-is ∙ sum-more a.fixed.mask a.fixed.values a.rows.now row _ c.loop-row.invariant c.requires.rows_len_bound c.requires.within c.loop-row-test.true (sym c.agrees.ensures ∙ w.if-agrees.true)
      | else-agrees w ↦ w.sum-is ∙ c.loop-row.invariant ∙ sum_left a.fixed.mask a.fixed.values a.rows.now row (sym c.agrees.ensures ∙ w.if-agrees.false)
    ]

pub returns : goal.returns
unfolding whole_sum
returns c =
    let n : c.loop-row.row ≡ length c.args.rows.now = omega arith in
    c.loop-row.invariant ∙ ap (λ (k : ℕ). sum_to k (term_at c.args.fixed.mask c.args.fixed.values c.args.rows.now)) n
