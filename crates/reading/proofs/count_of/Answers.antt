use Rattle.std.proofs.Common.{◌≡◌, ◌∙◌, sym, ℕ, ◌+◌, refl, ap, arith}
use Rattle.reading.specs.Readings.{agrees, count_to, count_of}
use Rattle.reading.proofs.Totals.{count-le, count-taken, count_left}
use Rattle.reading.proofs.count_of.Goals as goal
use Rattle.reading.proofs.count_of.Goals.{then-agrees, else-agrees}

pub loop-row-init : goal.loop-row-init
unfolding count_to
loop-row-init c = refl

pub overflow_add-count : goal.overflow_add-count
overflow_add-count c = omega (arith, c.loop-row.invariant, count-le c.loop-row.row (agrees c.args.fixed.mask c.args.fixed.values), c.loop-row-test.true, c.ranges.rows)

pub loop-row-preserved : goal.loop-row-preserved
loop-row-preserved c =
    let a = c.args in
    elim c.if-agrees.branch [
      | then-agrees w ↦ w.count-is ∙ ap (λ (n : ℕ). n + 1) c.loop-row.invariant ∙ count-taken a.fixed.mask a.fixed.values c.loop-row.row (sym c.agrees.ensures ∙ w.if-agrees.true)
      | else-agrees w ↦ w.count-is ∙ c.loop-row.invariant ∙ count_left a.fixed.mask a.fixed.values c.loop-row.row (sym c.agrees.ensures ∙ w.if-agrees.false)
    ]

pub returns : goal.returns
unfolding count_of
returns c =
    let n : c.loop-row.row ≡ c.args.rows = omega arith in
    c.loop-row.invariant ∙ ap (λ (k : ℕ). count_to k (agrees c.args.fixed.mask c.args.fixed.values)) n
