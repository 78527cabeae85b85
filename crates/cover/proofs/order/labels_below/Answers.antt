use Rattle.std.proofs.Common.{◌∙◌, ap, length, take, arith}
use mathlib.Core.Path.{ap₂}
use Rattle.std.proofs.Math.ListN.{length-set}
use Rattle.cover.proofs.LabelOrder.{listed, label-passed, all_listed}
use Rattle.cover.proofs.Table.{label_table, table_at}
use Rattle.cover.proofs.order.labels_below.Goals as goal
use Rattle.cover.proofs.order.labels_below.Goals.{then-label-n, else-label-n}

pub loop-label-preserved : goal.loop-label-preserved
unfolding label_table
loop-label-preserved c =
    let n = c.args.n in
    let l = c.loop-label in
    let i = l.label-index in
    let h = c.loop-label-test.true in
    elim c.if-label-n.branch [
      | then-label-n w ↦ (
        omega (arith, w.count-is, l.invariant.0),
        ap length w.labels-is ∙ simp length-set l.invariant.1,
        ap₂ take w.count-is w.labels-is ∙ listed n i _ l.count l.labels h (table_at i) l.invariant.2 w.if-label-n.true (omega (arith, l.invariant.0, l.invariant.1)),
      )
      | else-label-n w ↦ (
        omega (arith, w.count-is, l.invariant.0),
        ap length w.labels-is ∙ l.invariant.1,
        ap₂ take w.count-is w.labels-is ∙ label-passed n i _ l.count l.labels h (table_at i) l.invariant.2 w.if-label-n.false,
      )
    ]

pub returns : goal.returns
returns c = all_listed c.args.n c.loop-label.label-index c.loop-label.count c.loop-label.labels (omega arith) (omega arith) c.loop-label.invariant.2
