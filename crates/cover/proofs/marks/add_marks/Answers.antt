use Rattle.std.proofs.Common.{◌∙◌, rules}
use lib.Seq.{set-get_or}
use Rattle.cover.proofs.Marking.{bit-more, bit_kept}
use Rattle.cover.proofs.marks.add_marks.Goals as goal
use Rattle.cover.proofs.marks.add_marks.Goals.{then-coefficients-label-ne0, else-coefficients-label-ne0}

pub loop-i-preserved : goal.loop-i-preserved
loop-i-preserved c =
    let a = c.args in
    let i = c.loop-i.i in
    elim c.if-coefficients-label-ne0.branch [
      | then-coefficients-label-ne0 w ↦
          w.masks-is ∙ bit-more a.coefficients.now a.labels.now a.bit a.masks.now c.loop-i.masks i c.loop-i-test.true c.loop-i.invariant (search rules) w.if-coefficients-label-ne0.true
      | else-coefficients-label-ne0 w ↦
          w.masks-is ∙ set-get_or c.loop-i.masks i 0 ∙ bit_kept a.coefficients.now a.labels.now a.bit a.masks.now c.loop-i.masks i c.loop-i-test.true c.loop-i.invariant (search rules) w.if-coefficients-label-ne0.false
    ]
