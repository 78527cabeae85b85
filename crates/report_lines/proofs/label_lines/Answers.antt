use Rattle.report_lines.proofs.ReportLines.{no-label, label-fits, label-more}
use Rattle.report_lines.proofs.label_lines.Goals as goal

pub loop-label-init : goal.loop-label-init
loop-label-init c =
    let r = c.requires in
    no-label c.args.sound.now c.args.labels.now r.1 r.2 r.3 c.args.at c.args.out.now r.0

pub put_line-end-requires : goal.put_line-end-requires
put_line-end-requires c =
    let r = c.requires in
    label-fits c.args.sound.now c.args.labels.now r.1 r.2 r.3 c.args.at c.args.out.now r.0 c.loop-label.invariant c.loop-label-test.true

pub loop-label-preserved : goal.loop-label-preserved
loop-label-preserved c =
    let r = c.requires in
    let e = c.put_line-end.ensures in
    label-more c.args.sound.now c.args.labels.now r.1 r.2 r.3 c.args.at c.args.out.now r.0 c.loop-label.invariant c.loop-label-test.true e.value e.out_after
