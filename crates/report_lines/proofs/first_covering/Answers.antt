use Rattle.std.proofs.Common.{rules, arith, get_or, SFits, w32, pos}
use Rattle.report_lines.proofs.ReportLines.{covering-here, covering-later, covering-none}
use Rattle.report_lines.proofs.first_covering.Goals as goal

pub returns-then-sound-label : goal.returns-then-sound-label
returns-then-sound-label c =
    covering-here c.args.sound.now c.args.faulted.now c.args.labels.now c.loop-label.label-index c.loop-label.invariant c.loop-label-test.true c.if-sound-label.true

pub loop-label-preserved : goal.loop-label-preserved
loop-label-preserved c =
    let at = get_or c.args.labels.now c.loop-label.label-index 0 in
    let s : SFits w32 (get_or c.args.sound.now at (pos 0)) = search rules in
    let f : SFits w32 (get_or c.args.faulted.now at (pos 0)) = search rules in
    covering-later c.args.sound.now c.args.faulted.now c.args.labels.now c.loop-label.label-index c.loop-label.invariant s f c.if-sound-label.false

pub returns : goal.returns
returns c = covering-none c.args.sound.now c.args.faulted.now c.args.labels.now c.loop-label.label-index c.loop-label.invariant (omega arith)
