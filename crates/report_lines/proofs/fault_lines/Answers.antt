use Rattle.std.proofs.Common.{◌∙◌, arith}
use Rattle.devices.specs.Forms.{problem_of}
use Rattle.report_lines.proofs.ReportLines.{spectra-ready, FaultRead, fault-read, no-fault, fault-fits, fault-more}
use Rattle.report_lines.proofs.fault_lines.Goals as goal
use Rattle.report_lines.proofs.fault_lines.Goals.{After-first_covering-label}

-- the line of the fault, with the label that was found
read : (c : After-first_covering-label) → FaultRead (problem_of c.args.d.now) c.args.labels.now c.loop-f.f c.first_covering-label.result c.fault_spectrum.new.out
read c =
    let r = c.requires in
    fault-read (problem_of c.args.d.now) r.proper.0 c.args.labels.now r.proper.1 c.loop-f.f (omega arith) c.loop-f.faulted r.sound_value.0 (c.loop-f.auto.faulted ∙ r.sound_value.1)
    c.fault_spectrum.ensures.value c.fault_spectrum.ensures.out_after c.first_covering-label.ensures

pub loop-f-init : goal.loop-f-init
loop-f-init c =
    let r = c.requires in
    no-fault (problem_of c.args.d.now) r.proper.0 c.args.labels.now r.proper.1 c.args.at c.args.out.now r.sound_value.2

pub first_covering-label-requires : goal.first_covering-label-requires
first_covering-label-requires c =
    let r = c.requires in
    spectra-ready (problem_of c.args.d.now) r.proper.0 c.args.labels.now r.proper.1 c.loop-f.f (omega arith) c.loop-f.faulted r.sound_value.0 (c.loop-f.auto.faulted ∙ r.sound_value.1)
    c.fault_spectrum.ensures.value c.fault_spectrum.ensures.out_after

pub overflow_cast-numbers-in-loop-f : goal.overflow_cast-numbers-in-loop-f
overflow_cast-numbers-in-loop-f c =
    let label = (read (goal.at.overflow_cast-numbers-in-loop-f c).After-first_covering-label).0 in
    record { sfits = omega (arith, label) }

pub slice_copy_out-numbers : goal.slice_copy_out-numbers
slice_copy_out-numbers c = (read (goal.at.slice_copy_out-numbers c).After-first_covering-label).1

pub put_line-end-requires : goal.put_line-end-requires
put_line-end-requires c =
    let r = c.requires in
    fault-fits (problem_of c.args.d.now) r.proper.0 c.args.labels.now r.proper.1 c.args.at c.args.out.now r.sound_value.2 c.loop-f.invariant (omega arith) _
    (read (goal.at.put_line-end-requires c).After-first_covering-label).2

pub loop-f-preserved : goal.loop-f-preserved
loop-f-preserved c =
    let r = c.requires in
    let e = c.put_line-end.ensures in
    fault-more (problem_of c.args.d.now) r.proper.0 c.args.labels.now r.proper.1 c.args.at c.args.out.now r.sound_value.2 c.loop-f.invariant (omega arith) _
    (read (goal.at.loop-f-preserved c).After-first_covering-label).2 e.value e.out_after
