-- The plan's line, the labels' lines and the faults' lines, one after the other.
use Rattle.std.proofs.Common.{rules, ◌≡◌, ◌+◌, ◌<◌, arith, length}
use Rattle.transform.specs.Spectrum.{spectrum_of}
use Rattle.writing.specs.Writing.{placed, gather}
use Rattle.devices.specs.Forms.{problem_of}
use Rattle.report_lines.specs.ReportLines.{plan_line, label_line}
use Rattle.report_lines.proofs.ReportLines.{spectrum-left, spectrum-ready, label-lines-same, plan-length, plan-read, read-room, read-written}
use Rattle.report.proofs.ReportLaws.{labels-room, faults-room, plan-written}
use Rattle.report.proofs.plan_lines.Goals as goal
use Rattle.report.proofs.plan_lines.Goals.{After-fault_spectrum, After-put_line-at, After-label_lines-labels_end}

-- the sound spectrum, and what the first call writes, and the second, in the words of the definitions
spectrum : (c : After-fault_spectrum) → c.fault_spectrum.new.out ≡ spectrum_of (problem_of c.args.d.now).sound
spectrum c =
    let d = problem_of c.args.d.now in
    spectrum-left d.inputs d.sound _ (search rules) (c.inputs-due.ensures.proper.rows_all 0 (omega arith)) c.fault_spectrum.ensures.value c.fault_spectrum.ensures.out_after

first : (c : After-put_line-at) → let line = plan_line (length c.args.labels.now) in (c.put_line-at.result ≡ 0 + length line) × (c.put_line-at.new.out ≡ placed 0 line c.args.out.now)
first c =
    let size = length c.args.labels.now in
    read-written 0 _ (plan_line size) c.args.out.now (plan-read size (omega (arith, c.requires.labels_low.1))) (c.put_line-at.ensures.value, c.put_line-at.ensures.out_after)

second : (c : After-label_lines-labels_end) → c.fault_spectrum.new.out ≡ spectrum_of (problem_of c.args.d.now).sound → let lines = gather (label_line (problem_of c.args.d.now).sound c.args.labels.now) (length c.args.labels.now) in
    (c.label_lines-labels_end.result ≡ c.put_line-at.result + length lines) × (c.label_lines-labels_end.new.out ≡ placed c.put_line-at.result lines c.put_line-at.new.out)
second c sound =
    let d = problem_of c.args.d.now in
    let labels = c.args.labels.now in
    let w = c.inputs-due.ensures.proper in
    let e = c.label_lines-labels_end.ensures in
    let same = label-lines-same d w labels c.requires.labels_low.0 c.fault_spectrum.new.out sound in
    read-written c.put_line-at.result _ (gather (label_line d.sound labels) (length labels)) c.put_line-at.new.out same (e.value, e.out_after)

pub put_line-at-requires : goal.put_line-at-requires
put_line-at-requires c =
    let size = length c.args.labels.now in
    let few : size < 10 = omega (arith, c.requires.labels_low.1) in
    read-room 0 _ (plan_line size) c.args.out.now (plan-read size few) (omega (arith, plan-length size few, c.requires.report_bytes_in_bounds))

pub label_lines-labels_end-requires : goal.label_lines-labels_end-requires
label_lines-labels_end-requires c =
    let d = problem_of c.args.d.now in
    let w = c.inputs-due.ensures.proper in
    let labels = c.args.labels.now in
    let r = c.requires.labels_low in
    let paths = goal.at.label_lines-labels_end-requires c in
    let s = spectrum-ready d w labels r.0 0 (omega arith) c.fault_spectrum.new.out (spectrum paths.After-fault_spectrum) in
    (labels-room d w labels r.0 r.1 c.args.out.now c.requires.report_bytes_in_bounds (first paths.After-put_line-at), s.1, s.2, s.3)

pub fault_lines-requires-clause-sound_value : goal.fault_lines-requires-clause-sound_value
fault_lines-requires-clause-sound_value c =
    let d = problem_of c.args.d.now in
    let r = c.requires.labels_low in
    let paths = goal.at.fault_lines-requires-clause-sound_value c in
    let sound = spectrum paths.After-fault_spectrum in
    let room = faults-room d c.inputs-due.ensures.proper c.args.labels.now r.0 r.1 c.args.out.now c.requires.report_bytes_in_bounds (first paths.After-put_line-at) in
    (sound, search rules, room (second paths.After-label_lines-labels_end sound))

pub returns : goal.returns
returns c =
    let d = problem_of c.args.d.now in
    let r = c.requires.labels_low in
    let paths = goal.at.returns c in
    let one = first paths.After-put_line-at in
    let two = second paths.After-label_lines-labels_end (spectrum paths.After-fault_spectrum) in
    let e = c.fault_lines.ensures in
    let all = plan-written d c.inputs-due.ensures.proper c.args.labels.now r.0 r.1 c.args.out.now c.requires.report_bytes_in_bounds one two (e.value, e.out_after) in
    record { value = all.0; out_after = all.1 }
