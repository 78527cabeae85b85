use Rattle.std.proofs.Common.{arith}
use Rattle.report.proofs.ReportLaws.{Short, short-out, short-work, report-served}
use Rattle.report.proofs.report.Goals as goal
use Rattle.report.proofs.report.Goals.{then-out-lt-REPORT_BYTES-via-then-out-lt-REPORT_BYTES, then-out-lt-REPORT_BYTES-via-else-out-lt-REPORT_BYTES+then-work-lt-WORKING_NUMBERS}

pub returns-then-out-lt-REPORT_BYTES : goal.returns-then-out-lt-REPORT_BYTES
returns-then-out-lt-REPORT_BYTES c =
    let short : Short c.args.text.now c.args.out.now c.args.work.now = elim c.then-out-lt-REPORT_BYTES.branch [
      | then-out-lt-REPORT_BYTES-via-then-out-lt-REPORT_BYTES w ↦ short-out c.args.text.now c.args.out.now c.args.work.now (omega arith)
      | then-out-lt-REPORT_BYTES-via-else-out-lt-REPORT_BYTES+then-work-lt-WORKING_NUMBERS w ↦ short-work c.args.text.now c.args.out.now c.args.work.now (omega arith)
    ] in
    record { value = short.0; out_after = short.1.0; work_kept = short.1.1 }

pub returns : goal.returns
returns c =
    let t = c.text_lines.ensures in
    let all = report-served c.args.text.now c.args.out.now c.args.work.now (omega arith) (omega arith) (t.value, (t.out_after, t.work_kept)) in
    record { value = all.0; out_after = all.1.0; work_kept = all.1.1 }
