-- The report stands at the front of what was lent.
use Rattle.report.proofs.ReportLaws.{report-front}
use Rattle.signature.proofs.written.Goals as goal

pub returns : goal.returns
returns c =
    rw c.unwrap_or.ensures
    (report-front c.report.result c.args.text.now c.args.out.now c.report.new.out _ c.requires.0 c.requires.1 c.report.ensures.value c.report.ensures.out_after)
