-- The lines of so many faults are written.
use Rattle.std.proofs.Common.{length}
use Rattle.writing.proofs.Writings.{WrittenSoFar}
use Rattle.devices.specs.Forms.{problem_of}
use Rattle.report_lines.specs.ReportLines.{fault_report_line}
use Rattle.report_lines.proofs.fault_lines.Given as goal

abbrev pub invariant-loop-f : goal.invariant-loop-f
invariant-loop-f l = WrittenSoFar l.at (fault_report_line (problem_of l.d).sound (problem_of l.d).faulted l.labels) (length (problem_of l.d).faulted) l.initial.out l.f l.out l.end
