-- The lines of so many labels are written.
use Rattle.std.proofs.Common.{length}
use Rattle.writing.proofs.Writings.{WrittenSoFar}
use Rattle.report_lines.specs.Steps.{spectral_label_line}
use Rattle.report_lines.proofs.label_lines.Given as goal

abbrev pub invariant-loop-label : goal.invariant-loop-label
invariant-loop-label l = WrittenSoFar l.at (spectral_label_line l.sound l.labels) (length l.labels) l.initial.out l.label-index l.out l.end
