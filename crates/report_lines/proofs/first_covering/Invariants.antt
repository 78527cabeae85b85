-- At no label before this one do the coefficients differ.
use Rattle.std.proofs.Common.{◌≡◌, ◌<◌, ℕ, false}
use Rattle.report_lines.specs.Steps.{differ_at}
use Rattle.report_lines.proofs.first_covering.Given as goal

abbrev pub invariant-loop-label : goal.invariant-loop-label
invariant-loop-label l = (x : ℕ) → x < l.label-index → differ_at l.sound l.faulted l.labels x ≡ false
