use Rattle.std.proofs.Common.{◌≡◌, drop}
use Rattle.faults.specs.Faults.{rising_inputs}
use Rattle.faults.proofs.rises.Given as goal

abbrev pub invariant-loop-line : goal.invariant-loop-line
invariant-loop-line l = rising_inputs 0 l.n l.lines ≡ rising_inputs l.last l.n (drop l.line-index l.lines)
