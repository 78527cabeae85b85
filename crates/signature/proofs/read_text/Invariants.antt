-- No more is read than there is room for; each turn reads at least one byte.
use Rattle.std.proofs.Common.{length, ◌-◌, ◌≤◌}
use Rattle.signature.proofs.read_text.Given as goal

abbrev pub invariant-loop-length : goal.invariant-loop-length
invariant-loop-length l = l.length ≤ length l.text

abbrev pub decreases-loop-length : goal.decreases-loop-length
decreases-loop-length l = length l.initial.text - l.length
