-- The invariant: the count is that of the rows before this one.
use Rattle.std.proofs.Common.{◌≡◌}
use Rattle.reading.specs.Readings.{agrees, count_to}
use Rattle.reading.proofs.count_of.Given as goal

abbrev pub invariant-loop-row : goal.invariant-loop-row
invariant-loop-row l = l.count ≡ count_to l.row (agrees l.fixed.mask l.fixed.values)
