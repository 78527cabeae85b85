-- The invariant: the sum is that of the rows before this one.
use Rattle.std.proofs.Common.{◌≡◌}
use Rattle.integer.specs.Sum.{sum_to}
use Rattle.reading.specs.Readings.{term_at}
use Rattle.reading.proofs.sum_of.Given as goal

abbrev pub invariant-loop-row : goal.invariant-loop-row
invariant-loop-row l = l.sum ≡ sum_to l.row (term_at l.fixed.mask l.fixed.values l.rows)
