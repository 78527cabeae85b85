-- The loop's invariant: nothing is found before place i.
use Rattle.std.proofs.Common.{◌≡◌}
use Rattle.search.specs.Steps.{sought}
use Rattle.search.proofs.Search.last.Given as goal

abbrev pub invariant-loop-i : goal.invariant-loop-i
invariant-loop-i l = sought l.self.masks.now l.start 1 l.missing ≡ sought l.self.masks.now l.i 1 l.missing
