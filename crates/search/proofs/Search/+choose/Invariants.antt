-- The measure is the number of places still to choose. The loop's invariant: nothing is found before `place`.
use Rattle.std.proofs.Common.{◌≡◌}
use Rattle.search.specs.Steps.{sought}
use Rattle.search.proofs.Search.+choose.Given as goal

abbrev pub invariant-loop-place : goal.invariant-loop-place
invariant-loop-place l = sought l.self.masks.now l.start l.left l.missing ≡ sought l.self.masks.now l.place l.left l.missing

abbrev pub decreases-choose : goal.decreases-choose
decreases-choose l = l.left
