-- After so many commas as the counter says, field k of the text is field k less that of the rest from `start`.
use Rattle.std.proofs.Common.{length, ◌≤◌}
use Rattle.text.proofs.Parts.{Rest}
use Rattle.text.proofs.locate.Given as goal

abbrev pub invariant-loop : goal.invariant-loop
invariant-loop l = (l.start ≤ length l.text) × Rest l.text l.k l.counter l.start
