use Rattle.std.proofs.Common.{◌≤◌}
use Rattle.vectors.proofs.try_all.Given as goal

abbrev pub invariant-loop : goal.invariant-loop
invariant-loop l = (l.t.wrong ≤ l.counter) × (l.t.cases ≤ l.counter)
