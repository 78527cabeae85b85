-- The loop's invariant: the unions from the last place written on stand.
use Rattle.std.proofs.Common.{◌<◌, ◌≤◌, length}
use Rattle.search.proofs.Pruning.{UnionsFrom}
use Rattle.search.proofs.unions.Given as goal

abbrev pub invariant-loop-i : goal.invariant-loop-i
invariant-loop-i l = (l.i ≤ length l.masks) × (length l.masks < length l.rest) × UnionsFrom l.masks l.rest l.i
