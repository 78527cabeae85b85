-- The loop's invariant: no size below `size` has a set.
use Rattle.std.proofs.Common.{◌≡◌, ◌+◌, ◌-◌, ◌^◌, length}
use Rattle.integer.specs.Counting.{up_to}
use Rattle.search.specs.Sets.{plan_of, plan_from}
use Rattle.search.specs.Steps.{clears}
use Rattle.search.proofs.find.Given as goal

abbrev pub invariant-loop-size : goal.invariant-loop-size
invariant-loop-size l =
    plan_of (clears l.masks (2 ^ l.faults - 1)) (up_to (length l.masks)) l.cap
    ≡ plan_from (clears l.masks l.missing) (up_to (length l.masks)) l.size (l.cap + 1 - l.size)
