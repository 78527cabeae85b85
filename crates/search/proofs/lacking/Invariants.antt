-- The loop's invariant: each of `count` masks lacks some, and the chunks left begin there.
use Rattle.std.proofs.Common.{ℕ, ◌≡◌, ◌<◌, ◌≤◌, length, drop, get_or}
use Rattle.std.specs.Slice.Iter.{chunks_exact_rest, chunks_exact_size}
use Rattle.integer.specs.Mask.{without}
use Rattle.search.proofs.lacking.Given as goal

abbrev pub invariant-loop-four : goal.invariant-loop-four
invariant-loop-four l =
    (goal.iterator-loop-four).can_next l.four-iterator
    × (goal.iterator-loop-four).is_finite l.four-iterator
    × (chunks_exact_rest l.four-iterator ≡ drop l.count l.masks)
    × (chunks_exact_size l.four-iterator ≡ 4)
    × (l.count ≤ length l.masks)
    × ((k : ℕ) → k < l.count → without l.missing (get_or l.masks k 0) ≡ 0 → ⊥)
