-- The invariant: the first x differences are written, and `same` says whether all of them are 0.
use Rattle.std.proofs.Common.{◌≡◌, ◌++◌, drop}
use Rattle.integer.specs.Tab.{tab}
use Rattle.integer.specs.Counting.{all_below}
use Rattle.cover.specs.Cover.{same_at}
use Rattle.cover.specs.Steps.{row_difference_at}
use Rattle.cover.proofs.marks.differences.Given as goal

abbrev pub invariant-loop-x : goal.invariant-loop-x
invariant-loop-x l = (l.out ≡ tab l.x (row_difference_at l.sound l.faulted) ++ drop l.x l.initial.out) × (l.same ≡ all_below (same_at l.sound l.faulted) l.x)
