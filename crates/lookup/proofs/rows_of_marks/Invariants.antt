-- The first x rows are written by the masks, and the rest is as it was.
use Rattle.std.proofs.Common.{◌≡◌, ◌^◌, ◌++◌, take, drop}
use Rattle.integer.specs.Tab.{tab}
use Rattle.lookup.proofs.RowMasks.{masked_row}
use Rattle.lookup.proofs.rows_of_marks.Given as goal

abbrev pub invariant-loop-x : goal.invariant-loop-x
invariant-loop-x l = l.out ≡ tab l.x (masked_row (take (2 ^ l.inputs) l.marks) l.f.bridge l.set l.kept) ++ drop l.x l.fn.out
