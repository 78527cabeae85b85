-- The marks so far, and 0 past them.
use Rattle.std.proofs.Common.{◌≡◌, ◌-◌, drop, replicate}
use Rattle.tables.proofs.MarksSoFar.{MarksRead}
use Rattle.tables.proofs.parsing.mark_line.Given as goal

abbrev pub invariant-loop-x : goal.invariant-loop-x
invariant-loop-x l = MarksRead l.line l.marks l.x × (drop l.x l.marks ≡ replicate (256 - l.x) 0)
