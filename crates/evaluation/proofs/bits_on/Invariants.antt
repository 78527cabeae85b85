-- The invariant: the bits are those of the lines that were read.
use Rattle.evaluation.proofs.Turns.{BitsRead}
use Rattle.evaluation.proofs.bits_on.Given as goal

abbrev pub invariant-loop-line : goal.invariant-loop-line
invariant-loop-line g l = BitsRead l.values l.lines l.x l.line-index l.bits
