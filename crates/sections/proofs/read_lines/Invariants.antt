-- What all the lines say is what the lines of `rest` say, after the items so far.
use Rattle.std.proofs.Common.{length}
use Rattle.sections.proofs.LineLoops.{ReadSoFar}
use Rattle.sections.proofs.read_lines.Given as goal

abbrev pub invariant-loop-j : goal.invariant-loop-j
invariant-loop-j g l =
    let k = g.K.LineKind in
    ReadSoFar (k.refusal l.kind) (k.item l.kind) l.text l.place (length l.fn.out) l.out l.j-counter l.rest
