-- The first b from i on is the first from `from` on.
use Rattle.std.proofs.Common.{◌≡◌, ◌+◌, drop}
use Rattle.text.specs.Text.{index_of}
use Rattle.text.proofs.find.Given as goal

abbrev pub invariant-loop-i : goal.invariant-loop-i
invariant-loop-i l = l.i + index_of l.b (drop l.i l.text) ≡ l.from + index_of l.b (drop l.from l.text)
