use Rattle.std.proofs.Common.{◌<◌}
use Rattle.cases.proofs.numbers.decimal.Given as goal

abbrev pub invariant-loop-b : goal.invariant-loop-b
invariant-loop-b l = l.value < 10000000000
