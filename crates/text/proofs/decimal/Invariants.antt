-- The number that the whole says is the number that the digits from here on say after v, which those before made.
use Rattle.std.proofs.Common.{◌≡◌, ◌<◌, ◌^◌, drop}
use Rattle.text.specs.Text.{number_of}
use Rattle.text.proofs.Decimals.{number_from}
use Rattle.text.proofs.decimal.Given as goal

abbrev pub invariant-loop-x : goal.invariant-loop-x
invariant-loop-x l = (l.v < 10 ^ l.x-index) × (number_of l.s ≡ number_from l.v (drop l.x-index l.s))
