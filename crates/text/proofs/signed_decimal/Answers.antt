use Rattle.std.proofs.Common.{arith}
use Rattle.std.proofs.lemmas.Grind.{common_steps}
use Rattle.text.specs.Text.{signed_number_of}
use Rattle.text.proofs.Decimals.{signed_steps}
use Rattle.text.proofs.signed_decimal.Goals as goal

pub returns-in_default-2 : goal.returns-in_default-2
unfolding signed_number_of
returns-in_default-2 c = grind (arith, common_steps, signed_steps)
