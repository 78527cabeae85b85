use lib.Signed.{nat_abs-le}
use Rattle.std.proofs.Common.{◌≤◌, ℤ, length, w32, SFits, arith}
use Rattle.std.proofs.lemmas.Grind.{common_steps}
use Rattle.std.proofs.lemmas.Int.{to_z-of_z}
use Rattle.writing.specs.Writing.{integer_of}
use Rattle.writing.proofs.Writings.{integer-length}
use Rattle.cases.proofs.lines.put_number.Goals as goal

-- a sign and ten digits at most
few : (z : ℤ) → SFits w32 z → length (integer_of z) ≤ 11
few z fits = let m = nat_abs-le z fits.sfits in integer-length 9 z (omega (arith, m))

pub put_integer-requires : goal.put_integer-requires
put_integer-requires c = let h = few c.args.z c.ranges.z in grind (arith, common_steps, to_z-of_z)

pub returns : goal.returns
returns c = let h = few c.args.z c.ranges.z in grind (arith, common_steps, to_z-of_z)
