-- Whether two whole numbers differ:
--   differ a b    a is not b
use Rattle.std.specs.Prelude.{Bool, not, eqb, ℤ, ◌-ℤ◌, nat_abs}

abbrev pub differ : ℤ → ℤ → Bool
differ a b = not (eqb (nat_abs (a -ℤ b)) 0)
