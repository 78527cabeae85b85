-- What "exact" means (document 01, "Fixture readings"): "Each value times the count gives the whole sum again." Over whole numbers, nothing rounded:
-- the float is ±m * 2 ^ e, and m * 2 ^ e times the count is the sum's size, with the sum's sign.
use Rattle.std.specs.Prelude.{ℕ, Bool, true, false, Float, ℤ, pos, negsuc, nat_abs}
use Rattle.std.specs.Float.Ieee.Exact.{HasValue}

abbrev pub negative : ℤ → Bool
negative (pos n) = false
negative (negsuc n) = true

unfoldable pub Exact : Float → ℤ → ℕ → Type 0
Exact x sum count = HasValue x (negative sum) (nat_abs sum) count
