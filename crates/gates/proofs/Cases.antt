-- `xor` of a known bit, by which the cases of `xor` and `xnor` compute: `xor_true`, `xor_false`.
use mathlib.Core.Path.{◌≡◌, refl}
use mathlib.Core.Bool.{Bool, true, false, not, xor}

pub xor_true : (b : Bool) → xor true b ≡ not b
unfolding xor
xor_true true = refl
xor_true false = refl

pub xor_false : (b : Bool) → xor false b ≡ b
unfolding xor
xor_false true = refl
xor_false false = refl
