-- Masks, numbers that stand for the set of their bits:
--   bit m f         bit f is set
--   mask_of p q      the numbers below q that pass
--   without m c     what is left of m when c is taken away
--   union_of ms      the bits of all the masks
use Rattle.std.specs.Prelude.{Bool, cond, List, [], ◌∷◌, ℕ, zero, suc, ◌+◌, ◌/◌, ◌%◌, ◌^◌, eqb}
use Rattle.std.specs.Int.Bits.{bit_and, bit_or, bit_xor}

unfoldable pub bit : ℕ → ℕ → Bool
bit m f = eqb (m / 2 ^ f % 2) 1

unfoldable pub mask_of : (ℕ → Bool) → ℕ → ℕ
mask_of p zero = 0
mask_of p (suc q) = mask_of p q + cond (p q) (2 ^ q) 0

abbrev pub without : ℕ → ℕ → ℕ
without m c = bit_and m (bit_xor m c)

unfoldable pub union_of : List ℕ → ℕ
union_of [] = 0
union_of (m ∷ ms) = bit_or m (union_of ms)
