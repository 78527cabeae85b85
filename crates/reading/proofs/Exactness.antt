-- Fractions in binary64, with a count 2 ^ k up to 2 ^ 11. Of whole sums below 2 ^ 53 in size:
--   quotient-exact      sum by count is exact
--   quotient-back       times the count it gives the whole sum again, in the machine's arithmetic too
--   same-quotient       equal quotients by one count have equal sums
-- of whole sums below 2 ^ 52 in size:
--   difference-exact    the difference of two exact fractions by one count is exact
-- and of any, by any count:
--   same_sum            a float is the fraction of one whole sum only
use mathlib.Core.Path.{◌≡◌, sym, ap, ◌∙◌}
use Prim.Native.Nat.{ℕ, ◌+◌, ◌-◌, ◌^◌, ◌≤◌, ◌<◌, zero-le}
use native.Mathlib.Nat.{lt_of_le_of_lt, lt_of_lt_of_le, mul_assoc, sub-add_cancel, eq_of_mul-eq-mul_right}
use native.Mathlib.Omega.{arith}
use lib.IntN.{ℤ, pos, negsuc, nat_abs, ◌-ℤ◌}
use lib.Ieee.{Float, nan, inf, fin, binary64, down, mul, sub, of_int}
use lib.Ieee.Exact.{round_exact}
use lib.Ieee.Fits.{down_pos}
use lib.Pow.{pow_pos, pow-add, pow-lt, pow_mono, shl_lt, add-lt-pow}
use Rattle.integer.proofs.Bools.{clash}
use Rattle.integer.proofs.Bounds.{nat_abs-sub}
use Rattle.reading.specs.Exact.{negative, Exact}
use Rattle.reading.specs.Readings.{quotient}
use Rattle.reading.proofs.Fractions.{rounded, of-int, times-count, by_count, difference}

-- z / 2 ^ k is z * 2 ^ (1074 - k) of the format's smallest values
rounded-exact : (z : ℤ) (k : ℕ) → nat_abs z < 2 ^ 53 → k ≤ 11 → Exact (rounded binary64 z (2 ^ k)) z (2 ^ k)
unfolding Exact
rounded-exact z k h small =
    round_exact binary64 (negative z) (nat_abs z) (2 ^ k) (nat_abs z) (1074 - k) (pow_pos k) h
    (lt_of_lt_of_le (shl_lt 53 (1074 - k) h) (pow_mono {i = 53 + (1074 - k)} {j = 2098} (omega arith)))
    (let l : k ≤ 1074 = omega arith in rw (mul_assoc, ← pow-add, sub-add_cancel l))

whole-exact : (z : ℤ) → nat_abs z < 2 ^ 53 → Exact (of_int binary64 z) z 1
whole-exact z h = rw of-int (rounded-exact z 0 h zero-le)

module _ (z : ℤ) (k : ℕ) (h : nat_abs z < 2 ^ 53) (small : k ≤ 11) where
  count-exact : Exact (of_int binary64 (pos (2 ^ k))) (pos (2 ^ k)) 1
  count-exact = whole-exact (pos (2 ^ k)) (pow-lt {i = k} {j = 53} (omega arith))

  quotient-rounded : quotient z (2 ^ k) ≡ rounded binary64 z (2 ^ k)
  unfolding quotient
  quotient-rounded = by_count binary64 (of_int binary64 z) (of_int binary64 (pos (2 ^ k))) z (2 ^ k) (pow_pos k) (whole-exact z h) count-exact

  pub quotient-exact : Exact (quotient z (2 ^ k)) z (2 ^ k)
  quotient-exact = rw quotient-rounded (rounded-exact z k h small)

  pub quotient-back : mul binary64 (quotient z (2 ^ k)) (of_int binary64 (pos (2 ^ k))) ≡ of_int binary64 z
  quotient-back = times-count binary64 (quotient z (2 ^ k)) (of_int binary64 (pos (2 ^ k))) z (2 ^ k) (pow_pos k) quotient-exact count-exact ∙ sym (of-int binary64 z)

pub difference-exact : (k : ℕ) → k ≤ 11 → (x w : Float) (y z : ℤ) → nat_abs y < 2 ^ 52 → nat_abs z < 2 ^ 52 → Exact x y (2 ^ k) → Exact w z (2 ^ k) → Exact (sub binary64 x w) (y -ℤ z) (2 ^ k)
difference-exact k small x w y z h g a b =
    rw (difference binary64 x w y z (2 ^ k) (pow_pos k) a b) (rounded-exact (y -ℤ z) k (lt_of_le_of_lt (nat_abs-sub y z) (add-lt-pow 52 h g)) small)

same_whole : (y z : ℤ) → negative y ≡ negative z → nat_abs y ≡ nat_abs z → y ≡ z
same_whole (pos m) (pos n) s e = ap pos e
same_whole (pos m) (negsuc n) s e = clash (sym s)
same_whole (negsuc m) (pos n) s e = clash s
same_whole (negsuc m) (negsuc n) s e = ap negsuc (omega arith)

pub same_sum : (x : Float) (y z : ℤ) (count : ℕ) → Exact x y count → Exact x z count → y ≡ z
unfolding Exact
same_sum nan y z c h k = absurd h
same_sum (inf s) y z c h k = absurd h
same_sum (fin s m e) y z c h k = same_whole y z (sym h.0 ∙ k.0) (eq_of_mul-eq-mul_right (down e) (down_pos e) (nat_abs y) (nat_abs z) (sym h.1 ∙ k.1))

pub same-quotient : (y z : ℤ) (k : ℕ) → nat_abs y < 2 ^ 53 → nat_abs z < 2 ^ 53 → k ≤ 11 → quotient y (2 ^ k) ≡ quotient z (2 ^ k) → y ≡ z
same-quotient y z k h g small e = same_sum (quotient z (2 ^ k)) y z (2 ^ k) (rw e at (quotient-exact y k h small)) (quotient-exact z k g small)
