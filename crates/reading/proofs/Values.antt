-- Readings of rows, where the mask is below 2 ^ n for 2 ^ n rows and the values lie within it:
--   value-exact          the reading is the exact fraction of the whole sum by the count
--   value-difference     so is the difference of two readings of one mask and its values
--   whole-bounded        the whole sum's size
use mathlib.Core.List.{List}
use mathlib.Core.Path.{◌≡◌, subst, subst⁻¹}
use Prim.Native.Nat.{ℕ, ◌^◌, ◌≤◌, ◌<◌}
use native.Mathlib.Nat.{le_refl}
use native.Mathlib.Omega.{arith}
use lib.Bits.{bit_and}
use lib.Ieee.{binary64, sub}
use lib.IntN.{ℤ, nat_abs, ◌-ℤ◌}
use lib.ListN.{length}
use lib.Pow.{pow_mono}
use Rattle.integer.specs.Tab.{Within}
use Rattle.reading.specs.Exact.{Exact}
use Rattle.reading.specs.Readings.{count_of, quotient, mean_of, whole_sum}
use Rattle.reading.proofs.AgreeingRows.{count-power}
use Rattle.reading.proofs.Exactness.{quotient-exact, difference-exact}
use Rattle.reading.proofs.Totals.{total-le}

pub whole-bounded : (mask values : ℕ) (rows : List ℤ) → length rows ≤ 2048 → Within 1000 rows → nat_abs (whole_sum mask values rows) ≤ 2048000
unfolding whole_sum
whole-bounded mask values rows few h = omega (arith, total-le mask values rows 1000 (length rows) (le_refl (length rows)) h)

module _ (n mask values : ℕ) (most : n ≤ 11) (below : mask < 2 ^ n) (within : bit_and values mask ≡ values) where
  module _ (rows : List ℤ) (long : length rows ≡ 2 ^ n) (near : Within 1000 rows) where
    bounded : nat_abs (whole_sum mask values rows) ≤ 2048000
    bounded = whole-bounded mask values rows (subst⁻¹ (λ (k : ℕ). k ≤ 2048) long (pow_mono most)) near

    pub value-exact : Exact (mean_of mask values rows) (whole_sum mask values rows) (count_of mask values (2 ^ n))
    unfolding mean_of
    value-exact =
        let p = count-power n mask values below within in
        subst⁻¹ (λ (k : ℕ). Exact (quotient (whole_sum mask values rows) (count_of mask values k)) (whole_sum mask values rows) (count_of mask values (2 ^ n))) long
        (subst⁻¹ (λ (c : ℕ). Exact (quotient (whole_sum mask values rows) c) (whole_sum mask values rows) c) p.is
        (quotient-exact (whole_sum mask values rows) p.free (omega (arith, bounded)) (omega (arith, p.inputs))))

  pub value-difference : (rows others : List ℤ) → length rows ≡ 2 ^ n → length others ≡ 2 ^ n → Within 1000 rows → Within 1000 others
      → Exact (sub binary64 (mean_of mask values rows) (mean_of mask values others)) (whole_sum mask values rows -ℤ whole_sum mask values others) (count_of mask values (2 ^ n))
  value-difference rows others long even near close =
      let p = count-power n mask values below within in
      let x = mean_of mask values rows in
      let y = mean_of mask values others in
      subst⁻¹ (λ (c : ℕ). Exact (sub binary64 x y) (whole_sum mask values rows -ℤ whole_sum mask values others) c) p.is
      (difference-exact p.free (omega (arith, p.inputs)) x y (whole_sum mask values rows) (whole_sum mask values others)
      (omega (arith, bounded rows long near)) (omega (arith, bounded others even close))
      (subst (λ (c : ℕ). Exact x (whole_sum mask values rows) c) p.is (value-exact rows long near))
      (subst (λ (c : ℕ). Exact y (whole_sum mask values others) c) p.is (value-exact others even close)))
