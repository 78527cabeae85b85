-- The bridge formula as code computes it, for right inputs of a list and a label of it:
--   has_bits, base_of              what the label has of the two inputs, by their bits, and the label without them
--   first_few, second_few, first_bit, second_bit    the bits, as code shifts them
--   PairRead, pair_read            the two coefficients that are added up, their sum and its half, and the coefficient under the bridge, by what
--                                  the label has
use mathlib.Core.Path.{◌≡◌, refl, sym, ap, ap₂, ◌∙◌, subst}
use mathlib.Core.List.{List}
use Prim.Native.Nat.{ℕ, zero, suc, ◌+◌, ◌*◌, ◌-◌, ◌%◌, ◌^◌, ◌≤◌, ◌<◌}
use native.Mathlib.Omega.{arith}
use lib.Bits.{bit_and}
use lib.IntN.{ℤ, ◌+ℤ◌, neg_ℤ, nat_abs}
use lib.ListN.{length}
use lib.Pow.{pow_pos}
use Rattle.integer.specs.Tab.{nth, Within}
use Rattle.integer.proofs.Bounds.{nat_abs-add}
use Rattle.integer.proofs.Division.{nat_abs-quot}
use Rattle.integer.proofs.Machine.{bit_is}
use Rattle.screen.specs.Answers.{inputs_of}
use Rattle.screen.proofs.Screens.{inputs-power, inputs-most, inputs-size}
use Rattle.faults.specs.Faults.{bit_of}
use Rattle.faults.proofs.Digits.{digit-small}
use Rattle.bridges.specs.BridgeArguments.{BridgeArguments}
use Rattle.bridges.specs.Bridges.{without_both, has_of, pair_sum, half_at, with_neither, bridged_by, bridged_at}
use Rattle.bridges.proofs.BridgeLabels.{has-is, has-le, base-is, first_below, second_below, both_below}

abbrev pub has_bits : ℕ → ℕ → ℕ → ℕ
has_bits p q y = bit_and y p + bit_and y q

abbrev pub base_of : ℕ → ℕ → ℕ → ℕ
base_of p q y = y - has_bits p q y

pub record PairRead (a : List ℤ) (i j p q y : ℕ) : Type 0 where
  pub bits-few : p + q ≤ 4096
  pub small : has_bits p q y ≤ y
  pub first-in : base_of p q y + p < length a
  pub second-in : base_of p q y + q < length a
  pub both-in : has_bits p q y ≡ 0 → y + p + q < length a
  pub sum_is : nth a (base_of p q y + p) +ℤ nth a (base_of p q y + q) ≡ pair_sum i j (nth a) y
  pub sum_room : nat_abs (nth a (base_of p q y + p)) + nat_abs (nth a (base_of p q y + q)) ≤ 4096000
  pub sum-size : nat_abs (pair_sum i j (nth a) y) ≤ 4096000
  pub half-size : nat_abs (half_at i j (nth a) y) ≤ 2048000
  pub at-neither : has_bits p q y ≡ 0 → bridged_at i j (nth a) y ≡ (nth a y +ℤ half_at i j (nth a) y) +ℤ nth a (y + p + q)
  pub at_both : has_bits p q y ≡ p + q → bridged_at i j (nth a) y ≡ neg_ℤ (half_at i j (nth a) y)
  pub at_one : (has_bits p q y ≡ 0 → ⊥) → (has_bits p q y ≡ p + q → ⊥) → bridged_at i j (nth a) y ≡ half_at i j (nth a) y

-- how many of two parts a number has, by their sum
module _ (d e p q : ℕ) (hd : d < 2) (he : e < 2) (hp : 0 < p) (hq : 0 < q) where
  none-had : d * p + e * q ≡ 0 → d + e ≡ 0
  none-had = go d e hd he
    where
      go : (d e : ℕ) → d < 2 → e < 2 → d * p + e * q ≡ 0 → d + e ≡ 0
      go zero zero l m w = refl
      go zero (suc zero) l m w = absurd (omega arith)
      go (suc zero) zero l m w = absurd (omega arith)
      go (suc zero) (suc zero) l m w = absurd (omega arith)
      go (suc (suc d)) e l m w = absurd (omega arith)
      go zero (suc (suc e)) l m w = absurd (omega arith)
      go (suc zero) (suc (suc e)) l m w = absurd (omega arith)

  two-had : d * p + e * q ≡ p + q → d + e ≡ 2
  two-had = go d e hd he
    where
      go : (d e : ℕ) → d < 2 → e < 2 → d * p + e * q ≡ p + q → d + e ≡ 2
      go zero zero l m w = absurd (omega arith)
      go zero (suc zero) l m w = absurd (omega arith)
      go (suc zero) zero l m w = absurd (omega arith)
      go (suc zero) (suc zero) l m w = refl
      go (suc (suc d)) e l m w = absurd (omega arith)
      go zero (suc (suc e)) l m w = absurd (omega arith)
      go (suc zero) (suc (suc e)) l m w = absurd (omega arith)

  one-had : (d * p + e * q ≡ 0 → ⊥) → (d * p + e * q ≡ p + q → ⊥) → d + e ≡ 1
  one-had = go d e hd he
    where
      go : (d e : ℕ) → d < 2 → e < 2 → (d * p + e * q ≡ 0 → ⊥) → (d * p + e * q ≡ p + q → ⊥) → d + e ≡ 1
      go zero zero l m u w = absurd (u (omega arith))
      go zero (suc zero) l m u w = refl
      go (suc zero) zero l m u w = refl
      go (suc zero) (suc zero) l m u w = absurd (w (omega arith))
      go (suc (suc d)) e l m u w = absurd (omega arith)
      go zero (suc (suc e)) l m u w = absurd (omega arith)
      go (suc zero) (suc (suc e)) l m u w = absurd (omega arith)

-- the inputs' bits, which code shifts
module _ (k i j : ℕ) (g : BridgeArguments (inputs_of k) i j) where
  pub second_few : j - 1 < 11
  second_few = omega (arith, g.low, g.rise, g.high, inputs-most k)

  pub first_few : i - 1 < 11
  first_few = omega (arith, g.rise, second_few)

  pub first_bit : (1 * 2 ^ (i - 1)) % 2 ^ 64 ≡ 2 ^ (i - 1)
  first_bit = bit_is 64 (i - 1) (omega (arith, first_few))

  pub second_bit : (1 * 2 ^ (j - 1)) % 2 ^ 64 ≡ 2 ^ (j - 1)
  second_bit = bit_is 64 (j - 1) (omega (arith, second_few))

module _ (a : List ℤ) (i j p q y : ℕ) (g : BridgeArguments (inputs_of (length a)) i j) (bit-first : p ≡ 2 ^ (i - 1)) (bit-second : q ≡ 2 ^ (j - 1))
    (within : Within 2048000 a) (h : y < length a) where
  abbrev n : ℕ
  n = inputs_of (length a)

  size : length a ≡ 2 ^ n
  size = inputs-power (length a) (omega (arith, g.low, g.rise, g.high))

  here : y < 2 ^ n
  here = subst (λ (m : ℕ). y < m) size h

  has-bits : has_bits p q y ≡ bit_and y (2 ^ (i - 1)) + bit_and y (2 ^ (j - 1))
  has-bits = ap₂ (λ (p q : ℕ). bit_and y p + bit_and y q) bit-first bit-second

  parts : has_bits p q y ≡ bit_of i y * 2 ^ (i - 1) + bit_of j y * 2 ^ (j - 1)
  parts = has-bits ∙ has-is i j g.low g.rise y

  base-plain : base_of p q y ≡ without_both i j y
  base-plain = ap (λ (m : ℕ). y - m) has-bits ∙ base-is i j g.low g.rise y

  at-first : base_of p q y + p ≡ without_both i j y + 2 ^ (i - 1)
  at-first = ap₂ (λ (p q : ℕ). p + q) base-plain bit-first

  at-second : base_of p q y + q ≡ without_both i j y + 2 ^ (j - 1)
  at-second = ap₂ (λ (p q : ℕ). p + q) base-plain bit-second

  with-both : y + p + q ≡ y + 2 ^ (i - 1) + 2 ^ (j - 1)
  with-both = ap₂ (λ (p q : ℕ). y + p + q) bit-first bit-second

  pub first-in : base_of p q y + p < length a
  first-in = omega (arith, at-first, size, first_below i j g.low g.rise n g.high y here)

  pub second-in : base_of p q y + q < length a
  second-in = omega (arith, at-second, size, second_below i j g.low g.rise n g.high y here)

  pub both-in : has_bits p q y ≡ 0 → y + p + q < length a
  both-in e = omega (arith, base-plain, with-both, size, both_below i j g.low g.rise n g.high y here)

  sum_is : nth a (base_of p q y + p) +ℤ nth a (base_of p q y + q) ≡ pair_sum i j (nth a) y
  unfolding pair_sum
  sum_is = ap₂ (λ (p q : ℕ). nth a p +ℤ nth a q) at-first at-second

  sum_room : nat_abs (nth a (base_of p q y + p)) + nat_abs (nth a (base_of p q y + q)) ≤ 4096000
  sum_room = omega (arith, within (base_of p q y + p) first-in, within (base_of p q y + q) second-in)

  sum-size : nat_abs (pair_sum i j (nth a) y) ≤ 4096000
  sum-size =
      subst (λ (z : ℤ). nat_abs z ≤ 4096000) sum_is
      (omega (arith, sum_room, nat_abs-add (nth a (base_of p q y + p)) (nth a (base_of p q y + q))))

  half-size : nat_abs (half_at i j (nth a) y) ≤ 2048000
  unfolding half_at
  half-size = omega (arith, sum-size, nat_abs-quot 2 (pair_sum i j (nth a) y))

  picked : (has : ℕ) → has_of i j y ≡ has → bridged_at i j (nth a) y ≡ bridged_by i j (nth a) y has
  unfolding bridged_at
  picked has e = ap (bridged_by i j (nth a) y) e

  at-neither : has_bits p q y ≡ 0 → bridged_at i j (nth a) y ≡ (nth a y +ℤ half_at i j (nth a) y) +ℤ nth a (y + p + q)
  unfolding bridged_by with_neither
  at-neither e =
      picked 0 (none-had (bit_of i y) (bit_of j y) (2 ^ (i - 1)) (2 ^ (j - 1)) (digit-small (i - 1) y) (digit-small (j - 1) y) (pow_pos (i - 1)) (pow_pos (j - 1)) (sym parts ∙ e))
      ∙ ap (λ (m : ℕ). (nth a y +ℤ half_at i j (nth a) y) +ℤ nth a m) (sym with-both)

  at_both : has_bits p q y ≡ p + q → bridged_at i j (nth a) y ≡ neg_ℤ (half_at i j (nth a) y)
  unfolding bridged_by
  at_both e =
      picked 2 (two-had (bit_of i y) (bit_of j y) (2 ^ (i - 1)) (2 ^ (j - 1)) (digit-small (i - 1) y) (digit-small (j - 1) y) (pow_pos (i - 1)) (pow_pos (j - 1))
      (omega (arith, parts, bit-first, bit-second)))

  at_one : (has_bits p q y ≡ 0 → ⊥) → (has_bits p q y ≡ p + q → ⊥) → bridged_at i j (nth a) y ≡ half_at i j (nth a) y
  unfolding bridged_by
  at_one u w =
      picked 1 (one-had (bit_of i y) (bit_of j y) (2 ^ (i - 1)) (2 ^ (j - 1)) (digit-small (i - 1) y) (digit-small (j - 1) y) (pow_pos (i - 1)) (pow_pos (j - 1))
      (λ e. u (parts ∙ e)) (λ e. w (omega (arith, parts, bit-first, bit-second))))

  pub small : has_bits p q y ≤ y
  small = subst (λ (m : ℕ). m ≤ y) (sym has-bits) (has-le i j g.low g.rise y)

  pub bits-few : p + q ≤ 4096
  bits-few = omega (arith, first-in, second-in, inputs-size (length a) (omega (arith, g.low, g.rise, g.high)))

  pub pair_read : PairRead a i j p q y
  pair_read = record {
    bits-few = bits-few;
    small = small;
    first-in = first-in;
    second-in = second-in;
    both-in = both-in;
    sum_is = sum_is;
    sum_room = sum_room;
    sum-size = sum-size;
    half-size = half-size;
    at-neither = at-neither;
    at_both = at_both;
    at_one = at_one;
  }

pub ruleset places = (small, bits-few, first-in, second-in, both-in)
