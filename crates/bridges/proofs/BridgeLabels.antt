-- Labels and two bridged inputs i and j, 1 ≤ i, i below j:
--   without-first, without-second    the label without both has neither
--   label-by, label-plain            a label is the one without both and the parts of those that it has; without a part it is that label
--   without-le, without-again        the label without both is no larger, and without both it is itself
--   has-is, has-le, base-is          how code finds it: less what AND with the inputs' bits leaves
--   without-below, first_below, second_below, both_below    labels of n inputs: that label, and with one input or both added
use mathlib.Core.Path.{◌≡◌, sym, ap, ap₂, ◌∙◌}
use Prim.Native.Nat.{ℕ, ◌+◌, ◌*◌, ◌-◌, ◌^◌, ◌≤◌, ◌<◌}
use native.Mathlib.Omega.{arith}
use lib.Bits.{bit_and}
use Rattle.faults.specs.Faults.{bit_of, replaced}
use Rattle.faults.proofs.Digits.{digit, put, put-shows, put_keeps, put-zero, add-below, digit-beyond, and-bit}
use Rattle.faults.proofs.Sticking.{replaced-put}
use Rattle.bridges.specs.Bridges.{without_both}

module _ (i j : ℕ) (low : 1 ≤ i) (rise : i < j) where
  abbrev b : ℕ
  b = i - 1

  abbrev c : ℕ
  c = j - 1

  apart : b ≡ c → ⊥
  apart e = omega arith

  apart' : c ≡ b → ⊥
  apart' e = omega arith

  without-put : (y : ℕ) → without_both i j y ≡ put c 0 (put b 0 y)
  unfolding without_both
  without-put y =
      replaced-put (record { line = j; value = 0 }) (omega arith) (replaced (record { line = i; value = 0 }) y)
      ∙ ap (put c 0) (replaced-put (record { line = i; value = 0 }) low y)

  pub without-first : (y : ℕ) → bit_of i (without_both i j y) ≡ 0
  without-first y = ap (digit b) (without-put y) ∙ put_keeps c 0 (put b 0 y) (omega arith) b apart ∙ put-shows b 0 y (omega arith)

  pub without-second : (y : ℕ) → bit_of j (without_both i j y) ≡ 0
  without-second y = ap (digit c) (without-put y) ∙ put-shows c 0 (put b 0 y) (omega arith)

  label-parts : (y : ℕ) → without_both i j y + (bit_of i y * 2 ^ b + bit_of j y * 2 ^ c) ≡ y
  label-parts y =
      let e = put-zero c (put b 0 y) in
      let f = put-zero b y in
      let g = ap (λ (n : ℕ). n * 2 ^ c) (put_keeps b 0 y (omega arith) c apart') in
      let h = without-put y in
      omega arith

  pub label-by : (y d e : ℕ) → bit_of i y ≡ d → bit_of j y ≡ e → without_both i j y + (d * 2 ^ b + e * 2 ^ c) ≡ y
  label-by y d e hd he = ap₂ (λ (m n : ℕ). without_both i j y + (m * 2 ^ b + n * 2 ^ c)) (sym hd) (sym he) ∙ label-parts y

  pub label-plain : (y : ℕ) → bit_of i y ≡ 0 → bit_of j y ≡ 0 → without_both i j y ≡ y
  label-plain y hd he = let e = label-by y 0 0 hd he in omega arith

  pub without-le : (y : ℕ) → without_both i j y ≤ y
  without-le y = let e = label-parts y in omega arith

  pub without-again : (y : ℕ) → without_both i j (without_both i j y) ≡ without_both i j y
  without-again y = label-plain (without_both i j y) (without-first y) (without-second y)

  pub has-is : (y : ℕ) → bit_and y (2 ^ b) + bit_and y (2 ^ c) ≡ bit_of i y * 2 ^ b + bit_of j y * 2 ^ c
  has-is y = ap₂ (λ (m n : ℕ). m + n) (and-bit b y) (and-bit c y)

  pub has-le : (y : ℕ) → bit_and y (2 ^ b) + bit_and y (2 ^ c) ≤ y
  has-le y = let e = label-parts y in let h = has-is y in omega arith

  pub base-is : (y : ℕ) → y - (bit_and y (2 ^ b) + bit_and y (2 ^ c)) ≡ without_both i j y
  base-is y = let e = label-parts y in let h = has-is y in omega arith

  module _ (n : ℕ) (high : j ≤ n) (y : ℕ) (hy : y < 2 ^ n) where
    pub without-below : without_both i j y < 2 ^ n
    without-below = let e = without-le y in omega arith

    pub first_below : without_both i j y + 2 ^ b < 2 ^ n
    first_below = add-below n b (without_both i j y) (omega arith) without-below (without-first y)

    pub second_below : without_both i j y + 2 ^ c < 2 ^ n
    second_below = add-below n c (without_both i j y) (omega arith) without-below (without-second y)

    pub both_below : without_both i j y + 2 ^ b + 2 ^ c < 2 ^ n
    both_below =
        add-below n c (without_both i j y + 2 ^ b) (omega arith) first_below
        (digit-beyond b c (without_both i j y) (omega arith) (without-first y) ∙ without-second y)
