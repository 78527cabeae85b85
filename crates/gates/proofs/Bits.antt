-- Bits as a number behind a leading 1: `bit_appended`, one bit more after the others.
use mathlib.Core.Path.{◌≡◌, sym, ap, ap₂, ◌∙◌}
use mathlib.Core.Bool.{Bool, true, false, cond}
use mathlib.Core.List.{List, [], ◌∷◌, ◌++◌}
use Prim.Native.Nat.{ℕ, zero, suc, ◌+◌, ◌*◌, ◌/◌, ◌%◌, ◌^◌, ◌≤◌, ◌<◌}
use native.Mathlib.Omega.{arith}
use lib.Dec.{eqb, ltb}
use borrow.Author.Tests.{lt-ltb, le-ltb}
use Rattle.gates.specs.Gates.{bits_to, bits_of}

-- a number of at most `most` bits behind the 1 has no further ones
bits-enough : (most n : ℕ) → n < 2 ^ suc most → bits_to (suc most) n ≡ bits_to most n
unfolding bits_to
bits-enough zero n h = rw (lt-ltb n 2 (omega arith))
bits-enough (suc most) n h =
    ap (λ (l : List Bool). cond (ltb n 2) [] (l ++ (eqb (n % 2) 1 ∷ []))) (bits-enough most (n / 2) (omega arith))

module _ (n : ℕ) (some : 1 ≤ n) (few : n < 16) where
  -- of n doubled, and one more where the bit is 1
  more : (m : ℕ) (b : Bool) → m / 2 ≡ n → eqb (m % 2) 1 ≡ b → bits_of m ≡ bits_of n ++ (b ∷ [])
  unfolding bits_of bits_to
  more m b half last =
      rw (le-ltb m 2 (omega arith)) (ap₂ (λ (k : ℕ) (z : Bool). bits_to 3 k ++ (z ∷ [])) half last)
      ∙ ap (λ (l : List Bool). l ++ (b ∷ [])) (sym (bits-enough 3 n (omega arith)))

  pub bit_appended : (b : Bool) (m : ℕ) → m ≡ cond b (2 * n + 1) (2 * n) → (bits_of m ≡ bits_of n ++ (b ∷ [])) × (n + n ≤ m) × (m ≤ n + n + 1)
  bit_appended true m e = (more m true (omega arith) (ap (λ (k : ℕ). eqb k 1) (let r : m % 2 ≡ 1 = omega arith in r)), omega arith, omega arith)
  bit_appended false m e = (more m false (omega arith) (ap (λ (k : ℕ). eqb k 1) (let r : m % 2 ≡ 0 = omega arith in r)), omega arith, omega arith)
