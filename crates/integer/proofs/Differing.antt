-- Whether two whole numbers differ:
--   differ-ne, differ-eq, ne-differ, eq-differ    what `differ` says
--   word-zero                          a word of 64 bits is 0 exactly where its number is
--   less-fits, less-kept, less_none    the difference of two numbers of 32 bits, as the machine computes it, and whether it is 0
use mathlib.Core.Path.{◌≡◌, refl, sym, ap, ◌∙◌}
use mathlib.Core.Bool.{Bool, true, false, not, not-not}
use Prim.Native.Nat.{suc, ◌+◌, ◌≤◌, ◌<◌, ◌^◌}
use native.Mathlib.Omega.{arith}
use lib.Dec.{eqb}
use lib.IntN.{ℤ, pos, negsuc, ◌-ℤ◌, nat_abs, +ℤ_invr}
use lib.Signed.{mag}
use mir.Syntax.{w32, w64}
use mir.Val.{SFits, to_z, of_z}
use mir.ValLaws.{to_z-of_z}
use borrow.Author.Tests.{eqb-true, eqb-false, not-true, not-false, eq-eqb, ne_eqb}
use Rattle.integer.specs.Differ.{differ}
use Rattle.integer.proofs.Group.{equal-by-size}
use Rattle.integer.proofs.Machine.{sub-fits, sub-kept, sub_is}

pub differ-ne : (a b : ℤ) → differ a b ≡ true → a ≡ b → ⊥
differ-ne a b e k = eqb-false (nat_abs (a -ℤ b)) 0 (not-true (eqb (nat_abs (a -ℤ b)) 0) e) (ap nat_abs (ap (λ (z : ℤ). z -ℤ b) k ∙ +ℤ_invr b))

pub differ-eq : (a b : ℤ) → differ a b ≡ false → a ≡ b
differ-eq a b e = equal-by-size a b (eqb-true (nat_abs (a -ℤ b)) 0 (not-false (eqb (nat_abs (a -ℤ b)) 0) e))

pub ne-differ : (a b : ℤ) → (a ≡ b → ⊥) → differ a b ≡ true
ne-differ a b n = go (differ a b) refl
  where
    go : (t : Bool) → differ a b ≡ t → t ≡ true
    go true e = refl
    go false e = absurd (n (differ-eq a b e))

pub eq-differ : (a b : ℤ) → a ≡ b → differ a b ≡ false
eq-differ a b k = go (differ a b) refl
  where
    go : (t : Bool) → differ a b ≡ t → t ≡ false
    go true e = absurd (differ-ne a b e k)
    go false e = refl

-- One difference, as the machine computes it.

abs_mag : (z : ℤ) → nat_abs z ≤ suc (mag z)
abs_mag (pos n) = omega arith
abs_mag (negsuc n) = omega arith

-- a word of 64 bits is 0 exactly where its number is
pub word-zero : (z : ℤ) → SFits w64 z → eqb (of_z w64 z) 0 ≡ eqb (nat_abs z) 0
word-zero z fits = go (eqb (nat_abs z) 0) refl
  where
    none : (z : ℤ) → nat_abs z ≡ 0 → of_z w64 z ≡ 0
    none (pos n) e = e
    none (negsuc n) e = absurd (omega arith)

    go : (t : Bool) → eqb (nat_abs z) 0 ≡ t → eqb (of_z w64 z) 0 ≡ t
    go true e = eq-eqb (of_z w64 z) 0 (none z (eqb-true (nat_abs z) 0 e))
    go false e = ne_eqb (of_z w64 z) 0 (λ k. eqb-false (nat_abs z) 0 e (ap nat_abs (sym (to_z-of_z w64 z fits) ∙ ap (to_z w64) k)))

module _ (a b : ℤ) (fa : SFits w32 a) (fb : SFits w32 b) where
  abbrev machine-less : ℤ
  machine-less = to_z w64 (of_z w64 (to_z w32 (of_z w32 a))) -ℤ to_z w64 (of_z w64 (to_z w32 (of_z w32 b)))

  room : nat_abs a + nat_abs b < 2 ^ 63
  room = omega (arith, abs_mag a, abs_mag b, fa.sfits, fb.sfits)

  wide : (z : ℤ) → SFits w32 z → of_z w64 (to_z w32 (of_z w32 z)) ≡ of_z w64 z
  wide z f = ap (of_z w64) (to_z-of_z w32 z f)

  pub less-fits : SFits w64 machine-less
  less-fits = sub-fits w64 a b (wide a fa) (wide b fb) room

  pub less-kept : to_z w64 (of_z w64 machine-less) ≡ a -ℤ b
  less-kept = sub-kept w64 a b (wide a fa) (wide b fb) room

  pub less_none : eqb (of_z w64 machine-less) 0 ≡ not (differ a b)
  less_none = word-zero machine-less less-fits ∙ ap (λ (z : ℤ). eqb (nat_abs z) 0) (sub_is w64 a b (wide a fa) (wide b fb) room) ∙ sym (not-not (eqb (nat_abs (a -ℤ b)) 0))
