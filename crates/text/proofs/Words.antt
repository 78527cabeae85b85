-- Laws of `same_bytes`:
--   same-equal, same_self    it holds of equal lists, and of no others
--   same_pointwise           it is what `==` says of slices
use mathlib.Core.Path.{◌≡◌, refl, ap₂}
use mathlib.Core.Bool.{true, false≢true}
use mathlib.Core.List.{List, [], ◌∷◌}
use Prim.Native.Nat.{ℕ}
use lib.Dec.{eqb}
use borrow.Author.Tests.{eq-eqb, eqb-true}
use Rattle.integer.proofs.Bools.{both}
use Rattle.std.specs.Cmp.Lexicographic.{pointwise}
use Rattle.std.specs.Prelude.{nat_eq}
use Rattle.text.specs.Text.{same_bytes}

pub same_pointwise : (a b : List ℕ) → pointwise nat_eq a b ≡ same_bytes a b
unfolding same_bytes
same_pointwise [] [] = refl
same_pointwise [] (y ∷ b) = refl
same_pointwise (x ∷ a) [] = refl
same_pointwise (x ∷ a) (y ∷ b) = rw (same_pointwise a b)

pub same-equal : (a b : List ℕ) → same_bytes a b ≡ true → a ≡ b
unfolding same_bytes
same-equal [] [] e = refl
same-equal [] (y ∷ b) e = absurd (false≢true e)
same-equal (x ∷ a) [] e = absurd (false≢true e)
same-equal (x ∷ a) (y ∷ b) e =
    let p = both (eqb x y) (same_bytes a b) e in
    ap₂ (λ (z : ℕ) (l : List ℕ). z ∷ l) (eqb-true x y p.0) (same-equal a b p.1)

pub same_self : (a : List ℕ) → same_bytes a a ≡ true
unfolding same_bytes
same_self [] = refl
same_self (x ∷ a) = rw (eq-eqb x x refl) (same_self a)
