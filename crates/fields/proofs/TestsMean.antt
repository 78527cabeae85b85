-- What single tests mean, said of numbers:
--   both-mean                                  two tests together
--   at-most-means, below-means, range-means    comparisons, and a range
--   there-means                                a test of something that is there, or is not
use mathlib.Core.Path.{◌≡◌, subst}
use mathlib.Core.Bool.{Bool, true, ◌&&◌, ◌||◌}
use mathlib.Core.Logic.{◌↔◌}
use Prim.Native.Nat.{ℕ, ◌<◌, ◌≤◌}
use native.Mathlib.Nat.{lt_of_not-le}
use native.Mathlib.Decide.{dec_le}
use lib.Dec.{leb, ltb}
use borrow.Author.Tests.{leb-true, ltb-true, le-leb, lt-leb, lt-ltb}
use Rattle.integer.proofs.Bools.{both}
use Rattle.fields.specs.Fields.{in_range}
use Rattle.fields.proofs.PlainLines.{range, in-range}

pub both-mean : {A B : Type 0} {a b : Bool} → (a ≡ true) ↔ A → (b ≡ true) ↔ B → ((a && b) ≡ true) ↔ (A × B)
both-mean {a = a} {b = b} f g = (λ e. let t = both a b e in (f.0 t.0, g.0 t.1), λ t. rw (f.1 t.0) (g.1 t.1))

pub at-most-means : {a b v w : ℕ} → v ≡ a → w ≡ b → (leb v w ≡ true) ↔ (a ≤ b)
at-most-means {a = a} {b = b} e f = rw (e, f) (leb-true a b, le-leb a b)

pub below-means : {a b v w : ℕ} → v ≡ a → w ≡ b → (ltb v w ≡ true) ↔ (a < b)
below-means {a = a} {b = b} e f = rw (e, f) (ltb-true a b, lt-ltb a b)

pub range-means : {a v : ℕ} → v ≡ a → (low high : ℕ) → (in_range v low high ≡ true) ↔ ((low ≤ a) × (a ≤ high))
range-means {a = a} e low high = rw e (range a low high, λ t. in-range a low high t.0 t.1)

-- a test of something that is there where k is below n
pub there-means : {A : Type 0} (n k : ℕ) {b : Bool} → (b ≡ true) ↔ A → ((leb n k || b) ≡ true) ↔ (k < n → A)
there-means {A = A} n k {b = b} f = (there, back (dec_le n k))
  where
    there : (leb n k || b) ≡ true → k < n → A
    there e h = f.0 (subst (λ (t : Bool). (t || b) ≡ true) (lt-leb n k h) e)

    back : Dec (n ≤ k) → (k < n → A) → (leb n k || b) ≡ true
    back (yes none) g = rw (le-leb n k none)
    back (no some) g = rw (lt-leb n k (lt_of_not-le some)) (f.1 (g (lt_of_not-le some)))
