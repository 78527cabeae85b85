-- Laws of the signed sum over 2 ^ k values, by halves:
--   sum_low, sum-high      a spectrum is made of the spectra of the two halves: at a label below 2 ^ k their sum, at 2 ^ k more their difference
--   signed-sum-add, sum-sub, signed-sum-scale, sum-equal    the signed sum is linear
--   twice                  applied twice it gives 2 ^ k times the values
use mathlib.Core.Path.{◌≡◌, sym, ap, ap₂, ◌∙◌}
use mathlib.Core.Logic.{⊎_elim}
use Prim.Native.Nat.{ℕ, zero, suc, ◌+◌, ◌%◌, ◌^◌, ◌<◌}
use native.Mathlib.Omega.{arith}
use lib.IntN.{ℤ, pos, ◌+ℤ◌, ◌-ℤ◌, ◌*ℤ◌, neg_ℤ, +ℤ_idl}
use lib.Bits.{bit_and, and_lt}
use lib.Count.{ones, ones_cat}
use Rattle.integer.specs.Sum.{sum_to, signed}
use Rattle.integer.proofs.Group.{plus-minus, minus_minus, mul-add, mul-one}
use Rattle.integer.proofs.Halves.{double, which, block}
use Rattle.integer.proofs.Sums as sums
use Rattle.transform.specs.Spectrum.{sign, term_of, signed_sum}

-- The sign, at the two halves.

one_more : (n : ℕ) (z : ℤ) → signed ((ones (bit_and 1 1) + n) % 2) z ≡ neg_ℤ (signed (n % 2) z)
unfolding ones
one_more n z = sums.signed-more n z

module _ (k l x : ℕ) (hl : l < 2 ^ k) (hx : x < 2 ^ k) where
  sign-row : sign l (2 ^ k + x) ≡ sign l x
  sign-row = ap (λ (n : ℕ). ones n % 2) (block k 0 1 l x l (2 ^ k + x) (omega arith) (omega arith) hl hx ∙ (omega arith))

  sign-label : sign (2 ^ k + l) x ≡ sign l x
  sign-label = ap (λ (n : ℕ). ones n % 2) (block k 1 0 l x (2 ^ k + l) x (omega arith) (omega arith) hl hx ∙ (omega arith))

  sign-both : (z : ℤ) → signed (sign (2 ^ k + l) (2 ^ k + x)) z ≡ neg_ℤ (signed (sign l x) z)
  sign-both z =
      ap (λ (n : ℕ). signed (ones n % 2) z) (block k 1 1 l x (2 ^ k + l) (2 ^ k + x) (omega arith) (omega arith) hl hx)
      ∙ ap (λ (n : ℕ). signed (n % 2) z) (ones_cat k (bit_and 1 1) (bit_and l x) (and_lt k l x hl hx))
      ∙ one_more (ones (bit_and l x)) z

-- The signed sum is linear.

pub sum-equal : (n : ℕ) (f g : ℕ → ℤ) (l : ℕ) → ((x : ℕ) → x < n → f x ≡ g x) → signed_sum n f l ≡ signed_sum n g l
unfolding signed_sum term_of
sum-equal n f g l h = sums.sum-ext n _ _ (λ x b. ap (λ (z : ℤ). signed (sign l x) z) (h x b))

pub signed-sum-add : (n : ℕ) (f g : ℕ → ℤ) (l : ℕ) → signed_sum n (λ x. f x +ℤ g x) l ≡ signed_sum n f l +ℤ signed_sum n g l
unfolding signed_sum term_of
signed-sum-add n f g l = sums.sum-ext n _ _ (λ x b. sums.signed_add (sign l x) (f x) (g x)) ∙ sums.sum-add n _ _

signed-sum-neg : (n : ℕ) (f : ℕ → ℤ) (l : ℕ) → signed_sum n (λ x. neg_ℤ (f x)) l ≡ neg_ℤ (signed_sum n f l)
unfolding signed_sum term_of
signed-sum-neg n f l = sums.sum-ext n _ _ (λ x b. sums.signed-neg (sign l x) (f x)) ∙ sums.sum-neg n _

pub sum-sub : (n : ℕ) (f g : ℕ → ℤ) (l : ℕ) → signed_sum n (λ x. f x -ℤ g x) l ≡ signed_sum n f l -ℤ signed_sum n g l
sum-sub n f g l = signed-sum-add n f (λ x. neg_ℤ (g x)) l ∙ ap (λ (z : ℤ). signed_sum n f l +ℤ z) (signed-sum-neg n g l)

pub signed-sum-scale : (d n : ℕ) (f : ℕ → ℤ) (l : ℕ) → signed_sum n (λ x. pos d *ℤ f x) l ≡ pos d *ℤ signed_sum n f l
unfolding signed_sum term_of
signed-sum-scale d n f l = sums.sum-ext n _ _ (λ x b. sums.signed-scale d (sign l x) (f x)) ∙ sums.sum-scale d n _

-- The two halves.

abbrev pub upper : ℕ → (ℕ → ℤ) → ℕ → ℤ
upper k f x = f (2 ^ k + x)

pub sum_low : (k : ℕ) (f : ℕ → ℤ) (l : ℕ) → l < 2 ^ k → signed_sum (2 ^ suc k) f l ≡ signed_sum (2 ^ k) f l +ℤ signed_sum (2 ^ k) (upper k f) l
unfolding signed_sum term_of
sum_low k f l h =
    ap (λ (n : ℕ). signed_sum n f l) (double k) ∙ sums.sum-split (2 ^ k) (2 ^ k) _
    ∙ ap (λ (z : ℤ). signed_sum (2 ^ k) f l +ℤ z) (sums.sum-ext (2 ^ k) _ _ (λ x b. ap (λ (p : ℕ). signed p (f (2 ^ k + x))) (sign-row k l x h b)))

pub sum-high : (k : ℕ) (f : ℕ → ℤ) (l : ℕ) → l < 2 ^ k → signed_sum (2 ^ suc k) f (2 ^ k + l) ≡ signed_sum (2 ^ k) f l -ℤ signed_sum (2 ^ k) (upper k f) l
unfolding signed_sum term_of
sum-high k f l h =
    ap (λ (n : ℕ). signed_sum n f (2 ^ k + l)) (double k) ∙ sums.sum-split (2 ^ k) (2 ^ k) _
    ∙ ap₂ (λ (y z : ℤ). y +ℤ z)
    (sums.sum-ext (2 ^ k) _ _ (λ x b. ap (λ (p : ℕ). signed p (f x)) (sign-label k l x h b)))
    (sums.sum-ext (2 ^ k) _ _ (λ x b. sign-both k l x h b (f (2 ^ k + x))) ∙ sums.sum-neg (2 ^ k) _)

-- one value is its own sum
pub sum_one : (f : ℕ → ℤ) → signed_sum 1 f 0 ≡ f 0
unfolding signed_sum term_of ones sum_to
sum_one f = +ℤ_idl (f 0)

-- Twice.

times : (k : ℕ) (z : ℤ) → pos (2 ^ k) *ℤ z +ℤ pos (2 ^ k) *ℤ z ≡ pos (2 ^ suc k) *ℤ z
times k z = sym (mul-add (2 ^ k) (2 ^ k) z) ∙ ap (λ (n : ℕ). pos n *ℤ z) (sym (double k))

module _ (k : ℕ) (f : ℕ → ℤ) (y : ℕ) (h : y < 2 ^ k) where
  abbrev low : ℤ
  low = signed_sum (2 ^ k) (signed_sum (2 ^ k) f) y

  abbrev high : ℤ
  high = signed_sum (2 ^ k) (signed_sum (2 ^ k) (upper k f)) y

  of-sums : signed_sum (2 ^ k) (signed_sum (2 ^ suc k) f) y ≡ low +ℤ high
  of-sums = sum-equal (2 ^ k) _ _ y (λ x b. sum_low k f x b) ∙ signed-sum-add (2 ^ k) _ _ y

  of-differences : signed_sum (2 ^ k) (upper k (signed_sum (2 ^ suc k) f)) y ≡ low -ℤ high
  of-differences = sum-equal (2 ^ k) _ _ y (λ x b. sum-high k f x b) ∙ sum-sub (2 ^ k) _ _ y

  twice-low : signed_sum (2 ^ suc k) (signed_sum (2 ^ suc k) f) y ≡ low +ℤ low
  twice-low = sum_low k (signed_sum (2 ^ suc k) f) y h ∙ ap₂ (λ (a b : ℤ). a +ℤ b) of-sums of-differences ∙ plus-minus low high

  twice-high : signed_sum (2 ^ suc k) (signed_sum (2 ^ suc k) f) (2 ^ k + y) ≡ high +ℤ high
  twice-high = sum-high k (signed_sum (2 ^ suc k) f) y h ∙ ap₂ (λ (a b : ℤ). a -ℤ b) of-sums of-differences ∙ minus_minus low high

pub twice : (k : ℕ) (f : ℕ → ℤ) (y : ℕ) → y < 2 ^ k → signed_sum (2 ^ k) (signed_sum (2 ^ k) f) y ≡ pos (2 ^ k) *ℤ f y
twice zero f zero h = sum_one (signed_sum 1 f) ∙ sum_one f ∙ sym (mul-one (f 0))
twice zero f (suc y) h = absurd (omega arith)
twice (suc k) f y h =
    ⊎_elim
    (λ l. twice-low k f y l ∙ ap₂ (λ (a b : ℤ). a +ℤ b) (twice k f y l) (twice k f y l) ∙ times k (f y))
    (λ u. ap (λ (n : ℕ). signed_sum (2 ^ suc k) (signed_sum (2 ^ suc k) f) n) u.2
    ∙ twice-high k f u.0 u.1
    ∙ ap₂ (λ (a b : ℤ). a +ℤ b) (twice k (upper k f) u.0 u.1) (twice k (upper k f) u.0 u.1)
    ∙ times k (f (2 ^ k + u.0))
    ∙ ap (λ (n : ℕ). pos (2 ^ suc k) *ℤ f n) (sym u.2))
    (which k y h)
