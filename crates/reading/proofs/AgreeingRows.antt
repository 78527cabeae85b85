-- How many rows agree:
--   count-power    of 2 ^ n rows, where the mask is below 2 ^ n and the values lie within it, 2 ^ k: each fixed input takes one from n
--   count-all      all of them, where no input is fixed
--   count-one      one, where every input is
-- Which rows agree:
--   agrees-exactly    those that have the given values at the inputs of the mask
use mathlib.Core.Bool.{Bool, true, false, cond, ◌&&◌, and-true, and-false}
use mathlib.Core.Logic.{◌↔◌, ⊎_elim}
use mathlib.Core.Path.{◌≡◌, refl, sym, ap, ap₂, ◌∙◌, subst}
use Prim.Native.Nat.{ℕ, zero, suc, ◌+◌, ◌-◌, ◌^◌, ◌≤◌, ◌<◌}
use native.Mathlib.Nat.{add_assoc, add-suc, add-zero, zero-add, lt_of_le_of_lt, one-mul}
use native.Mathlib.Omega.{arith}
use lib.Bits.{bit_and, and_le_r, and_lt, and_zero_r}
use lib.Count.{ones, ones_cat, ones-ones}
use lib.Dec.{eqb}
use lib.Pow.{pow_pos}
use borrow.Author.Tests.{eq-eqb, ne_eqb, eqb-true, eqb-false}
use Rattle.integer.specs.Mask.{bit}
use Rattle.integer.proofs.Masks.{bit-and, same-bits}
use Rattle.integer.proofs.Halves.{double, which, block}
use Rattle.reading.specs.Readings.{agrees, count_to, count_of}

-- counting

count-split : (a b : ℕ) (p : ℕ → Bool) → count_to (a + b) p ≡ count_to a p + count_to b (λ x. p (a + x))
unfolding count_to
count-split a zero p = ap (λ (n : ℕ). count_to n p) (add-zero a) ∙ sym (add-zero (count_to a p))
count-split a (suc b) p =
    ap (λ (n : ℕ). count_to n p) (add-suc a b) ∙ ap (λ (n : ℕ). n + cond (p (a + b)) 1 0) (count-split a b p)
    ∙ add_assoc (count_to a p) (count_to b (λ x. p (a + x))) (cond (p (a + b)) 1 0)

count-ext : (n : ℕ) (p q : ℕ → Bool) → ((x : ℕ) → x < n → p x ≡ q x) → count_to n p ≡ count_to n q
unfolding count_to
count-ext zero p q h = refl
count-ext (suc n) p q h = ap₂ (λ (m : ℕ) (b : Bool). m + cond b 1 0) (count-ext n p q (λ x l. h x (omega arith))) (h n (omega arith))

count_none : (n : ℕ) (p : ℕ → Bool) → ((x : ℕ) → x < n → p x ≡ false) → count_to n p ≡ 0
unfolding count_to
count_none zero p h = refl
count_none (suc n) p h = ap₂ (λ (m : ℕ) (b : Bool). m + cond b 1 0) (count_none n p (λ x l. h x (omega arith))) (h n (omega arith))

count-every : (n : ℕ) (p : ℕ → Bool) → ((x : ℕ) → x < n → p x ≡ true) → count_to n p ≡ n
unfolding count_to
count-every zero p h = refl
count-every (suc n) p h = ap₂ (λ (m : ℕ) (b : Bool). m + cond b 1 0) (count-every n p (λ x l. h x (omega arith))) (h n (omega arith)) ∙ omega arith

pub count-all : (n : ℕ) → count_of 0 0 n ≡ n
unfolding count_of agrees
count-all n = count-every n (agrees 0 0) (λ x l. eq-eqb (bit_and x 0) 0 (and_zero_r x))

-- equal exactly where they are once k is added
both-more : (k a b : ℕ) → eqb (k + a) (k + b) ≡ eqb a b
both-more k a b = go (eqb a b) refl
  where
    go : (t : Bool) → eqb a b ≡ t → eqb (k + a) (k + b) ≡ t
    go true e = eq-eqb (k + a) (k + b) (ap (λ (n : ℕ). k + n) (eqb-true a b e))
    go false e = ne_eqb (k + a) (k + b) (λ h. eqb-false a b e (omega arith))

-- AND of a row and a mask, by their highest digit
module _ (k r m : ℕ) (hr : r < 2 ^ k) (hm : m < 2 ^ k) where
  high-row : bit_and (2 ^ k + r) m ≡ bit_and r m
  high-row = block k 1 0 r m (2 ^ k + r) m (omega arith) (omega arith) hr hm ∙ omega arith

  high-mask : bit_and r (2 ^ k + m) ≡ bit_and r m
  high-mask = block k 0 1 r m r (2 ^ k + m) (omega arith) (omega arith) hr hm ∙ omega arith

  high-both : bit_and (2 ^ k + r) (2 ^ k + m) ≡ 2 ^ k + bit_and r m
  high-both = block k 1 1 r m (2 ^ k + r) (2 ^ k + m) (omega arith) (omega arith) hr hm ∙ omega arith

  low_and : bit_and r m < 2 ^ k
  low_and = and_lt k r m hr hm

pub record Power (n mask count : ℕ) : Type 0 where
  pub free : ℕ
  pub inputs : free + ones mask ≡ n
  pub is : count ≡ 2 ^ free

ones-high : (k m : ℕ) → m < 2 ^ k → ones (2 ^ k + m) ≡ suc (ones m)
unfolding ones
ones-high k m h = ap (λ (n : ℕ). ones (n + m)) (sym (one-mul (2 ^ k))) ∙ ones_cat k 1 m h ∙ omega arith

by-halves : (k mask values : ℕ) → count_of mask values (2 ^ suc k) ≡ count_of mask values (2 ^ k) + count_to (2 ^ k) (λ x. agrees mask values (2 ^ k + x))
unfolding count_of
by-halves k mask values = ap (λ (n : ℕ). count_to n (agrees mask values)) (double k) ∙ count-split (2 ^ k) (2 ^ k) (agrees mask values)

-- one input more
module _ (n : ℕ) (fewer : (mask values : ℕ) → mask < 2 ^ n → bit_and values mask ≡ values → Power n mask (count_of mask values (2 ^ n))) where
  -- it is free: both halves agree alike
  input-free : (mask values : ℕ) → mask < 2 ^ n → bit_and values mask ≡ values → Power (suc n) mask (count_of mask values (2 ^ suc n))
  unfolding count_of agrees
  input-free mask values h e =
      let p = fewer mask values h e in
      record {
        free = suc p.free;
        inputs = omega (arith, p.inputs);
        is =
            by-halves n mask values
            ∙ ap₂ ◌+◌ p.is (count-ext (2 ^ n) _ (agrees mask values) (λ x l. ap (λ (r : ℕ). eqb r values) (high-row n x mask l h)) ∙ p.is) ∙ sym (double p.free);
      }

  module _ (m : ℕ) (h : m < 2 ^ n) where
    inputs-more : (free : ℕ) → free + ones m ≡ n → free + ones (2 ^ n + m) ≡ suc n
    inputs-more free e = omega (arith, ones-high n m h)

    -- it is fixed at 0: the lower half agrees
    fixed-low : (values : ℕ) → values < 2 ^ n → bit_and values (2 ^ n + m) ≡ values → Power (suc n) (2 ^ n + m) (count_of (2 ^ n + m) values (2 ^ suc n))
    unfolding count_of agrees
    fixed-low values l e =
        let p = fewer m values h (sym (high-mask n values m l h) ∙ e) in
        record {
          free = p.free;
          inputs = inputs-more p.free p.inputs;
          is =
              by-halves n (2 ^ n + m) values
              ∙ ap₂ ◌+◌ (count-ext (2 ^ n) _ (agrees m values) (λ x k. ap (λ (r : ℕ). eqb r values) (high-mask n x m k h)) ∙ p.is)
              (count_none (2 ^ n) _ (λ x k. ne_eqb _ values (λ q. absurd (omega (arith, high-both n x m k h, q, l)))))
              ∙ add-zero (2 ^ p.free);
        }

    -- at 1: the upper half
    fixed-high : (w : ℕ) → w < 2 ^ n → bit_and (2 ^ n + w) (2 ^ n + m) ≡ 2 ^ n + w → Power (suc n) (2 ^ n + m) (count_of (2 ^ n + m) (2 ^ n + w) (2 ^ suc n))
    unfolding count_of agrees
    fixed-high w l e =
        let p = fewer m w h (omega (arith, high-both n w m l h, e)) in
        record {
          free = p.free;
          inputs = inputs-more p.free p.inputs;
          is =
              by-halves n (2 ^ n + m) (2 ^ n + w)
              ∙ ap₂ ◌+◌ (count_none (2 ^ n) _ (λ x k. ne_eqb _ (2 ^ n + w) (λ q. absurd (omega (arith, high-mask n x m k h, low_and n x m k h, q)))))
              (count-ext (2 ^ n) _ (agrees m w) (λ x k. ap (λ (r : ℕ). eqb r (2 ^ n + w)) (high-both n x m k h) ∙ both-more (2 ^ n) (bit_and x m) w) ∙ p.is)
              ∙ zero-add (2 ^ p.free);
        }

  input-more : (mask values : ℕ) → mask < 2 ^ suc n → bit_and values mask ≡ values → Power (suc n) mask (count_of mask values (2 ^ suc n))
  input-more mask values h e =
      let below : values < 2 ^ suc n = lt_of_le_of_lt (subst (λ (v : ℕ). v ≤ mask) e (and_le_r values mask)) h in
      ⊎_elim
      (λ low. input-free mask values low e)
      (λ u. subst (λ (k : ℕ). bit_and values k ≡ values → Power (suc n) k (count_of k values (2 ^ suc n))) (sym u.2)
      (λ f. ⊎_elim
      (λ low. fixed-low u.0 u.1 values low f)
      (λ v. subst (λ (k : ℕ). bit_and k (2 ^ n + u.0) ≡ k → Power (suc n) (2 ^ n + u.0) (count_of (2 ^ n + u.0) k (2 ^ suc n))) (sym v.2) (fixed-high u.0 u.1 v.0 v.1) f)
      (which n values below))
      e)
      (which n mask h)

no-input : (mask values : ℕ) → mask ≡ 0 → bit_and values mask ≡ values → Power 0 mask (count_of mask values 1)
unfolding ones
no-input mask values m e =
    let v : values ≡ 0 = sym e ∙ ap (bit_and values) m ∙ and_zero_r values in
    record { free = 0; inputs = zero-add (ones mask) ∙ ap ones m; is = ap₂ (λ (x y : ℕ). count_of x y 1) m v ∙ count-all 1 }

pub count-power : (n mask values : ℕ) → mask < 2 ^ n → bit_and values mask ≡ values → Power n mask (count_of mask values (2 ^ n))
count-power zero mask values h e = no-input mask values (omega arith) e
count-power (suc n) mask values h e = input-more n (count-power n) mask values h e

pub count-one : (n values : ℕ) → bit_and values (2 ^ n - 1) ≡ values → count_of (2 ^ n - 1) values (2 ^ n) ≡ 1
count-one n values e =
    let p = count-power n (2 ^ n - 1) values (let h = pow_pos n in omega arith) e in
    let none : p.free ≡ 0 = omega (arith, p.inputs, ones-ones n) in
    p.is ∙ ap (λ (k : ℕ). 2 ^ k) none

-- ---- which rows agree

pub agrees-exactly : (mask values row : ℕ) → bit_and values mask ≡ values → (agrees mask values row ≡ true) ↔ ((f : ℕ) → bit mask f ≡ true → bit row f ≡ bit values f)
unfolding agrees
agrees-exactly mask values row within = (there, back)
  where
    there : eqb (bit_and row mask) values ≡ true → (f : ℕ) → bit mask f ≡ true → bit row f ≡ bit values f
    there e f m = sym (and-true (bit row f)) ∙ ap (λ (t : Bool). bit row f && t) (sym m) ∙ sym (bit-and row mask f) ∙ ap (λ (k : ℕ). bit k f) (eqb-true (bit_and row mask) values e)

    back : ((f : ℕ) → bit mask f ≡ true → bit row f ≡ bit values f) → eqb (bit_and row mask) values ≡ true
    back h = eq-eqb (bit_and row mask) values (same-bits (bit_and row mask) values (λ f. bit-and row mask f ∙ each f (bit mask f) refl ∙ sym (bit-and values mask f) ∙ ap (λ (k : ℕ). bit k f) within))
      where
        each : (f : ℕ) (t : Bool) → bit mask f ≡ t → (bit row f && bit mask f) ≡ (bit values f && bit mask f)
        each f true e = ap (λ (b : Bool). b && bit mask f) (h f e)
        each f false e = rw (e, and-false, and-false)
