-- Sums divided by a number from 1 to 2,048:
--   quot_is, quot-kept, rem-zero, zero-rem         the division and the remainder as the machine has them
--   unfit-left, unfit-whole                        of `unfit`: where something is left over, and where nothing is
--   unfit-divides, unfit-inside                    a sum that fits divides, and its quotient is not outside
--   first-unfit-position                                 the first unfit sum is the library's position
--   divided-done, done-divided                     of `divided_answer`: what Done means
--   length-quotients, nth-quotients                of `quotients_of`: its length and its numbers
--   within-quotients, fit_within                   their size, where every sum fits
--   quotient-fits, quotient-kept, quotients-written    they are written as they are
use mathlib.Core.Path.{◌≡◌, refl, sym, ap, ap₂, ◌∙◌, subst⁻¹}
use mathlib.Core.List.{List, ◌++◌}
use mathlib.Core.Bool.{Bool, true, false, not, cond}
use Prim.Native.Nat.{ℕ, zero, suc, ◌+◌, ◌/◌, ◌%◌, ◌^◌, ◌≤◌, ◌<◌, zero-le}
use native.Mathlib.Nat.{lt_of_le_of_lt, div-le_self}
use native.Mathlib.Omega.{arith}
use lib.Dec.{eqb, ltb}
use lib.IntN.{ℤ, pos, negsuc, neg_ℤ, nat_abs}
use lib.ListN.{length, drop}
use lib.Signed.{mag, quot_z, rem_z, mag_rem}
use mir.Syntax.{Width, w32, w64}
use mir.Val.{SFits, hbits, to_z, of_z}
use mir.ValLaws.{to_z-of_z, to_z_pos}
use borrow.Author.Tests.{not-false, ltb-false, le-ltb, eqb-true, eq-eqb, ne_eqb}
use Rattle.std.proofs.Common.{Some, None}
use Rattle.std.specs.List.{position, position_or_len}
use Rattle.std.proofs.lemmas.List.Sums.{position_or_len_is}
use Rattle.std.proofs.lemmas.Option.{none-some}
use Rattle.std.proofs.lemmas.Bool.Decides.{nat_tests}
use Rattle.integer.specs.First.{first_where}
use Rattle.integer.specs.Tab.{tab, nth, Within}
use Rattle.integer.proofs.Bounds.{sfits-abs, within_more}
use Rattle.integer.proofs.Bools.{neither}
use Rattle.integer.proofs.Firsts.{first-none, first-all, first-le, first-before, first-at}
use Rattle.integer.proofs.Group.{nat_abs-neg}
use Rattle.integer.proofs.Tabs.{length-tab, get_or-tab}
use Rattle.screen.specs.Answers.{Done, outside}
use Rattle.screen.proofs.Screens.{outside-sizes, refuse-passed}
use Rattle.results.specs.Results.{written}
use Rattle.results.specs.Quotients.{quotient_of, unfit, unfit_at, first_unfit, divided_answer, quotient_at, quotients_of}

-- One sum, as the machine divides it.

mag-neg : (r a : ℕ) → r ≤ suc a → mag (neg_ℤ (pos r)) ≤ a
mag-neg zero a h = zero-le
mag-neg (suc r) a h = omega arith

mag-quot : (d : ℕ) (z : ℤ) → mag (quotient_of d z) ≤ mag z
mag-quot d (pos n) = div-le_self n d
mag-quot d (negsuc n) = mag-neg (suc n / d) n (div-le_self (suc n) d)

nat_abs-rem : (d : ℕ) (z : ℤ) → nat_abs (rem_z z (pos d)) ≡ nat_abs z % d
nat_abs-rem d (pos n) = refl
nat_abs-rem d (negsuc n) = nat_abs-neg (pos (suc n % d))

no_bits : (w : Width) (z : ℤ) → 0 < 2 ^ hbits w → mag z < 2 ^ hbits w → of_z w z ≡ 0 → nat_abs z ≡ 0
no_bits w z some h e = ap nat_abs (sym (to_z-of_z w z (record { sfits = h })) ∙ ap (to_z w) e ∙ to_z_pos w 0 some)

bits_none : (w : Width) (d : ℕ) (z : ℤ) → nat_abs z % d ≡ 0 → of_z w (rem_z z (pos d)) ≡ 0
bits_none w d (pos n) e = e
bits_none w d (negsuc n) e = ap (λ (m : ℕ). of_z w (neg_ℤ (pos m))) e

module _ (w : Width) (room : 2048 < 2 ^ hbits w) (z : ℤ) (d : ℕ) (h : mag z < 2 ^ hbits w) (few : (1 ≤ d) × (d ≤ 2048)) where
  read-sum : to_z w (of_z w z) ≡ z
  read-sum = to_z-of_z w z (record { sfits = h })

  read-divisor : to_z w d ≡ pos d
  read-divisor = to_z_pos w d (omega (arith, few.1))

  pub quot_is : quot_z (to_z w (of_z w z)) (to_z w d) ≡ quotient_of d z
  quot_is = ap₂ quot_z read-sum read-divisor

  quot_fits : SFits w (quotient_of d z)
  quot_fits = record { sfits = lt_of_le_of_lt (mag-quot d z) h }

  pub quot-kept : to_z w (of_z w (quot_z (to_z w (of_z w z)) (to_z w d))) ≡ quotient_of d z
  quot-kept = ap (λ (y : ℤ). to_z w (of_z w y)) quot_is ∙ to_z-of_z w (quotient_of d z) quot_fits

  rem_is : rem_z (to_z w (of_z w z)) (to_z w d) ≡ rem_z z (pos d)
  rem_is = ap₂ rem_z read-sum read-divisor

  pub rem-zero : of_z w (rem_z (to_z w (of_z w z)) (to_z w d)) ≡ 0 → nat_abs z % d ≡ 0
  rem-zero e = sym (nat_abs-rem d z) ∙ no_bits w (rem_z z (pos d)) (omega arith) (lt_of_le_of_lt (mag_rem z (pos d)) h) (ap (of_z w) (sym rem_is) ∙ e)

  pub zero-rem : nat_abs z % d ≡ 0 → of_z w (rem_z (to_z w (of_z w z)) (to_z w d)) ≡ 0
  zero-rem e = ap (of_z w) rem_is ∙ bits_none w d z e

-- One sum that fits.

module _ (d : ℕ) (low high z : ℤ) where
  pub unfit-left : (nat_abs z % d ≡ 0 → ⊥) → unfit d low high z ≡ true
  unfolding unfit
  unfit-left f = rw (ne_eqb (nat_abs z % d) 0 f)

  pub unfit-whole : nat_abs z % d ≡ 0 → unfit d low high z ≡ outside low high (quotient_of d z)
  unfolding unfit
  unfit-whole e = rw (eq-eqb (nat_abs z % d) 0 e)

  pub unfit-divides : unfit d low high z ≡ false → nat_abs z % d ≡ 0
  unfolding unfit
  unfit-divides e = eqb-true (nat_abs z % d) 0 (not-false _ (neither (not (eqb (nat_abs z % d) 0)) (outside low high (quotient_of d z)) e).0)

  pub unfit-inside : unfit d low high z ≡ false → outside low high (quotient_of d z) ≡ false
  unfolding unfit
  unfit-inside e = (neither (not (eqb (nat_abs z % d) 0)) (outside low high (quotient_of d z)) e).1

-- A list of sums.

module _ (d : ℕ) (low high : ℤ) (sums : List ℤ) where
  pub none-unfit : (i : ℕ) → i ≤ length sums → length sums ≤ i → ((x : ℕ) → x < i → unfit_at d low high sums x ≡ false) → first_unfit d low high sums ≡ i
  unfolding first_unfit
  none-unfit i h k f = first-none (unfit_at d low high sums) (length sums) (λ x b. f x (omega arith)) ∙ omega arith

  pub first-unfit-position : first_unfit d low high sums ≡ position_or_len (unfit d low high) sums
  unfolding first_unfit unfit_at
  first-unfit-position =
      let p : ℕ → Bool = unfit_at d low high sums in
      sym (position_or_len_is (unfit d low high) sums (first_where p (length sums)) (pos 0) (first-le p (length sums)) (first-before p (length sums)) (first-at p (length sums)))

  -- every sum fits
  pub fits_all : length sums ≤ first_unfit d low high sums → (x : ℕ) → x < length sums → unfit_at d low high sums x ≡ false
  unfolding first_unfit
  fits_all h x l = first-all (unfit_at d low high sums) (length sums) h x l

  pub fit-done : length sums ≤ first_unfit d low high sums → divided_answer d low high sums ≡ Done
  unfolding divided_answer
  fit-done h = rw (le-ltb (first_unfit d low high sums) (length sums) h)

  pub divided-done : divided_answer d low high sums ≡ Done → (x : ℕ) → x < length sums → unfit_at d low high sums x ≡ false
  unfolding divided_answer
  divided-done e = fits_all (ltb-false _ _ (refuse-passed (ltb (first_unfit d low high sums) (length sums)) 11 (first_unfit d low high sums) Done e).0)

  pub done-divided : ((x : ℕ) → x < length sums → unfit_at d low high sums x ≡ false) → divided_answer d low high sums ≡ Done
  done-divided f = let e = none-unfit (length sums) (omega arith) (omega arith) f in fit-done (omega arith)

-- The quotients.

pub length-quotients : (d : ℕ) (sums : List ℤ) → length (quotients_of d sums) ≡ length sums
unfolding quotients_of
length-quotients d sums = length-tab (length sums) (quotient_at d sums)

pub nth-quotients : (d : ℕ) (sums : List ℤ) (x : ℕ) → x < length sums → nth (quotients_of d sums) x ≡ quotient_of d (nth sums x)
unfolding quotients_of quotient_at
nth-quotients d sums x h = get_or-tab (length sums) (quotient_at d sums) (pos 0) x h

pub within-quotients : (d : ℕ) (low high : ℤ) (sums : List ℤ) → ((x : ℕ) → x < length sums → unfit_at d low high sums x ≡ false) → Within (nat_abs low + nat_abs high) (quotients_of d sums)
unfolding unfit_at
within-quotients d low high sums f x l =
    let h : x < length sums = omega (arith, length-quotients d sums) in
    subst⁻¹ (λ (y : ℤ). nat_abs y ≤ nat_abs low + nat_abs high) (nth-quotients d sums x h) (outside-sizes low high _ (unfit-inside d low high (nth sums x) (f x h)))

-- a quotient that fits 32 bits is written as it is
module _ (d : ℕ) (few : (1 ≤ d) × (d ≤ 2048)) (sums : List ℤ) (i : ℕ) (h : i < length sums) (fits : SFits w64 (nth sums i)) (w : Within 2147483647 (quotients_of d sums)) where
  narrow : SFits w32 (quotient_of d (nth sums i))
  narrow = let small = w i (omega (arith, length-quotients d sums)) in let e = ap nat_abs (nth-quotients d sums i h) in sfits-abs (omega arith)

  kept : to_z w64 (of_z w64 (quot_z (to_z w64 (of_z w64 (nth sums i))) (to_z w64 d))) ≡ quotient_of d (nth sums i)
  kept = quot-kept w64 (omega arith) (nth sums i) d fits.sfits few

  pub quotient-fits : SFits w32 (to_z w64 (of_z w64 (quot_z (to_z w64 (of_z w64 (nth sums i))) (to_z w64 d))))
  quotient-fits = subst⁻¹ (SFits w32) kept narrow

  pub quotient-kept : to_z w32 (of_z w32 (to_z w64 (of_z w64 (quot_z (to_z w64 (of_z w64 (nth sums i))) (to_z w64 d))))) ≡ quotient_at d sums i
  unfolding quotient_at
  quotient-kept = ap (λ (y : ℤ). to_z w32 (of_z w32 y)) kept ∙ to_z-of_z w32 (quotient_of d (nth sums i)) narrow

-- all are written, and after them stands what was lent
pub quotients-written : (d : ℕ) (sums out : List ℤ) (i : ℕ) → i ≡ length sums → tab i (quotient_at d sums) ++ drop i out ≡ written (quotients_of d sums) out
unfolding quotients_of
quotients-written d sums out i e =
    ap (λ (k : ℕ). tab k (quotient_at d sums) ++ drop k out) e
    ∙ ap (λ (k : ℕ). quotients_of d sums ++ drop k out) (sym (length-quotients d sums))

pub fit_within : (d : ℕ) (low high : ℤ) (sums : List ℤ) → position (unfit d low high) sums ≡ None → nat_abs low + nat_abs high ≤ 2147483647 → Within 2147483647 (quotients_of d sums)
fit_within d low high sums e h =
    within_more (quotients_of d sums) h (within-quotients d low high sums (fits_all d low high sums (rw first-unfit-position (none-le (position_or_len (unfit d low high) sums) (length sums) e))))
  where
    none-le : (i n : ℕ) → cond (ltb i n) (Some i) None ≡ None → n ≤ i
    none-le i n = go (ltb i n) refl
      where
        go : (b : Bool) → ltb i n ≡ b → cond b (Some i) None ≡ None → n ≤ i
        go true h e = absurd (none-some i (sym e))
        go false h e = ltb-false i n h

pub ruleset divided_is = (first-unfit-position, fit_within, nat_tests)
