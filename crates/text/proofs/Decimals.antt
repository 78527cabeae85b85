-- Laws of `number_of`:
--   number-le    a number is at most 9999
--   decimal-lt   digits after v make a number below the next power of ten
--   number-empty, number-long, number-zero, number_digits    what the tests before the digits show
--   digit_low, digit-high, digit-step, digit-end             what one turn of the loop over the digits shows
--   ten-le       powers of ten grow
--   digit_steps  these laws, for the proof of `decimal`
--   negative-is, signed_steps    a number below zero, for the proof of `signed_decimal`
use mathlib.Core.Path.{◌≡◌, refl, sym, ap, ◌∙◌}
use mathlib.Core.Bool.{Bool, true, false, not, cond, ◌&&◌, ◌||◌, and-false, or-true}
use mathlib.Core.List.{List, [], ◌∷◌}
use mathlib.Core.Logic.{◌⊎◌, inl, inr}
use Prim.Native.Nat.{ℕ, zero, suc, ◌+◌, ◌-◌, ◌*◌, ◌^◌, ◌<◌, ◌≤◌}
use native.Mathlib.Nat.{pow-succ', pow-le-pow_right, mul_assoc, mul-le-mul_right, lt_of_lt_of_le}
use native.Mathlib.Omega.{arith}
use lib.IntN.{pos, negsuc, ◌-ℤ◌, +ℤ_idl}
use lib.ListN.{length, drop, get_or, drop_of_length-le}
use lib.Dec.{eqb, leb, lit<}
use borrow.Author.Tests.{eq-eqb, ne_eqb, le-leb, lt-leb, leb-true}
use Rattle.std.proofs.lemmas.Int.{to_z-of_z}
use Rattle.integer.proofs.Bools.{both}
use Rattle.std.specs.Prelude.{Option, Some, None}
use Rattle.text.specs.Text.{digits, decimal_from, well_formed, number_of, negative_number}
use Rattle.text.proofs.Parts.{step}

pub ten-le : {i j : ℕ} → i ≤ j → 10 ^ i ≤ 10 ^ j
ten-le h = pow-le-pow_right (lit< tt) h

pub decimal-lt : (v : ℕ) (l : List ℕ) → digits l ≡ true → decimal_from v l < (v + 1) * 10 ^ length l
unfolding digits decimal_from
decimal-lt v [] e = omega arith
decimal-lt v (x ∷ l) e =
    let d = both (leb 48 x && leb x 57) (digits l) e in
    let r = both (leb 48 x) (leb x 57) d.0 in
    let m : (v * 10 + (x - 48)) + 1 ≤ (v + 1) * 10 = omega (arith, leb-true x 57 r.1) in
    lt_of_lt_of_le (decimal-lt (v * 10 + (x - 48)) l d.1) (rw (pow-succ', ← mul_assoc) (mul-le-mul_right (10 ^ length l) m))

pub formed-le : (l : List ℕ) → well_formed l ≡ true → decimal_from 0 l ≤ 9999
unfolding well_formed
formed-le l e =
    let a = both (leb 1 (length l) && leb (length l) 4) ((eqb (length l) 1 || not (eqb (get_or l 0 0) 48)) && digits l) e in
    let s = leb-true (length l) 4 (both (leb 1 (length l)) (leb (length l) 4) a.0).1 in
    let d = (both (eqb (length l) 1 || not (eqb (get_or l 0 0) 48)) (digits l) a.1).1 in
    omega (arith, decimal-lt 0 l d, ten-le s)

pub number-le : (l : List ℕ) (v : ℕ) → number_of l ≡ Some v → v ≤ 9999
unfolding number_of
number-le l v e = by (well_formed l) (formed-le l) e
  where
    by : (t : Bool) → (t ≡ true → decimal_from 0 l ≤ 9999) → cond t (Some (decimal_from 0 l)) None ≡ Some v → v ≤ 9999
    by true h e = let q : decimal_from 0 l ≡ v = cc in omega (arith, h refl)
    by false h e = let z : ◌≡◌ {A = ℕ} 0 1 = cc in absurd (omega arith)

-- the number that digits from here on make after v; none where one is no digit
unfoldable pub number_from : ℕ → List ℕ → Option ℕ
number_from v l = cond (digits l) (Some (decimal_from v l)) None

module _ (l : List ℕ) where
  pub number-empty : length l ≡ 0 → number_of l ≡ None
  unfolding number_of well_formed
  number-empty e = rw (lt-leb 1 (length l) (omega arith))

  pub number-long : 4 < length l → number_of l ≡ None
  unfolding number_of well_formed
  number-long h = rw (lt-leb (length l) 4 h, and-false)

  pub number-zero : 1 < length l → get_or l 0 0 ≡ 48 → number_of l ≡ None
  unfolding number_of well_formed
  number-zero h e = rw (ne_eqb (length l) 1 (λ q. omega arith), eq-eqb (get_or l 0 0) 48 e, and-false)

  pub number_digits : 1 ≤ length l → length l ≤ 4 → (length l ≡ 1) ⊎ (get_or l 0 0 ≡ 48 → ⊥) → number_of l ≡ number_from 0 l
  unfolding number_of well_formed number_from
  number_digits a b (inl e) = rw (le-leb 1 (length l) a, le-leb (length l) 4 b, eq-eqb (length l) 1 e)
  number_digits a b (inr n) = rw (le-leb 1 (length l) a, le-leb (length l) 4 b, ne_eqb (get_or l 0 0) 48 n, or-true)

-- digits from i on
module _ (v : ℕ) (l : List ℕ) (i : ℕ) (h : i < length l) where
  pub digit_low : get_or l i 0 < 48 → number_from v (drop i l) ≡ None
  unfolding number_from digits
  digit_low e = rw (step l i h, lt-leb 48 (get_or l i 0) e)

  pub digit-high : 57 < get_or l i 0 → number_from v (drop i l) ≡ None
  unfolding number_from digits
  digit-high e = rw (step l i h, lt-leb (get_or l i 0) 57 e, and-false)

  pub digit-step : 48 ≤ get_or l i 0 → get_or l i 0 ≤ 57 → number_from v (drop i l) ≡ number_from (v * 10 + (get_or l i 0 - 48)) (drop (i + 1) l)
  unfolding number_from digits decimal_from
  digit-step d e = rw (step l i h, le-leb 48 (get_or l i 0) d, le-leb (get_or l i 0) 57 e)

pub digit-end : (v : ℕ) (l : List ℕ) (i : ℕ) → length l ≤ i → number_from v (drop i l) ≡ Some v
unfolding number_from digits decimal_from
digit-end v l i h = rw (drop_of_length-le l h)

pub ruleset digit_steps = (number-empty, number-long, number-zero, number_digits, digit_low, digit-high, digit-step, digit-end)

-- below zero
pub negative-is : (l : List ℕ) (v : ℕ) → number_of l ≡ Some v → (v ≡ 0 → ⊥) → negative_number (number_of l) ≡ Some (pos 0 -ℤ pos v)
negative-is l zero e some = absurd (some refl)
negative-is l (suc v) e some = ap negative_number e ∙ ap Some (sym (+ℤ_idl (negsuc v)))

pub ruleset signed_steps = (number-le, negative-is, to_z-of_z)
