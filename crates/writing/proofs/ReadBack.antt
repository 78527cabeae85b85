-- What is written in decimal is read as the same number:
--   read-back        a number below 10,000, as a field of a text
--   number-only      the other way: a field that is a number is the decimal of its value
--   signed-back, signed-only    the same of integers, where a field may have a sign
--   digits-read      of any size, by its digits
--   digits-only      nothing but digits is written
--   decimal-rises    a larger number has no fewer digits
use mathlib.Core.Path.{◌≡◌, refl, sym, ap, ap₂, ◌∙◌, subst}
use mathlib.Core.Bool.{Bool, true, false, not, cond, ◌&&◌, ◌||◌, false≢true}
use mathlib.Core.List.{List, [], ◌∷◌, ◌++◌, append-nil, append_assoc}
use mathlib.Core.Logic.{◌⊎◌, inl, inr}
use Prim.Native.Nat.{ℕ, zero, suc, ◌+◌, ◌-◌, ◌*◌, ◌/◌, ◌^◌, ◌<◌, ◌≤◌}
use native.Mathlib.Omega.{arith}
use lib.Dec.{ltb, leb, eqb}
use lib.IntN.{ℤ, pos, negsuc, nat_abs}
use lib.ListN.{length, get_or, drop}
use borrow.Author.Tests.{ltb-true, ltb-false, le-leb, leb-true, ne_eqb, eqb-true, eqb-false, not-true}
use Rattle.integer.proofs.Bools.{both, either}
use Rattle.text.specs.Text.{digits, decimal_from, well_formed, number_of, minus_sign, negative_number, signed_number_of}
use Rattle.text.proofs.Decimals.{decimal-lt, number-le}
use Rattle.std.specs.Prelude.{Option, Some, None, option_map}
use Rattle.writing.specs.Writing.{decimal_digit, decimal_to, decimal_of, integer_of}
use Rattle.writing.proofs.Writings.{tenth, decimal-one, decimal-more, decimal-length, natural-written}

from_last : (v x : ℕ) (l : List ℕ) → decimal_from v (l ++ (x ∷ [])) ≡ decimal_from v l * 10 + (x - 48)
unfolding decimal_from
from_last v x [] = refl
from_last v x (y ∷ l) = from_last (v * 10 + (y - 48)) x l

is_digit : (n : ℕ) → (leb 48 (decimal_digit n) && leb (decimal_digit n) 57) ≡ true
is_digit n = rw (le-leb 48 (decimal_digit n) (omega arith), le-leb (decimal_digit n) 57 (omega arith))

digits_last : (n : ℕ) (l : List ℕ) → digits l ≡ true → digits (l ++ (decimal_digit n ∷ [])) ≡ true
unfolding digits
digits_last n [] e = rw (is_digit n)
digits_last n (y ∷ l) e = go (leb 48 y && leb y 57) e (digits_last n l)
  where
    go : (t : Bool) → (t && digits l) ≡ true → (digits l ≡ true → digits (l ++ (decimal_digit n ∷ [])) ≡ true) → (t && digits (l ++ (decimal_digit n ∷ []))) ≡ true
    go true k ih = ih k
    go false k ih = k

-- by the number of digits that is enough
by_most : (most n : ℕ) → n < most → (decimal_from 0 (decimal_to most n) ≡ n) × (digits (decimal_to most n) ≡ true)
unfolding decimal_to decimal_from digits
by_most zero n h = absurd (omega arith)
by_most (suc most) n h = go (ltb n 10) refl (λ l. by_most most (n / 10) (tenth n most l h))
  where
    go : (t : Bool) → ltb n 10 ≡ t → (10 ≤ n → (decimal_from 0 (decimal_to most (n / 10)) ≡ n / 10) × (digits (decimal_to most (n / 10)) ≡ true))
        → (decimal_from 0 (cond t (decimal_digit n ∷ []) (decimal_to most (n / 10) ++ (decimal_digit n ∷ []))) ≡ n)
        × (digits (cond t (decimal_digit n ∷ []) (decimal_to most (n / 10) ++ (decimal_digit n ∷ []))) ≡ true)
    go true e ih = let l = ltb-true n 10 e in (omega (arith, l), rw (is_digit n))
    go false e ih =
        let r = ih (ltb-false n 10 e) in
        (from_last 0 (decimal_digit n) (decimal_to most (n / 10)) ∙ ap (λ (k : ℕ). k * 10 + (decimal_digit n - 48)) r.0 ∙ whole n, digits_last n (decimal_to most (n / 10)) r.1)
      where
        whole : (n : ℕ) → n / 10 * 10 + (decimal_digit n - 48) ≡ n
        whole n = omega arith

pub digits-read : (n : ℕ) → decimal_from 0 (decimal_of n) ≡ n
unfolding decimal_of
digits-read n = (by_most (suc n) n (omega arith)).0

pub digits-only : (n : ℕ) → digits (decimal_of n) ≡ true
unfolding decimal_of
digits-only n = (by_most (suc n) n (omega arith)).1

pub decimal-rises : (a b : ℕ) → a ≤ b → length (decimal_of a) ≤ length (decimal_of b)
decimal-rises a b h = go (length (decimal_of b)) refl
  where
    below : b < 10 ^ length (decimal_of b)
    below = omega (arith, decimal-lt 0 (decimal_of b) (digits-only b), digits-read b)

    go : (k : ℕ) → length (decimal_of b) ≡ k → length (decimal_of a) ≤ length (decimal_of b)
    go zero e = let z : b < 1 = subst (λ (k : ℕ). b < 10 ^ k) e below in let q : a ≡ b = omega arith in rw q (omega arith)
    go (suc k) e = let z : b < 10 ^ suc k = subst (λ (k : ℕ). b < 10 ^ k) e below in omega (arith, decimal-length k a (omega arith))

-- the first digit is 0 only in 0 itself
lead : (most n : ℕ) → n < most → 1 ≤ n → (get_or (decimal_to most n) 0 0 ≡ 48 → ⊥) × (1 ≤ length (decimal_to most n))
unfolding decimal_to
lead zero n h k = absurd (omega arith)
lead (suc most) n h k = go (ltb n 10) refl (λ l. lead most (n / 10) (tenth n most l h) (some n l))
  where
    some : (n : ℕ) → 10 ≤ n → 1 ≤ n / 10
    some n l = omega arith

    front : (l : List ℕ) (x : ℕ) → (get_or l 0 0 ≡ 48 → ⊥) × (1 ≤ length l) → (get_or (l ++ (x ∷ [])) 0 0 ≡ 48 → ⊥) × (1 ≤ length (l ++ (x ∷ [])))
    front [] x r = absurd (omega (arith, r.1))
    front (y ∷ l) x r = (r.0, omega arith)

    go : (t : Bool) → ltb n 10 ≡ t → (10 ≤ n → (get_or (decimal_to most (n / 10)) 0 0 ≡ 48 → ⊥) × (1 ≤ length (decimal_to most (n / 10))))
        → (get_or (cond t (decimal_digit n ∷ []) (decimal_to most (n / 10) ++ (decimal_digit n ∷ []))) 0 0 ≡ 48 → ⊥)
        × (1 ≤ length (cond t (decimal_digit n ∷ []) (decimal_to most (n / 10) ++ (decimal_digit n ∷ []))))
    go true e ih = let l = ltb-true n 10 e in (λ z. omega (arith, l, z, k), omega arith)
    go false e ih = front (decimal_to most (n / 10)) (decimal_digit n) (ih (ltb-false n 10 e))

formed-zero : well_formed (decimal_of 0) ≡ true
unfolding well_formed decimal_of decimal_to digits
formed-zero = refl

tests : (a b c d e : Bool) → a ≡ true → b ≡ true → d ≡ false → e ≡ true → ((a && b) && ((c || not d) && e)) ≡ true
tests a b c d e p q r t = rw (p, q, r, t) (right c)
  where
    right : (c : Bool) → ((c || true) && true) ≡ true
    right true = refl
    right false = refl

formed : (n : ℕ) → n < 10000 → well_formed (decimal_of n) ≡ true
unfolding well_formed decimal_of
formed zero h = formed-zero
formed (suc k) h =
    let l = decimal_of (suc k) in
    let r = lead (suc (suc k)) (suc k) (omega arith) (omega arith) in
    tests (leb 1 (length l)) (leb (length l) 4) (eqb (length l) 1) (eqb (get_or l 0 0) 48) (digits l)
    (le-leb 1 (length l) r.1) (le-leb (length l) 4 (decimal-length 3 (suc k) h)) (ne_eqb (get_or l 0 0) 48 r.0) (by_most (suc (suc k)) (suc k) (omega arith)).1

pub read_back : (n : ℕ) → n < 10000 → number_of (decimal_of n) ≡ Some n
unfolding number_of
read_back n h = rw (formed n h, digits-read n)

-- ---- a field that is a number

digit-range : (x : ℕ) → (leb 48 x && leb x 57) ≡ true → (48 ≤ x) × (x ≤ 57)
digit-range x e = let r = both (leb 48 x) (leb x 57) e in (leb-true 48 x r.0, leb-true x 57 r.1)

-- digits after those of v, which does not begin with 0
digits-after : (v : ℕ) (l : List ℕ) → 1 ≤ v → digits l ≡ true → decimal_of v ++ l ≡ decimal_of (decimal_from v l)
unfolding digits decimal_from
digits-after v [] h e = append-nil (decimal_of v)
digits-after v (x ∷ l) h e =
    let d = both (leb 48 x && leb x 57) (digits l) e in
    sym (append_assoc (decimal_of v) (x ∷ []) l) ∙ ap (λ (m : List ℕ). m ++ l) (one_more v x h d.0) ∙ digits-after (v * 10 + (x - 48)) l (omega arith) d.1
  where
    one_more : (v x : ℕ) → 1 ≤ v → (leb 48 x && leb x 57) ≡ true → decimal_of v ++ (x ∷ []) ≡ decimal_of (v * 10 + (x - 48))
    one_more v x h e =
        let r = digit-range x e in
        let n : v ≡ (v * 10 + (x - 48)) / 10 = omega (arith, r.1) in
        let m : x ≡ decimal_digit (v * 10 + (x - 48)) = omega (arith, r.0, r.1) in
        ap₂ (λ (k y : ℕ). decimal_of k ++ (y ∷ [])) n m ∙ sym (decimal-more (v * 10 + (x - 48)) (omega arith))

is_one : (x : ℕ) → (leb 48 x && leb x 57) ≡ true → x ∷ [] ≡ decimal_of (0 * 10 + (x - 48))
is_one x e =
    let r = digit-range x e in
    let m : x ≡ decimal_digit (0 * 10 + (x - 48)) = omega (arith, r.0, r.1) in
    ap (λ (y : ℕ). y ∷ []) m ∙ sym (decimal-one (0 * 10 + (x - 48)) (omega (arith, r.1)))

formed-only : (l : List ℕ) → well_formed l ≡ true → l ≡ decimal_of (decimal_from 0 l)
unfolding well_formed digits decimal_from
formed-only [] e = absurd (false≢true e)
formed-only (x ∷ l) e =
    let a = both (leb 1 (suc (length l)) && leb (suc (length l)) 4) ((eqb (suc (length l)) 1 || not (eqb x 48)) && ((leb 48 x && leb x 57) && digits l)) e in
    let b = both (eqb (suc (length l)) 1 || not (eqb x 48)) ((leb 48 x && leb x 57) && digits l) a.1 in
    let d = both (leb 48 x && leb x 57) (digits l) b.1 in
    go l d.0 d.1 (either (eqb (suc (length l)) 1) (not (eqb x 48)) b.0)
  where
    go : (l : List ℕ) → (leb 48 x && leb x 57) ≡ true → digits l ≡ true → (eqb (suc (length l)) 1 ≡ true) ⊎ (not (eqb x 48) ≡ true)
        → x ∷ l ≡ decimal_of (decimal_from (0 * 10 + (x - 48)) l)
    go [] f d s = is_one x f
    go (y ∷ l) f d (inl one) = absurd (omega (arith, eqb-true (suc (suc (length l))) 1 one))
    go (y ∷ l) f d (inr some) =
        let more = eqb-false x 48 (not-true (eqb x 48) some) in
        ap (λ (m : List ℕ). m ++ (y ∷ l)) (is_one x f) ∙ digits-after (0 * 10 + (x - 48)) (y ∷ l) (omega (arith, (digit-range x f).0, more)) d

pub number-only : (l : List ℕ) (v : ℕ) → number_of l ≡ Some v → l ≡ decimal_of v
unfolding number_of
number-only l v e = by (well_formed l) (formed-only l) e
  where
    by : (t : Bool) → (t ≡ true → l ≡ decimal_of (decimal_from 0 l)) → cond t (Some (decimal_from 0 l)) None ≡ Some v → l ≡ decimal_of v
    by true h e = let q : decimal_from 0 l ≡ v = cc in h refl ∙ ap decimal_of q
    by false h e = let z : ◌≡◌ {A = ℕ} 0 1 = cc in absurd (omega arith)

-- ---- a field that may have a sign

-- what begins with a digit has none
digit-first : (l : List ℕ) → digits l ≡ true → eqb (get_or l 0 0) minus_sign ≡ false
unfolding digits
digit-first [] e = refl
digit-first (x ∷ l) e = ne_eqb x minus_sign (λ q. omega (arith, (digit-range x (both (leb 48 x && leb x 57) (digits l) e).0).0))

unsigned-read : (l : List ℕ) (v : ℕ) → number_of l ≡ Some v → signed_number_of l ≡ Some (pos v)
unfolding signed_number_of
unsigned-read l v e = rw (digit-first l (subst (λ (m : List ℕ). digits m ≡ true) (sym (number-only l v e)) (digits-only v))) (ap (option_map pos) e)

pub signed-back : (z : ℤ) → nat_abs z < 10000 → signed_number_of (integer_of z) ≡ Some z
unfolding signed_number_of integer_of
signed-back (pos n) h = ap signed_number_of (natural-written n) ∙ unsigned-read (decimal_of n) n (read_back n h)
signed-back (negsuc n) h = ap negative_number (read_back (suc n) h)

pub signed-only : (l : List ℕ) (z : ℤ) → signed_number_of l ≡ Some z → (l ≡ integer_of z) × (nat_abs z < 10000)
unfolding signed_number_of integer_of
signed-only l z = by (eqb (get_or l 0 0) minus_sign) refl
  where
    sign-first : (l : List ℕ) → eqb (get_or l 0 0) minus_sign ≡ true → l ≡ minus_sign ∷ drop 1 l
    sign-first [] e = absurd (false≢true e)
    sign-first (x ∷ l) e = ap (λ (y : ℕ). y ∷ l) (eqb-true x minus_sign e)

    below-zero : eqb (get_or l 0 0) minus_sign ≡ true → (n : Option ℕ) → number_of (drop 1 l) ≡ n → negative_number n ≡ Some z → (l ≡ integer_of z) × (nat_abs z < 10000)
    below-zero s None q e = let z : ◌≡◌ {A = ℕ} 0 1 = cc in absurd (omega arith)
    below-zero s (Some zero) q e = let z : ◌≡◌ {A = ℕ} 0 1 = cc in absurd (omega arith)
    below-zero s (Some (suc v)) q e =
        let is : negsuc v ≡ z = cc in
        subst (λ (z : ℤ). (l ≡ integer_of z) × (nat_abs z < 10000)) is
        (sign-first l s ∙ ap (λ (m : List ℕ). minus_sign ∷ m) (number-only (drop 1 l) (suc v) q), omega (arith, number-le (drop 1 l) (suc v) q))

    from-zero : (n : Option ℕ) → number_of l ≡ n → option_map pos n ≡ Some z → (l ≡ integer_of z) × (nat_abs z < 10000)
    from-zero None q e = let z : ◌≡◌ {A = ℕ} 0 1 = cc in absurd (omega arith)
    from-zero (Some v) q e =
        let is : pos v ≡ z = cc in
        subst (λ (z : ℤ). (l ≡ integer_of z) × (nat_abs z < 10000)) is
        (number-only l v q ∙ sym (natural-written v), omega (arith, number-le l v q))

    by : (t : Bool) → eqb (get_or l 0 0) minus_sign ≡ t → cond t (negative_number (number_of (drop 1 l))) (option_map pos (number_of l)) ≡ Some z
        → (l ≡ integer_of z) × (nat_abs z < 10000)
    by true s e = below-zero s (number_of (drop 1 l)) refl e
    by false s e = from-zero (number_of l) refl e
