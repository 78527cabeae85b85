-- The tests that every call on a list begins with:
--   inputs-power, -most, -size, -is, power-few  of `inputs_of`: the list has 2 ^ k numbers, at most 2,048, and each k from 1 to 11 is found
--   none_more                                   where the list has not 2 ^ (m + 1) numbers, fewer inputs are to be tried
--   outside-none                                of `outside`: by its two tests
--   outside-small, small-outside                not outside -B .. B means a size of at most B
--   outside-sizes                               what is not outside low .. high is no larger than the two together
--   fold-any, none_outside                      what testing every number has found
--   first-position                              the first index is the library's position; `screen_is` has it with the tests on numbers
--   screened-within, within-screened            no number outside -B .. B means a list within B
--   refuse-passed                               where a test and those after it give Done, it does not hold, and they give Done
--   Screened, screen-done, done-screen          what the answer Done of `screen_of` means
--   ready_between, ready                        and what a call knows by it
--   screen-unsized, -wrong, -outside, -short    its refusals, in their order
--   screen-not-11                               11 is none of them
--   first-passed, then-done                     tests after it; where they refuse nothing its answer stands
use mathlib.Core.Path.{◌≡◌, refl, sym, ap, ◌∙◌, subst}
use mathlib.Core.List.{List, [], ◌∷◌}
use mathlib.Core.Bool.{Bool, true, false, not, cond, ◌||◌, or-false, or_assoc}
use Prim.Native.Nat.{ℕ, zero, suc, ◌+◌, ◌^◌, ◌≤◌, ◌<◌, max}
use native.Mathlib.Nat.{lt_of_not-le, two-pow-succ, pow-le-pow_right, one-le-pow}
use native.Mathlib.Decide.{dec_le}
use native.Mathlib.Omega.{arith}
use lib.Dec.{eqb, ltb}
use lib.IntN.{ℤ, pos, negsuc, neg_ℤ, nat_abs}
use lib.ListN.{length}
use lib.Pow.{pow_mono}
use lib.Signed.{lt_z}
use borrow.Author.Tests.{not-false, ltb-true, ltb-false, lt-ltb, le-ltb, eqb-true, eqb-false, eq-eqb, ne_eqb}
use Rattle.integer.specs.First.{first_where}
use Rattle.integer.specs.Tab.{nth, Within}
use Rattle.integer.proofs.Bools.{clash, neither}
use Rattle.integer.proofs.Firsts.{first-none, first-all, first-le, first-before, first-at}
use Rattle.integer.proofs.Group.{nat_abs-neg}
use Rattle.screen.specs.Answers.{Answer, Done, Refused, answer_number, and_then, refuse_if, inputs_to, inputs_of, outside, outside_at, first_outside, screen_of, Ready}
use Rattle.std.specs.List.{fold, list_any, position, position_or_len}
use Rattle.std.proofs.Common.{Some, None}
use Rattle.std.proofs.lemmas.List.Sums.{position_or_len_is, passes_at_first}
use Rattle.std.proofs.lemmas.List.Folds.{list_any_at}
use Rattle.std.proofs.lemmas.Bool.Decides.{nat_tests}

-- The number of inputs.

power-to : (m n : ℕ) → 0 < inputs_to m n → n ≡ 2 ^ inputs_to m n
unfolding inputs_to
power-to zero n h = absurd (omega arith)
power-to (suc m) n h = pick (power-to m n) (eqb n (2 ^ suc m)) refl h
  where
    pick : (0 < inputs_to m n → n ≡ 2 ^ inputs_to m n) → (b : Bool) → eqb n (2 ^ suc m) ≡ b → 0 < cond b (suc m) (inputs_to m n) → n ≡ 2 ^ cond b (suc m) (inputs_to m n)
    pick ih true e h = eqb-true n (2 ^ suc m) e
    pick ih false e h = ih h

pub inputs-power : (n : ℕ) → 0 < inputs_of n → n ≡ 2 ^ inputs_of n
unfolding inputs_of
inputs-power n h = power-to 11 n h

most-to : (m n : ℕ) → inputs_to m n ≤ m
unfolding inputs_to
most-to zero n = omega arith
most-to (suc m) n = pick (most-to m n) (eqb n (2 ^ suc m))
  where
    pick : inputs_to m n ≤ m → (b : Bool) → cond b (suc m) (inputs_to m n) ≤ suc m
    pick ih true = omega arith
    pick ih false = omega arith

pub inputs-most : (n : ℕ) → inputs_of n ≤ 11
unfolding inputs_of
inputs-most n = most-to 11 n

pub power-few : (n k : ℕ) → k ≤ 11 → n ≡ 2 ^ k → n ≤ 2048
power-few n k h e = let m : 2 ^ k ≤ 2 ^ 11 = pow_mono {j = 11} h in omega arith

pub inputs-size : (n : ℕ) → 0 < inputs_of n → n ≤ 2048
inputs-size n h = power-few n (inputs_of n) (inputs-most n) (inputs-power n h)

-- where the list has not 2 ^ (m + 1) numbers, m inputs at most are to be tried
pub none_more : (m n : ℕ) → (n ≡ 2 ^ suc m → ⊥) → inputs_to (suc m) n ≡ inputs_to m n
unfolding inputs_to
none_more m n f = rw (ne_eqb n (2 ^ suc m) f)

is-to : (m k : ℕ) → 0 < k → k ≤ m → inputs_to m (2 ^ k) ≡ k
unfolding inputs_to
is-to zero k h l = absurd (omega arith)
is-to (suc m) k h l = pick (is-to m k h) (dec_le k m)
  where
    other : k ≤ m → 2 ^ k ≡ 2 ^ suc m → ⊥
    other g e = omega (arith, two-pow-succ m, pow-le-pow_right {n = 2} (omega arith) g, one-le-pow m 2 (omega arith))

    pick : (k ≤ m → inputs_to m (2 ^ k) ≡ k) → Dec (k ≤ m) → inputs_to (suc m) (2 ^ k) ≡ k
    pick ih (yes g) = none_more m (2 ^ k) (other g) ∙ ih g
    pick ih (no g) =
        let u = lt_of_not-le g in
        let e : k ≡ suc m = omega arith in
        ap (λ (b : Bool). cond b (suc m) (inputs_to m (2 ^ k))) (eq-eqb (2 ^ k) (2 ^ suc m) (ap (λ (j : ℕ). 2 ^ j) e)) ∙ sym e

pub inputs-is : (k : ℕ) → 0 < k → k ≤ 11 → inputs_of (2 ^ k) ≡ k
unfolding inputs_of
inputs-is k h l = is-to 11 k h l

-- One number.

inside_both : (low high z : ℤ) → outside low high z ≡ false → (lt_z z low ≡ false) × (lt_z high z ≡ false)
unfolding outside
inside_both low high z e = neither (lt_z z low) (lt_z high z) e

pub outside-none : (low high z : ℤ) → lt_z z low ≡ false → lt_z high z ≡ false → outside low high z ≡ false
unfolding outside
outside-none low high z a b = rw (a, b)

size-high : (high : ℤ) (n : ℕ) → lt_z high (pos n) ≡ false → n ≤ nat_abs high
size-high (pos h) n e = ltb-false h n e
size-high (negsuc h) n e = clash e

size_low : (low : ℤ) (n : ℕ) → lt_z (negsuc n) low ≡ false → suc n ≤ nat_abs low
size_low (pos l) n e = clash e
size_low (negsuc l) n e = omega (arith, ltb-false l n e)

pub outside-sizes : (low high z : ℤ) → outside low high z ≡ false → nat_abs z ≤ nat_abs low + nat_abs high
outside-sizes low high (pos n) e = omega (arith, size-high high n (inside_both low high (pos n) e).1)
outside-sizes low high (negsuc n) e = omega (arith, size_low low n (inside_both low high (negsuc n) e).0)

outside_between : (low high z : ℤ) → outside low high z ≡ false → nat_abs z ≤ max (nat_abs low) (nat_abs high)
outside_between low high (pos n) e = omega (arith, size-high high n (inside_both low high (pos n) e).1)
outside_between low high (negsuc n) e = omega (arith, size_low low n (inside_both low high (negsuc n) e).0)

pub outside-small : (B : ℕ) (z : ℤ) → outside (neg_ℤ (pos B)) (pos B) z ≡ false → nat_abs z ≤ B
outside-small B (pos n) e = size-high (pos B) n (inside_both (neg_ℤ (pos B)) (pos B) (pos n) e).1
outside-small B (negsuc n) e = omega (arith, nat_abs-neg (pos B), size_low (neg_ℤ (pos B)) n (inside_both (neg_ℤ (pos B)) (pos B) (negsuc n) e).0)

small_low : (B : ℕ) (z : ℤ) → nat_abs z ≤ B → lt_z z (neg_ℤ (pos B)) ≡ false
small_low zero (pos n) h = le-ltb n 0 (omega arith)
small_low zero (negsuc n) h = absurd (omega arith)
small_low (suc b) (pos n) h = refl
small_low (suc b) (negsuc n) h = le-ltb b n (omega arith)

small-high : (B : ℕ) (z : ℤ) → nat_abs z ≤ B → lt_z (pos B) z ≡ false
small-high B (pos n) h = le-ltb B n h
small-high B (negsuc n) h = refl

pub small-outside : (B : ℕ) (z : ℤ) → nat_abs z ≤ B → outside (neg_ℤ (pos B)) (pos B) z ≡ false
small-outside B z h = outside-none (neg_ℤ (pos B)) (pos B) z (small_low B z h) (small-high B z h)

-- A list.

fold-any : (p : ℤ → Bool) (any : Bool) (l : List ℤ) → fold (λ any z. any || p z) any l ≡ (any || list_any p l)
fold-any p any [] = sym (or-false any)
fold-any p any (z ∷ zs) = fold-any p (any || p z) zs ∙ or_assoc any (p z) (list_any p zs)

pub none_outside : (low high : ℤ) (l : List ℤ) → fold (λ any z. any || outside low high z) false l ≡ false → position (outside low high) l ≡ None
none_outside low high l e = pick (ltb i (length l)) refl
  where
    p : ℤ → Bool
    p = outside low high

    i : ℕ
    i = position_or_len p l

    pick : (b : Bool) → ltb i (length l) ≡ b → cond b (Some i) None ≡ None
    pick true h = let k = ltb-true i (length l) h in clash (sym (list_any_at p l i (pos 0) k (passes_at_first p l (pos 0) k)) ∙ sym (fold-any p false l) ∙ e)
    pick false h = refl

pub first-position : (low high : ℤ) (l : List ℤ) → first_outside low high l ≡ position_or_len (outside low high) l
unfolding first_outside outside_at
first-position low high l =
    let p : ℕ → Bool = outside_at low high l in
    sym (position_or_len_is (outside low high) l (first_where p (length l)) (pos 0) (first-le p (length l)) (first-before p (length l)) (first-at p (length l)))

pub ruleset screen_is = (first-position, nat_tests)

between-within : (low high : ℤ) (l : List ℤ) → length l ≤ first_outside low high l → Within (max (nat_abs low) (nat_abs high)) l
unfolding first_outside outside_at
between-within low high l h x k = outside_between low high (nth l x) (first-all (outside_at low high l) (length l) h x k)

pub screened-within : (B : ℕ) (l : List ℤ) → length l ≤ first_outside (neg_ℤ (pos B)) (pos B) l → Within B l
unfolding first_outside outside_at
screened-within B l h x k = outside-small B (nth l x) (first-all (outside_at (neg_ℤ (pos B)) (pos B) l) (length l) h x k)

pub within-screened : (B : ℕ) (l : List ℤ) → Within B l → length l ≤ first_outside (neg_ℤ (pos B)) (pos B) l
unfolding first_outside outside_at
within-screened B l w = omega (arith, first-none (outside_at (neg_ℤ (pos B)) (pos B) l) (length l) (λ x k. small-outside B (nth l x) (w x k)))

pub record Screened (low high : ℤ) (test : Bool) (l : List ℤ) (room due : ℕ) : Type 0 where
  pub sized : 0 < inputs_of (length l)
  pub right : test ≡ true
  pub inside : length l ≤ first_outside low high l
  pub fits : due ≤ room

pub refuse-passed : (test : Bool) (number place : ℕ) (next : Answer) → refuse_if test number place next ≡ Done → (test ≡ false) × (next ≡ Done)
refuse-passed true number place next e = let z : ◌≡◌ {A = ℕ} 0 1 = cc in absurd (omega arith)
refuse-passed false number place next e = (refl, e)

pub above_zero : (n : ℕ) → (n ≡ 0 → ⊥) → 0 < n
above_zero zero f = absurd (f refl)
above_zero (suc n) f = omega arith

pub screen-done : (low high : ℤ) (test : Bool) (l : List ℤ) (room due : ℕ) → screen_of low high test l room due ≡ Done → Screened low high test l room due
unfolding screen_of
screen-done low high test l room due e =
    let a = refuse-passed (eqb (inputs_of (length l)) 0) 9 0 _ e in
    let b = refuse-passed (not test) 12 0 _ a.1 in
    let c = refuse-passed (ltb (first_outside low high l) (length l)) 10 (first_outside low high l) _ b.1 in
    let d = refuse-passed (ltb room due) 8 0 _ c.1 in
    record { sized = above_zero _ (eqb-false _ _ a.0); right = not-false test b.0; inside = ltb-false _ _ c.0; fits = ltb-false _ _ d.0 }

pub then-done : (a : Answer) → and_then a Done ≡ a
then-done Done = refl
then-done (Refused number place) = refl

-- where tests after others give Done, the first did
pub first-passed : (a b : Answer) → and_then a b ≡ Done → a ≡ Done
first-passed Done b e = refl
first-passed (Refused number place) b e = e

-- 11 is not among the refusals of the screen
pub screen-not-11 : (low high : ℤ) (test : Bool) (l : List ℤ) (room due : ℕ) → answer_number (screen_of low high test l room due) ≡ 11 → ⊥
unfolding screen_of
screen-not-11 low high test l room due = go (eqb (inputs_of (length l)) 0) test (ltb (first_outside low high l) (length l)) (ltb room due)
  where
    go : (a t b c : Bool) → answer_number (refuse_if a 9 0 (refuse_if (not t) 12 0 (refuse_if b 10 (first_outside low high l) (refuse_if c 8 0 Done)))) ≡ 11 → ⊥
    go true t b c e = omega arith
    go false false b c e = omega arith
    go false true true c e = omega arith
    go false true false true e = omega arith
    go false true false false e = omega arith

pub ready_between : (low high : ℤ) (test : Bool) (l : List ℤ) (room due : ℕ) → screen_of low high test l room due ≡ Done → Ready (max (nat_abs low) (nat_abs high)) test l room due
ready_between low high test l room due e =
    let s = screen-done low high test l room due e in
    record {
      few = inputs-size (length l) s.sized;
      most = inputs-most (length l);
      power = inputs-power (length l) s.sized;
      within = between-within low high l s.inside;
      right = s.right;
      fits = s.fits;
    }

pub ready : (B : ℕ) (test : Bool) (l : List ℤ) (room due : ℕ) → screen_of (neg_ℤ (pos B)) (pos B) test l room due ≡ Done → Ready B test l room due
ready B test l room due e = subst (λ (C : ℕ). Ready C test l room due) (both-sizes B) (ready_between (neg_ℤ (pos B)) (pos B) test l room due e)
  where
    both-sizes : (B : ℕ) → max (nat_abs (neg_ℤ (pos B))) (nat_abs (pos B)) ≡ B
    both-sizes B = omega (arith, nat_abs-neg (pos B))

pub done-screen : (low high : ℤ) (test : Bool) (l : List ℤ) (room due : ℕ) → Screened low high test l room due → screen_of low high test l room due ≡ Done
unfolding screen_of
done-screen low high test l room due s =
    let h = s.sized in
    let size = ne_eqb (inputs_of (length l)) 0 (λ e. omega arith) in
    let past = le-ltb (first_outside low high l) (length l) s.inside in
    let enough = le-ltb room due s.fits in
    rw (size, s.right, past, enough)

module _ (low high : ℤ) (l : List ℤ) (room due : ℕ) where
  pub screen-unsized : (test : Bool) → inputs_of (length l) ≡ 0 → screen_of low high test l room due ≡ Refused 9 0
  unfolding screen_of
  screen-unsized test e = rw (eq-eqb (inputs_of (length l)) 0 e)

  module _ (sized : 0 < inputs_of (length l)) where
    size : eqb (inputs_of (length l)) 0 ≡ false
    size = ne_eqb (inputs_of (length l)) 0 (λ e. omega arith)

    pub screen-wrong : (test : Bool) → test ≡ false → screen_of low high test l room due ≡ Refused 12 0
    unfolding screen_of
    screen-wrong test e = rw (size, e)

    pub screen-outside : (test : Bool) → test ≡ true → first_outside low high l < length l → screen_of low high test l room due ≡ Refused 10 (first_outside low high l)
    unfolding screen_of
    screen-outside test e h = rw (size, e, lt-ltb (first_outside low high l) (length l) h)

    pub screen-short : (test : Bool) → test ≡ true → length l ≤ first_outside low high l → room < due → screen_of low high test l room due ≡ Refused 8 0
    unfolding screen_of
    screen-short test e h k = rw (size, e, le-ltb (first_outside low high l) (length l) h, lt-ltb room due k)
