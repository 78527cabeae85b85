-- Numbers one after the other, and a test of all numbers below q:
--   count_low, count-high    an entry of `count from n` is from `from` on, and below `from + n`
--   all-each, each_all       every number below q passes
--   some-fails               one of them fails
--   all_same                 equal tests
--   all_more                 one number more, as a loop takes it
use mathlib.Core.Path.{◌≡◌, refl, sym, ap, ap₂, ◌∙◌}
use mathlib.Core.Bool.{Bool, true, false, ◌&&◌}
use mathlib.Core.Logic.{⊎_elim}
use mathlib.Core.List.Memᴰ
use mathlib.Core.List.{Memᴰ}
use Prim.Native.Nat.{ℕ, zero, suc, ◌+◌, ◌≤◌, ◌<◌}
use native.Mathlib.Numerals.{add-one}
use native.Mathlib.Omega.{arith}
use lib.Dec.{eqb}
use borrow.Author.Tests.{eqb-true, eqb-false}
use Rattle.integer.specs.Counting.{count, all_below}
use Rattle.integer.proofs.Bools.{clash, both}

pub count_low : (from n j : ℕ) → Memᴰ j (count from n) → from ≤ j
unfolding count
count_low from zero j m = absurd (Memᴰ.not-nil m)
count_low from (suc n) j m = ⊎_elim (λ e. omega arith) (λ k. let ih = count_low (suc from) n j k in omega arith) (Memᴰ.cases_cons m)

pub count-high : (n from x : ℕ) → Memᴰ x (count from n) → x < from + n
unfolding count
count-high zero from x m = absurd (Memᴰ.not-nil m)
count-high (suc n) from x m = ⊎_elim (λ e. omega arith) (λ k. let h = count-high n (suc from) x k in omega arith) (Memᴰ.cases_cons m)

pub all-each : (p : ℕ → Bool) (q : ℕ) → all_below p q ≡ true → (f : ℕ) → f < q → p f ≡ true
unfolding all_below
all-each p zero e f h = absurd (omega arith)
all-each p (suc q) e f h = go (λ k. all-each p q (both (all_below p q) (p q) e).0 f k) (eqb f q) refl
  where
    go : (f < q → p f ≡ true) → (t : Bool) → eqb f q ≡ t → p f ≡ true
    go ih true k = ap p (eqb-true f q k) ∙ (both (all_below p q) (p q) e).1
    go ih false k = ih (let n = eqb-false f q k in omega arith)

pub some-fails : (p : ℕ → Bool) (q : ℕ) → all_below p q ≡ false → (f : ℕ) × (f < q) × (p f ≡ false)
unfolding all_below
some-fails p zero e = clash e
some-fails p (suc q) e = go (all_below p q) refl e (λ k. some-fails p q k)
  where
    go : (t : Bool) → all_below p q ≡ t → (t && p q) ≡ false → (all_below p q ≡ false → (f : ℕ) × (f < q) × (p f ≡ false)) → (f : ℕ) × (f < suc q) × (p f ≡ false)
    go true u k ih = (q, omega arith, k)
    go false u k ih = let r = ih u in (r.0, (let l = r.1 in omega arith), r.2)

pub all_same : (p r : ℕ → Bool) (q : ℕ) → ((f : ℕ) → f < q → p f ≡ r f) → all_below p q ≡ all_below r q
unfolding all_below
all_same p r zero h = refl
all_same p r (suc q) h = ap₂ ◌&&◌ (all_same p r q (λ f k. h f (omega arith))) (h q (omega arith))

pub each_all : (p : ℕ → Bool) (q : ℕ) → ((f : ℕ) → f < q → p f ≡ true) → all_below p q ≡ true
unfolding all_below
each_all p zero h = refl
each_all p (suc q) h = ap₂ ◌&&◌ (each_all p q (λ f k. h f (omega arith))) (h q (omega arith))

pub all_more : (p : ℕ → Bool) (i : ℕ) (same here : Bool) → same ≡ all_below p i → here ≡ p i → (same && here) ≡ all_below p (i + 1)
unfolding all_below
all_more p i same here e k = ap₂ ◌&&◌ e k ∙ ap (all_below p) (sym (add-one i))
