-- Sets by size:
--   first_found                        what is found is in the list and passes
--   sets-length, sets-sub              a set of k has k entries, each of the list
--   plan-start, plan-step, plan-end    the sizes one after the other
--   kept-four                          the labels of a set, at the front of four
use mathlib.Core.Path.{◌≡◌, refl, sym, ap, ◌∙◌, subst}
use mathlib.Core.Bool.{Bool, true, false, cond}
use mathlib.Core.Logic.{⊎_elim}
use mathlib.Core.List.Memᴰ
use mathlib.Core.List.{List, [], ◌∷◌, map, Memᴰ}
use mathlib.Core.Option.{none, some, none-ne-some, some-injective}
use Prim.Native.Nat.{ℕ, zero, suc, ◌+◌, ◌-◌, ◌<◌, ◌≤◌}
use native.Mathlib.Numerals.{add-one}
use native.Mathlib.Omega.{arith}
use lib.ListN.{length, take}
use Rattle.search.specs.Sets.{sets_of, first_of, or_else, plan_from, plan_of, four_of}

pub first_found : (p : List ℕ → Bool) (a : List (List ℕ)) (x : List ℕ) → first_of p a ≡ some x → Memᴰ x a × (p x ≡ true)
unfolding first_of
first_found p [] x e = absurd (none-ne-some x e)
first_found p (y ∷ a) x e = go (p y) refl e (first_found p a x)
  where
    go : (t : Bool) → p y ≡ t → cond t (some y) (first_of p a) ≡ some x → (first_of p a ≡ some x → Memᴰ x a × (p x ≡ true)) → Memᴰ x (y ∷ a) × (p x ≡ true)
    go true q k ih = let h = some-injective y x k in (Memᴰ.head (sym h), ap p (sym h) ∙ q)
    go false q k ih = let r = ih k in (Memᴰ.tail r.0, r.1)

-- a set of k + 1 entries of l ∷ ls has l and a set of k of ls, or is one of ls
set_cases : {X : Type 0} (k l : ℕ) (ls x : List ℕ) → Memᴰ x (sets_of (suc k) (l ∷ ls))
    → ((y : List ℕ) → Memᴰ y (sets_of k ls) → x ≡ l ∷ y → X) → (Memᴰ x (sets_of (suc k) ls) → X) → X
unfolding sets_of
set_cases k l ls x m f g =
    ⊎_elim (λ n. let r = Memᴰ.of_map (λ (xs : List ℕ). l ∷ xs) (sets_of k ls) n in f r.0 r.1 (sym r.2)) g
    (Memᴰ.append_cases (map (λ xs. l ∷ xs) (sets_of k ls)) m)

pub sets-length : (k : ℕ) (ls x : List ℕ) → Memᴰ x (sets_of k ls) → length x ≡ k
unfolding sets_of
sets-length zero ls x m = ap length (Memᴰ.eq_of_singleton m)
sets-length (suc k) [] x m = absurd (Memᴰ.not-nil m)
sets-length (suc k) (l ∷ ls) x m = set_cases k l ls x m (λ y n e. ap length e ∙ ap suc (sets-length k ls y n)) (sets-length (suc k) ls x)

pub sets-sub : (k : ℕ) (ls x : List ℕ) → Memᴰ x (sets_of k ls) → (y : ℕ) → Memᴰ y x → Memᴰ y ls
unfolding sets_of
sets-sub zero ls x m y n = absurd (Memᴰ.not-nil (subst (λ (l : List ℕ). Memᴰ y l) (Memᴰ.eq_of_singleton m) n))
sets-sub (suc k) [] x m y n = absurd (Memᴰ.not-nil m)
sets-sub (suc k) (l ∷ ls) x m y n =
    set_cases k l ls x m
    (λ z h e. ⊎_elim Memᴰ.head (λ i. Memᴰ.tail (sets-sub k ls z h y i)) (Memᴰ.cases_cons (subst (λ (w : List ℕ). Memᴰ y w) e n)))
    (λ h. Memᴰ.tail (sets-sub (suc k) ls x h y n))

module _ (p : List ℕ → Bool) (ls : List ℕ) (cap : ℕ) where
  pub plan-start : plan_of p ls cap ≡ plan_from p ls 1 (cap + 1 - 1)
  unfolding plan_of
  plan-start = let same : cap ≡ cap + 1 - 1 = omega arith in ap (plan_from p ls 1) same

  pub plan-step : (k : ℕ) → k ≤ cap → plan_from p ls k (cap + 1 - k) ≡ or_else (first_of p (sets_of k ls)) (plan_from p ls (k + 1) (cap + 1 - (k + 1)))
  unfolding plan_from
  plan-step k h =
      let more : cap + 1 - k ≡ suc (cap + 1 - (k + 1)) = omega arith in
      ap (plan_from p ls k) more ∙ ap (λ (j : ℕ). or_else (first_of p (sets_of k ls)) (plan_from p ls j (cap + 1 - (k + 1)))) (sym (add-one k))

  pub plan-end : (k : ℕ) → cap < k → plan_from p ls k (cap + 1 - k) ≡ none
  unfolding plan_from
  plan-end k h = let over : cap + 1 - k ≡ 0 = omega arith in ap (plan_from p ls k) over

-- a list of at most four, as it is returned
pub kept-four : (xs : List ℕ) → length xs ≤ 4 → take (length xs) (four_of xs) ≡ xs
kept-four [] h = refl
kept-four (a ∷ []) h = refl
kept-four (a ∷ b ∷ []) h = refl
kept-four (a ∷ b ∷ c ∷ []) h = refl
kept-four (a ∷ b ∷ c ∷ d ∷ []) h = refl
kept-four (a ∷ b ∷ c ∷ d ∷ e ∷ xs) h = absurd (omega arith)
