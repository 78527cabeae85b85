-- Laws of the sets of a list ls and of the first that passes a test p:
--   plan-found       the set that is found is a set of ls, passes, and has from 1 to cap entries
--   first-earliest   every set of its size before it fails
--   in_order         a set of ls is a subsequence of ls
--   plan-mapped      the search over places gives the labels that the search over labels finds
-- and where p fails on [] and is kept by more entries:
--   least            every list of entries of ls that passes is at least as long as the set that is found
--   none-less        where none is found, no list of at most cap entries of ls passes
use mathlib.Core.Path.{◌≡◌, refl, sym, ap, ap₂, ◌∙◌, subst}
use mathlib.Core.Bool.{Bool, true, false, not, cond, ◌||◌}
use mathlib.Core.Logic.{⊎_elim}
use mathlib.Core.List.Memᴰ
use mathlib.Core.List.{List, [], ◌∷◌, ◌++◌, map, map-map, map-append, Memᴰ}
use mathlib.Core.Option.{Option, none, some}
use Prim.Native.Nat.{ℕ, zero, suc, ◌+◌, ◌<◌, ◌≤◌}
use native.Mathlib.Omega.{arith}
use lib.Dec.{eqb, ltb}
use lib.ListN.{length, get_or}
use borrow.Author.Tests.{eqb-true, eqb-false, ltb-true, ltb-false}
use Rattle.integer.specs.ListTests.{keep, has, subsequence}
use Rattle.integer.proofs.Bools.{clash}
use Rattle.integer.proofs.Entries.{mem-has, keep-mem}
use Rattle.integer.proofs.Subsequences.{sub-here, sub-later}
use Rattle.search.specs.Sets.{sets_of, first_of, or_else, plan_from, plan_of}
use Rattle.search.specs.Steps.{labels_at, chosen_at}
use Rattle.search.proofs.SetsBySize.{first_found, sets-length, sets-sub}

-- Sets stand in the list's order.

pub in_order : (k : ℕ) (ls x : List ℕ) → Memᴰ x (sets_of k ls) → subsequence x ls ≡ true
unfolding sets_of subsequence
in_order zero ls x m = ap (λ (y : List ℕ). subsequence y ls) (Memᴰ.eq_of_singleton m)
in_order (suc k) [] x m = absurd (Memᴰ.not-nil m)
in_order (suc k) (l ∷ ls) x m =
    ⊎_elim (λ n. let r = Memᴰ.of_map (λ (xs : List ℕ). l ∷ xs) (sets_of k ls) n in
    ap (λ (y : List ℕ). subsequence y (l ∷ ls)) (sym r.2) ∙ sub-here l r.0 ls (in_order k ls r.0 r.1))
    (λ n. sub-later l x ls (in_order (suc k) ls x n))
    (Memᴰ.append_cases (map (λ xs. l ∷ xs) (sets_of k ls)) m)

-- What a search finds: every set before it fails, and where it finds none every set fails.

pub record Earliest (p : List ℕ → Bool) (a : List (List ℕ)) (x : List ℕ) : Type 0 where
  pub before : List (List ℕ)
  pub after : List (List ℕ)
  pub stands : a ≡ before ++ (x ∷ after)
  pub fails : (y : List ℕ) → Memᴰ y before → p y ≡ false

pub first-first : (p : List ℕ → Bool) (a : List (List ℕ)) (x : List ℕ) → first_of p a ≡ some x → Earliest p a x
unfolding first_of
first-first p [] x e = let z : ◌≡◌ {A = ℕ} 0 1 = cc in absurd (omega arith)
first-first p (y ∷ a) x e = go (p y) refl e (λ k. first-first p a x k)
  where
    go : (t : Bool) → p y ≡ t → cond t (some y) (first_of p a) ≡ some x → (first_of p a ≡ some x → Earliest p a x) → Earliest p (y ∷ a) x
    go true q k ih = let h : y ≡ x = cc in record { before = []; after = a; stands = ap (λ (z : List ℕ). z ∷ a) h; fails = λ z m. absurd (Memᴰ.not-nil m) }
    go false q k ih =
        let r = ih k in
        record {
          before = y ∷ r.before;
          after = r.after;
          stands = ap (λ (b : List (List ℕ)). y ∷ b) r.stands;
          fails = λ z m. ⊎_elim (λ w. ap p w ∙ q) (λ n. r.fails z n) (Memᴰ.cases_cons m);
        }

first-none : (p : List ℕ → Bool) (a : List (List ℕ)) (x : List ℕ) → Memᴰ x a → first_of p a ≡ none → p x ≡ true → ⊥
unfolding first_of
first-none p [] x m e h = Memᴰ.not-nil m
first-none p (y ∷ a) x m e h = go (p y) refl e (λ k n. first-none p a x n k h)
  where
    go : (t : Bool) → p y ≡ t → cond t (some y) (first_of p a) ≡ none → (first_of p a ≡ none → Memᴰ x a → ⊥) → ⊥
    go true k n ih = let z : ◌≡◌ {A = ℕ} 0 1 = cc in omega arith
    go false k n ih = ⊎_elim (λ q. clash (sym h ∙ ap p q ∙ k)) (λ r. ih n r) (Memᴰ.cases_cons m)

-- Any list of entries of ls, in the order of ls and each entry once: it has no more entries.

other : ℕ → ℕ → Bool
other x y = not (eqb y x)

others : ℕ → List ℕ → List ℕ
others x ys = keep (other x) ys

pick : List ℕ → List ℕ → List ℕ
pick [] ys = []
pick (l ∷ ls) ys = cond (has l ys) (l ∷ pick ls (others l ys)) (pick ls ys)

others-length : (x : ℕ) (ys : List ℕ) → (length (others x ys) ≤ length ys) × (has x ys ≡ true → length (others x ys) < length ys)
unfolding others other keep has
others-length x [] = (omega arith, λ e. clash (sym e))
others-length x (y ∷ ys) = go (eqb y x) (others-length x ys)
  where
    go : (t : Bool) → (length (others x ys) ≤ length ys) × (has x ys ≡ true → length (others x ys) < length ys)
        → (length (cond (not t) (y ∷ others x ys) (others x ys)) ≤ suc (length ys))
        × ((t || has x ys) ≡ true → length (cond (not t) (y ∷ others x ys) (others x ys)) < suc (length ys))
    go true ih = let h = ih.0 in (omega arith, λ e. omega arith)
    go false ih = let h = ih.0 in (omega arith, λ e. let l = ih.1 e in omega arith)

others-mem : (x : ℕ) (ys : List ℕ) (z : ℕ) → Memᴰ z ys → (z ≡ x → ⊥) → Memᴰ z (others x ys)
unfolding others other
others-mem x ys z m n = keep-mem (other x) ys z m (go (eqb z x) refl)
  where
    go : (t : Bool) → eqb z x ≡ t → not t ≡ true
    go true e = absurd (n (eqb-true z x e))
    go false e = refl

pick-length : (ls ys : List ℕ) → length (pick ls ys) ≤ length ys
unfolding pick
pick-length [] ys = omega arith
pick-length (l ∷ ls) ys = go (has l ys) refl (pick-length ls (others l ys)) (pick-length ls ys)
  where
    go : (t : Bool) → has l ys ≡ t → length (pick ls (others l ys)) ≤ length (others l ys) → length (pick ls ys) ≤ length ys
        → length (cond t (l ∷ pick ls (others l ys)) (pick ls ys)) ≤ length ys
    go true e a b = let h = (others-length l ys).1 e in omega arith
    go false e a b = b

pick-mem : (ls ys : List ℕ) (z : ℕ) → Memᴰ z ys → Memᴰ z ls → Memᴰ z (pick ls ys)
unfolding pick
pick-mem [] ys z m n = absurd (Memᴰ.not-nil n)
pick-mem (l ∷ ls) ys z m n =
    go (has l ys) refl (λ k d. pick-mem ls (others l ys) z (others-mem l ys z m d) k) (λ k. pick-mem ls ys z m k) (eqb z l) refl
  where
    rest : (z ≡ l → ⊥) → Memᴰ z ls
    rest d = ⊎_elim (λ e. absurd (d e)) (λ k. k) (Memᴰ.cases_cons n)

    go : (t : Bool) → has l ys ≡ t → (Memᴰ z ls → (z ≡ l → ⊥) → Memᴰ z (pick ls (others l ys))) → (Memᴰ z ls → Memᴰ z (pick ls ys))
        → (u : Bool) → eqb z l ≡ u → Memᴰ z (cond t (l ∷ pick ls (others l ys)) (pick ls ys))
    go true e a b true k = Memᴰ.head (eqb-true z l k)
    go true e a b false k = Memᴰ.tail (a (rest (eqb-false z l k)) (eqb-false z l k))
    go false e a b true k = clash (sym (mem-has l ys (subst (λ (x : ℕ). Memᴰ x ys) (eqb-true z l k) m)) ∙ e)
    go false e a b false k = b (rest (eqb-false z l k))

sets_more : (k l : ℕ) (ls x : List ℕ) → Memᴰ x (sets_of k ls) → Memᴰ x (sets_of k (l ∷ ls))
unfolding sets_of
sets_more zero l ls x m = m
sets_more (suc k) l ls x m = Memᴰ.append_right (map (λ xs. l ∷ xs) (sets_of k ls)) m

pick-set : (ls ys : List ℕ) → Memᴰ (pick ls ys) (sets_of (length (pick ls ys)) ls)
unfolding pick sets_of
pick-set [] ys = Memᴰ.head refl
pick-set (l ∷ ls) ys = go (has l ys) (pick-set ls (others l ys)) (pick-set ls ys)
  where
    go : (t : Bool) → Memᴰ (pick ls (others l ys)) (sets_of (length (pick ls (others l ys))) ls) → Memᴰ (pick ls ys) (sets_of (length (pick ls ys)) ls)
        → Memᴰ (cond t (l ∷ pick ls (others l ys)) (pick ls ys)) (sets_of (length (cond t (l ∷ pick ls (others l ys)) (pick ls ys))) (l ∷ ls))
    go true a b = Memᴰ.append_left (sets_of (suc (length (pick ls (others l ys)))) ls) (Memᴰ.map (λ (xs : List ℕ). l ∷ xs) a)
    go false a b = sets_more (length (pick ls ys)) l ls (pick ls ys) b

-- The sizes, one after the other.

module _ (p : List ℕ → Bool) (ls : List ℕ) where
  at_size : ℕ → Option (List ℕ)
  at_size k = first_of p (sets_of k ls)

  none-at : (n k : ℕ) → plan_from p ls k n ≡ none → (j : ℕ) → k ≤ j → j < k + n → at_size j ≡ none
  unfolding plan_from at_size
  none-at zero k e j a b = absurd (omega arith)
  none-at (suc n) k e j a b = go (at_size k) refl e (λ h u. none-at n (suc k) h j u (omega arith)) (eqb k j) refl
    where
      go : (o : Option (List ℕ)) → at_size k ≡ o → or_else o (plan_from p ls (suc k) n) ≡ none → (plan_from p ls (suc k) n ≡ none → suc k ≤ j → at_size j ≡ none)
          → (t : Bool) → eqb k j ≡ t → at_size j ≡ none
      go (some x) w h ih t u = let z : ◌≡◌ {A = ℕ} 0 1 = cc in absurd (omega arith)
      go none w h ih true u = ap at_size (sym (eqb-true k j u)) ∙ w
      go none w h ih false u = ih h (let d = eqb-false k j u in omega arith)

  -- at its size, in the range, and none at any size below
  record Found (k n : ℕ) (xs : List ℕ) : Type 0 where
    here : at_size (length xs) ≡ some xs
    low : k ≤ length xs
    high : length xs < k + n
    below : (j : ℕ) → k ≤ j → j < length xs → at_size j ≡ none

  some_at : (n k : ℕ) (xs : List ℕ) → plan_from p ls k n ≡ some xs → Found k n xs
  unfolding plan_from at_size
  some_at zero k xs e = let z : ◌≡◌ {A = ℕ} 0 1 = cc in absurd (omega arith)
  some_at (suc n) k xs e = go (at_size k) refl e (λ h. some_at n (suc k) xs h)
    where
      go : (o : Option (List ℕ)) → at_size k ≡ o → or_else o (plan_from p ls (suc k) n) ≡ some xs → (plan_from p ls (suc k) n ≡ some xs → Found (suc k) n xs) → Found k (suc n) xs
      go (some x) w h ih =
          let u : at_size k ≡ some xs = cc in
          let v : length xs ≡ k = sets-length k ls xs (first_found p (sets_of k ls) xs u).0 in
          record { here = ap at_size v ∙ u; low = omega arith; high = omega arith; below = λ j a b. absurd (omega arith) }
      go none w h ih =
          let r = ih h in
          let l = r.low in
          let t = r.high in
          record { here = r.here; low = omega arith; high = omega arith; below = λ j a b. under j a b (eqb k j) refl r.below }
        where
          under : (j : ℕ) → k ≤ j → j < length xs → (t : Bool) → eqb k j ≡ t → ((i : ℕ) → suc k ≤ i → i < length xs → at_size i ≡ none) → at_size j ≡ none
          under j a b true u f = ap at_size (sym (eqb-true k j u)) ∙ w
          under j a b false u f = f j (let d = eqb-false k j u in omega arith) b

  pub plan-found : (cap : ℕ) (xs : List ℕ) → plan_of p ls cap ≡ some xs
      → Memᴰ xs (sets_of (length xs) ls) × (p xs ≡ true) × (1 ≤ length xs) × (length xs ≤ cap)
  unfolding plan_of at_size
  plan-found cap xs e =
      let r = some_at cap 1 xs e in
      let f = first_found p (sets_of (length xs) ls) xs r.here in
      let l = r.low in
      let h = r.high in
      (f.0, f.1, omega arith, omega arith)

  pub first-earliest : (cap : ℕ) (xs : List ℕ) → plan_of p ls cap ≡ some xs → Earliest p (sets_of (length xs) ls) xs
  unfolding plan_of at_size
  first-earliest cap xs e = first-first p (sets_of (length xs) ls) xs (some_at cap 1 xs e).here

  module _ (more : (xs ys : List ℕ) → ((x : ℕ) → Memᴰ x xs → Memᴰ x ys) → p xs ≡ true → p ys ≡ true) (empty : p [] ≡ false)
      (ys : List ℕ) (sub : (y : ℕ) → Memᴰ y ys → Memᴰ y ls) (passes : p ys ≡ true) where
    picked-passes : p (pick ls ys) ≡ true
    picked-passes = more ys (pick ls ys) (λ x m. pick-mem ls ys x m (sub x m)) passes

    some_size : at_size (length (pick ls ys)) ≡ none → ⊥
    unfolding at_size
    some_size e = first-none p (sets_of (length (pick ls ys)) ls) (pick ls ys) (pick-set ls ys) e picked-passes

    not-empty : (zs : List ℕ) → p zs ≡ true → 1 ≤ length zs
    not-empty [] e = clash (sym e ∙ empty)
    not-empty (z ∷ zs) e = omega arith

    pub least : (cap : ℕ) (xs : List ℕ) → plan_of p ls cap ≡ some xs → length xs ≤ length ys
    unfolding plan_of
    least cap xs e = go (ltb (length (pick ls ys)) (length xs)) refl (not-empty (pick ls ys) picked-passes) (pick-length ls ys)
      where
        go : (t : Bool) → ltb (length (pick ls ys)) (length xs) ≡ t → 1 ≤ length (pick ls ys) → length (pick ls ys) ≤ length ys → length xs ≤ length ys
        go true w n b = absurd (some_size ((some_at cap 1 xs e).below (length (pick ls ys)) n (ltb-true (length (pick ls ys)) (length xs) w)))
        go false w n b = let v = ltb-false (length (pick ls ys)) (length xs) w in omega arith

    pub none-less : (cap : ℕ) → plan_of p ls cap ≡ none → length ys ≤ cap → ⊥
    unfolding plan_of
    none-less cap e short =
        let n = not-empty (pick ls ys) picked-passes in
        let b = pick-length ls ys in
        some_size (none-at cap 1 e (length (pick ls ys)) n (omega arith))

-- The search over places, and the search over what stands there.

sets-mapped : (labels : List ℕ) (k : ℕ) (is : List ℕ) → sets_of k (labels_at labels is) ≡ map (labels_at labels) (sets_of k is)
unfolding sets_of
sets-mapped labels zero is = refl
sets-mapped labels (suc k) [] = refl
sets-mapped labels (suc k) (i ∷ is) =
    ap₂ (λ (a b : List (List ℕ)). map (λ xs. get_or labels i 0 ∷ xs) a ++ b) (sets-mapped labels k is) (sets-mapped labels (suc k) is) ∙ simp (map-map, map-append)

module _ (labels : List ℕ) (p r : List ℕ → Bool) where
  first-mapped : (a : List (List ℕ)) → ((is : List ℕ) → Memᴰ is a → r is ≡ p (labels_at labels is)) → chosen_at labels (first_of r a) ≡ first_of p (map (labels_at labels) a)
  unfolding first_of
  first-mapped [] same = refl
  first-mapped (x ∷ a) same = go (r x) (p (labels_at labels x)) (same x (Memᴰ.head refl)) (first-mapped a (λ is m. same is (Memᴰ.tail m)))
    where
      go : (s t : Bool) → s ≡ t → chosen_at labels (first_of r a) ≡ first_of p (map (labels_at labels) a)
          → chosen_at labels (cond s (some x) (first_of r a)) ≡ cond t (some (labels_at labels x)) (first_of p (map (labels_at labels) a))
      go true true e ih = refl
      go false false e ih = ih
      go true false e ih = clash e
      go false true e ih = clash (sym e)

  or-mapped : (o next : Option (List ℕ)) → chosen_at labels (or_else o next) ≡ or_else (chosen_at labels o) (chosen_at labels next)
  or-mapped none next = refl
  or-mapped (some x) next = refl

  module _ (places : List ℕ) (same : (is : List ℕ) → ((i : ℕ) → Memᴰ i is → Memᴰ i places) → r is ≡ p (labels_at labels is)) where
    from-mapped : (n k : ℕ) → chosen_at labels (plan_from r places k n) ≡ plan_from p (labels_at labels places) k n
    unfolding plan_from
    from-mapped zero k = refl
    from-mapped (suc n) k =
        or-mapped (first_of r (sets_of k places)) (plan_from r places (suc k) n)
        ∙ ap₂ or_else
        (first-mapped (sets_of k places) (λ is m. same is (sets-sub k places is m)) ∙ ap (first_of p) (sym (sets-mapped labels k places)))
        (from-mapped n (suc k))

    pub plan-mapped : (cap : ℕ) → chosen_at labels (plan_of r places cap) ≡ plan_of p (labels_at labels places) cap
    unfolding plan_of
    plan-mapped cap = from-mapped cap 1
