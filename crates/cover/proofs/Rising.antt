-- Lists of labels that rise in the order:
--   earlier-trans, earlier-self    the order of two labels
--   sub-rising      a subsequence of a rising list rises
--   labels-rising   the labels below n rise
--   rising-set      a rising list of entries of a rising list ls is one of its sets
--   first-precedes  the set that a search finds precedes every rising list of its size that passes
use mathlib.Core.Path.{◌≡◌, refl, sym, ap, ap₂, ◌∙◌, subst}
use mathlib.Core.Bool.{Bool, true, false, ◌&&◌, ◌||◌, or-true}
use mathlib.Core.Logic.{◌⊎◌, inl, inr, ⊎_elim}
use mathlib.Core.List.{List, [], ◌∷◌, ◌++◌, map, Memᴰ}
use Prim.Native.Nat.{ℕ, zero, suc, ◌<◌}
use native.Mathlib.Omega.{arith}
use lib.Count.{ones}
use lib.Dec.{eqb, ltb}
use lib.ListN.{length}
use borrow.Author.Tests.{eqb-true, eqb-false, eq-eqb, lt-ltb, ltb-true}
use Rattle.integer.specs.ListTests.{subsequence}
use Rattle.integer.proofs.Bools.{clash, both, either}
use Rattle.integer.proofs.Subsequences.{keep-sub, sub-mem}
use Rattle.search.specs.Sets.{sets_of}
use Rattle.search.proofs.Sets.{Earliest}
use Rattle.search.proofs.SetsBySize.{sets-length, sets-sub}
use Rattle.cover.specs.Order.{below, order, labels_below, earlier, rising, precedes}
use Rattle.cover.proofs.LabelOrder.{order-rising}

-- The order of two labels.

abbrev Earlier : ℕ → ℕ → Type 0
Earlier a b = (ones a < ones b) ⊎ ((ones a ≡ ones b) × (a < b))

earlier-says : (a b : ℕ) → earlier a b ≡ true → Earlier a b
unfolding earlier
earlier-says a b e =
    ⊎_elim (λ h. inl (ltb-true (ones a) (ones b) h))
    (λ h. let r = both (eqb (ones a) (ones b)) (ltb a b) h in inr (eqb-true (ones a) (ones b) r.0, ltb-true a b r.1))
    (either (ltb (ones a) (ones b)) (eqb (ones a) (ones b) && ltb a b) e)

says-earlier : (a b : ℕ) → Earlier a b → earlier a b ≡ true
unfolding earlier
says-earlier a b h =
    ⊎_elim (λ l. ap (λ (t : Bool). t || eqb (ones a) (ones b) && ltb a b) (lt-ltb (ones a) (ones b) l))
    (λ r. ap₂ (λ (s t : Bool). ltb (ones a) (ones b) || s && t) (eq-eqb (ones a) (ones b) r.0) (lt-ltb a b r.1) ∙ or-true (ltb (ones a) (ones b)))
    h

pub earlier-trans : (a b c : ℕ) → earlier a b ≡ true → earlier b c ≡ true → earlier a c ≡ true
earlier-trans a b c u v =
    says-earlier a c
    (⊎_elim (λ h. ⊎_elim (λ k. inl (omega arith)) (λ k. inl (let e = k.0 in omega arith)) (earlier-says b c v))
    (λ h. ⊎_elim (λ k. inl (let e = h.0 in omega arith)) (λ k. inr (h.0 ∙ k.0, let x = h.1 in let y = k.1 in omega arith)) (earlier-says b c v))
    (earlier-says a b u))

pub earlier-self : (a : ℕ) → earlier a a ≡ true → ⊥
earlier-self a e = ⊎_elim (λ h. omega arith) (λ h. let l = h.1 in omega arith) (earlier-says a a e)

-- Rising lists.

rising-cons : (x : ℕ) (xs : List ℕ) → ((y : ℕ) → Memᴰ y xs → earlier x y ≡ true) → rising xs ≡ true → rising (x ∷ xs) ≡ true
unfolding rising
rising-cons x [] h e = refl
rising-cons x (y ∷ xs) h e = ap₂ ◌&&◌ (h y (mathlib.Core.List.Memᴰ.head refl)) e

rising-parts : (x : ℕ) (xs : List ℕ) → rising (x ∷ xs) ≡ true → ((y : ℕ) → Memᴰ y xs → earlier x y ≡ true) × (rising xs ≡ true)
unfolding rising
rising-parts x [] e = (λ y m. absurd (mathlib.Core.List.Memᴰ.not-nil m), refl)
rising-parts x (z ∷ xs) e =
    let r = both (earlier x z) (rising (z ∷ xs)) e in
    let s = rising-parts z xs r.1 in
    (λ y m. ⊎_elim (λ k. ap (earlier x) k ∙ r.0) (λ n. earlier-trans x z y r.0 (s.0 y n)) (mathlib.Core.List.Memᴰ.cases_cons m), r.1)

pub sub-rising : (xs ls : List ℕ) → subsequence xs ls ≡ true → rising ls ≡ true → rising xs ≡ true
unfolding subsequence rising
sub-rising [] ls e r = refl
sub-rising (x ∷ xs) [] e r = clash (sym e)
sub-rising (x ∷ xs) (l ∷ ls) e r =
    let s = rising-parts l ls r in
    ⊎_elim
    (λ h. let k = both (eqb l x) (subsequence xs ls) h in
    let same = eqb-true l x k.0 in
    rising-cons x xs (λ y m. subst (λ (z : ℕ). earlier z y ≡ true) same (s.0 y (sub-mem xs ls k.1 y m))) (sub-rising xs ls k.1 s.1))
    (λ h. sub-rising (x ∷ xs) ls h s.1)
    (either (eqb l x && subsequence xs ls) (subsequence (x ∷ xs) ls) e)

pub labels-rising : (n : ℕ) → rising (labels_below n) ≡ true
unfolding labels_below
labels-rising n = sub-rising (labels_below n) order (keep-sub (below n) order) order-rising

pub rising-set : (ls ys : List ℕ) → rising ls ≡ true → rising ys ≡ true → ((y : ℕ) → Memᴰ y ys → Memᴰ y ls) → Memᴰ ys (sets_of (length ys) ls)
unfolding sets_of
rising-set ls [] r s sub = mathlib.Core.List.Memᴰ.head refl
rising-set [] (y ∷ ys) r s sub = absurd (mathlib.Core.List.Memᴰ.not-nil (sub y (mathlib.Core.List.Memᴰ.head refl)))
rising-set (l ∷ ls) (y ∷ ys) r s sub =
    let p = rising-parts l ls r in
    let q = rising-parts y ys s in
    go p q (eqb y l) refl (λ h. rising-set ls ys p.1 q.1 h) (λ h. rising-set ls (y ∷ ys) p.1 s h)
  where
    -- an entry of ys is not l where y is l or stands after it
    rest : ((z : ℕ) → Memᴰ z ys → earlier y z ≡ true) → (earlier y l ≡ true → ⊥) → (z : ℕ) → Memᴰ z ys → Memᴰ z ls
    rest q not_earlier z m = ⊎_elim (λ e. absurd (not_earlier (subst (λ (x : ℕ). earlier y x ≡ true) e (q z m)))) (λ k. k) (mathlib.Core.List.Memᴰ.cases_cons (sub z (mathlib.Core.List.Memᴰ.tail m)))

    go : ((z : ℕ) → Memᴰ z ls → earlier l z ≡ true) × (rising ls ≡ true) → ((z : ℕ) → Memᴰ z ys → earlier y z ≡ true) × (rising ys ≡ true)
        → (t : Bool) → eqb y l ≡ t
        → (((z : ℕ) → Memᴰ z ys → Memᴰ z ls) → Memᴰ ys (sets_of (length ys) ls))
        → (((z : ℕ) → Memᴰ z (y ∷ ys) → Memᴰ z ls) → Memᴰ (y ∷ ys) (sets_of (suc (length ys)) ls))
        → Memᴰ (y ∷ ys) (map (λ xs. l ∷ xs) (sets_of (length ys) ls) ++ sets_of (suc (length ys)) ls)
    go p q true e here later =
        let same = eqb-true y l e in
        let m = here (rest q.0 (λ k. earlier-self l (subst (λ (x : ℕ). earlier x l ≡ true) same k))) in
        mathlib.Core.List.Memᴰ.append_left (sets_of (suc (length ys)) ls)
        (subst (λ (x : ℕ). Memᴰ (x ∷ ys) (map (λ xs. l ∷ xs) (sets_of (length ys) ls))) (sym same) (mathlib.Core.List.Memᴰ.map (λ (xs : List ℕ). l ∷ xs) m))
    go p q false e here later =
        let first : Memᴰ y ls = ⊎_elim (λ k. absurd (eqb-false y l e k)) (λ k. k) (mathlib.Core.List.Memᴰ.cases_cons (sub y (mathlib.Core.List.Memᴰ.head refl))) in
        let not_earlier : earlier y l ≡ true → ⊥ = λ k. earlier-self l (earlier-trans l y l (p.0 y first) k) in
        mathlib.Core.List.Memᴰ.append_right (map (λ xs. l ∷ xs) (sets_of (length ys) ls))
        (later (λ z m. ⊎_elim (λ k. subst (λ (x : ℕ). Memᴰ x ls) (sym k) first) (λ k. rest q.0 not_earlier z k) (mathlib.Core.List.Memᴰ.cases_cons m)))

-- Of two sets of a rising list, the one that comes first precedes the other.

precedes-cons : (l : ℕ) (xs ys : List ℕ) → precedes xs ys ≡ true → precedes (l ∷ xs) (l ∷ ys) ≡ true
unfolding precedes
precedes-cons l xs ys e = ap₂ (λ (s t : Bool). earlier l l || s && t) (eq-eqb l l refl) e ∙ or-true (earlier l l)

precedes-self : (xs : List ℕ) → precedes xs xs ≡ true
unfolding precedes
precedes-self [] = refl
precedes-self (x ∷ xs) = precedes-cons x xs xs (precedes-self xs)

-- each list precedes all that come after it
Leads : List (List ℕ) → Type 0
Leads [] = Unit
Leads (x ∷ a) = ((y : List ℕ) → Memᴰ y a → precedes x y ≡ true) × Leads a

leads-map : (l : ℕ) (a : List (List ℕ)) → Leads a → Leads (map (λ xs. l ∷ xs) a)
unfolding Leads
leads-map l [] h = tt
leads-map l (x ∷ a) h = (
  λ y m. let r = mathlib.Core.List.Memᴰ.of_map (λ (xs : List ℕ). l ∷ xs) a m in subst (λ (z : List ℕ). precedes (l ∷ x) z ≡ true) r.2 (precedes-cons l x r.0 (h.0 r.0 r.1)),
  leads-map l a h.1,
)

leads-append : (a b : List (List ℕ)) → Leads a → Leads b → ((x y : List ℕ) → Memᴰ x a → Memᴰ y b → precedes x y ≡ true) → Leads (a ++ b)
unfolding Leads
leads-append [] b h k c = k
leads-append (x ∷ a) b h k c =
    (λ y m. ⊎_elim (h.0 y) (c x y (mathlib.Core.List.Memᴰ.head refl)) (mathlib.Core.List.Memᴰ.append_cases a m), leads-append a b h.1 k (λ u v m n. c u v (mathlib.Core.List.Memᴰ.tail m) n))

leads-from : (a b : List (List ℕ)) (x : List ℕ) → Leads (a ++ (x ∷ b)) → (y : List ℕ) → Memᴰ y b → precedes x y ≡ true
unfolding Leads
leads-from [] b x h = h.0
leads-from (z ∷ a) b x h = leads-from a b x h.1

sets-lead : (k : ℕ) (ls : List ℕ) → rising ls ≡ true → Leads (sets_of k ls)
unfolding Leads sets_of precedes
sets-lead zero ls r = (λ y m. refl, tt)
sets-lead (suc k) [] r = tt
sets-lead (suc k) (l ∷ ls) r =
    let s = rising-parts l ls r in
    leads-append (map (λ xs. l ∷ xs) (sets_of k ls)) (sets_of (suc k) ls) (leads-map l (sets_of k ls) (sets-lead k ls s.1)) (sets-lead (suc k) ls s.1)
    (λ x y m n. let w = mathlib.Core.List.Memᴰ.of_map (λ (xs : List ℕ). l ∷ xs) (sets_of k ls) m in
    subst (λ (z : List ℕ). precedes z y ≡ true) w.2 (ahead w.0 y s.0 (sets-length (suc k) ls y n) (sets-sub (suc k) ls y n)))
  where
    ahead : (x y : List ℕ) → ((z : ℕ) → Memᴰ z ls → earlier l z ≡ true) → length y ≡ suc k → ((z : ℕ) → Memᴰ z y → Memᴰ z ls) → precedes (l ∷ x) y ≡ true
    ahead x [] h e sub = absurd (omega arith)
    ahead x (z ∷ y) h e sub = ap (λ (t : Bool). t || eqb l z && precedes x y) (h z (sub z (mathlib.Core.List.Memᴰ.head refl)))

pub first-precedes : (p : List ℕ → Bool) (ls xs ys : List ℕ) → rising ls ≡ true → Earliest p (sets_of (length xs) ls) xs
    → length ys ≡ length xs → rising ys ≡ true → ((y : ℕ) → Memᴰ y ys → Memᴰ y ls) → p ys ≡ true → precedes xs ys ≡ true
first-precedes p ls xs ys r first size s sub passes =
    let a = sets_of (length xs) ls in
    let m : Memᴰ ys a = subst (λ (k : ℕ). Memᴰ ys (sets_of k ls)) size (rising-set ls ys r s sub) in
    ⊎_elim (λ h. clash (sym passes ∙ first.fails ys h))
    (λ h. ⊎_elim (λ e. subst (λ (z : List ℕ). precedes xs z ≡ true) (sym e) (precedes-self xs))
    (leads-from first.before first.after xs (subst Leads first.stands (sets-lead (length xs) ls r)) ys)
    (mathlib.Core.List.Memᴰ.cases_cons h))
    (mathlib.Core.List.Memᴰ.append_cases first.before (subst (Memᴰ ys) first.stands m))
