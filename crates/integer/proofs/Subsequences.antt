-- Subsequences of a list of numbers:
--   sub-later, sub-here    of a list with one entry more, without that entry and with it
--   keep-sub               what a test keeps is a subsequence
--   sub-mem                its entries are entries of the list
--   sub-distinct           where the list has no repeats it has none
use mathlib.Core.Path.{◌≡◌, refl, sym, ap, ap₂, ◌∙◌, subst}
use mathlib.Core.Bool.{Bool, true, false, not, cond, ◌&&◌, ◌||◌, or-true}
use mathlib.Core.Logic.{⊎_elim}
use mathlib.Core.List.Memᴰ
use mathlib.Core.List.{List, [], ◌∷◌, Memᴰ}
use Prim.Native.Nat.{ℕ}
use lib.Dec.{eqb}
use borrow.Author.Tests.{eqb-true, eq-eqb, not-true}
use Rattle.integer.specs.ListTests.{keep, has, distinct, subsequence}
use Rattle.integer.proofs.Bools.{clash, both, either}
use Rattle.integer.proofs.Entries.{has-mem, mem-has}

pub sub-later : (l : ℕ) (xs ls : List ℕ) → subsequence xs ls ≡ true → subsequence xs (l ∷ ls) ≡ true
unfolding subsequence
sub-later l [] ls e = refl
sub-later l (x ∷ xs) ls e = ap (λ (b : Bool). eqb l x && subsequence xs ls || b) e ∙ or-true (eqb l x && subsequence xs ls)

pub sub-here : (l : ℕ) (xs ls : List ℕ) → subsequence xs ls ≡ true → subsequence (l ∷ xs) (l ∷ ls) ≡ true
unfolding subsequence
sub-here l xs ls e = ap₂ (λ (a b : Bool). a && b || subsequence (l ∷ xs) ls) (eq-eqb l l refl) e

-- what a test keeps
pub keep-sub : (p : ℕ → Bool) (ls : List ℕ) → subsequence (keep p ls) ls ≡ true
unfolding keep subsequence
keep-sub p [] = refl
keep-sub p (l ∷ ls) = go (p l) (keep-sub p ls)
  where
    go : (t : Bool) → subsequence (keep p ls) ls ≡ true → subsequence (cond t (l ∷ keep p ls) (keep p ls)) (l ∷ ls) ≡ true
    go true e = sub-here l (keep p ls) ls e
    go false e = sub-later l (keep p ls) ls e

-- an entry of a subsequence is an entry of the list
pub sub-mem : (xs ls : List ℕ) → subsequence xs ls ≡ true → (y : ℕ) → Memᴰ y xs → Memᴰ y ls
unfolding subsequence
sub-mem [] ls e y m = absurd (Memᴰ.not-nil m)
sub-mem (x ∷ xs) [] e y m = clash (sym e)
sub-mem (x ∷ xs) (l ∷ ls) e y m =
    ⊎_elim
    (λ h. let k = both (eqb l x) (subsequence xs ls) h in
    ⊎_elim (λ w. Memᴰ.head (w ∙ sym (eqb-true l x k.0))) (λ n. Memᴰ.tail (sub-mem xs ls k.1 y n)) (Memᴰ.cases_cons m))
    (λ h. Memᴰ.tail (sub-mem (x ∷ xs) ls h y m))
    (either (eqb l x && subsequence xs ls) (subsequence (x ∷ xs) ls) e)

pub sub-distinct : (xs ls : List ℕ) → subsequence xs ls ≡ true → distinct ls ≡ true → distinct xs ≡ true
unfolding subsequence distinct
sub-distinct [] ls e d = refl
sub-distinct (x ∷ xs) [] e d = clash (sym e)
sub-distinct (x ∷ xs) (l ∷ ls) e d =
    let r = both (not (has l ls)) (distinct ls) d in
    ⊎_elim
    (λ h. let k = both (eqb l x) (subsequence xs ls) h in
    ap₂ ◌&&◌ (apart (has x xs) refl (eqb-true l x k.0) k.1 (not-true (has l ls) r.0)) (sub-distinct xs ls k.1 r.1))
    (λ h. sub-distinct (x ∷ xs) ls h r.1)
    (either (eqb l x && subsequence xs ls) (subsequence (x ∷ xs) ls) e)
  where
    apart : (t : Bool) → has x xs ≡ t → l ≡ x → subsequence xs ls ≡ true → has l ls ≡ false → not t ≡ true
    apart true h u v n = clash (sym (mem-has l ls (subst (λ (z : ℕ). Memᴰ z ls) (sym u) (sub-mem xs ls v x (has-mem x xs h)))) ∙ n)
    apart false h u v n = refl
