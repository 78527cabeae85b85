-- Sets of labels in their order, and the first that passes a test (document 01, "Plan"):
--   "It tries sets of one label, then two, up to the cap, and returns the first set that covers every fault, each listed in the order, comparing
--   sets of a size by their first differing label in the order."
use Rattle.std.specs.Prelude.{Bool, cond, List, [], ◌∷◌, ◌++◌, map, ℕ, zero, suc, get_or}
use Rattle.std.proofs.Math.Option.{Option, none, some}

-- the sets of k entries, each in the list's order; of two sets the one that differs first by an earlier entry comes first
unfoldable pub sets_of : ℕ → List ℕ → List (List ℕ)
sets_of zero ls = [] ∷ []
sets_of (suc k) [] = []
sets_of (suc k) (l ∷ ls) = map (λ xs. l ∷ xs) (sets_of k ls) ++ sets_of (suc k) ls

unfoldable pub first_of : (List ℕ → Bool) → List (List ℕ) → Option (List ℕ)
first_of p [] = none
first_of p (x ∷ xs) = cond (p x) (some x) (first_of p xs)

abbrev pub or_else : Option (List ℕ) → Option (List ℕ) → Option (List ℕ)
or_else none next = next
or_else (some x) next = some x

-- sets of k entries, then of k + 1, ..: n sizes
unfoldable pub plan_from : (List ℕ → Bool) → List ℕ → ℕ → ℕ → Option (List ℕ)
plan_from p ls k zero = none
plan_from p ls k (suc n) = or_else (first_of p (sets_of k ls)) (plan_from p ls (suc k) n)

-- sets of one entry, then two, up to the cap
unfoldable pub plan_of : (List ℕ → Bool) → List ℕ → ℕ → Option (List ℕ)
plan_of p ls cap = plan_from p ls 1 cap

-- "label places past it hold 0"
abbrev pub four_of : List ℕ → List ℕ
four_of xs = get_or xs 0 0 ∷ get_or xs 1 0 ∷ get_or xs 2 0 ∷ get_or xs 3 0 ∷ []
