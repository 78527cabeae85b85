-- What private functions and the leaf `find` answer, by masks: fault f is bit f.
use Rattle.std.specs.Prelude.{Bool, Option as Found, None, Some, List, [], ◌∷◌, map, ◌≡◌, ℕ, ◌-◌, ◌<◌, ◌≤◌, eqb, length, get_or, drop}
use Rattle.std.proofs.Math.Option.{Option, none, some}
use Rattle.integer.specs.Counting.{count}
use Rattle.integer.specs.Mask.{without, union_of}
use Rattle.search.specs.Sets.{sets_of, first_of, four_of}

-- nothing is missing when the masks at the places are taken away
unfoldable pub clears : List ℕ → ℕ → List ℕ → Bool
clears masks m [] = eqb m 0
clears masks m (i ∷ is) = clears masks (without m (get_or masks i 0)) is

-- the first set of k places from `start` on that leaves nothing missing
unfoldable pub sought : List ℕ → ℕ → ℕ → ℕ → Option (List ℕ)
sought masks start k m = first_of (clears masks m) (sets_of k (count start (length masks - start)))

-- the unions of the masks from each place on
pub record Unions (masks rest : List ℕ) : Type 0 where
  pub long : length masks < length rest
  pub each : (i : ℕ) → i ≤ length masks → get_or rest i 0 ≡ union_of (drop i masks)

-- the labels at the places
abbrev pub labels_at : List ℕ → List ℕ → List ℕ
labels_at labels places = map (λ i. get_or labels i 0) places

-- the labels at the places, with 0 past the last
abbrev pub choice_of : List ℕ → Option (List ℕ) → Found (List ℕ)
choice_of labels none = None
choice_of labels (some places) = Some (four_of (labels_at labels places))

-- as the code has it
abbrev pub set_of : Option (List ℕ) → Found (List ℕ)
set_of none = None
set_of (some xs) = Some xs

abbrev pub chosen_at : List ℕ → Option (List ℕ) → Option (List ℕ)
chosen_at labels none = none
chosen_at labels (some places) = some (labels_at labels places)

abbrev pub set_at : List ℕ → Option (List ℕ) → Found (List ℕ)
set_at labels o = set_of (chosen_at labels o)
