-- The search for k places from place i on, as the loops take it:
--   sought-end                  past the last place nothing is found
--   lacked, passed, had         a mask that lacks some of what is missing is passed, and so are many; one that has all is the answer
--   chunk-lacks                 masks that lack some, four at a time
--   took, left_out              more places: place i where those after it have a set for what it leaves missing, and not where they have none
--   size-took, size-left-out    the plan at a size that has a set, and at one that has none
use mathlib.Core.Path.{◌≡◌, refl, sym, ap, ap₂, ◌∙◌}
use mathlib.Core.Bool.{Bool, true, false, not, cond}
use mathlib.Core.List.{List, [], ◌∷◌, ◌++◌, map}
use mathlib.Core.Option.{Option, none, some}
use Prim.Native.Nat.{ℕ, zero, suc, ◌+◌, ◌-◌, ◌<◌, ◌≤◌}
use native.Mathlib.Numerals.{add-one, sub-one}
use native.Mathlib.Nat.{lt_of_not-le}
use native.Mathlib.Decide.{dec_le}
use native.Mathlib.Omega.{arith}
use lib.Dec.{eqb}
use lib.ListN.{length, length-map, get_or, get_or-append, take, drop}
use lib.Seq.{get_or-drop, drop-drop, drop-append_seam}
use Rattle.std.proofs.lemmas.Grind.{common_steps}
use borrow.Author.Tests.{not-true, not-false, ne_eqb}
use Rattle.integer.specs.Counting.{count, up_to}
use Rattle.integer.specs.Mask.{without}
use Rattle.search.specs.Sets.{sets_of, first_of, or_else, plan_from}
use Rattle.std.specs.Prelude.{Option as Found, None, Some}
use Rattle.search.specs.Sets.{four_of}
use Rattle.search.specs.Steps.{clears, sought, labels_at, choice_of, set_at}
use Rattle.search.proofs.SetsBySize.{first_found, sets-length, plan-step, kept-four}

abbrev push : ℕ → Option (List ℕ) → Option (List ℕ)
push i none = none
push i (some is) = some (i ∷ is)

-- ---- the first set

first-append : (p : List ℕ → Bool) (a b : List (List ℕ)) → first_of p (a ++ b) ≡ or_else (first_of p a) (first_of p b)
unfolding first_of
first-append p [] b = refl
first-append p (x ∷ a) b = go (p x) (first-append p a b)
  where
    go : (t : Bool) → first_of p (a ++ b) ≡ or_else (first_of p a) (first_of p b)
        → cond t (some x) (first_of p (a ++ b)) ≡ or_else (cond t (some x) (first_of p a)) (first_of p b)
    go true e = refl
    go false e = e

first-map : (p : List ℕ → Bool) (i : ℕ) (a : List (List ℕ)) → first_of p (map (λ xs. i ∷ xs) a) ≡ push i (first_of (λ xs. p (i ∷ xs)) a)
unfolding first_of
first-map p i [] = refl
first-map p i (x ∷ a) = go (p (i ∷ x)) (first-map p i a)
  where
    go : (t : Bool) → first_of p (map (λ xs. i ∷ xs) a) ≡ push i (first_of (λ xs. p (i ∷ xs)) a)
        → cond t (some (i ∷ x)) (first_of p (map (λ xs. i ∷ xs) a)) ≡ push i (cond t (some x) (first_of (λ xs. p (i ∷ xs)) a))
    go true e = refl
    go false e = e

-- ---- at a place

module _ (masks : List ℕ) (i : ℕ) where
  pub sought-end : (k m : ℕ) → 1 ≤ k → length masks ≤ i → sought masks i k m ≡ none
  unfolding sought sets_of first_of count
  sought-end zero m f h = absurd (omega arith)
  sought-end (suc k) m f h =
      let over : length masks - i ≡ 0 = omega arith in
      ap (λ (n : ℕ). first_of (clears masks m) (sets_of (suc k) (count i n))) over

  module _ (inside : i < length masks) where
    sought-here : (k m : ℕ) → 1 ≤ k
        → sought masks i k m ≡ or_else (push i (sought masks (i + 1) (k - 1) (without m (get_or masks i 0)))) (sought masks (i + 1) k m)
    unfolding sought sets_of count clears
    sought-here zero m f = absurd (omega arith)
    sought-here (suc k) m f =
        let more : length masks - i ≡ suc (length masks - (i + 1)) = omega arith in
        let later = count (i + 1) (length masks - (i + 1)) in
        ap (λ (n : ℕ). first_of (clears masks m) (sets_of (suc k) (count i n))) more
        ∙ ap (λ (j : ℕ). first_of (clears masks m) (sets_of (suc k) (i ∷ count j (length masks - (i + 1))))) (sym (add-one i))
        ∙ first-append (clears masks m) (map (λ xs. i ∷ xs) (sets_of k later)) (sets_of (suc k) later)
        ∙ ap (λ (o : Option (List ℕ)). or_else o (sought masks (i + 1) (suc k) m)) (first-map (clears masks m) i (sets_of k later))
        ∙ ap (λ (j : ℕ). or_else (push i (sought masks (i + 1) j (without m (get_or masks i 0)))) (sought masks (i + 1) (suc k) m)) (sym (sub-one (suc k)))

    -- one place
    by_mask : (m : ℕ) (t : Bool) → not (eqb (without m (get_or masks i 0)) 0) ≡ t → sought masks i 1 m ≡ cond t (sought masks (i + 1) 1 m) (some (i ∷ []))
    unfolding sought sets_of first_of clears
    by_mask m true e = sought-here 1 m (omega arith) ∙ rw (not-true (eqb (without m (get_or masks i 0)) 0) e)
    by_mask m false e = sought-here 1 m (omega arith) ∙ rw (not-false (eqb (without m (get_or masks i 0)) 0) e)

    pub lacked : (m : ℕ) (t : Bool) → t ≡ not (eqb (without m (get_or masks i 0)) 0) → t ≡ true → sought masks i 1 m ≡ sought masks (i + 1) 1 m
    lacked m t e z = by_mask m true (sym e ∙ z)

    -- the labels of the places
    module _ (labels : List ℕ) where
      pub had : (m : ℕ) (t : Bool) → t ≡ not (eqb (without m (get_or masks i 0)) 0) → t ≡ false
          → Some (get_or labels i 0 ∷ 0 ∷ 0 ∷ 0 ∷ []) ≡ choice_of labels (sought masks i 1 m)
      had m t e z = sym (ap (choice_of labels) (by_mask m false (sym e ∙ z)))

      module _ (k m : ℕ) (some_left : 1 ≤ k) (r : Found (List ℕ)) (later : r ≡ choice_of labels (sought masks (i + 1) (k - 1) (without m (get_or masks i 0)))) where
        pub took : (next : List ℕ) → r ≡ Some next
            → Some (get_or labels i 0 ∷ get_or next 0 0 ∷ get_or next 1 0 ∷ get_or next 2 0 ∷ []) ≡ choice_of labels (sought masks i k m)
        took next e = go (sought masks (i + 1) (k - 1) (without m (get_or masks i 0))) (sym e ∙ later) ∙ sym (ap (choice_of labels) (sought-here k m some_left))
          where
            go : (o : Option (List ℕ)) → Some next ≡ choice_of labels o
                → Some (get_or labels i 0 ∷ get_or next 0 0 ∷ get_or next 1 0 ∷ get_or next 2 0 ∷ []) ≡ choice_of labels (or_else (push i o) (sought masks (i + 1) k m))
            go none h = cc
            go (some is) h =
                let same : next ≡ four_of (labels_at labels is) = cc in
                ap (λ (l : List ℕ). Some (get_or labels i 0 ∷ get_or l 0 0 ∷ get_or l 1 0 ∷ get_or l 2 0 ∷ [])) same

        pub left_out : r ≡ None → sought masks i k m ≡ sought masks (i + 1) k m
        left_out e = sought-here k m some_left ∙ go (sought masks (i + 1) (k - 1) (without m (get_or masks i 0))) (sym e ∙ later)
          where
            go : (o : Option (List ℕ)) → None ≡ choice_of labels o → or_else (push i o) (sought masks (i + 1) k m) ≡ sought masks (i + 1) k m
            go none h = refl
            go (some is) h = cc

-- places of which none has all that is missing
pub passed : (masks : List ℕ) (m start n : ℕ) → start + n ≤ length masks → ((k : ℕ) → k < n → without m (get_or (drop start masks) k 0) ≡ 0 → ⊥)
    → sought masks start 1 m ≡ sought masks (start + n) 1 m
passed masks m start zero h lack = ap (λ (j : ℕ). sought masks j 1 m) (omega arith)
passed masks m start (suc n) h lack =
    passed masks m start n (omega arith) (λ k l. lack k (omega arith))
    ∙ lacked masks (start + n) (omega arith) m true (rw (ne_eqb (without m (get_or masks (start + n) 0)) 0 here)) refl
    ∙ ap (λ (j : ℕ). sought masks j 1 m) (omega arith)
  where
    here : without m (get_or masks (start + n) 0) ≡ 0 → ⊥
    here z = lack n (omega arith) (ap (without m) (get_or-drop start masks n 0) ∙ z)

-- the next four masks as a chunk of what is left
pub chunk-lacks : (masks : List ℕ) (count m : ℕ) (four rest : List ℕ) → drop count masks ≡ four ++ rest → length four ≡ 4
    → ((k : ℕ) → k < count → without m (get_or masks k 0) ≡ 0 → ⊥) → ((k : ℕ) → k < 4 → without m (get_or four k 0) ≡ 0 → ⊥)
    → (rest ≡ drop (count + 4) masks) × (count + 4 ≤ length masks) × ((k : ℕ) → k < count + 4 → without m (get_or masks k 0) ≡ 0 → ⊥)
chunk-lacks masks count m four rest e long before lack = (after, inside, λ k h. go k h (dec_le count k))
  where
    inside : count + 4 ≤ length masks
    inside = grind (arith, common_steps, ap length e)

    after : rest ≡ drop (count + 4) masks
    after = sym (ap (drop 4) e ∙ rw (sym long) (drop-append_seam four rest)) ∙ drop-drop 4 count masks

    go : (k : ℕ) → k < count + 4 → Dec (count ≤ k) → without m (get_or masks k 0) ≡ 0 → ⊥
    go k h (no b) z = before k (lt_of_not-le b) z
    go k h (yes a) z =
        let back : count + (k - count) ≡ k = omega arith in
        let same : get_or masks k 0 ≡ get_or four (k - count) 0 =
        ap (λ (n : ℕ). get_or masks n 0) (sym back) ∙ sym (get_or-drop count masks (k - count) 0)
        ∙ ap (λ (l : List ℕ). get_or l (k - count) 0) e ∙ get_or-append four rest 0 (k - count) (omega arith) in
        lack (k - count) (omega arith) (ap (without m) (sym same) ∙ z)

-- ---- at a size

module _ (masks labels : List ℕ) (m cap k : ℕ) (within : k ≤ cap) (r : Found (List ℕ)) (found : r ≡ choice_of labels (sought masks 0 k m)) where
  abbrev plans : ℕ → Option (List ℕ)
  plans j = plan_from (clears masks m) (up_to (length masks)) j (cap + 1 - j)

  abbrev sets : Option (List ℕ)
  sets = first_of (clears masks m) (sets_of k (up_to (length masks)))

  found-sets : r ≡ choice_of labels sets
  unfolding sought up_to
  found-sets = found ∙ ap (λ (n : ℕ). choice_of labels (first_of (clears masks m) (sets_of k (count 0 n)))) (omega arith)

  pub size-took : k ≤ 4 → (four : List ℕ) → r ≡ Some four → (four ≡ four_of (take k four)) × (Some (take k four) ≡ set_at labels (plans k))
  size-took few four e =
      let t = go sets (λ x h. sets-length k (up_to (length masks)) x (first_found (clears masks m) (sets_of k (up_to (length masks))) x h).0) (sym e ∙ found-sets) in
      (t.0, t.1 ∙ sym (ap (set_at labels) (plan-step (clears masks m) (up_to (length masks)) cap k within)))
    where
      go : (o : Option (List ℕ)) → ((x : List ℕ) → o ≡ some x → length x ≡ k) → Some four ≡ choice_of labels o
          → (four ≡ four_of (take k four)) × (Some (take k four) ≡ set_at labels (or_else o (plans (k + 1))))
      go none sized h = cc
      go (some x) sized h =
          let same : four ≡ four_of (labels_at labels x) = cc in
          let size : length (labels_at labels x) ≡ k = length-map x (λ i. get_or labels i 0) ∙ sized x refl in
          let front : take k four ≡ labels_at labels x = ap₂ take (sym size) same ∙ kept-four (labels_at labels x) (omega arith) in
          (same ∙ ap four_of (sym front), ap Some front)

  pub size-left-out : r ≡ None → plans k ≡ plans (k + 1)
  size-left-out e = plan-step (clears masks m) (up_to (length masks)) cap k within ∙ go sets (sym e ∙ found-sets)
    where
      go : (o : Option (List ℕ)) → None ≡ choice_of labels o → or_else o (plans (k + 1)) ≡ plans (k + 1)
      go none h = refl
      go (some x) h = cc
