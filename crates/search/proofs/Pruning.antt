-- The union of the masks from a place on:
--   pruned                                 where it lacks some of what is missing, nothing is found from there on
--   UnionsFrom, unions-last, unions-more   the list of unions, as a loop writes it from its end
use mathlib.Core.Path.{◌≡◌, refl, sym, ap, ◌∙◌}
use mathlib.Core.Bool.{Bool, true, false, not, ◌&&◌}
use mathlib.Core.List.{List, [], ◌∷◌, Memᴰ}
use mathlib.Core.Option.{Option, none, some}
use Prim.Native.Nat.{ℕ, suc, ◌+◌, ◌-◌, ◌<◌, ◌≤◌}
use native.Mathlib.Nat.{lt_of_not-le}
use native.Mathlib.Omega.{arith}
use native.Mathlib.Decide.{dec_le}
use lib.Bits.{bit_or}
use lib.Dec.{eqb}
use lib.ListN.{length, get_or, drop, set}
use lib.Seq.{drop-cons, drop-length, get_or-drop, get_or-set_same, get_or-set_other}
use borrow.Author.Tests.{eqb-true, eqb-false, not-true}
use Rattle.integer.specs.Counting.{count}
use Rattle.integer.specs.Mask.{bit, without, union_of}
use Rattle.integer.proofs.Bools.{clash}
use Rattle.integer.proofs.Masks.{bit-without, bit-zero, in-union, no_bits}
use Rattle.integer.proofs.NumbersBelow.{count_low}
use Rattle.search.specs.Sets.{sets_of}
use Rattle.search.specs.Steps.{clears, sought, Unions}
use Rattle.search.proofs.SetsBySize.{first_found, sets-sub}

-- the bits of a mask that places clear are bits of each mask that has theirs
cleared-bit : (masks : List ℕ) (u f m : ℕ) (is : List ℕ) → ((i : ℕ) → Memᴰ i is → bit (get_or masks i 0) f ≡ true → bit u f ≡ true)
    → clears masks m is ≡ true → bit m f ≡ true → bit u f ≡ true
unfolding clears
cleared-bit masks u f m [] h e b = clash (sym b ∙ ap (λ (x : ℕ). bit x f) (eqb-true m 0 e) ∙ bit-zero f)
cleared-bit masks u f m (i ∷ is) h e b = go (cleared-bit masks u f (without m (get_or masks i 0)) is (λ j n. h j (Memᴰ.tail n)) e) (bit (get_or masks i 0) f) refl
  where
    go : (bit (without m (get_or masks i 0)) f ≡ true → bit u f ≡ true) → (t : Bool) → bit (get_or masks i 0) f ≡ t → bit u f ≡ true
    go ih true t = h i (Memᴰ.head refl) t
    go ih false t = ih (bit-without m (get_or masks i 0) f ∙ rw (b, t))

unreached : (masks : List ℕ) (i k m : ℕ) → (without m (union_of (drop i masks)) ≡ 0 → ⊥) → sought masks i k m ≡ none
unfolding sought
unreached masks i k m lacks = go (sought masks i k m) refl
  where
    u : ℕ
    u = union_of (drop i masks)

    go : (o : Option (List ℕ)) → sought masks i k m ≡ o → o ≡ none
    go none e = refl
    go (some is) e = absurd (lacks (no_bits (without m u) (λ f. bit-without m u f ∙ within f (bit m f) refl)))
      where
        r : Memᴰ is (sets_of k (count i (length masks - i))) × (clears masks m is ≡ true)
        r = first_found (clears masks m) (sets_of k (count i (length masks - i))) is e

        place : (f j : ℕ) → Memᴰ j is → bit (get_or masks j 0) f ≡ true → bit u f ≡ true
        place f j n b =
            let low : i ≤ j = count_low i (length masks - i) j (sets-sub k (count i (length masks - i)) is r.0 j n) in
            let back : i + (j - i) ≡ j = omega arith in
            in-union (drop i masks) (j - i) f (ap (λ (x : ℕ). bit x f) (get_or-drop i masks (j - i) 0 ∙ ap (λ (x : ℕ). get_or masks x 0) back) ∙ b)

        within : (f : ℕ) (b : Bool) → bit m f ≡ b → (bit m f && not (bit u f)) ≡ false
        within f false e = rw e
        within f true e = rw (e, cleared-bit masks u f m is (place f) r.1 e)

pub pruned : (masks rest : List ℕ) (i k m : ℕ) (t : Bool) → Unions masks rest → i ≤ length masks → t ≡ not (eqb (without m (get_or rest i 0)) 0) → t ≡ true
    → sought masks i k m ≡ none
pruned masks rest i k m t u h e z =
    unreached masks i k m (λ n. eqb-false (without m (get_or rest i 0)) 0 (not-true (eqb (without m (get_or rest i 0)) 0) (sym e ∙ z)) (ap (without m) (u.each i h) ∙ n))

-- ---- the list of unions

abbrev pub UnionsFrom : List ℕ → List ℕ → ℕ → Type 0
UnionsFrom masks rest i = (j : ℕ) → i ≤ j → j ≤ length masks → get_or rest j 0 ≡ union_of (drop j masks)

module _ (masks rest : List ℕ) (long : length masks < length rest) where
  pub unions-last : UnionsFrom masks (set rest (length masks) 0) (length masks)
  unfolding union_of
  unions-last j low high =
      let e : j ≡ length masks = omega arith in
      rw (e, get_or-set_same rest (length masks) 0 0 long, drop-length masks)

  pub unions-more : (i : ℕ) → 0 < i → i ≤ length masks → UnionsFrom masks rest i
      → UnionsFrom masks (set rest (i - 1) (bit_or (get_or masks (i - 1) 0) (get_or rest i 0))) (i - 1)
  unfolding union_of
  unions-more i above inside later j low high = go (dec_le j (i - 1))
    where
      u : ℕ
      u = bit_or (get_or masks (i - 1) 0) (get_or rest i 0)

      go : Dec (j ≤ i - 1) → get_or (set rest (i - 1) u) j 0 ≡ union_of (drop j masks)
      go (yes h) =
          let e : j ≡ i - 1 = omega arith in
          let next : i ≡ suc (i - 1) = omega arith in
          rw (e, get_or-set_same rest (i - 1) u 0 (omega arith), drop-cons masks (i - 1) 0 (omega arith))
          (ap (bit_or (get_or masks (i - 1) 0)) (later i (omega arith) inside ∙ ap (λ (k : ℕ). union_of (drop k masks)) next))
      go (no h) = get_or-set_other rest (i - 1) j u 0 (λ e. h (omega arith)) ∙ later j (let k = lt_of_not-le h in omega arith) high
