-- Signatures, over the rows: sound, of 2 ^ k values with k at most 8, and faults, a list of faulted rows each.
--   found-is                what the search by masks finds is the signature
--   covers-each, each-covers    a set covers every fault where each fault has a label at which the two coefficients differ
--   covers_more, covers-none    more labels cover as much; no label covers nothing
--   unchanged-each, each-unchanged, some-changed    the rows are unchanged where every row's value is the sound one; else some row's is another
--   unchanged_pointwise    it is what `==` says of slices as long as each other
--   signature-found         the signature covers every fault, and has from 1 to cap labels
--   signature-least         no list of labels that covers every fault is shorter
--   signature-none          where there is none, no list of at most cap labels covers every fault
--   signature-ordered       its labels stand in the order, each once
--   signature-first         of the covering lists of its size whose labels stand in the order, it is the first
use mathlib.Core.Path.{◌≡◌, refl, sym, ap, ◌∙◌}
use mathlib.Core.Bool.{Bool, true, false, not}
use mathlib.Core.List.Memᴰ
use mathlib.Core.List.{List, [], ◌∷◌, Memᴰ}
use mathlib.Core.Option.{none, some}
use Prim.Native.Nat.{ℕ, zero, suc, ◌+◌, ◌-◌, ◌<◌, ◌≤◌, ◌^◌}
use native.Mathlib.Omega.{arith}
use lib.IntN.{ℤ, pos}
use lib.ListN.{length, get_or, drop, drop_of_length-le}
use lib.Seq.{drop-cons, ext_get_or}
use Rattle.std.specs.Cmp.Lexicographic.{pointwise, pointwise_decides}
use Rattle.std.specs.Ordering.{int_eq}
use Rattle.std.specs.Prelude.{Decides}
use Rattle.std.proofs.lemmas.Bool.Decides.{Decides-int_eq}
use borrow.Author.Tests.{not-true, not-false}
use Rattle.integer.specs.Tab.{nth}
use Rattle.integer.specs.Differ.{differ}
use Rattle.integer.specs.Counting.{count, up_to}
use Rattle.integer.specs.ListTests.{distinct, subsequence}
use Rattle.integer.specs.Mask.{bit}
use Rattle.integer.proofs.Masks.{bit_mask}
use Rattle.integer.proofs.NumbersBelow.{all_same, each_all, all-each, some-fails, count-high}
use Rattle.integer.proofs.Subsequences.{sub-distinct}
use Rattle.integer.proofs.Entries.{any_some, some-any, any-mapped}
use Rattle.integer.proofs.Differing.{differ-eq, differ-ne, eq-differ, ne-differ}
use Rattle.transform.specs.Spectrum.{coefficient_of}
use Rattle.search.specs.Sets.{plan_of, sets_of}
use Rattle.search.specs.Steps.{clears, labels_at, set_of, set_at}
use Rattle.search.proofs.Clearing.{clears-full}
use Rattle.search.proofs.Sets.{plan-found, first-earliest, least, none-less, in_order, plan-mapped}
use Rattle.search.proofs.SetsBySize.{sets-sub}
use Rattle.cover.specs.Cover.{fault_rows, covers, covers_fault, covers_all, same_at, unchanged, signature_of}
use Rattle.cover.specs.Order.{labels_below, rising, precedes}
use Rattle.cover.specs.Steps.{covers_at, mask_at, masks_of}
use Rattle.cover.proofs.LabelOrder.{labels-count, labels-all, labels-low, labels-distinct}
use Rattle.cover.proofs.Marking.{length-masks, masks-at}
use Rattle.cover.proofs.Rising.{sub-rising, labels-rising, first-precedes}

-- Faults that leave the rows unchanged.

module _ (sound faulted : List ℤ) where
  pub unchanged-each : unchanged sound faulted ≡ true → (x : ℕ) → x < length sound → nth sound x ≡ nth faulted x
  unfolding unchanged same_at
  unchanged-each e x h = differ-eq (nth sound x) (nth faulted x) (not-true (differ (nth sound x) (nth faulted x)) (all-each (same_at sound faulted) (length sound) e x h))

  pub each-unchanged : ((x : ℕ) → x < length sound → nth sound x ≡ nth faulted x) → unchanged sound faulted ≡ true
  unfolding unchanged same_at
  each-unchanged same = each_all (same_at sound faulted) (length sound) (λ x h. ap not (eq-differ (nth sound x) (nth faulted x) (same x h)))

  pub some-changed : unchanged sound faulted ≡ false → (x : ℕ) × (x < length sound) × (nth sound x ≡ nth faulted x → ⊥)
  unfolding unchanged same_at
  some-changed e =
      let r = some-fails (same_at sound faulted) (length sound) e in
      (r.0, r.1, differ-ne (nth sound r.0) (nth faulted r.0) (not-false (differ (nth sound r.0) (nth faulted r.0)) r.2))

  pub unchanged_pointwise : length faulted ≡ length sound → pointwise int_eq sound faulted ≡ unchanged sound faulted
  unchanged_pointwise even = go (pointwise int_eq sound faulted) (pointwise_decides Decides-int_eq sound faulted)
    where
      go : (t : Bool) → Decides t (sound ≡ faulted) → t ≡ unchanged sound faulted
      go true d = sym (each-unchanged (λ x h. ap (λ (l : List ℤ). nth l x) (d.0 refl)))
      go false d = none (unchanged sound faulted) unchanged-each
        where
          none : (u : Bool) → (u ≡ true → (x : ℕ) → x < length sound → nth sound x ≡ nth faulted x) → false ≡ u
          none true each = d.1 (ext_get_or (pos 0) sound faulted (sym even) (each refl))
          none false each = refl

module _ (sound : List ℤ) (faults : List (List ℤ)) where
  -- Labels that cover every fault.

  pub covers-each : (xs : List ℕ) → covers_all sound faults xs ≡ true
      → (f : ℕ) → f < length faults → (l : ℕ) × Memᴰ l xs × (coefficient_of sound l ≡ coefficient_of (fault_rows faults f) l → ⊥)
  unfolding covers_all covers_fault covers
  covers-each xs e f h =
      let r = any_some (covers sound (fault_rows faults f)) xs (all-each (covers_fault sound faults xs) (length faults) e f h) in
      (r.0, r.1, differ-ne (coefficient_of sound r.0) (coefficient_of (fault_rows faults f) r.0) r.2)

  pub each-covers : (xs : List ℕ) → ((f : ℕ) → f < length faults → (l : ℕ) × Memᴰ l xs × (coefficient_of sound l ≡ coefficient_of (fault_rows faults f) l → ⊥))
      → covers_all sound faults xs ≡ true
  unfolding covers_all covers_fault covers
  each-covers xs each =
      each_all (covers_fault sound faults xs) (length faults)
      (λ f h. let r = each f h in
      some-any (covers sound (fault_rows faults f)) xs r.0 r.1 (ne-differ (coefficient_of sound r.0) (coefficient_of (fault_rows faults f) r.0) r.2))

  pub covers_more : (xs ys : List ℕ) → ((x : ℕ) → Memᴰ x xs → Memᴰ x ys) → covers_all sound faults xs ≡ true → covers_all sound faults ys ≡ true
  covers_more xs ys sub e = each-covers ys (λ f h. let r = covers-each xs e f h in (r.0, sub r.0 r.1, r.2))

  pub covers-none : 1 ≤ length faults → covers_all sound faults [] ≡ false
  covers-none h = go (covers_all sound faults []) refl
    where
      go : (t : Bool) → covers_all sound faults [] ≡ t → t ≡ false
      go true e = absurd (Memᴰ.not-nil (covers-each [] e 0 h).1)
      go false e = refl

-- The search by masks.

at_all : (ls : List ℕ) (n from : ℕ) → from + n ≡ length ls → labels_at ls (count from n) ≡ drop from ls
unfolding count
at_all ls zero from e = let h : length ls ≤ from = omega arith in sym (drop_of_length-le ls h)
at_all ls (suc n) from e = ap (λ (l : List ℕ). get_or ls from 0 ∷ l) (at_all ls n (suc from) (omega arith)) ∙ sym (drop-cons ls from 0 (omega arith))

module _ (sound : List ℤ) (faults : List (List ℤ)) (labels : List ℕ) where
  -- a set of places leaves nothing missing where its labels cover every fault
  places-cover : (is : List ℕ) → ((i : ℕ) → Memᴰ i is → i < length sound)
      → clears (masks_of sound faults labels (length faults)) (2 ^ length faults - 1) is ≡ covers_all sound faults (labels_at labels is)
  unfolding covers_all covers_fault mask_at covers_at
  places-cover is low =
      let q = length faults in
      clears-full (masks_of sound faults labels q) q is
      ∙ all_same _ (covers_fault sound faults (labels_at labels is)) q
      (λ f h. any-mapped _ (covers sound (fault_rows faults f)) (λ i. get_or labels i 0) is (λ i m. at_place f h i (low i m)))
    where
      at_place : (f : ℕ) → f < length faults → (i : ℕ) → i < length sound
          → bit (get_or (masks_of sound faults labels (length faults)) i 0) f ≡ covers sound (fault_rows faults f) (get_or labels i 0)
      at_place f h i l = ap (λ (m : ℕ). bit m f) (masks-at sound faults labels (length faults) i l) ∙ bit_mask (covers_at sound faults (get_or labels i 0)) (length faults) f h

  module _ (k : ℕ) (small : k ≤ 8) (size : length sound ≡ 2 ^ k) (labelled : labels ≡ labels_below (length sound)) where
    pub labels_length : length labels ≡ length sound
    labels_length = ap length labelled ∙ ap (λ (n : ℕ). length (labels_below n)) size ∙ labels-count k small ∙ sym size

    pub found-is : (masks : List ℕ) (cap : ℕ) → masks ≡ masks_of sound faults labels (length faults)
        → set_at labels (plan_of (clears masks (2 ^ length faults - 1)) (up_to (length masks)) cap) ≡ set_of (signature_of sound faults cap)
    unfolding signature_of up_to
    found-is masks cap e =
        let m = masks_of sound faults labels (length faults) in
        let n = length-masks sound faults labels (length faults) in
        ap (λ (ms : List ℕ). set_at labels (plan_of (clears ms (2 ^ length faults - 1)) (up_to (length ms)) cap)) e
        ∙ ap set_of
        (plan-mapped labels (covers_all sound faults) (clears m (2 ^ length faults - 1)) (up_to (length m))
        (λ is sub. places-cover is (λ i k. let h = count-high (length m) 0 i (sub i k) in omega arith)) cap
        ∙ ap (λ (ls : List ℕ). plan_of (covers_all sound faults) ls cap) (at_all labels (length m) 0 (omega (arith, labels_length)) ∙ labelled))

-- The signature is the shortest.

module _ (sound : List ℤ) (faults : List (List ℤ)) where
  -- a list of labels, in any order and with repeats, that covers every fault
  pub record Covering (ys : List ℕ) : Type 0 where
    pub labels : (y : ℕ) → Memᴰ y ys → y < length sound
    pub each : (f : ℕ) → f < length faults → (l : ℕ) × Memᴰ l ys × (coefficient_of sound l ≡ coefficient_of (fault_rows faults f) l → ⊥)

  module _ (cap : ℕ) (xs : List ℕ) (found : signature_of sound faults cap ≡ some xs) where
    of-sets : Memᴰ xs (sets_of (length xs) (labels_below (length sound))) × (covers_all sound faults xs ≡ true) × (1 ≤ length xs) × (length xs ≤ cap)
    unfolding signature_of
    of-sets = plan-found (covers_all sound faults) (labels_below (length sound)) cap xs found

    pub signature-found : Covering xs × (1 ≤ length xs) × (length xs ≤ cap)
    signature-found =
        let r = of-sets in (
          record {
            labels = λ y m. labels-low (length sound) y (sets-sub (length xs) (labels_below (length sound)) xs r.0 y m);
            each = covers-each sound faults xs r.1;
          },
          r.2,
          r.3,
        )

    pub signature-ordered : (subsequence xs (labels_below (length sound)) ≡ true) × (rising xs ≡ true) × (distinct xs ≡ true)
    signature-ordered =
        let ls = labels_below (length sound) in
        let s = in_order (length xs) ls xs of-sets.0 in
        (s, sub-rising xs ls s (labels-rising (length sound)), sub-distinct xs ls s (labels-distinct (length sound)))

  module _ (few : length sound ≤ 256) (faulty : 1 ≤ length faults) (cap : ℕ) (ys : List ℕ) (covering : Covering ys) where
    in-labels : (y : ℕ) → Memᴰ y ys → Memᴰ y (labels_below (length sound))
    in-labels y m = labels-all (length sound) y few (covering.labels y m)

    passes : covers_all sound faults ys ≡ true
    passes = each-covers sound faults ys covering.each

    pub signature-least : (xs : List ℕ) → signature_of sound faults cap ≡ some xs → length xs ≤ length ys
    unfolding signature_of
    signature-least = least (covers_all sound faults) (labels_below (length sound)) (covers_more sound faults) (covers-none sound faults faulty) ys in-labels passes cap

    pub signature-none : signature_of sound faults cap ≡ none → length ys ≤ cap → ⊥
    unfolding signature_of
    signature-none = none-less (covers_all sound faults) (labels_below (length sound)) (covers_more sound faults) (covers-none sound faults faulty) ys in-labels passes cap

    pub signature-first : (xs : List ℕ) → signature_of sound faults cap ≡ some xs → length ys ≡ length xs → rising ys ≡ true → precedes xs ys ≡ true
    unfolding signature_of
    signature-first xs found size rises =
        let ls = labels_below (length sound) in
        first-precedes (covers_all sound faults) ls xs ys (labels-rising (length sound)) (first-earliest (covers_all sound faults) ls cap xs found) size rises in-labels passes
