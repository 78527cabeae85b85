-- Which labels cover a fault, by the differences of the rows, and the masks of the faults:
--   length-differences, differences-within    the differences: their number and their bound
--   difference-coefficient    at a label, the coefficient of the differences is the difference of the coefficients
--   covers-difference         so it is not 0 exactly where the label covers the fault
--   difference-turn           one difference as the machine computes it
--   marks-are, marked_by      the masks with a bit added at such labels are the masks with the fault marked
--   bit-more, bit_kept        one mask more, with the bit added or not
--   no-masks, marked_more, masks-below    the masks of no fault and of one fault more, and their bound
use mathlib.Core.Path.{◌≡◌, sym, ap, ap₂, ◌∙◌, subst}
use mathlib.Core.Bool.{Bool, not, cond}
use mathlib.Core.List.{List, ◌++◌}
use Prim.Native.Nat.{ℕ, suc, ◌+◌, ◌*◌, ◌%◌, ◌<◌, ◌≤◌, ◌^◌}
use native.Mathlib.Nat.{le_trans, add-zero}
use native.Mathlib.Omega.{arith}
use lib.Dec.{eqb}
use lib.IntN.{ℤ, pos, ◌-ℤ◌, nat_abs, +ℤ_idr}
use lib.ListN.{length, get_or, drop, set, replicate, length-replicate, get_or-replicate}
use lib.Seq.{ext_get_or, set-get_or}
use mir.Syntax.{w32, w64}
use mir.Val.{SFits, to_z, of_z}
use borrow.Author.Tests.{eq-eqb, ne_eqb}
use Rattle.integer.specs.Tab.{tab, nth, Within}
use Rattle.integer.specs.Differ.{differ}
use Rattle.integer.specs.Mask.{mask_of}
use Rattle.integer.specs.ListTests.{Below}
use Rattle.integer.proofs.Bounds.{nat_abs-sub, sfits-abs, within_more}
use Rattle.integer.proofs.Machine.{bit_is}
use Rattle.integer.proofs.Tabs.{length-tab, get_or-tab, tab-ext, tab-step, tab-ahead}
use Rattle.integer.proofs.Masks.{mask_lt}
use Rattle.integer.proofs.Differing.{word-zero, less-kept, less_none}
use Rattle.transform.specs.Spectrum.{signed_sum, coefficient_of, spectrum_of}
use Rattle.transform.proofs.Halving.{sum-sub, sum-equal}
use Rattle.cover.specs.Cover.{fault_rows, covers}
use Rattle.cover.specs.Steps.{row_difference_at, differences, bit_added_at, bit_added, marked_at, marked, covers_at, mask_at, masks_of}

module _ (sound faulted : List ℤ) where
  pub length-differences : length (differences sound faulted) ≡ length sound
  unfolding differences
  length-differences = length-tab (length sound) (row_difference_at sound faulted)

  difference-at : (x : ℕ) → x < length sound → nth (differences sound faulted) x ≡ nth sound x -ℤ nth faulted x
  unfolding differences row_difference_at
  difference-at x h = get_or-tab (length sound) (row_difference_at sound faulted) (pos 0) x h

  module _ (even : length faulted ≡ length sound) where
    pub differences-within : (B : ℕ) → Within B sound → Within B faulted → Within (B + B) (differences sound faulted)
    differences-within B s f x h =
        let l : x < length sound = omega (arith, length-differences) in
        subst (λ (z : ℤ). nat_abs z ≤ B + B) (sym (difference-at x l)) (le_trans (nat_abs-sub (nth sound x) (nth faulted x)) (omega (arith, s x l, f x (omega arith))))

    pub difference-coefficient : (l : ℕ) → coefficient_of (differences sound faulted) l ≡ coefficient_of sound l -ℤ coefficient_of faulted l
    unfolding coefficient_of
    difference-coefficient l =
        ap (λ (n : ℕ). signed_sum n (nth (differences sound faulted)) l) length-differences
        ∙ sum-equal (length sound) _ _ l difference-at ∙ sum-sub (length sound) (nth sound) (nth faulted) l
        ∙ ap (λ (n : ℕ). signed_sum (length sound) (nth sound) l -ℤ signed_sum n (nth faulted) l) (sym even)

    pub covers-difference : (l : ℕ) → l < length sound → differ (nth (spectrum_of (differences sound faulted)) l) (pos 0) ≡ covers sound faulted l
    unfolding spectrum_of covers
    covers-difference l h =
        ap (λ (z : ℤ). not (eqb (nat_abs z) 0))
        (+ℤ_idr _ ∙ get_or-tab (length (differences sound faulted)) (coefficient_of (differences sound faulted)) (pos 0) l (omega (arith, length-differences)) ∙ difference-coefficient l)

    pub marks-are : (labels : List ℕ) (f : ℕ) (masks : List ℕ) → length labels ≡ length masks → Below (length sound) labels
        → bit_added (spectrum_of (differences sound faulted)) labels (2 ^ f) masks ≡ marked sound faulted labels f masks
    unfolding bit_added bit_added_at marked marked_at
    marks-are labels f masks e low =
        tab-ext (length masks) _ _
        (λ i h. ap (λ (b : Bool). get_or masks i 0 + cond b (2 ^ f) 0) (covers-difference (get_or labels i 0) (low i (omega arith))))

-- the working numbers: the differences, and then their spectrum
module _ (sound faulted work : List ℤ) (even : length faulted ≡ length sound) (differ-is : work ≡ differences sound faulted) where
  pub work-within : Within 1000 sound → Within 1000 faulted → Within 2048000 work
  work-within s f = subst (Within 2048000) (sym differ-is) (within_more (differences sound faulted) (omega arith) (differences-within sound faulted even 1000 s f))

  module _ (spectrum : List ℤ) (spectrum-is : spectrum ≡ spectrum_of work) where
    pub marked_by : (labels : List ℕ) (f : ℕ) (masks : List ℕ) → f < 32 → length labels ≡ length masks → Below (length sound) labels
        → bit_added spectrum labels ((1 * 2 ^ f) % 2 ^ 32) masks ≡ marked sound faulted labels f masks
    marked_by labels f masks h e low =
        ap₂ (λ (l : List ℤ) (b : ℕ). bit_added l labels b masks) (spectrum-is ∙ ap spectrum_of differ-is) (bit_is 32 f h) ∙ marks-are sound faulted even labels f masks e low

-- one difference as the machine computes it, and whether it is 0
pub difference-turn : (a b x y : ℤ) → nat_abs a ≤ 1000 → nat_abs b ≤ 1000 → x ≡ to_z w32 (of_z w32 a) → y ≡ to_z w32 (of_z w32 b)
    → (to_z w64 (of_z w64 (to_z w64 (of_z w64 x) -ℤ to_z w64 (of_z w64 y))) ≡ a -ℤ b)
    × (eqb (of_z w64 (to_z w64 (of_z w64 x) -ℤ to_z w64 (of_z w64 y))) 0 ≡ not (differ a b))
difference-turn a b x y low small e f =
    let fa : SFits w32 a = sfits-abs (omega arith) in
    let fb : SFits w32 b = sfits-abs (omega arith) in
    let same = ap₂ (λ (p q : ℤ). of_z w64 (to_z w64 (of_z w64 p) -ℤ to_z w64 (of_z w64 q))) e f in
    (ap (to_z w64) same ∙ less-kept a b fa fb, ap (λ (n : ℕ). eqb n 0) same ∙ less_none a b fa fb)

module _ (coefficients : List ℤ) (labels : List ℕ) (bit : ℕ) (masks : List ℕ) where
  abbrev pub added-to : ℕ → List ℕ
  added-to i = tab i (bit_added_at coefficients labels bit masks) ++ drop i masks

  module _ (now : List ℕ) (i : ℕ) (h : i < length masks) (so_far : now ≡ added-to i) where
    read-mask : get_or now i 0 ≡ get_or masks i 0
    read-mask = ap (λ (l : List ℕ). get_or l i 0) so_far ∙ tab-ahead masks (bit_added_at coefficients labels bit masks) 0 i i (omega arith)

    step : (m : ℕ) → m ≡ bit_added_at coefficients labels bit masks i → set now i m ≡ added-to (i + 1)
    step m e = ap₂ (λ (l : List ℕ) (x : ℕ). set l i x) so_far e ∙ tab-step masks (bit_added_at coefficients labels bit masks) 0 i h

    module _ (fits : SFits w64 (nth coefficients (get_or labels i 0))) where
      by_bits : bit_added_at coefficients labels bit masks i ≡ get_or now i 0 + cond (not (eqb (of_z w64 (nth coefficients (get_or labels i 0))) 0)) bit 0
      unfolding bit_added_at
      by_bits =
          let z = nth coefficients (get_or labels i 0) in
          ap₂ (λ (m : ℕ) (y : ℤ). m + cond (not (eqb (nat_abs y) 0)) bit 0) (sym read-mask) (+ℤ_idr z) ∙ ap (λ (b : Bool). get_or now i 0 + cond (not b) bit 0) (sym (word-zero z fits))

      pub bit-more : (of_z w64 (nth coefficients (get_or labels i 0)) ≡ 0 → ⊥) → set now i (get_or now i 0 + bit) ≡ added-to (i + 1)
      bit-more n = step (get_or now i 0 + bit) (sym (by_bits ∙ ap (λ (b : Bool). get_or now i 0 + cond (not b) bit 0) (ne_eqb _ 0 n)))

      pub bit_kept : of_z w64 (nth coefficients (get_or labels i 0)) ≡ 0 → now ≡ added-to (i + 1)
      bit_kept e =
          sym (set-get_or now i 0) ∙ step (get_or now i 0) (sym (by_bits ∙ ap (λ (b : Bool). get_or now i 0 + cond (not b) bit 0) (eq-eqb _ 0 e) ∙ add-zero (get_or now i 0)))

-- The masks of the first q faults.

abbrev pub no-mask : ℕ → ℕ
no-mask i = 0

pub all_none : (n : ℕ) → tab n no-mask ≡ replicate n 0
all_none n =
    let e = length-tab n no-mask in
    ext_get_or 0 (tab n no-mask) (replicate n 0) (e ∙ sym (length-replicate n 0))
    (λ i h. get_or-tab n no-mask 0 i (omega arith) ∙ sym (get_or-replicate n i 0 0 (omega arith)))

module _ (sound : List ℤ) (faults : List (List ℤ)) (labels : List ℕ) where
  pub length-masks : (q : ℕ) → length (masks_of sound faults labels q) ≡ length sound
  unfolding masks_of
  length-masks q = length-tab (length sound) (mask_at sound faults labels q)

  pub masks-at : (q i : ℕ) → i < length sound → get_or (masks_of sound faults labels q) i 0 ≡ mask_at sound faults labels q i
  unfolding masks_of
  masks-at q i h = get_or-tab (length sound) (mask_at sound faults labels q) 0 i h

  pub masks-below : (q : ℕ) → Below (2 ^ q) (masks_of sound faults labels q)
  unfolding mask_at
  masks-below q i h = subst (λ (m : ℕ). m < 2 ^ q) (sym (masks-at q i (omega (arith, length-masks q)))) (mask_lt (covers_at sound faults (get_or labels i 0)) q)

  pub no-masks : masks_of sound faults labels 0 ≡ replicate (length sound) 0
  unfolding masks_of mask_at mask_of
  no-masks = all_none (length sound)

  pub marked_more : (f : ℕ) (masks : List ℕ) → masks ≡ masks_of sound faults labels f → marked sound (fault_rows faults f) labels f masks ≡ masks_of sound faults labels (suc f)
  unfolding masks_of marked marked_at mask_at mask_of covers_at
  marked_more f masks e =
      ap (λ (n : ℕ). tab n (marked_at sound (fault_rows faults f) labels f masks)) (ap length e ∙ length-masks f)
      ∙ tab-ext (length sound) _ _
      (λ i h. ap (λ (m : ℕ). m + cond (covers sound (fault_rows faults f) (get_or labels i 0)) (2 ^ f) 0) (ap (λ (l : List ℕ). get_or l i 0) e ∙ masks-at f i h))
