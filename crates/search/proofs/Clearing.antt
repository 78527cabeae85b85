-- What masks clear:
--   clears-bits, clears-full    masks leave nothing of a mask where each of its bits is in one of them; of the mask of all bits below q
use mathlib.Core.Path.{◌≡◌, refl, sym, ap, ◌∙◌}
use mathlib.Core.Bool.{Bool, true, false, not, ◌&&◌, ◌||◌, or-false}
use mathlib.Core.List.{List, [], ◌∷◌}
use Prim.Native.Nat.{ℕ, ◌-◌, ◌^◌, ◌<◌}
use native.Mathlib.Nat.{lt_of_le_of_lt}
use lib.Pow.{ones_lt}
use lib.Bits.{bit_xor, and_le_l}
use lib.ListN.{get_or}
use Rattle.integer.specs.ListTests.{any}
use Rattle.integer.specs.Counting.{all_below}
use Rattle.integer.specs.Mask.{bit, without}
use Rattle.integer.proofs.NumbersBelow.{all_same}
use Rattle.integer.proofs.Masks.{bit-without, full-bit, zero_bits}
use Rattle.search.specs.Steps.{clears}

pub clears-bits : (masks : List ℕ) (q m : ℕ) (is : List ℕ) → m < 2 ^ q
    → clears masks m is ≡ all_below (λ f. not (bit m f) || any (λ i. bit (get_or masks i 0) f) is) q
unfolding clears any
clears-bits masks q m [] h = zero_bits q m h ∙ all_same (λ f. not (bit m f)) (λ f. not (bit m f) || false) q (λ f k. sym (or-false (not (bit m f))))
clears-bits masks q m (i ∷ is) h =
    clears-bits masks q (without m (get_or masks i 0)) is (lt_of_le_of_lt (and_le_l m (bit_xor m (get_or masks i 0))) h)
    ∙ all_same (λ f. not (bit (without m (get_or masks i 0)) f) || any (λ j. bit (get_or masks j 0) f) is)
    (λ f. not (bit m f) || (bit (get_or masks i 0) f || any (λ j. bit (get_or masks j 0) f) is)) q
    (λ f k. ap (λ (b : Bool). not b || any (λ j. bit (get_or masks j 0) f) is) (bit-without m (get_or masks i 0) f)
    ∙ go (bit m f) (bit (get_or masks i 0) f) (any (λ j. bit (get_or masks j 0) f) is))
  where
    go : (a b x : Bool) → (not (a && not b) || x) ≡ (not a || (b || x))
    go true true x = refl
    go true false x = refl
    go false b x = refl

pub clears-full : (masks : List ℕ) (q : ℕ) (is : List ℕ) → clears masks (2 ^ q - 1) is ≡ all_below (λ f. any (λ i. bit (get_or masks i 0) f) is) q
clears-full masks q is =
    clears-bits masks q (2 ^ q - 1) is (ones_lt q)
    ∙ all_same (λ f. not (bit (2 ^ q - 1) f) || any (λ i. bit (get_or masks i 0) f) is) (λ f. any (λ i. bit (get_or masks i 0) f) is) q
    (λ f h. ap (λ (b : Bool). not b || any (λ i. bit (get_or masks i 0) f) is) (full-bit q f h))
