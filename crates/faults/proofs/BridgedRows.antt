-- What a bridge of inputs i and j, i below j, does to a row (document 02, note 8: "Both inputs then show the AND of what is applied."):
--   both_small               what both show is 0 or 1
--   bridged-shows-first, bridged-shows-second    either input shows it
--   bridged-keeps            every other input is as it was
--   bridged-below            the row stays one of n inputs
--   bridged-put              the row by the digits of its number
use mathlib.Core.Path.{◌≡◌, ap, ◌∙◌}
use Prim.Native.Nat.{ℕ, zero, suc, ◌*◌, ◌-◌, ◌^◌, ◌≤◌, ◌<◌}
use native.Mathlib.Nat.{zero-mul, one-mul}
use native.Mathlib.Omega.{arith}
use Rattle.faults.specs.Faults.{Stuck, bit_of, replaced, both_of, bridged_row}
use Rattle.faults.proofs.Digits.{put, digit-small}
use Rattle.faults.proofs.Faulted.{replaced-shows, replaced-keeps}
use Rattle.faults.proofs.Sticking.{replaced-put, replaced-below}

pub both_small : (i j x : ℕ) → both_of i j x < 2
both_small i j x = product (bit_of i x) (bit_of j x) (digit-small (i - 1) x) (digit-small (j - 1) x)
  where
    product : (a b : ℕ) → a < 2 → b < 2 → a * b < 2
    product zero b h l = omega (arith, zero-mul b)
    product (suc zero) b h l = omega (arith, one-mul b)
    product (suc (suc a)) b h l = absurd (omega arith)

module _ (i j : ℕ) (first : 1 ≤ i) (rise : i < j) (x : ℕ) where
  abbrev at_first : Stuck
  at_first = record { line = i; value = both_of i j x }

  abbrev at_second : Stuck
  at_second = record { line = j; value = both_of i j x }

  second : 1 ≤ j
  second = omega arith

  pub bridged-shows-second : bit_of j (bridged_row i j x) ≡ both_of i j x
  bridged-shows-second = replaced-shows at_second second (replaced at_first x) (both_small i j x)

  pub bridged-shows-first : bit_of i (bridged_row i j x) ≡ both_of i j x
  bridged-shows-first =
      replaced-keeps at_second second i (replaced at_first x) first (λ e. omega arith) (both_small i j x)
      ∙ replaced-shows at_first first x (both_small i j x)

  pub bridged-keeps : (k : ℕ) → 1 ≤ k → (k ≡ i → ⊥) → (k ≡ j → ⊥) → bit_of k (bridged_row i j x) ≡ bit_of k x
  bridged-keeps k h f s =
      replaced-keeps at_second second k (replaced at_first x) h s (both_small i j x)
      ∙ replaced-keeps at_first first k x h f (both_small i j x)

  pub bridged-below : (n : ℕ) → j ≤ n → x < 2 ^ n → bridged_row i j x < 2 ^ n
  bridged-below n last h =
      replaced-below at_second n second last (replaced at_first x)
      (replaced-below at_first n first (omega arith) x h (both_small i j x)) (both_small i j x)

  pub bridged-put : bridged_row i j x ≡ put (j - 1) (both_of i j x) (put (i - 1) (both_of i j x) x)
  bridged-put = replaced-put at_second second (replaced at_first x) ∙ ap (put (j - 1) (both_of i j x)) (replaced-put at_first first x)
