-- One coefficient, term by term:
--   sum-le                  the size of a partial sum of rows within B
--   term-room               one more term of rows within 1,000 leaves a partial sum that fits 32 bits
--   more-even, more-odd     the partial sum with one more term, by the parity of ones in label AND row
use mathlib.Core.Path.{◌≡◌, refl, sym, ap}
use mathlib.Core.List.{List}
use Prim.Native.Nat.{ℕ, zero, suc, ◌+◌, ◌*◌, ◌%◌, ◌^◌, ◌≤◌, ◌<◌}
use native.Mathlib.Nat.{le_of_eq}
use native.Mathlib.Numerals.{add-one}
use native.Mathlib.Omega.{arith}
use lib.IntN.{ℤ, ◌+ℤ◌, ◌-ℤ◌, nat_abs}
use lib.ListN.{length}
use lib.Bits.{bit_and}
use lib.Count.{ones}
use Rattle.integer.specs.Sum.{sum_to, signed}
use Rattle.integer.specs.Tab.{nth, Within}
use Rattle.integer.proofs.Bounds.{nat_abs-signed, partial_le, partial-room}
use Rattle.transform.specs.Spectrum.{sign, term_of, signed_sum}

-- a sign changes no size
module _ (rows : List ℤ) (label : ℕ) where
  term-small : (x : ℕ) → nat_abs (term_of (nth rows) label x) ≤ nat_abs (nth rows x)
  unfolding term_of
  term-small x = le_of_eq (nat_abs-signed (sign label x) (nth rows x))

  pub sum-le : (B n : ℕ) → n ≤ length rows → Within B rows → nat_abs (signed_sum n (nth rows) label) ≤ n * B
  unfolding signed_sum
  sum-le = partial_le rows (term_of (nth rows) label) term-small

  pub term-room : (i : ℕ) → length rows ≤ 2048 → Within 1000 rows → i < length rows → nat_abs (signed_sum i (nth rows) label) + nat_abs (nth rows i) < 2 ^ 31
  unfolding signed_sum
  term-room = partial-room rows (term_of (nth rows) label) term-small

pub more-even : (f : ℕ → ℤ) (label i : ℕ) → sign label i ≡ 0 → signed_sum i f label +ℤ f i ≡ signed_sum (i + 1) f label
unfolding sum_to term_of signed_sum
more-even f label i e = rw (add-one) (ap (λ (p : ℕ). sum_to i (term_of f label) +ℤ signed p (f i)) (sym e))

is_one : (n : ℕ) → (n % 2 ≡ 0 → ⊥) → n % 2 ≡ 1
is_one n f = odd (n % 2) f (omega arith)
  where
    odd : (m : ℕ) → (m ≡ 0 → ⊥) → m < 2 → m ≡ 1
    odd zero f l = absurd (f refl)
    odd (suc m) f l = omega arith

pub more-odd : (f : ℕ → ℤ) (label i : ℕ) → (sign label i ≡ 0 → ⊥) → signed_sum i f label -ℤ f i ≡ signed_sum (i + 1) f label
unfolding sum_to term_of signed_sum
more-odd f label i n = rw (add-one) (ap (λ (p : ℕ). sum_to i (term_of f label) +ℤ signed p (f i)) (sym (is_one (ones (bit_and label i)) n)))
