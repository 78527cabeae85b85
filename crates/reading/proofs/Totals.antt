-- The sum and the count of the rows that agree, row by row:
--   total-le, total-room        the size of a partial sum; one more row of rows within 1,000 leaves one that fits 32 bits
--   count-le                 a count is at most the number of rows
--   sum-taken, sum_left, count-taken, count_left    one row more, that agrees or not
--   total_fits, sum-more       one that agrees, as the machine adds it
use mathlib.Core.Path.{◌≡◌, ap, sym, ◌∙◌}
use mathlib.Core.Bool.{Bool, true, false, cond}
use mathlib.Core.List.{List}
use Prim.Native.Nat.{ℕ, zero, suc, ◌+◌, ◌*◌, ◌^◌, ◌≤◌, ◌<◌, zero-le}
use native.Mathlib.Nat.{add-zero, le_refl}
use native.Mathlib.Numerals.{add-one}
use native.Mathlib.Omega.{arith}
use lib.IntN.{ℤ, pos, ◌+ℤ◌, nat_abs, +ℤ_idr}
use lib.ListN.{length}
use Rattle.integer.specs.Sum.{sum_to}
use Rattle.integer.specs.Tab.{nth, Within}
use mir.Syntax.{w32}
use mir.Val.{SFits, to_z, of_z}
use mir.ValLaws.{to_z-of_z}
use Rattle.integer.proofs.Bounds.{nat_abs-add, sfits-abs, partial_le, partial-room}
use Rattle.reading.specs.Readings.{agrees, count_to, term_at}

module _ (mask values : ℕ) (rows : List ℤ) where
  term-small : (x : ℕ) → nat_abs (term_at mask values rows x) ≤ nat_abs (nth rows x)
  term-small x = go (agrees mask values x)
    where
      go : (b : Bool) → nat_abs (cond b (nth rows x) (pos 0)) ≤ nat_abs (nth rows x)
      go true = le_refl (nat_abs (nth rows x))
      go false = zero-le

  pub total-le : (B n : ℕ) → n ≤ length rows → Within B rows → nat_abs (sum_to n (term_at mask values rows)) ≤ n * B
  total-le = partial_le rows (term_at mask values rows) term-small

  pub total-room : (i : ℕ) → length rows ≤ 2048 → Within 1000 rows → i < length rows
      → nat_abs (sum_to i (term_at mask values rows)) + nat_abs (nth rows i) < 2 ^ 31
  total-room = partial-room rows (term_at mask values rows) term-small

  module _ (i : ℕ) where
    pub sum-taken : agrees mask values i ≡ true → sum_to i (term_at mask values rows) +ℤ nth rows i ≡ sum_to (i + 1) (term_at mask values rows)
    unfolding sum_to
    sum-taken e = rw (add-one, e)

    pub sum_left : agrees mask values i ≡ false → sum_to i (term_at mask values rows) ≡ sum_to (i + 1) (term_at mask values rows)
    unfolding sum_to
    sum_left e = rw (add-one, e) (sym (+ℤ_idr _))

  -- a row that agrees, as the machine adds it
  module _ (i : ℕ) (s : ℤ) (so_far : s ≡ sum_to i (term_at mask values rows)) (few : length rows ≤ 2048) (small : Within 1000 rows) (inside : i < length rows) where
    read : to_z w32 (of_z w32 (nth rows i)) ≡ nth rows i
    read = to_z-of_z w32 (nth rows i) (sfits-abs (omega (arith, small i inside)))

    pub total_fits : SFits w32 (s +ℤ to_z w32 (of_z w32 (nth rows i)))
    total_fits = rw (read, so_far) (sfits-abs (omega (arith, total-room i few small inside, nat_abs-add (sum_to i (term_at mask values rows)) (nth rows i))))

    pub sum-more : agrees mask values i ≡ true → to_z w32 (of_z w32 (s +ℤ to_z w32 (of_z w32 (nth rows i)))) ≡ sum_to (i + 1) (term_at mask values rows)
    sum-more e = to_z-of_z w32 _ total_fits ∙ ap (λ (z : ℤ). s +ℤ z) read ∙ ap (λ (z : ℤ). z +ℤ nth rows i) so_far ∙ sum-taken i e

pub count-le : (n : ℕ) (p : ℕ → Bool) → count_to n p ≤ n
unfolding count_to
count-le zero p = zero-le
count-le (suc n) p = more (p n) (count-le n p)
  where
    more : (b : Bool) → count_to n p ≤ n → count_to n p + cond b 1 0 ≤ suc n
    more true h = omega arith
    more false h = omega arith

module _ (mask values i : ℕ) where
  count-more : (b : Bool) → agrees mask values i ≡ b → count_to i (agrees mask values) + cond b 1 0 ≡ count_to (i + 1) (agrees mask values)
  unfolding count_to
  count-more b e = ap (λ (c : Bool). count_to i (agrees mask values) + cond c 1 0) (sym e) ∙ ap (λ (n : ℕ). count_to n (agrees mask values)) (sym (add-one i))

  pub count-taken : agrees mask values i ≡ true → count_to i (agrees mask values) + 1 ≡ count_to (i + 1) (agrees mask values)
  count-taken = count-more true

  pub count_left : agrees mask values i ≡ false → count_to i (agrees mask values) ≡ count_to (i + 1) (agrees mask values)
  count_left e = sym (add-zero _) ∙ count-more false e
