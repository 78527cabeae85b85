-- A free row counts one half: equations (11) and (12) of source document 004, doubled, for every table that is accepted, sound and under every fault:
--   free-rows-half     a coefficient is twice the ones of even parity and the free rows of even parity, less the same of odd parity
--   free-rows-sum      at label 0 it is twice all ones and all free rows
use mathlib.Core.Path.{◌≡◌, refl, sym, ap, ap₂, ◌∙◌}
use mathlib.Core.Bool.{Bool, true, false, cond, ◌&&◌}
use mathlib.Core.List.{List, [], ◌∷◌, ◌++◌}
use Prim.Native.Nat.{ℕ, zero, suc, ◌+◌, ◌*◌, ◌^◌, ◌≤◌}
use native.Mathlib.Nat.{zero-add, add-zero}
use native.Mathlib.Omega.{arith}
use lib.Count.{ones}
use lib.Dec.{eqb}
use lib.IntN.{ℤ, pos, ◌+ℤ◌, ◌-ℤ◌, +ℤ_idr}
use lib.ListN.{length, get_or, length-append}
use Rattle.integer.specs.Counting.{count, up_to}
use Rattle.integer.specs.ListTests.{keep}
use Rattle.integer.specs.Sum.{sum_to}
use Rattle.integer.proofs.Entries.{keep_append}
use Rattle.integer.proofs.Sums.{sum-ext}
use Rattle.transform.specs.Spectrum.{sign, coefficient_of}
use Rattle.transform.proofs.Parity.{of_parity, even-less-odd}
use Rattle.statements.specs.Items.{Fault}
use Rattle.tables.specs.Tables.{TruthTable}
use Rattle.tables.specs.TableWellFormed.{TableRight}
use Rattle.lookup.specs.TableRows.{fault_row, table_row, table_rows}
use Rattle.lookup.specs.FreeRows.{mark_is, mark_with, rows_passing, ones_with, free_with, ones_of, free_of}
use Rattle.lookup.proofs.RowsOfTables.{length-table-rows, table-row-is, mark-small}

-- a mark that is taken is twice a one, or a free row
taken : (m : ℕ) (b : Bool) → m ≤ 2 → cond b (pos m) (pos 0) ≡ pos (2 * cond (eqb m 2 && b) 1 0 + cond (eqb m 1 && b) 1 0)
taken zero true h = refl
taken zero false h = refl
taken (suc zero) true h = refl
taken (suc zero) false h = refl
taken (suc (suc zero)) true h = refl
taken (suc (suc zero)) false h = refl
taken (suc (suc (suc m))) b h = absurd (omega arith)

-- how many numbers below n pass
abbrev passing : ℕ → (ℕ → Bool) → ℕ
passing n p = length (keep p (up_to n))

count-last : (from n : ℕ) → count from (suc n) ≡ count from n ++ ((from + n) ∷ [])
unfolding count
count-last from zero = ap (λ (m : ℕ). m ∷ []) (sym (add-zero from))
count-last from (suc n) =
    let e : suc from + n ≡ from + suc n = omega arith in
    ap (λ (l : List ℕ). from ∷ l) (count-last (suc from) n ∙ ap (λ (m : ℕ). count (suc from) n ++ (m ∷ [])) e)

passing-more : (n : ℕ) (p : ℕ → Bool) → passing (suc n) p ≡ passing n p + cond (p n) 1 0
unfolding up_to keep
passing-more n p =
    ap (λ (l : List ℕ). length (keep p l)) (count-last 0 n ∙ ap (λ (m : ℕ). count 0 n ++ (m ∷ [])) (zero-add n))
    ∙ ap length (keep_append p (count 0 n) (n ∷ []))
    ∙ length-append (keep p (count 0 n)) (keep p (n ∷ []))
    ∙ ap (λ (m : ℕ). length (keep p (count 0 n)) + m) (last (p n))
  where
    last : (b : Bool) → length (cond b (n ∷ []) []) ≡ cond b 1 0
    last true = refl
    last false = refl

-- marks of 0, 1 and 2, of which some are taken
marks-counted : (n : ℕ) (m : ℕ → ℕ) (b : ℕ → Bool) → ((x : ℕ) → m x ≤ 2)
    → sum_to n (λ x. cond (b x) (pos (m x)) (pos 0)) ≡ pos (2 * passing n (λ x. eqb (m x) 2 && b x) + passing n (λ x. eqb (m x) 1 && b x))
unfolding sum_to up_to count keep
marks-counted zero m b h = refl
marks-counted (suc n) m b h =
    ap₂ (λ (y z : ℤ). y +ℤ z) (marks-counted n m b h) (taken (m n) (b n) (h n))
    ∙ ap pos (more (passing n full) (passing n free) (cond (full n) 1 0) (cond (free n) 1 0))
    ∙ ap₂ (λ (y z : ℕ). pos (2 * y + z)) (sym (passing-more n full)) (sym (passing-more n free))
  where
    full : ℕ → Bool
    full x = eqb (m x) 2 && b x

    free : ℕ → Bool
    free x = eqb (m x) 1 && b x

    more : (twos ones two one : ℕ) → (2 * twos + ones) + (2 * two + one) ≡ 2 * (twos + two) + (ones + one)
    more twos ones two one = omega arith

module _ (t : TruthTable) (f : Fault) (right : TableRight t) where
  abbrev mark : ℕ → ℕ
  mark x = get_or t.marks (fault_row f x) 0

  parity-counted : (p label : ℕ) → sum_to (length (table_rows t f)) (of_parity p (table_rows t f) label) ≡ pos (2 * ones_with t f p label + free_with t f p label)
  unfolding table_row ones_with free_with
  parity-counted p label =
      ap (λ (n : ℕ). sum_to n (of_parity p (table_rows t f) label)) (length-table-rows t f)
      ∙ sum-ext (2 ^ t.inputs) _ (λ x. cond (eqb (sign label x) p) (pos (mark x)) (pos 0))
      (λ x h. ap (λ (z : ℤ). cond (eqb (sign label x) p) z (pos 0)) (table-row-is t f x h))
      ∙ marks-counted (2 ^ t.inputs) mark (λ x. eqb (sign label x) p) (λ x. mark-small t right (fault_row f x))

  pub free-rows-half : (label : ℕ)
      → coefficient_of (table_rows t f) label ≡ pos (2 * ones_with t f 0 label + free_with t f 0 label) -ℤ pos (2 * ones_with t f 1 label + free_with t f 1 label)
  free-rows-half label = even-less-odd (table_rows t f) label ∙ ap₂ (λ (y z : ℤ). y -ℤ z) (parity-counted 0 label) (parity-counted 1 label)

-- Label 0: label AND row has no ones.

passing-same : (n : ℕ) (p q : ℕ → Bool) → ((x : ℕ) → p x ≡ q x) → passing n p ≡ passing n q
unfolding up_to count keep
passing-same zero p q h = refl
passing-same (suc n) p q h = passing-more n p ∙ ap₂ (λ (m : ℕ) (b : Bool). m + cond b 1 0) (passing-same n p q h) (h n) ∙ sym (passing-more n q)

passing-none : (n : ℕ) → passing n (λ x. false) ≡ 0
unfolding up_to count keep
passing-none zero = refl
passing-none (suc n) = passing-more n (λ x. false) ∙ ap (λ (m : ℕ). m + 0) (passing-none n)

module _ (t : TruthTable) (f : Fault) where
  all-even : (m : ℕ) → rows_passing t (mark_with t f m 0 0) ≡ rows_passing t (mark_is t f m)
  unfolding ones
  all-even m = passing-same (2 ^ t.inputs) (mark_with t f m 0 0) (mark_is t f m) (λ x. kept (mark_is t f m x))
    where
      kept : (b : Bool) → b && true ≡ b
      kept true = refl
      kept false = refl

  none-odd : (m : ℕ) → rows_passing t (mark_with t f m 1 0) ≡ 0
  unfolding ones
  none-odd m = passing-same (2 ^ t.inputs) (mark_with t f m 1 0) (λ x. false) (λ x. lost (mark_is t f m x)) ∙ passing-none (2 ^ t.inputs)
    where
      lost : (b : Bool) → b && false ≡ false
      lost true = refl
      lost false = refl

  pub free-rows-sum : TableRight t → coefficient_of (table_rows t f) 0 ≡ pos (2 * ones_of t f + free_of t f)
  unfolding ones_with free_with ones_of free_of
  free-rows-sum right =
      free-rows-half t f right 0
      ∙ ap₂ (λ (y z : ℤ). y -ℤ z)
      (ap₂ (λ (m n : ℕ). pos (2 * m + n)) (all-even 2) (all-even 1))
      (ap₂ (λ (m n : ℕ). pos (2 * m + n)) (none-odd 2) (none-odd 1))
      ∙ +ℤ_idr (pos (2 * ones_of t f + free_of t f))
