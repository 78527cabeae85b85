-- Document 004's equation (8) as document 01 takes it, "c - a (ones of even parity less ones of odd)":
--   even-less-odd    a coefficient is the sum of the rows at which label AND row has an even number of ones, less the sum of the others
use mathlib.Core.Bool.{cond}
use mathlib.Core.List.{List}
use mathlib.Core.Path.{◌≡◌, sym, ap, ◌∙◌}
use Prim.Native.Nat.{ℕ, zero, suc, ◌<◌}
use native.Mathlib.Omega.{arith}
use lib.Dec.{eqb}
use lib.IntN.{ℤ, pos, ◌+ℤ◌, ◌-ℤ◌, neg_ℤ, +ℤ_idl, +ℤ_idr}
use lib.ListN.{length}
use Rattle.integer.specs.Sum.{sum_to, signed}
use Rattle.integer.specs.Tab.{nth}
use Rattle.integer.proofs.Sums.{sum-ext, sum-add, sum-neg}
use Rattle.transform.specs.Spectrum.{sign, term_of, signed_sum, coefficient_of}

-- the row's value where its sign at the label is p, 0 for + and 1 for -, and else nothing
abbrev pub of_parity : ℕ → List ℤ → ℕ → ℕ → ℤ
of_parity p rows label x = cond (eqb (sign label x) p) (nth rows x) (pos 0)

pub even-less-odd : (rows : List ℤ) (label : ℕ)
    → coefficient_of rows label ≡ sum_to (length rows) (of_parity 0 rows label) -ℤ sum_to (length rows) (of_parity 1 rows label)
unfolding coefficient_of signed_sum term_of
even-less-odd rows label =
    sum-ext n _ (λ x. even x +ℤ neg_ℤ (odd x)) (λ x l. separated (sign label x) (nth rows x) (omega arith))
    ∙ sum-add n even (λ x. neg_ℤ (odd x)) ∙ ap (λ (z : ℤ). sum_to n even +ℤ z) (sum-neg n odd)
  where
    n : ℕ
    n = length rows

    even : ℕ → ℤ
    even = of_parity 0 rows label

    odd : ℕ → ℤ
    odd = of_parity 1 rows label

    separated : (p : ℕ) (z : ℤ) → p < 2 → signed p z ≡ cond (eqb p 0) z (pos 0) +ℤ neg_ℤ (cond (eqb p 1) z (pos 0))
    separated zero z l = sym (+ℤ_idr z)
    separated (suc zero) z l = sym (+ℤ_idl (neg_ℤ z))
    separated (suc (suc p)) z l = absurd (omega arith)
