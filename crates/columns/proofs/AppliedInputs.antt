-- What an input gets under a bridge (document 02, note 8: "Both inputs then show the AND of what is applied."):
--   applied-joined      either input that the bridge joins gets the AND of what is applied to both
--   applied-apart       every other input what is applied to it
--   applied-unbridged   and so does every input where there is no bridge
--   applied-both        the AND of two inputs is the lowest bit of the row, shifted by each
use mathlib.Core.Path.{◌≡◌, sym, ap, ap₂, ◌∙◌}
use mathlib.Core.Bool.{Bool, true, false, ◌&&◌}
use Prim.Native.Nat.{ℕ, ◌+◌, ◌-◌, ◌/◌, ◌%◌, ◌^◌}
use native.Mathlib.Nat.{div-one}
use native.Mathlib.Omega.{arith}
use lib.Bits.{bit_and}
use lib.Dec.{eqb}
use borrow.Author.Tests.{ne_eqb}
use Rattle.integer.specs.Mask.{bit}
use Rattle.integer.proofs.Masks.{bit-and}
use Rattle.statements.specs.Items.{no_bridge}
use Rattle.statements.specs.declared.Bridge.{Bridge}
use Rattle.columns.specs.Shown.{applied, joins, applied_under}

module _ (b : Bridge) (x i : ℕ) where
  pub applied-joined : joins b i ≡ true → applied_under b x i ≡ (applied x (b.first - 1) && applied x (b.second - 1))
  unfolding applied_under
  applied-joined e = rw e

  pub applied-apart : joins b i ≡ false → applied_under b x i ≡ applied x i
  unfolding applied_under
  applied-apart e = rw e

  pub applied-unbridged : b ≡ no_bridge → applied_under b x i ≡ applied x i
  applied-unbridged none = applied-apart (ap (λ (c : Bridge). joins c i) none ∙ rw (ne_eqb 0 (i + 1) (λ e. absurd (omega arith))))

pub applied-both : (x p q : ℕ) → eqb (bit_and (x / 2 ^ p) (x / 2 ^ q) % 2) 1 ≡ (applied x p && applied x q)
unfolding bit
applied-both x p q =
    lowest (bit_and (x / 2 ^ p) (x / 2 ^ q)) ∙ bit-and (x / 2 ^ p) (x / 2 ^ q) 0 ∙ ap₂ (λ (a b : Bool). a && b) (sym (lowest (x / 2 ^ p))) (sym (lowest (x / 2 ^ q)))
  where
    lowest : (y : ℕ) → eqb (y % 2) 1 ≡ bit y 0
    lowest y = ap (λ (z : ℕ). eqb (z % 2) 1) (sym (div-one y))
