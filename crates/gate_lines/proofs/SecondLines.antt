-- How a gate's second line and the number of its fields are tested, by its kind:
--   second-read                 a second line of every kind but `not`
--   fields-some, fields-right   which numbers of fields pass
use mathlib.Core.Bool.{true}
use mathlib.Core.Path.{◌≡◌, refl, subst}
use Prim.Native.Nat.{ℕ, ◌≤◌}
use native.Mathlib.Omega.{arith}
use borrow.Author.Tests.{eqb-true, eq-eqb}
use Rattle.kinds.specs.declared.Kind.{Kind}
use Rattle.kinds.specs.declared.Kind.TheVariants.{And, Or, Nand, Nor, Xor, Xnor, Not}
use Rattle.fields.specs.Fields.{in_range}
use Rattle.fields.proofs.PlainLines.{range, in-range}
use Rattle.gate_lines.specs.GateLines.{fields_fit, second_fits}

pub second-read : (kind : Kind) (b : ℕ) → (kind ≡ Not → ⊥) → in_range b 1 56 ≡ second_fits kind b
unfolding second_fits
second-read And b h = refl
second-read Or b h = refl
second-read Nand b h = refl
second-read Nor b h = refl
second-read Xor b h = refl
second-read Xnor b h = refl
second-read Not b h = absurd (h refl)

pub fields-some : (kind : Kind) (n : ℕ) → fields_fit kind n ≡ true → (4 ≤ n) × (n ≤ 6) × (kind ≡ Not → n ≡ 4)
unfolding fields_fit
fields-some kind n e = let r = go kind e in (r.0, r.1, λ is. eqb-true n 4 (subst (λ (k : Kind). fields_fit k n ≡ true) is e))
  where
    go : (kind : Kind) → fields_fit kind n ≡ true → (4 ≤ n) × (n ≤ 6)
    go And e = range n 4 6 e
    go Or e = range n 4 6 e
    go Nand e = range n 4 6 e
    go Nor e = range n 4 6 e
    go Xor e = range n 4 6 e
    go Xnor e = range n 4 6 e
    go Not e = let four = eqb-true n 4 e in (omega (arith, four), omega (arith, four))

pub fields-right : (kind : Kind) (n : ℕ) → 4 ≤ n → n ≤ 6 → (kind ≡ Not → n ≡ 4) → fields_fit kind n ≡ true
unfolding fields_fit
fields-right And n low high h = in-range n 4 6 low high
fields-right Or n low high h = in-range n 4 6 low high
fields-right Nand n low high h = in-range n 4 6 low high
fields-right Nor n low high h = in-range n 4 6 low high
fields-right Xor n low high h = in-range n 4 6 low high
fields-right Xnor n low high h = in-range n 4 6 low high
fields-right Not n low high h = eq-eqb n 4 (h refl)
