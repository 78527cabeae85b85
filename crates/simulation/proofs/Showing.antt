-- What lines show (document 01, "Rows"; document 02, note 8):
--   pairs-show       under a fault of stuck lines each line that it names shows its VALUE, whatever was applied or computed
--   others_keep      a line that it does not name shows what was applied or computed
--   sound-keeps      in the sound circuit every line does
--   unbridged-shown  an input gets what is applied to it where there is no bridge
--   bridge-shows     under a bridge both its inputs show the AND of what is applied to them, and all else is as in the sound circuit
use mathlib.Core.Path.{◌≡◌, refl, ap, ◌∙◌}
use mathlib.Core.Bool.{Bool, true, ◌&&◌}
use mathlib.Core.Logic.{inl, inr}
use Prim.Native.Nat.{ℕ, ◌+◌, ◌-◌, ◌≤◌}
use native.Mathlib.Omega.{arith}
use borrow.Author.Tests.{eq-eqb, ne_eqb}
use Rattle.sections.specs.FaultLines.{Above, StuckFault, BridgeFault}
use Rattle.sections.proofs.FaultsRight.{free-line}
use Rattle.statements.specs.Items.{no_bridge, sound}
use Rattle.statements.specs.Items.{Fault}
use Rattle.columns.specs.Shown.{stuck_or, shown, applied, joins}
use Rattle.columns.proofs.AppliedInputs.{applied-joined, applied-apart, applied-unbridged}
use Rattle.simulation.specs.Rows.{input_shown}

module _ (f : Fault) (v : Bool) where
  first-shows : shown f f.first.line v ≡ f.first.value
  unfolding shown stuck_or
  first-shows = rw (eq-eqb f.first.line f.first.line refl)

  second-shows : (f.first.line ≡ f.second.line → ⊥) → shown f f.second.line v ≡ f.second.value
  unfolding shown stuck_or
  second-shows n = rw (ne_eqb f.first.line f.second.line n, eq-eqb f.second.line f.second.line refl)

  third-shows : (f.first.line ≡ f.third.line → ⊥) → (f.second.line ≡ f.third.line → ⊥) → shown f f.third.line v ≡ f.third.value
  unfolding shown stuck_or
  third-shows n m = rw (ne_eqb f.first.line f.third.line n, ne_eqb f.second.line f.third.line m, eq-eqb f.third.line f.third.line refl)

  pub others_keep : (line : ℕ) → (f.first.line ≡ line → ⊥) → (f.second.line ≡ line → ⊥) → (f.third.line ≡ line → ⊥) → shown f line v ≡ v
  unfolding shown stuck_or
  others_keep line a b c = rw (ne_eqb f.first.line line a, ne_eqb f.second.line line b, ne_eqb f.third.line line c)

pub sound-keeps : (line : ℕ) (v : Bool) → 1 ≤ line → shown sound line v ≡ v
sound-keeps line v h = others_keep sound v line (λ e. absurd (omega arith)) (λ e. absurd (omega arith)) (λ e. absurd (omega arith))

-- a pair names no line where its line is 0
pub record PairsShow (f : Fault) (v : Bool) : Type 0 where
  pub first : shown f f.first.line v ≡ f.first.value
  pub second : 1 ≤ f.second.line → shown f f.second.line v ≡ f.second.value
  pub third : 1 ≤ f.third.line → shown f f.third.line v ≡ f.third.value

pub pairs-show : (top : ℕ) (f : Fault) (v : Bool) → StuckFault top f → PairsShow f v
pairs-show top f v r = record { first = first-shows f v; second = two r.second; third = three r.second r.third }
  where
    two : Above f.first.line top f.second → 1 ≤ f.second.line → shown f f.second.line v ≡ f.second.value
    two (inl none) h = absurd (omega (arith, free-line none))
    two (inr some) h = second-shows f v (λ e. absurd (omega (arith, some.0)))

    three : Above f.first.line top f.second → Above f.second.line top f.third → 1 ≤ f.third.line → shown f f.third.line v ≡ f.third.value
    three s (inl none) h = absurd (omega (arith, free-line none))
    three (inl gap) (inr some) h = absurd (omega (arith, r.no_gap (free-line gap)))
    three (inr before) (inr some) h = third-shows f v (λ e. absurd (omega (arith, before.0, some.0))) (λ e. absurd (omega (arith, some.0)))

pub unbridged-shown : (f : Fault) (x i : ℕ) → f.bridge ≡ no_bridge → input_shown f x i ≡ shown f (i + 1) (applied x i)
unbridged-shown f x i none = ap (shown f (i + 1)) (applied-unbridged f.bridge x i none)

-- inputs count from 1 in a bridge, and from 0 in a row
pub record BridgeShows (f : Fault) (x : ℕ) : Type 0 where
  pub first : input_shown f x (f.bridge.first - 1) ≡ (applied x (f.bridge.first - 1) && applied x (f.bridge.second - 1))
  pub second : input_shown f x (f.bridge.second - 1) ≡ (applied x (f.bridge.first - 1) && applied x (f.bridge.second - 1))
  pub others : (i : ℕ) → (f.bridge.first ≡ i + 1 → ⊥) → (f.bridge.second ≡ i + 1 → ⊥) → input_shown f x i ≡ applied x i
  pub lines : (line : ℕ) (v : Bool) → 1 ≤ line → shown f line v ≡ v

pub bridge-shows : (inputs : ℕ) (f : Fault) (x : ℕ) → BridgeFault inputs f → BridgeShows f x
bridge-shows inputs f x b =
    record {
      first = keeps (f.bridge.first - 1 + 1) _ (omega arith) ∙ applied-joined f.bridge x (f.bridge.first - 1) first-in;
      second = keeps (f.bridge.second - 1 + 1) _ (omega arith) ∙ applied-joined f.bridge x (f.bridge.second - 1) second-in;
      others = λ i n m. keeps (i + 1) _ (omega arith) ∙ applied-apart f.bridge x i (rw (ne_eqb f.bridge.first (i + 1) n, ne_eqb f.bridge.second (i + 1) m));
      lines = keeps;
    }
  where
    keeps : (line : ℕ) (v : Bool) → 1 ≤ line → shown f line v ≡ v
    keeps line v h =
        let first = free-line b.no-first in
        let second = free-line b.no_second in
        let third = free-line b.no_third in
        others_keep f v line (λ e. absurd (omega arith)) (λ e. absurd (omega arith)) (λ e. absurd (omega arith))

    first-in : joins f.bridge (f.bridge.first - 1) ≡ true
    first-in = let low = b.first-low in rw (eq-eqb f.bridge.first (f.bridge.first - 1 + 1) (omega arith))

    second-in : joins f.bridge (f.bridge.second - 1) ≡ true
    second-in =
        let low = b.first-low in
        let rise = b.rise in
        rw (ne_eqb f.bridge.first (f.bridge.second - 1 + 1) (λ e. absurd (omega arith)), eq-eqb f.bridge.second (f.bridge.second - 1 + 1) (omega arith))
