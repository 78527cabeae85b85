use Rattle.std.proofs.Common.{◌≡◌, ◌++◌, ◌∙◌, ℕ, length, drop, refl, sym, ap, w32, arith}
use Rattle.std.proofs.lemmas.Int.{to_z-of_z}
use Rattle.integer.specs.Tab.{tab, nth}
use Rattle.integer.proofs.Tabs.{write-turn, length-tab}
use Rattle.bridges.specs.Bridges.{bridged_at, bridged_spectrum_of}
use Rattle.bridges.proofs.BridgedInputs.bridge.Goals as goal

pub loop-label-init : goal.loop-label-init
unfolding tab
loop-label-init c = refl

pub loop-label-preserved : goal.loop-label-preserved
loop-label-preserved c =
    let a = c.args in
    write-turn a.out.now c.loop-label.out (bridged_at a.self.now.first a.self.now.second (nth a.self.now.coefficients.now)) c.loop-label.label _ (omega (arith, c.requires)) c.loop-label.invariant
    (to_z-of_z w32 c.bridged_at.result (record { sfits = c.bridged_at.type_inv }) ∙ c.bridged_at.ensures)

pub returns : goal.returns
unfolding bridged_spectrum_of
returns c =
    let a = c.args in
    let f = bridged_at a.self.now.first a.self.now.second (nth a.self.now.coefficients.now) in
    let n : c.loop-label.label ≡ length a.self.now.coefficients.now = omega arith in
    c.loop-label.invariant ∙ ap (λ (k : ℕ). tab k f ++ drop k a.out.now) n
    ∙ ap (λ (k : ℕ). tab (length a.self.now.coefficients.now) f ++ drop k a.out.now) (sym (length-tab (length a.self.now.coefficients.now) f))
