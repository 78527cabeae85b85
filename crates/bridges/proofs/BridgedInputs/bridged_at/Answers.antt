use Rattle.std.proofs.Common.{◌+◌, ◌^◌, ◌<◌, nat_abs, ◌+ℤ◌, of_z, w32, ap, refl, arith}
use Rattle.std.proofs.lemmas.Int.{ints, to_z-of_z}
use Rattle.integer.specs.Tab.{nth}
use Rattle.integer.proofs.Bounds.{nat_abs-add, sfits-abs}
use Rattle.integer.proofs.Machine.{add_is, add_kept}
use Rattle.bridges.specs.Bridges.{pair_sum, half_at}
use Rattle.bridges.proofs.BridgeSteps.{PairRead, pair_read}
use Rattle.bridges.proofs.BridgedInputs.bridged_at.Goals as goal
use Rattle.bridges.proofs.BridgedInputs.bridged_at.Goals.{After-bits-i}

-- what the label has of the two inputs, and what is read for it
read : (c : After-bits-i) → PairRead c.args.self.now.coefficients.now c.args.self.now.first c.args.self.now.second c.bits-i.result.0 c.bits-i.result.1 c.args.label
read c = let s = c.args.self.now in pair_read _ _ _ _ _ _ s.inputs c.bits-i.ensures.0 c.bits-i.ensures.1 s.within c.requires

pub overflow_add-result-then-has-eq0-3 : goal.overflow_add-result-then-has-eq0-3
unfolding half_at
overflow_add-result-then-has-eq0-3 c =
    let s = c.args.self.now in
    let r = read (goal.at.overflow_add-result-then-has-eq0-3 c).After-bits-i in
    rw c.pair_sum-half.ensures (omega (arith, ints, r.half-size, s.within c.args.label c.requires, s.within _ (r.both-in c.if-has-eq0.true)))

pub returns-then-has-eq0 : goal.returns-then-has-eq0
unfolding half_at
returns-then-has-eq0 c =
    let s = c.args.self.now in
    let r = read (goal.at.returns-then-has-eq0 c).After-bits-i in
    let x = nth s.coefficients.now c.args.label in
    let h = half_at s.first s.second (nth s.coefficients.now) c.args.label in
    let room : nat_abs x + nat_abs h < 2 ^ 31 = omega (arith, r.half-size, s.within c.args.label c.requires) in
    let more = nat_abs-add x h in
    rw (c.pair_sum-half.ensures, to_z-of_z w32 (pair_sum s.first s.second (nth s.coefficients.now) c.args.label) (sfits-abs (omega (arith, r.sum-size))), r.at-neither c.if-has-eq0.true)
    (add_kept w32 (x +ℤ h) _ (ap (of_z w32) (add_is w32 x h refl refl room)) refl (omega (arith, r.half-size, s.within c.args.label c.requires, s.within _ (r.both-in c.if-has-eq0.true))))

pub returns-then-has-i : goal.returns-then-has-i
unfolding half_at
returns-then-has-i c =
    let r = read (goal.at.returns-then-has-i c).After-bits-i in
    rw c.pair_sum-half.ensures (omega (arith, ints, r.half-size, r.at_both c.if-has-i.true))

pub returns : goal.returns
unfolding half_at
returns c =
    let r = read (goal.at.returns c).After-bits-i in
    rw c.pair_sum-half.ensures (omega (arith, ints, r.half-size, r.at_one c.if-has-eq0.false c.if-has-i.false))
