use Rattle.std.proofs.Common.{◌≡◌, ◌+◌, ◌^◌, ◌<◌, ◌∙◌, ap, refl, ℕ, nat_abs, length, arith}
use Rattle.std.proofs.lemmas.Int.{ints}
use Rattle.integer.specs.Sum.{sum_to}
use Rattle.integer.specs.Tab.{nth}
use Rattle.transform.specs.Spectrum.{signed_sum, coefficient_of}
use Rattle.transform.proofs.Terms.{term-room, more-even, more-odd}
use Rattle.walsh.proofs.direct.signed_sum.Goals.{In-loop-i, then-label-x-eq0, else-label-x-eq0}
use Rattle.walsh.proofs.direct.signed_sum.Goals as goal

-- one more term fits
room : (c : In-loop-i) → nat_abs (signed_sum c.loop-i.i (nth c.args.rows.now) c.args.label) + nat_abs (nth c.args.rows.now c.loop-i.i) < 2 ^ 31
room c = term-room c.args.rows.now c.args.label c.loop-i.i c.requires.rows_len_bound c.requires.within c.loop-i-test.true

pub loop-i-init : goal.loop-i-init
unfolding sum_to signed_sum
loop-i-init c = refl

pub overflow_add-sum : goal.overflow_add-sum
overflow_add-sum c = omega (arith, ints, room (goal.at.overflow_add-sum c).In-loop-i)

pub overflow_sub-sum : goal.overflow_sub-sum
overflow_sub-sum c = omega (arith, ints, room (goal.at.overflow_sub-sum c).In-loop-i)

pub loop-i-preserved : goal.loop-i-preserved
loop-i-preserved c =
    let f = nth c.args.rows.now in
    let fits = room (goal.at.loop-i-preserved c).In-loop-i in
    elim c.if-label-x-eq0.branch [
      | then-label-x-eq0 w ↦ let e = more-even f c.args.label c.loop-i.i w.if-label-x-eq0.true in omega (arith, ints)
      | else-label-x-eq0 w ↦ let e = more-odd f c.args.label c.loop-i.i w.if-label-x-eq0.false in omega (arith, ints)
    ]

pub returns : goal.returns
unfolding coefficient_of
returns c =
    let n : c.loop-i.i ≡ length c.args.rows.now = omega arith in
    c.loop-i.invariant ∙ ap (λ (k : ℕ). signed_sum k (nth c.args.rows.now) c.args.label) n
