use Rattle.std.proofs.Common.{ℕ, ◌∙◌, length, sym, ap, arith}
use Rattle.integer.specs.Counting.{up_to}
use Rattle.search.specs.Sets.{plan_of}
use Rattle.search.specs.Steps.{clears, set_at}
use Rattle.search.proofs.Searching.{size-took, size-left-out}
use Rattle.search.proofs.SetsBySize.{plan-start, plan-end}
use Rattle.search.proofs.find.Goals as goal

pub loop-size-init : goal.loop-size-init
loop-size-init c =
    let a = c.args in
    let places = up_to (length a.masks.now) in
    ap (λ (m : ℕ). plan_of (clears a.masks.now m) places a.cap) (sym c.full-missing.ensures) ∙ plan-start (clears a.masks.now c.full-missing.result) places a.cap

pub returns-in-Some : goal.returns-in-Some
returns-in-Some c =
    let a = c.args in
    let l = c.loop-size in
    (size-took _ _ _ a.cap l.size (omega (arith, c.loop-size-test.true)) _ c.choose.ensures (omega (arith, c.loop-size-test.true)) _ c.in-Some.is).1 ∙ sym (ap (set_at a.labels.now) l.invariant)

pub invariant_of-result : goal.invariant_of-result
invariant_of-result c =
    record {
      few = omega (arith, c.loop-size-test.true);
      rest = (size-took _ _ _ c.args.cap c.loop-size.size (omega (arith, c.loop-size-test.true)) _ c.choose.ensures (omega (arith, c.loop-size-test.true)) _ c.in-Some.is).0;
    }

pub loop-size-preserved : goal.loop-size-preserved
loop-size-preserved c =
    let l = c.loop-size in
    l.invariant ∙ size-left-out _ _ _ c.args.cap l.size (omega (arith, c.loop-size-test.true)) _ c.choose.ensures c.in_default.is

pub returns : goal.returns
returns c =
    let a = c.args in
    let l = c.loop-size in
    sym (ap (set_at a.labels.now) (l.invariant ∙ plan-end (clears a.masks.now c.full-missing.result) (up_to (length a.masks.now)) a.cap l.size (omega (arith, c.loop-size-test.false))))
