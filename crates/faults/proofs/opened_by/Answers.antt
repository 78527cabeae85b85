use Rattle.std.proofs.Common.{◌≡◌, ◌∙◌, List, ℤ, true, length, sym, ap, arith}
use mathlib.Core.Path.{subst⁻¹}
use lib.Seq.{length-take-le}
use Rattle.screen.specs.Answers.{inputs_of, answer_of}
use Rattle.results.specs.Results.{leaves}
use Rattle.faults.specs.Faults.{rising_inputs}
use Rattle.faults.proofs.Arguments.{opened-call, rising-after}
use Rattle.faults.proofs.Calls.{Lines, as_many, divisor-few, inside, call-answer-is, quotients-are}
use Rattle.faults.proofs.opened_by.Goals as goal

pub slice_bounds-lines-end : goal.slice_bounds-lines-end
slice_bounds-lines-end c = (opened-call c.args.coefficients.now c.args.values.now c.args.kept c.requires.kept).few

pub slice_bounds-stick_all-end : goal.slice_bounds-stick_all-end
slice_bounds-stick_all-end c = as_many c.args.coefficients.now c.args.values.now c.args.kept c.requires.kept

pub stick_all-requires-clause-lines_len_bound : goal.stick_all-requires-clause-lines_len_bound
stick_all-requires-clause-lines_len_bound c =
    let few = (opened-call c.args.coefficients.now c.args.values.now c.args.kept c.requires.kept).few in
    let e = as_many c.args.coefficients.now c.args.values.now c.args.kept c.requires.kept in
    (omega arith, e)

pub stick_all-requires-clause-lines_value : goal.stick_all-requires-clause-lines_value
stick_all-requires-clause-lines_value c =
    let a = c.args in
    let k = opened-call a.coefficients.now a.values.now a.kept c.requires.kept in
    let parts = k.parts in
    subst⁻¹ (λ (l : List ℤ). rising_inputs 0 (inputs_of (length l)) (Lines a.coefficients.now a.values.now a.kept c.requires.kept) ≡ true) c.widen.ensures
    (rising-after a.kept (inputs_of (length a.coefficients.now)) (length a.values.now) k.few (omega arith))

pub overflow_shl-divisor : goal.overflow_shl-divisor
overflow_shl-divisor c = let few = (opened-call c.args.coefficients.now c.args.values.now c.args.kept c.requires.kept).few in omega arith

pub slice_bounds-divided-end : goal.slice_bounds-divided-end
slice_bounds-divided-end c = inside c.args.coefficients.now c.args.values.now c.args.kept c.requires.kept c.stick_all.new.a c.stick_all.ensures c.widen.ensures

pub slice_bounds-divided-end-2 : goal.slice_bounds-divided-end-2
slice_bounds-divided-end-2 c =
    let a = c.args in
    sym (length-take-le _ _ (inside a.coefficients.now a.values.now a.kept c.requires.kept c.stick_all.new.a c.stick_all.ensures c.widen.ensures))

pub divided-requires-clause-le_divisor : goal.divided-requires-clause-le_divisor
divided-requires-clause-le_divisor c = divisor-few c.args.coefficients.now c.args.values.now c.args.kept c.requires.kept

pub returns-clause-value : goal.returns-clause-value
returns-clause-value c =
    let a = c.args in
    c.divided.ensures.value
    ∙ call-answer-is a.coefficients.now a.values.now a.kept c.requires.kept c.stick_all.new.a c.stick_all.ensures c.widen.ensures c.requires.within

pub returns-clause-out_after : goal.returns-clause-out_after
returns-clause-out_after c =
    let a = c.args in
    c.divided.ensures.out_after
    ∙ ap (λ (l : List ℤ). leaves (answer_of c.divided.result) l a.out.now)
    (quotients-are a.coefficients.now a.values.now a.kept c.requires.kept c.stick_all.new.a c.stick_all.ensures c.widen.ensures)
