use Rattle.std.proofs.Common.{◌≡◌, ◌∙◌, length, ap, rules, arith}
use Rattle.std.proofs.lemmas.Grind.{common_steps}
use Rattle.refusals.specs.Refusals.{refusal_number, refusal_place}
use Rattle.screen.specs.Answers.{Answer, Refused, answer_of, and_then}
use Rattle.faults.specs.Faults.{opened_answer, undivided_answer}
use Rattle.faults.proofs.Calls.{screened-is, kept-screened}
use Rattle.faults.proofs.opened.Goals as goal

pub returns-in_err-kept-clause-value : goal.returns-in_err-kept-clause-value
unfolding opened_answer
returns-in_err-kept-clause-value c =
    let a = c.args in
    let s = kept-screened a.coefficients.now a.values.now (length a.out.now) _ _ c.in_err-kept.ensures.value in
    let e : answer_of c.from_residual.result ≡ Refused (refusal_number c.in_err-kept.field-0.0) (refusal_place c.in_err-kept.field-0.0) = grind (arith, common_steps) in
    e ∙ ap (λ (r : Answer). and_then r (undivided_answer a.coefficients.now a.values.now)) s

pub returns-in_err-screen-clause-value : goal.returns-in_err-screen-clause-value
unfolding opened_answer
returns-in_err-screen-clause-value c =
    let a = c.args in
    let s = screened-is a.coefficients.now a.values.now _ c.in_ok-kept.ensures.kept (length a.out.now) c.in_err-screen.ensures.value in
    let e : answer_of c.from_residual-in_err-screen.result ≡ Refused (refusal_number c.in_err-screen.field-0.0) (refusal_place c.in_err-screen.field-0.0) = search rules in
    e ∙ ap (λ (r : Answer). and_then r (undivided_answer a.coefficients.now a.values.now)) s
