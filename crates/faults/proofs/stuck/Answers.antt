use Rattle.std.proofs.Common.{◌≡◌, ◌∙◌, List, ℤ, true, length, sym, ap, arith}
use mathlib.Core.Path.{subst⁻¹}
use Rattle.integer.specs.Tab.{Within}
use Rattle.integer.proofs.Bounds.{within_more}
use Rattle.screen.specs.Answers.{inputs_of}
use Rattle.faults.specs.Faults.{stuck_of, stuck_spectrum_of, rising_inputs}
use Rattle.faults.proofs.Arguments.{StuckRight, stuck-right-means, length-stuck-of}
use Rattle.faults.proofs.Sticking.{within-stuck}
use Rattle.faults.proofs.stuck.Goals as goal
use Rattle.faults.proofs.stuck.Goals.{In_ok-screen}

-- what the lines and their values are, since `screen` passed
right : (c : In_ok-screen) → StuckRight (inputs_of (length c.args.coefficients.now)) c.args.inputs.now c.args.values.now
right c = stuck-right-means _ _ _ (sym c.stuck_right-right.ensures ∙ c.in_ok-screen.ensures.ready.right)

pub stick_all-requires-clause-lines_len_bound : goal.stick_all-requires-clause-lines_len_bound
stick_all-requires-clause-lines_len_bound c = let r = right (goal.at.stick_all-requires-clause-lines_len_bound c).In_ok-screen in (r.few, r.even)

pub stick_all-requires-clause-lines_value : goal.stick_all-requires-clause-lines_value
stick_all-requires-clause-lines_value c =
    let a = c.args in
    subst⁻¹ (λ (l : List ℤ). rising_inputs 0 (inputs_of (length l)) a.inputs.now ≡ true) c.widen.ensures
    (right (goal.at.stick_all-requires-clause-lines_value c).In_ok-screen).rise

pub narrow-requires-clause-within : goal.narrow-requires-clause-within
narrow-requires-clause-within c =
    let a = c.args in
    let lines = stuck_of a.inputs.now a.values.now in
    let few = (right (goal.at.narrow-requires-clause-within c).In_ok-screen).few in
    subst⁻¹ (Within 2147483647) (c.stick_all.ensures ∙ ap (stuck_spectrum_of lines) c.widen.ensures)
    (within_more (stuck_spectrum_of lines a.coefficients.now) (omega arith)
    (within-stuck lines 2048000 a.coefficients.now (omega (arith, length-stuck-of a.inputs.now a.values.now)) c.in_ok-screen.ensures.ready.within))
