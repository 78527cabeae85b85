use Rattle.std.proofs.Common.{◌≡◌, ◌-◌, ◌≤◌, ◌∙◌, ℕ, suc, get_or, sym, ap, subst, arith}
use Rattle.integer.specs.Tab.{Within}
use Rattle.screen.specs.Answers.{inputs_of}
use Rattle.faults.specs.Steps.{stuck_once}
use Rattle.faults.proofs.OneStuck.{stuck-from, from-none, from-line, from-within, from_step}
use Rattle.faults.proofs.stick_all.Goals as goal

pub loop-i-init : goal.loop-i-init
loop-i-init c = from-none c.args.a.now c.args.lines.now c.args.values.now

pub stick-requires-clause-le_input : goal.stick-requires-clause-le_input
stick-requires-clause-le_input c =
    let a = c.args in
    let j = c.loop-i.i - 1 in
    let r = from-line a.a.now a.lines.now a.values.now c.requires.lines_len_bound.1 c.requires.lines_value j (omega arith) in
    (r.0, subst (λ (n : ℕ). get_or a.lines.now j 0 ≤ inputs_of n) (sym c.loop-i.auto.a) r.1)

pub stick-requires-clause-within : goal.stick-requires-clause-within
stick-requires-clause-within c =
    let a = c.args in
    subst (Within 16384000) (sym c.loop-i.invariant) (from-within a.a.now a.lines.now a.values.now c.loop-i.i c.requires.lines_len_bound.0 c.requires.within)

pub loop-i-preserved : goal.loop-i-preserved
loop-i-preserved c =
    let a = c.args in
    let j = c.loop-i.i - 1 in
    let e : c.loop-i.i ≡ suc j = omega arith in
    c.stick.ensures
    ∙ ap (stuck_once (get_or a.lines.now j 0) (get_or a.values.now j 0)) (c.loop-i.invariant ∙ ap (stuck-from a.a.now a.lines.now a.values.now) e)
    ∙ from_step a.a.now a.lines.now a.values.now c.requires.lines_len_bound.1 c.requires.lines_value j (omega arith)
