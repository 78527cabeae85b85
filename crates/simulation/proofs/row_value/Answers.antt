use Rattle.std.proofs.Common.{rules, arith, ℕ, ℤ, ◌≡◌, length, get_or, w16, ap, ap₂, ◌∙◌}
use mir.ValLaws.{to_z-of_z}
use Rattle.integer.specs.Sum.{sum_to}
use Rattle.statements.specs.Items.{no_output}
use Rattle.simulation.specs.Rows.{weighed}
use Rattle.simulation.specs.Steps.{read_term, read_sum}
use Rattle.columns.specs.Steps.{shown_at}
use Rattle.simulation.proofs.RowValues.{sum_room, sum_more, sum-small, sum_turn}
use Rattle.simulation.proofs.row_value.Goals as goal

pub loop-output-init : goal.loop-output-init
unfolding sum_to
loop-output-init c = search rules

pub loop-output-preserved : goal.loop-output-preserved
loop-output-preserved c =
    let k = c.loop-output.output-index in
    let t = read_term c.args.values.now c.args.outputs.now c.args.x in
    let z = c.weigh-sum.result in
    let is-term : z ≡ t k =
    c.weigh-sum.ensures.0
    ∙ ap₂ (λ (i : ℕ) (y : ℤ). weighed (shown_at c.args.values.now i c.args.x) y) c.slot-at.ensures.0 (to_z-of_z w16 (get_or c.args.outputs.now k no_output).weight (search rules)) in
    let small = c.loop-output.invariant.1 in (
      sum_turn _ z (sum_to k t) c.loop-output.invariant.0 (record { sfits = c.weigh-sum.type_inv }) (sum_room t k z small c.weigh-sum.ensures.1 (omega arith)) ∙ sum_more t k z is-term,
      sum-small t k z small c.weigh-sum.ensures.1 is-term,
    )

pub returns : goal.returns
unfolding read_sum
returns c =
    let e : c.loop-output.output-index ≡ length c.args.outputs.now = omega arith in
    c.loop-output.invariant.0 ∙ ap (λ (k : ℕ). sum_to k (read_term c.args.values.now c.args.outputs.now c.args.x)) e
