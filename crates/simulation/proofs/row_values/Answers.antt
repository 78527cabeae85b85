use Rattle.std.proofs.Common.{rules, arith, ◌∙◌, w32}
use mir.ValLaws.{to_z-of_z}
use Rattle.integer.specs.Tab.{tab}
use Rattle.integer.proofs.Tabs.{write-turn}
use Rattle.simulation.specs.Steps.{read_sum}
use Rattle.simulation.proofs.row_values.Goals as goal

pub loop-x-init : goal.loop-x-init
unfolding tab
loop-x-init c = search rules

pub loop-x-preserved : goal.loop-x-preserved
loop-x-preserved c =
    write-turn c.args.out.now c.loop-x.out (read_sum c.args.values.now c.args.outputs.now) c.loop-x.x _ (omega arith) c.loop-x.invariant
    (to_z-of_z w32 c.row_value.result (record { sfits = c.row_value.type_inv }) ∙ c.row_value.ensures)
