use Rattle.std.proofs.Common.{List, ap, ◌∙◌, ◌^◌}
use Rattle.integer.specs.Tab.{tab}
use Rattle.statements.specs.declared.Output.{Output}
use Rattle.simulation.specs.Steps.{values_by}
use Rattle.simulation.proofs.RowValues.{own_rows}
use Rattle.simulation.proofs.rows.Goals as goal

pub returns : goal.returns
returns c =
    c.rows_by.ensures
    ∙ ap (λ (outputs : List Output). tab (2 ^ c.args.c.now.inputs) (values_by outputs c.args.c.now c.args.f)) c.outputs.ensures.value
    ∙ own_rows c.args.c.now c.args.f
