use Rattle.std.proofs.Common.{List, ap, ◌∙◌, ◌^◌}
use Rattle.integer.specs.Tab.{tab}
use Rattle.statements.specs.declared.Output.{Output}
use Rattle.simulation.specs.Steps.{values_by, with_bits}
use Rattle.simulation.proofs.OutputsShown.{rows-with-bits}
use Rattle.simulation.proofs.outputs.Goals as goal

pub returns : goal.returns
returns c =
    c.rows_by.ensures
    ∙ ap (λ (outputs : List Output). tab (2 ^ c.args.c.now.inputs) (values_by outputs c.args.c.now c.args.f)) (c.with_bits.ensures ∙ ap with_bits c.outputs-outputs.ensures.value)
    ∙ rows-with-bits c.args.c.now c.args.f
