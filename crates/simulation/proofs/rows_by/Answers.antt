use Rattle.std.proofs.Common.{arith, length, ◌∙◌}
use Rattle.simulation.proofs.Columns.{blank-columns}
use Rattle.simulation.proofs.RowValues.{rows-read, row-count-few}
use Rattle.simulation.proofs.rows_by.Goals as goal

pub input_columns-requires : goal.input_columns-requires
input_columns-requires c =
    let w = c.inputs.ensures.well_formed in
    (omega (arith, w.inputs-high), omega (arith, row-count-few c.args.c.now w), blank-columns 14848 _ c.args.f)

pub returns : goal.returns
returns c =
    c.row_values.ensures
    ∙ rows-read c.args.c.now c.args.f (length c.args.out.now) c.inputs.ensures.well_formed c.gate_columns.ensures c.args.outputs.now c.requires.1
