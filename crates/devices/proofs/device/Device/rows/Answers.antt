use Rattle.std.proofs.Common.{◌∙◌, ◌^◌, arith, ap, sym, subst, ℕ}
use Rattle.simulation.specs.Rows.{rows_of}
use Rattle.lookup.specs.TableRows.{table_rows}
use Rattle.lookup.specs.StuckPairs.{OfInputs}
use Rattle.lookup.proofs.RowsOfTables.{table-fault-of-inputs}
use Rattle.devices.proofs.Forms.{circuit-inputs, circuit-faults, circuit-rows-at, table-inputs, table-faults, table-rows-at}
use Rattle.devices.proofs.device.Device.rows.Goals as goal

pub fault-requires : goal.fault-requires
fault-requires c = omega (arith, c.requires.0, circuit-faults _ _ c.in-Gates.is)

pub rows-requires : goal.rows-requires
rows-requires c = c.requires.1 ∙ ap (λ (n : ℕ). 2 ^ n) (sym (circuit-inputs _ _ c.in-Gates.is))

pub fault-requires-in-Marks : goal.fault-requires-in-Marks
fault-requires-in-Marks c = omega (arith, c.requires.0, table-faults _ _ c.in-Marks.is)

pub rows-requires-in-Marks : goal.rows-requires-in-Marks
rows-requires-in-Marks c =
    let f = c.fault-in-Marks.ensures in (
      subst (OfInputs c.in-Marks.table.inputs) (sym f.value) (table-fault-of-inputs c.in-Marks.table c.args.fault f.right),
      c.requires.1 ∙ ap (λ (n : ℕ). 2 ^ n) (sym (table-inputs _ _ c.in-Marks.is)),
    )

pub returns-in-Gates : goal.returns-in-Gates
returns-in-Gates c =
    c.rows.ensures
    ∙ ap (rows_of c.in-Gates.circuit) c.fault.ensures
    ∙ circuit-rows-at _ _ c.in-Gates.is c.args.fault (omega (arith, c.requires.0, circuit-faults _ _ c.in-Gates.is))

pub returns-in-Marks : goal.returns-in-Marks
returns-in-Marks c =
    c.rows-in-Marks.ensures
    ∙ ap (table_rows c.in-Marks.table) c.fault-in-Marks.ensures.value
    ∙ table-rows-at _ _ c.in-Marks.is c.args.fault (omega (arith, c.requires.0, table-faults _ _ c.in-Marks.is))
