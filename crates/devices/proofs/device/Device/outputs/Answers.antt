use Rattle.std.proofs.Common.{◌∙◌, ◌^◌, arith, ap, sym, ℕ}
use Rattle.simulation.specs.Rows.{outputs_of}
use Rattle.devices.proofs.Forms.{circuit-inputs, circuit-faults, circuit-outputs-at, table-outputs-at}
use Rattle.devices.proofs.device.Device.outputs.Goals as goal

pub fault-requires : goal.fault-requires
fault-requires c = omega (arith, c.requires.0, circuit-faults _ _ c.in-Gates.is)

pub outputs-requires : goal.outputs-requires
outputs-requires c = c.requires.1 ∙ ap (λ (n : ℕ). 2 ^ n) (sym (circuit-inputs _ _ c.in-Gates.is))

pub returns-in-Gates : goal.returns-in-Gates
returns-in-Gates c =
    c.outputs.ensures
    ∙ ap (outputs_of c.in-Gates.circuit) c.fault.ensures
    ∙ circuit-outputs-at _ _ c.in-Gates.is c.args.fault (omega (arith, c.requires.0, circuit-faults _ _ c.in-Gates.is))

pub returns-in-Marks : goal.returns-in-Marks
returns-in-Marks c = c.rows.ensures ∙ table-outputs-at _ _ c.in-Marks.is c.args.fault
