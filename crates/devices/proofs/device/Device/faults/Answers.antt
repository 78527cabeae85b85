use Rattle.std.proofs.Common.{◌∙◌, ap, length}
use Rattle.devices.proofs.Forms.{circuit-faults, table-faults}
use Rattle.devices.proofs.device.Device.faults.Goals as goal

pub returns-in-Gates : goal.returns-in-Gates
returns-in-Gates c = ap length c.faults.ensures ∙ circuit-faults _ _ c.in-Gates.is

pub returns-in-Marks : goal.returns-in-Marks
returns-in-Marks c = ap length c.faults-in-Marks.ensures.value ∙ table-faults _ _ c.in-Marks.is
