use Rattle.std.proofs.Common.{◌∙◌}
use Rattle.devices.proofs.Forms.{circuit-cap, table-cap}
use Rattle.devices.proofs.device.Device.cap.Goals as goal

pub returns-in-Gates : goal.returns-in-Gates
returns-in-Gates c = c.cap.ensures ∙ circuit-cap _ _ c.in-Gates.is

pub returns-in-Marks : goal.returns-in-Marks
returns-in-Marks c = c.cap-in-Marks.ensures ∙ table-cap _ _ c.in-Marks.is
