use Rattle.std.proofs.Common.{◌∙◌, subst}
use Rattle.devices.specs.Problems.{Proper}
use Rattle.devices.proofs.Forms.{is_circuit_problem, circuit-inputs, is_table_problem, table-inputs}
use Rattle.devices.proofs.ProblemRows.{circuit-proper, table-proper}
use Rattle.devices.proofs.device.Device.inputs.Goals as goal

pub returns-in-Gates-clause-value : goal.returns-in-Gates-clause-value
returns-in-Gates-clause-value c = c.inputs.ensures.value ∙ circuit-inputs _ _ c.in-Gates.is

pub returns-in-Gates-clause-proper : goal.returns-in-Gates-clause-proper
returns-in-Gates-clause-proper c = subst Proper (is_circuit_problem _ _ c.in-Gates.is) (circuit-proper _ c.inputs.ensures.well_formed)

pub returns-in-Marks-clause-value : goal.returns-in-Marks-clause-value
returns-in-Marks-clause-value c = c.inputs-in-Marks.ensures.value ∙ table-inputs _ _ c.in-Marks.is

pub returns-in-Marks-clause-proper : goal.returns-in-Marks-clause-proper
returns-in-Marks-clause-proper c = subst Proper (is_table_problem _ _ c.in-Marks.is) (table-proper _ c.inputs-in-Marks.ensures.right)
