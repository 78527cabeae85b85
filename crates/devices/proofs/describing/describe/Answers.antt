use Rattle.std.proofs.Common.{◌∙◌, sym, ap}
use Rattle.sections.proofs.HandedOn.{handed-on}
use Rattle.devices.specs.Describing.{of_circuit, of_table}
use Rattle.devices.proofs.Descriptions.{table-text, circuit-text}
use Rattle.devices.proofs.describing.describe.Goals as goal

pub returns-in_err-parse : goal.returns-in_err-parse
returns-in_err-parse c =
    rw (handed-on c.from_residual.ensures.1) (ap of_table c.in_err-parse.ensures ∙ sym (table-text c.args.text.now (sym c.is_table.ensures ∙ c.if-is_table.true)))

pub returns-then-is_table : goal.returns-then-is_table
returns-then-is_table c =
    rw c.from.ensures (ap of_table c.in_ok-parse.ensures ∙ sym (table-text c.args.text.now (sym c.is_table.ensures ∙ c.if-is_table.true)))

pub returns-in_err-parse-2 : goal.returns-in_err-parse-2
returns-in_err-parse-2 c =
    rw (handed-on c.from_residual-in_err-parse-2.ensures.1) (ap of_circuit c.in_err-parse-2.ensures ∙ sym (circuit-text c.args.text.now (sym c.is_table.ensures ∙ c.if-is_table.false)))

pub returns : goal.returns
returns c =
    rw c.from-2.ensures (ap of_circuit c.in_ok-parse-2.ensures ∙ sym (circuit-text c.args.text.now (sym c.is_table.ensures ∙ c.if-is_table.false)))
