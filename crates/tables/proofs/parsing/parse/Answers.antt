use Rattle.std.proofs.Common.{rules, arith, ap, subst, ◌∙◌}
use Rattle.sections.proofs.HandedOn.{handed-on}
use Rattle.tables.specs.TableHeads.{TableHeadRight}
use Rattle.tables.specs.TableParsing.{table_body}
use Rattle.tables.proofs.TableAcceptance.{table-head-fits}
use Rattle.tables.proofs.TableAssembling.{table-too-long, table-no-head, table-head-stop, table-head-passed}
use Rattle.tables.proofs.parsing.parse.Goals as goal

pub returns-then-text-gt-TEXT_BYTES : goal.returns-then-text-gt-TEXT_BYTES
returns-then-text-gt-TEXT_BYTES c = table-too-long c.args.text.now (omega arith)

pub returns-in_err-line : goal.returns-in_err-line
returns-in_err-line c =
    rw (handed-on c.from_residual.ensures.1) (table-no-head c.args.text.now (omega arith) c.in_err-line.field-0.0 c.in_err-line.ensures)

pub returns-in_err-head : goal.returns-in_err-head
returns-in_err-head c =
    rw (handed-on c.from_residual-in_err-head.ensures.1) (table-head-stop c.args.text.now (omega arith) c.in_ok-line.rest.now c.in_ok-line.ensures c.in_err-head.field-0.0 (search rules) (search rules))

pub body-requires : goal.body-requires
body-requires c = subst TableHeadRight (search rules) (table-head-fits c.in_ok-line.line.now (search rules))

pub returns : goal.returns
returns c = c.body.ensures ∙ ap (λ h. table_body h c.in_ok-line.rest.now) (search rules) ∙ table-head-passed c.args.text.now (omega arith) c.in_ok-line.rest.now c.in_ok-line.ensures (search rules)
