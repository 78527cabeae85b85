use Rattle.std.proofs.Common.{rules, arith, sym, ap, subst, ◌∙◌}
use Rattle.sections.proofs.HandedOn.{handed-on}
use Rattle.netlist.specs.Parsing.{body_of}
use Rattle.netlist.specs.Heads.{HeadRight}
use Rattle.netlist.proofs.Acceptance.{head-fits}
use Rattle.netlist.proofs.Assembling.{too_long, no-head, head-stop, head_passed}
use Rattle.netlist.proofs.parsing.parse.Goals as goal

pub returns-then-text-gt-TEXT_BYTES : goal.returns-then-text-gt-TEXT_BYTES
returns-then-text-gt-TEXT_BYTES c = sym (too_long c.args.text.now (omega arith))

pub returns-in_err-line : goal.returns-in_err-line
returns-in_err-line c =
    rw (handed-on c.from_residual.ensures.1) (no-head c.args.text.now (omega arith) c.in_err-line.field-0.0 c.in_err-line.ensures)

pub returns-in_err-head : goal.returns-in_err-head
returns-in_err-head c =
    rw (handed-on c.from_residual-in_err-head.ensures.1) (head-stop c.args.text.now (omega arith) c.in_ok-line.rest.now c.in_ok-line.ensures c.in_err-head.field-0.0 (search rules) (search rules))

pub body-requires : goal.body-requires
body-requires c =
    subst HeadRight (search rules) (head-fits c.in_ok-line.line.now (search rules))

pub returns : goal.returns
returns c = c.body.ensures ∙ ap (λ h. body_of h c.in_ok-line.rest.now) (search rules) ∙ head_passed c.args.text.now (omega arith) c.in_ok-line.rest.now c.in_ok-line.ensures (search rules)
