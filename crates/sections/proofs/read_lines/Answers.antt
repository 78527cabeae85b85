use Rattle.std.proofs.Common.{rules}
use Rattle.sections.proofs.HandedOn.{handed-on}
use Rattle.sections.proofs.LineLoops.{begun, missing, declined, finished, turned}
use Rattle.sections.proofs.read_lines.Goals as goal

pub loop-j-init : goal.loop-j-init
loop-j-init g c = begun _ _ _ _ _

pub returns-in_err-line : goal.returns-in_err-line
returns-in_err-line g c =
    rw (handed-on c.from_residual.ensures.1) (missing c.loop-j.invariant c.loop-j-test.true c.in_err-line.field-0.0 c.in_err-line.ensures)

pub returns-in_err-item : goal.returns-in_err-item
returns-in_err-item g c =
    rw (handed-on c.from_residual-in_err-item.ensures.1) (declined c.loop-j.invariant c.loop-j-test.true c.in_ok-line.ensures c.in_err-item.field-0.0 (search rules) (search rules))

pub loop-j-preserved : goal.loop-j-preserved
loop-j-preserved g c = turned c.loop-j.invariant c.loop-j-test.true c.in_ok-line.ensures (search rules) (search rules)

pub returns : goal.returns
returns g c = finished c.loop-j.invariant c.loop-j-test.false
