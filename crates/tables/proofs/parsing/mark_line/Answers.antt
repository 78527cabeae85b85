use Rattle.std.proofs.Common.{rules, arith, ◌≡◌, ◌^◌, length, refl, sym}
use Rattle.integer.proofs.Arrays.{spare-stored}
use Rattle.integer.proofs.Machine.{due-is, due-few}
use Rattle.sections.proofs.HandedOn.{handed-on}
use Rattle.tables.proofs.MarksSoFar.{marks-begun, marks-turned, marks-short, mark-other, marks-passed, marks-kept, marks-padded}
use Rattle.tables.proofs.parsing.mark_line.Goals as goal
use Rattle.tables.proofs.parsing.mark_line.Goals.{Else-line-due}

pub returns-then-line-due : goal.returns-then-line-due
returns-then-line-due c = marks-short c.args.inputs c.args.line.now (λ e. absurd (omega (arith, c.if-line-due.true, e, due-is c.args.inputs c.requires)))

-- the line has as many marks as are due
long : (c : Else-line-due) → length c.args.line.now ≡ 2 ^ c.args.inputs
long c = omega (arith, c.if-line-due.false, due-is c.args.inputs c.requires)

pub loop-x-init : goal.loop-x-init
loop-x-init c = (marks-begun _ _ (search rules), refl)

pub returns-in_err-marks : goal.returns-in_err-marks
returns-in_err-marks c =
    let due = long (goal.at.returns-in_err-marks c).Else-line-due in
    let h = mark-other c.loop-x.invariant.0 (search rules) c.args.inputs due (search rules) in
    rw (handed-on c.from_residual.ensures.1) (search rules)

pub loop-x-preserved : goal.loop-x-preserved
loop-x-preserved c =
    let due = long (goal.at.loop-x-preserved c).Else-line-due in
    let few = due-few c.args.inputs c.requires in (
      marks-turned c.loop-x.invariant.0 (search rules) (omega (arith, due, due-is c.args.inputs c.requires, few)) (search rules) (search rules),
      spare-stored 256 _ 0 _ _ c.loop-x.invariant.1,
    )

pub returns : goal.returns
returns c =
    let due = long (goal.at.returns c).Else-line-due in
    let read = c.loop-x.invariant.0 in (
      sym (marks-passed read c.args.inputs due (search rules)),
      marks-kept read c.args.inputs due (search rules),
      marks-padded read c.args.inputs due (search rules) c.loop-x.invariant.1 (omega (arith, due-is c.args.inputs c.requires, due-few c.args.inputs c.requires)),
    )
