use Rattle.std.proofs.Common.{rules, arith, refl, ◌≡◌, List, ◌++◌, length, take, ◌∙◌}
use Rattle.std.proofs.lemmas.List.{length-take-le}
use Rattle.integer.proofs.Arrays.{padded-front}
use Rattle.statements.specs.Items.{Fault, sound}
use Rattle.sections.specs.Sections.{items}
use Rattle.sections.proofs.HandedOn.{handed-on}
use Rattle.sections.proofs.LineLoops.{lines-told, lines-stored}
use Rattle.tables.specs.TableParsing.{table_faults_in}
use Rattle.tables.proofs.TableAcceptance.{table-body-well-formed}
use Rattle.tables.proofs.TableAssembling.{table-no-marks, marks-stop, table-faults-stop, table-bytes-left, table-all-read}
use Rattle.tables.proofs.parsing.body.Goals as goal
use Rattle.tables.proofs.parsing.body.Goals.{In_ok-rest}

-- the faults that were read, which stand at the front of their array
faults-read : (c : In_ok-rest) → items c.read_lines.new.out c.in_ok-rest.rest.now ≡ table_faults_in c.args.head c.in_ok-line.after_marks.now
unfolding table_faults_in
faults-read c = lines-told _ _ _ _ _ _ (omega arith) c.in_ok-rest.ensures

faults-counted : (c : In_ok-rest) → length c.read_lines.new.out ≡ c.args.head.faults
faults-counted c = c.read_lines.auto.out ∙ length-take-le c.args.head.faults _ (omega arith)

faults-stored : (c : In_ok-rest) (rest : List Fault) → take c.args.head.faults (c.read_lines.new.out ++ rest) ≡ c.read_lines.new.out
faults-stored c rest = lines-stored c.args.head.faults _ _ (faults-counted c)

pub returns-in_err-line : goal.returns-in_err-line
returns-in_err-line c =
    rw (handed-on c.from_residual.ensures.1) (table-no-marks c.args.head c.args.text.now c.in_err-line.field-0.0 c.in_err-line.ensures)

pub returns-in_err-marks : goal.returns-in_err-marks
returns-in_err-marks c =
    rw (handed-on c.from_residual-in_err-marks.ensures.1) (marks-stop c.args.head c.args.text.now c.in_ok-line.after_marks.now c.in_ok-line.ensures c.in_err-marks.field-0.0 (search rules) (search rules))

pub returns-in_err-rest : goal.returns-in_err-rest
unfolding table_faults_in
returns-in_err-rest c =
    rw (handed-on c.from_residual-in_err-rest.ensures.1) (table-faults-stop c.args.head c.args.text.now c.in_ok-line.after_marks.now c.in_ok-line.ensures (search rules) (lines-told _ _ _ _ _ _ (omega arith) c.in_err-rest.ensures))

pub returns-then-not-is_empty : goal.returns-then-not-is_empty
returns-then-not-is_empty c =
    table-bytes-left c.args.head c.args.text.now c.in_ok-line.after_marks.now c.in_ok-line.ensures (search rules) c.in_ok-rest.rest.now (faults-read (goal.at.returns-then-not-is_empty c).In_ok-rest) (search rules)

pub invariant_of-result : goal.invariant_of-result
invariant_of-result c =
    let r = c.requires in
    let f = (goal.at.invariant_of-result c).In_ok-rest in
    record {
      inputs = r.inputs-high;
      faults = r.faults-high;
      right = table-body-well-formed c.args.head r c.args.text.now _ (
          table-all-read c.args.head c.args.text.now c.in_ok-line.after_marks.now c.in_ok-line.ensures (search rules) c.in_ok-rest.rest.now (faults-read f) (search rules)
          _ refl (search rules) (faults-stored f _));
      marks-padded = search rules;
      faults-padded = padded-front 32 c.args.head.faults sound c.read_lines.new.out (faults-counted f);
    }

pub returns : goal.returns
returns c =
    let f = (goal.at.returns c).In_ok-rest in
    table-all-read c.args.head c.args.text.now c.in_ok-line.after_marks.now c.in_ok-line.ensures (search rules) c.in_ok-rest.rest.now (faults-read f) (search rules)
    _ refl (search rules) (faults-stored f _)
