use Rattle.std.proofs.Common.{rules, arith, sym, ◌≤◌, length}
use Rattle.std.proofs.lemmas.List.{length-take-le}
use Rattle.text.specs.Text.{line_end, before}
use Rattle.text.proofs.Parts.{index-le}
use Rattle.tables.specs.TableLines.{is_table}
use Rattle.tables.proofs.parsing.is_table.Goals as goal

pub slice_bounds-field-end : goal.slice_bounds-field-end
slice_bounds-field-end c =
    let h : c.find-end.result ≤ length c.args.text.now = omega (arith, c.find-end.ensures, index-le line_end c.args.text.now) in
    sym (length-take-le c.find-end.result c.args.text.now h)

pub returns : goal.returns
unfolding is_table before
returns c = search rules
