use Rattle.std.proofs.Common.{rules, arith, drop, ◌+◌, ◌∙◌}
use Rattle.std.proofs.lemmas.List.{take_all}
use lib.ListN.{length-drop}
use Rattle.text.specs.Text.{before, line_end}
use Rattle.text.proofs.Parts.{cut_has, cut-after}
use Rattle.sections.proofs.first_line.Goals as goal

pub returns : goal.returns
unfolding before
returns c =
    let text = c.args.text.now in
    let e = c.find-end in
    let next = e.result + 1 in (
      cut_has line_end text 0 e.result e.ensures c.if-text-end.false,
      search rules,
      take_all _ (drop next text) (omega (arith, length-drop next text)) ∙ cut-after line_end text 0 e.result e.ensures,
    )
