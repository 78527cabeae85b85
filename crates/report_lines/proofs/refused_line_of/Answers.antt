use Rattle.std.proofs.Common.{arith, ap, ◌∙◌, List, ℕ}
use Rattle.writing.specs.Writing.{placed}
use Rattle.report_lines.proofs.ReportLines.{refused-length, refused-read}
use Rattle.report_lines.proofs.refused_line_of.Goals as goal

pub put_line-requires : goal.put_line-requires
put_line-requires c =
    let (room, number, place) = c.requires in
    rw (refused-read c.args.number c.args.place number place) (omega (arith, refused-length c.args.number c.args.place number place, room))

pub returns-clause-value : goal.returns-clause-value
returns-clause-value c =
    let (room, number, place) = c.requires in
    let e = rw (refused-read c.args.number c.args.place number place) at c.put_line.ensures.value in
    omega (arith, e)

pub returns-clause-out_after : goal.returns-clause-out_after
returns-clause-out_after c =
    let (room, number, place) = c.requires in
    c.put_line.ensures.out_after ∙ ap (λ (l : List ℕ). placed 0 l c.args.out.now) (refused-read c.args.number c.args.place number place)
