use Rattle.std.proofs.Common.{rules, arith, ◌∙◌, ◌^◌, ap, ap₂, bit_xor, ℕ, ℤ, take, w32}
use mir.ValLaws.{to_z-of_z}
use Rattle.integer.specs.Tab.{tab}
use Rattle.integer.proofs.Machine.{due-is}
use Rattle.integer.proofs.Tabs.{write-turn, filled}
use Rattle.lookup.specs.TableRows.{table_of_marks}
use Rattle.lookup.proofs.RowMasks.{masked_mark, masked_row, marks-there, masked-rows}
use Rattle.lookup.proofs.rows_of_marks.Goals as goal

pub loop-x-init : goal.loop-x-init
unfolding tab
loop-x-init c = search rules

pub bounds-used-row : goal.bounds-used-row
bounds-used-row c =
    let (few, room, o, long) = c.requires in
    let t = table_of_marks c.args.inputs (take (2 ^ c.args.inputs) c.args.marks.now) in
    rw (due-is c.args.inputs few, c.bridge_row.ensures)
    (marks-there c.args.f _ _ c.stuck_row-set.ensures c.stuck_row.ensures t few o (search rules) c.loop-x.x (omega arith))

pub loop-x-preserved : goal.loop-x-preserved
loop-x-preserved c =
    let kept = bit_xor c.stuck_row.result c.stuck_row-set.result in
    let row : ℕ → ℕ → ℤ = λ due y. masked_mark (take due c.args.marks.now) c.stuck_row-set.result kept y in
    write-turn c.args.out.now c.loop-x.out (masked_row (take (2 ^ c.args.inputs) c.args.marks.now) c.args.f.bridge _ kept) c.loop-x.x _ (omega arith) c.loop-x.invariant
    (to_z-of_z w32 c.from.result (record { sfits = c.from.type_inv }) ∙ c.from.ensures ∙ ap₂ row (due-is c.args.inputs c.requires.0) c.bridge_row.ensures)

pub returns : goal.returns
returns c =
    let (few, room, o, long) = c.requires in
    let t = table_of_marks c.args.inputs (take (2 ^ c.args.inputs) c.args.marks.now) in
    let rule = masked_row t.marks c.args.f.bridge c.stuck_row-set.result (bit_xor c.stuck_row.result c.stuck_row-set.result) in
    c.loop-x.invariant
    ∙ filled rule c.args.out.now c.loop-x.x (omega arith)
    ∙ ap (λ (n : ℕ). tab n rule) long
    ∙ masked-rows c.args.f _ _ c.stuck_row-set.ensures c.stuck_row.ensures t few o
