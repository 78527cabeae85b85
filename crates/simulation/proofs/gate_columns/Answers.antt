use Rattle.std.proofs.Common.{arith, ap, ◌≡◌, ◌∙◌, length, get_or}
use Rattle.std.proofs.lemmas.List.{get_or_default}
use Rattle.gate_lines.specs.GateItems.{no_gate}
use Rattle.simulation.proofs.Columns.{lines_none, gates-next, lines-all}
use Rattle.simulation.proofs.gate_columns.Goals as goal

pub loop-j-init : goal.loop-j-init
loop-j-init c = lines_none c.args.c.now c.args.f c.args.n c.requires.1

pub loop-j-preserved : goal.loop-j-preserved
loop-j-preserved c =
    let e = c.inputs-inputs.ensures.value in
    let items = c.gates-gate-items.ensures in
    let read : c.gate-item.result ≡ get_or c.args.c.now.gates c.loop-j.j no_gate = rw (← items) (c.gate-item.is ∙ get_or_default _ c.loop-j.j _ no_gate c.loop-j-test.true) in
    gates-next c.args.c.now c.args.f c.args.n c.loop-j.j (omega arith) c.inputs-inputs.ensures.well_formed (rw items at c.loop-j-test.true) c.through.result (rw e at c.through.ensures)
    c.loop-j.invariant (rw (e, read) at c.gate_column.ensures)

pub returns : goal.returns
returns c = lines-all c.args.c.now c.args.f c.args.n c.loop-j.j (let e : c.loop-j.j ≡ length c.gates-gate-items.result.now = omega arith in e ∙ ap length c.gates-gate-items.ensures) c.loop-j.invariant
