use Rattle.std.proofs.Common.{◌≡◌, length, refl}
use Rattle.std.proofs.Math.Seq.{take-append_seam}
use Rattle.integer.proofs.Arrays.{padded-front}
use Rattle.statements.specs.Items.{no_output, sound}
use Rattle.gate_lines.specs.GateItems.{no_gate}
use Rattle.netlist.proofs.Circuit.new.Goals as goal

pub invariant_of-result : goal.invariant_of-result
invariant_of-result c =
    let r = c.requires in
    let gates = c.args.gates.now in
    let outputs = c.args.outputs.now in
    let faults = c.args.faults.now in
    let gates-copied : c.copy_from_slice.new.self ≡ gates = c.copy_from_slice.ensures.after in
    let outputs-copied : c.copy_from_slice-2.new.self ≡ outputs = c.copy_from_slice-2.ensures.after in
    let faults-copied : c.copy_from_slice-3.new.self ≡ faults = c.copy_from_slice-3.ensures.after in
    rw (gates-copied, outputs-copied, faults-copied)
    record {
      gates = r.gates-high;
      outputs = r.outputs-high;
      faults = r.faults-high;
      well_formed = rw (take-append_seam gates _, take-append_seam outputs _, take-append_seam faults _) r;
      gates-padded = padded-front 48 (length gates) no_gate gates refl;
      outputs-padded = padded-front 4 (length outputs) no_output outputs refl;
      faults-padded = padded-front 32 (length faults) sound faults refl;
    }
