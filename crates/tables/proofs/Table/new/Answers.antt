use Rattle.std.proofs.Common.{◌≡◌, sym, length, refl}
use Rattle.std.proofs.Math.Seq.{take-append_seam}
use Rattle.integer.proofs.Arrays.{padded-front}
use Rattle.statements.specs.Items.{sound}
use Rattle.tables.proofs.Table.new.Goals as goal

pub invariant_of-result : goal.invariant_of-result
invariant_of-result c =
    let r = c.requires in
    let marks = c.args.marks.now in
    let faults = c.args.faults.now in
    let marks-copied : c.copy_from_slice.new.self ≡ marks = c.copy_from_slice.ensures.after in
    let faults-copied : c.copy_from_slice-2.new.self ≡ faults = c.copy_from_slice-2.ensures.after in
    rw (marks-copied, faults-copied)
    record {
      inputs = r.inputs-high;
      faults = r.faults-high;
      right = rw (sym r.marks-all, take-append_seam marks _, take-append_seam faults _) r;
      marks-padded = rw (sym r.marks-all) (padded-front 256 (length marks) 0 marks refl);
      faults-padded = padded-front 32 (length faults) sound faults refl;
    }
