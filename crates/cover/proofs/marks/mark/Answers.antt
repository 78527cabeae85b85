-- The working numbers are the differences and then their spectrum, so a bit is added where the label covers the fault.
use Rattle.std.proofs.Common.{◌∙◌, sym, arith, rules}
use Rattle.cover.proofs.Marking.{work-within, marked_by}
use Rattle.cover.proofs.marks.mark.Goals as goal

pub transform-requires : goal.transform-requires
transform-requires c =
    record {
      inputs = omega arith;
      long = search rules;
      within = work-within c.args.sound.now c.args.faulted.now _ c.requires.inputs_bound.3 c.differences-unchanged.ensures.out_after c.requires.within.0 c.requires.within.1;
    }

pub returns-clause-masks_after : goal.returns-clause-masks_after
returns-clause-masks_after c =
    let a = c.args in
    λ _. c.add_marks.ensures
    ∙ marked_by a.sound.now a.faulted.now _ c.requires.inputs_bound.3 c.differences-unchanged.ensures.out_after _ c.transform.ensures a.labels.now a.fault a.masks.now c.requires.inputs_bound.1
    (c.requires.labels_len.0 ∙ sym c.requires.labels_len.1) c.requires.below.0
