use Rattle.std.proofs.Common.{◌<◌, length, get_or, pos, SFits, w32, arith, rules}
use Rattle.std.proofs.lemmas.Int.{to_z-of_z}
use Rattle.writing.specs.Writing.{number_field, numbers_of}
use Rattle.writing.proofs.Writings.{none_written, all-written, comma-room, number-room, number-more}
use Rattle.writing.proofs.put_numbers.Goals as goal

pub loop-z-init : goal.loop-z-init
unfolding numbers_of
loop-z-init c = none_written c.args.at (number_field c.args.numbers.now) (length c.args.numbers.now) c.args.out.now c.requires

pub bounds-out-end : goal.bounds-out-end
bounds-out-end c = comma-room c.args.at c.args.numbers.now c.args.out.now c.requires c.loop-z.invariant c.loop-z-test.true

pub overflow_add-end : goal.overflow_add-end
overflow_add-end c =
    let room : c.loop-z.end < length c.loop-z.out = comma-room c.args.at c.args.numbers.now c.args.out.now c.requires c.loop-z.invariant c.loop-z-test.true in
    search rules

pub put_integer-end-requires : goal.put_integer-end-requires
put_integer-end-requires c =
    let room = number-room c.args.at c.args.numbers.now c.args.out.now c.requires c.loop-z.invariant c.loop-z-test.true in
    grind (arith, to_z-of_z, room)

pub loop-z-preserved : goal.loop-z-preserved
loop-z-preserved c =
    let fits : SFits w32 (get_or c.args.numbers.now c.loop-z.z-index (pos 0)) = search rules in
    let r = c.put_integer-end.ensures in
    number-more c.args.at c.args.numbers.now c.args.out.now c.requires c.loop-z.invariant c.loop-z-test.true (simp to_z-of_z at r.value) (simp to_z-of_z at r.out_after)

pub returns-clause-value : goal.returns-clause-value
unfolding numbers_of
returns-clause-value c = (all-written c.args.at (number_field c.args.numbers.now) (length c.args.numbers.now) c.args.out.now c.requires c.loop-z.invariant (omega arith)).0

pub returns-clause-out_after : goal.returns-clause-out_after
unfolding numbers_of
returns-clause-out_after c = (all-written c.args.at (number_field c.args.numbers.now) (length c.args.numbers.now) c.args.out.now c.requires c.loop-z.invariant (omega arith)).1
