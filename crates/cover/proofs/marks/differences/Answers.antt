use Rattle.std.proofs.Common.{arith}
use Rattle.integer.specs.Tab.{nth}
use Rattle.integer.proofs.Tabs.{write-turn}
use Rattle.integer.proofs.NumbersBelow.{all_more}
use Rattle.cover.specs.Cover.{same_at}
use Rattle.cover.specs.Steps.{row_difference_at}
use Rattle.cover.proofs.Marking.{difference-turn}
use Rattle.cover.proofs.marks.differences.Goals as goal

pub loop-x-preserved : goal.loop-x-preserved
unfolding same_at row_difference_at
loop-x-preserved c =
    let a = c.args in
    let r = c.requires in
    let x = c.loop-x.x in
    let turn = difference-turn (nth a.sound.now x) (nth a.faulted.now x) _ _ (r.2 x (omega arith)) (r.3 x (omega arith)) c.from.ensures c.from-in-loop-x.ensures in (
      write-turn a.out.now c.loop-x.out (row_difference_at a.sound.now a.faulted.now) x _ c.loop-x-test.true c.loop-x.invariant.0 turn.0,
      all_more (same_at a.sound.now a.faulted.now) x c.loop-x.same _ c.loop-x.invariant.1 turn.1,
    )
