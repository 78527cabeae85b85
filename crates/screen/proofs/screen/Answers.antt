use Rattle.std.proofs.Common.{◌≡◌, arith}
use Rattle.std.proofs.lemmas.Grind.{common_steps}
use Rattle.screen.specs.Answers.{Done, screen_of}
use Rattle.screen.proofs.Screens.{screen_is, ready_between}
use Rattle.screen.proofs.screen.Goals as goal

pub returns-clause-ready : goal.returns-clause-ready
unfolding screen_of
returns-clause-ready c =
    let a = c.args in
    let done : screen_of a.low a.high a.right a.list.now a.room a.due ≡ Done = grind (arith, common_steps, screen_is) in
    ready_between a.low a.high a.right a.list.now a.room a.due done
