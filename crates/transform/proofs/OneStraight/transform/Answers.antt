use Rattle.transform.proofs.Merging.{single}
use Rattle.transform.proofs.OneStraight.transform.Goals as goal

pub returns : goal.returns
returns c = single c.args._a.now c.requires.long
