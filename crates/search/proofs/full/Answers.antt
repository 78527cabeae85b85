use Rattle.integer.proofs.Masks.{full-shifted}
use Rattle.search.proofs.full.Goals as goal

pub returns : goal.returns
returns c = full-shifted c.args.faults c.requires.1
