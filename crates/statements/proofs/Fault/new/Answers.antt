use Rattle.statements.proofs.EveryFault.{kind_named}
use Rattle.statements.proofs.Fault.new.Goals as goal

pub invariant_of-result : goal.invariant_of-result
invariant_of-result c = kind_named (record { first = c.args.first; second = c.args.second; third = c.args.third; bridge = c.args.bridge }) c.kind_of.result c.kind_of.ensures
