use Rattle.std.proofs.Common.{rules, arith, ℕ, List, ap, ◌∙◌}
use lib.ListN.{set}
use Rattle.statements.specs.Items.{no_output}
use Rattle.statements.specs.declared.Output.{Output}
use Rattle.integer.specs.Tab.{tab}
use Rattle.integer.proofs.Tabs.{tab-step, filled}
use Rattle.simulation.specs.Steps.{with_bit_at, with_bits}
use Rattle.simulation.proofs.OutputsShown.{with-bit}
use Rattle.simulation.proofs.with_bits.Goals as goal

pub loop-k-init : goal.loop-k-init
unfolding tab
loop-k-init c = search rules

pub loop-k-preserved : goal.loop-k-preserved
loop-k-preserved c =
    let r = with_bit_at c.args.outputs.now in
    let k = c.loop-k.k in
    ap (λ (o : Output). set c.loop-k.out k o) (with-bit c.args.outputs.now k (omega arith))
    ∙ ap (λ (l : List Output). set l k (r k)) c.loop-k.invariant
    ∙ tab-step c.args.out.now r no_output k (omega arith)

pub returns : goal.returns
unfolding with_bits
returns c =
    c.loop-k.invariant ∙ filled (with_bit_at c.args.outputs.now) c.args.out.now c.loop-k.k (omega arith)
    ∙ ap (λ (n : ℕ). tab n (with_bit_at c.args.outputs.now)) c.requires.1
