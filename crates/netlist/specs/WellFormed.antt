-- What accepted circuits satisfy, and no others (proofs/CircuitsWritten `accepted-exactly`): document 01's ranges, gates that read lower lines, two to four
-- of them, and `not` one (document 02, note 2), weights of size 1 to 15 and either sign (document 02, note 4), outputs and faults that name lines of the circuit, a fault's lines rising, and bridges of two inputs that rise (document 02, note 8).
use Rattle.std.specs.Prelude.{ℕ, ◌+◌, ◌<◌, ◌≤◌, nat_abs, length, get_or}
use Rattle.statements.specs.Items.{no_output, sound}
use Rattle.gate_lines.specs.GateItems.{no_gate, GateRight}
use Rattle.statements.specs.declared.Output.{Output}
use Rattle.sections.specs.FaultLines.{FaultRight}
use Rattle.netlist.specs.Circuits.{Netlist}

pub record OutputRight (top : ℕ) (o : Output) : Type 0 where
  pub line_low : 1 ≤ o.line
  pub line-high : o.line ≤ top
  pub weight-low : 1 ≤ nat_abs o.weight
  pub weight-high : nat_abs o.weight ≤ 15

abbrev pub top_of : Netlist → ℕ
top_of n = n.inputs + length n.gates

pub record WellFormed (n : Netlist) : Type 0 where
  pub inputs-low : 1 ≤ n.inputs
  pub inputs-high : n.inputs ≤ 8
  pub gates-high : length n.gates ≤ 48
  pub outputs-low : 1 ≤ length n.outputs
  pub outputs-high : length n.outputs ≤ 4
  pub faults-low : 1 ≤ length n.faults
  pub faults-high : length n.faults ≤ 32
  pub cap-low : 1 ≤ n.cap
  pub cap-high : n.cap ≤ 4
  pub gates-right : (j : ℕ) → j < length n.gates → GateRight (n.inputs + j + 1) (get_or n.gates j no_gate)
  pub outputs-right : (k : ℕ) → k < length n.outputs → OutputRight (top_of n) (get_or n.outputs k no_output)
  pub faults-right : (k : ℕ) → k < length n.faults → FaultRight n.inputs (top_of n) (get_or n.faults k sound)
