-- What a circuit of the code holds: arrays that are in use as far as its head says. Past that they hold what stands for no item, so that a circuit is known from its
-- netlist, and may be copied.
use Rattle.std.specs.Prelude.{◌≡◌, ◌≤◌, length, take}
use Rattle.std.proofs.Common.{sym}
use Rattle.integer.specs.Padded.{padded}
use Rattle.integer.proofs.Arrays.{padded-used}
use Rattle.statements.specs.Items.{no_output, sound}
use Rattle.gate_lines.specs.GateItems.{no_gate}
use Rattle.netlist.specs.Circuits.{Netlist}
use Rattle.netlist.specs.WellFormed.{WellFormed}
use Rattle.netlist.specs.declared.Circuit.TheInside.{Inside}

abbrev pub netlist_of : Inside → Netlist
netlist_of c =
    record {
      inputs = c.head.inputs;
      gates = take c.head.gates c.gates;
      outputs = take c.head.outputs c.outputs;
      faults = take c.head.faults c.faults;
      cap = c.head.cap;
    }

-- it is within the limits of the code, and of an accepted text
pub record Accepted (c : Inside) : Type 0 where
  pub gates : c.head.gates ≤ 48
  pub outputs : c.head.outputs ≤ 4
  pub faults : c.head.faults ≤ 32
  pub well_formed : WellFormed (netlist_of c)
  pub gates-padded : c.gates ≡ padded 48 no_gate (netlist_of c).gates
  pub outputs-padded : c.outputs ≡ padded 4 no_output (netlist_of c).outputs
  pub faults-padded : c.faults ≡ padded 32 sound (netlist_of c).faults

abbrev pub circuit_arrays : Netlist → Inside
circuit_arrays n =
    record {
      head = record { inputs = n.inputs; gates = length n.gates; outputs = length n.outputs; faults = length n.faults; cap = n.cap };
      gates = padded 48 no_gate n.gates;
      outputs = padded 4 no_output n.outputs;
      faults = padded 32 sound n.faults;
    }

-- the fields are known from the netlist
pub circuit-back : (c : Inside) → Accepted c → circuit_arrays (netlist_of c) ≡ c
circuit-back c a i = record {
  head = record {
    inputs = c.head.inputs;
    gates = padded-used 48 c.head.gates no_gate c.gates a.gates a.gates-padded i;
    outputs = padded-used 4 c.head.outputs no_output c.outputs a.outputs a.outputs-padded i;
    faults = padded-used 32 c.head.faults sound c.faults a.faults a.faults-padded i;
    cap = c.head.cap;
  };
  gates = sym a.gates-padded i;
  outputs = sym a.outputs-padded i;
  faults = sym a.faults-padded i;
}
