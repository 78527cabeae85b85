use Rattle.std.proofs.Common.{rules, arith, refl, ◌≡◌, List, ◌++◌, length, take, ◌∙◌}
use Rattle.std.proofs.lemmas.List.{length-take-le}
use Rattle.integer.proofs.Arrays.{padded-front}
use Rattle.statements.specs.Items.{Fault, no_output, sound}
use Rattle.statements.specs.declared.Output.{Output}
use Rattle.gate_lines.specs.GateItems.{Gate, no_gate}
use Rattle.sections.specs.Sections.{items}
use Rattle.sections.proofs.HandedOn.{handed-on}
use Rattle.sections.proofs.LineLoops.{lines-told, lines-stored}
use Rattle.netlist.specs.Parsing.{gates_in, outputs_in, faults_in}
use Rattle.netlist.proofs.Acceptance.{body-well-formed}
use Rattle.netlist.proofs.Assembling.{gates-stop, outputs-stop, faults-stop, bytes_left, all_read}
use Rattle.netlist.proofs.parsing.body.Goals as goal
use Rattle.netlist.proofs.parsing.body.Goals.{In_ok-after_gates, In_ok-after_outputs, In_ok-rest}

-- the gates, outputs and faults that were read
gates-read : (c : In_ok-after_gates) → items c.read_lines.new.out c.in_ok-after_gates.after_gates.now ≡ gates_in c.args.head c.args.text.now
unfolding gates_in
gates-read c = lines-told _ _ _ _ _ _ (omega arith) c.in_ok-after_gates.ensures

outputs-read : (c : In_ok-after_outputs) → items c.read_lines-2.new.out c.in_ok-after_outputs.after_outputs.now ≡ outputs_in c.args.head c.in_ok-after_gates.after_gates.now
unfolding outputs_in
outputs-read c = lines-told _ _ _ _ _ _ (omega arith) c.in_ok-after_outputs.ensures

faults-read : (c : In_ok-rest) → items c.read_lines-3.new.out c.in_ok-rest.rest.now ≡ faults_in c.args.head c.in_ok-after_outputs.after_outputs.now
unfolding faults_in
faults-read c = lines-told _ _ _ _ _ _ (omega arith) c.in_ok-rest.ensures

-- as many as the head says
gates-counted : (c : In_ok-after_gates) → length c.read_lines.new.out ≡ c.args.head.gates
gates-counted c = c.read_lines.auto.out ∙ length-take-le c.args.head.gates _ (omega arith)

outputs-counted : (c : In_ok-after_outputs) → length c.read_lines-2.new.out ≡ c.args.head.outputs
outputs-counted c = c.read_lines-2.auto.out ∙ length-take-le c.args.head.outputs _ (omega arith)

faults-counted : (c : In_ok-rest) → length c.read_lines-3.new.out ≡ c.args.head.faults
faults-counted c = c.read_lines-3.auto.out ∙ length-take-le c.args.head.faults _ (omega arith)

-- each stands at the front of its array
gates-stored : (c : In_ok-after_gates) (rest : List Gate) → take c.args.head.gates (c.read_lines.new.out ++ rest) ≡ c.read_lines.new.out
gates-stored c rest = lines-stored c.args.head.gates _ _ (gates-counted c)

outputs-stored : (c : In_ok-after_outputs) (rest : List Output) → take c.args.head.outputs (c.read_lines-2.new.out ++ rest) ≡ c.read_lines-2.new.out
outputs-stored c rest = lines-stored c.args.head.outputs _ _ (outputs-counted c)

faults-stored : (c : In_ok-rest) (rest : List Fault) → take c.args.head.faults (c.read_lines-3.new.out ++ rest) ≡ c.read_lines-3.new.out
faults-stored c rest = lines-stored c.args.head.faults _ _ (faults-counted c)

pub returns-in_err-after_gates : goal.returns-in_err-after_gates
unfolding gates_in
returns-in_err-after_gates c =
    rw (handed-on c.from_residual.ensures.1) (gates-stop c.args.head c.args.text.now (lines-told _ _ _ _ _ _ (omega arith) c.in_err-after_gates.ensures))

pub returns-in_err-after_outputs : goal.returns-in_err-after_outputs
unfolding outputs_in
returns-in_err-after_outputs c =
    let paths = goal.at.returns-in_err-after_outputs c in
    rw (handed-on c.from_residual-in_err-after_outputs.ensures.1) (outputs-stop c.args.head c.args.text.now c.in_ok-after_gates.after_gates.now (gates-read paths.In_ok-after_gates)
    (lines-told _ _ _ _ _ _ (omega arith) c.in_err-after_outputs.ensures))

pub returns-in_err-rest : goal.returns-in_err-rest
unfolding faults_in
returns-in_err-rest c =
    let paths = goal.at.returns-in_err-rest c in
    rw (handed-on c.from_residual-in_err-rest.ensures.1) (faults-stop c.args.head c.args.text.now c.in_ok-after_gates.after_gates.now (gates-read paths.In_ok-after_gates)
    c.in_ok-after_outputs.after_outputs.now (outputs-read paths.In_ok-after_outputs) (lines-told _ _ _ _ _ _ (omega arith) c.in_err-rest.ensures))

pub returns-then-not-is_empty : goal.returns-then-not-is_empty
returns-then-not-is_empty c =
    let paths = goal.at.returns-then-not-is_empty c in
    bytes_left c.args.head c.args.text.now c.in_ok-after_gates.after_gates.now (gates-read paths.In_ok-after_gates)
    c.in_ok-after_outputs.after_outputs.now (outputs-read paths.In_ok-after_outputs) c.in_ok-rest.rest.now (faults-read paths.In_ok-rest) (search rules)

pub invariant_of-result : goal.invariant_of-result
invariant_of-result c =
    let r = c.requires in
    let paths = goal.at.invariant_of-result c in
    let g = paths.In_ok-after_gates in
    let o = paths.In_ok-after_outputs in
    let f = paths.In_ok-rest in
    record {
      gates = r.gates-high;
      outputs = r.outputs-high;
      faults = r.faults-high;
      well_formed = body-well-formed c.args.head r c.args.text.now _ (
          all_read c.args.head c.args.text.now c.in_ok-after_gates.after_gates.now (gates-read g) c.in_ok-after_outputs.after_outputs.now (outputs-read o)
          c.in_ok-rest.rest.now (faults-read f) (search rules) _ refl (gates-stored g _) (outputs-stored o _) (faults-stored f _));
      gates-padded = padded-front 48 c.args.head.gates no_gate c.read_lines.new.out (gates-counted g);
      outputs-padded = padded-front 4 c.args.head.outputs no_output c.read_lines-2.new.out (outputs-counted o);
      faults-padded = padded-front 32 c.args.head.faults sound c.read_lines-3.new.out (faults-counted f);
    }

pub returns : goal.returns
returns c =
    let paths = goal.at.returns c in
    let g = paths.In_ok-after_gates in
    let o = paths.In_ok-after_outputs in
    let f = paths.In_ok-rest in
    all_read c.args.head c.args.text.now c.in_ok-after_gates.after_gates.now (gates-read g) c.in_ok-after_outputs.after_outputs.now (outputs-read o)
    c.in_ok-rest.rest.now (faults-read f) (search rules) _ refl (gates-stored g _) (outputs-stored o _) (faults-stored f _)
