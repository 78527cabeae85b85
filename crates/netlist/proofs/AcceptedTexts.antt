-- Which texts are accepted:
--   accepted-only     a text that is accepted as a circuit is the text of that circuit
--   texts-exactly     the texts of the well-formed circuits, and no others
--   accepted-short    such a text is at most 1,804 bytes long
use mathlib.Core.Path.{◌≡◌, ap, ap₂, ◌∙◌}
use mathlib.Core.List.{List, [], ◌++◌, append-nil}
use mathlib.Core.Logic.{◌↔◌}
use Prim.Native.Nat.{ℕ, ◌+◌, ◌≤◌}
use native.Mathlib.Omega.{arith}
use lib.ListN.{length}
use Rattle.text.specs.Text.{before, after, line_end}
use Rattle.statements.specs.Items.{no_output, sound}
use Rattle.gate_lines.specs.GateItems.{no_gate}
use Rattle.statements.specs.Lines.{head_refusal, head_of, output_of, fault_line_of}
use Rattle.gate_lines.specs.GateLines.{gate_of}
use Rattle.statements.specs.declared.Head.{Head}
use Rattle.sections.specs.FaultLines.{fault_line, nth_fault_refusal}
use Rattle.sections.proofs.BridgesWritten.{fault-only}
use Rattle.sections.proofs.LinesOnly.{line_taken, lines-only}
use Rattle.netlist.specs.CircuitText.{circuit_bytes, gate_line, output_line, text_of}
use Rattle.netlist.specs.Circuits.{Netlist}
use Rattle.netlist.specs.Parsing.{gates_in, outputs_in, faults_in, accepted, parse_of, nth_gate_refusal, nth_output_refusal}
use Rattle.netlist.specs.WellFormed.{WellFormed}
use Rattle.netlist.proofs.Acceptance.{BodyRead, text-read-through, well-formed}
use Rattle.netlist.proofs.CircuitLines.{head_written, head-only, gate-only, output-only}
use Rattle.netlist.proofs.CircuitsWritten.{gates_text, outputs_text, faults_text, text-short, text-accepted}

module _ (h : Head) (n : Netlist) (rest : List ℕ) (b : BodyRead h rest n) where
  -- the head is n's, and what stands after it is what is written for n
  body-only : (h ≡ head_written n) × (rest ≡ gates_text n ++ (outputs_text n ++ faults_text n))
  unfolding gates_in outputs_in faults_in
  body-only =
      let top = h.inputs + h.gates in
      let g = lines-only (nth_gate_refusal h.inputs) gate_of gate_line no_gate (λ j. gate-only (h.inputs + j + 1)) h.gates 2 rest n.gates b.after-gates b.gates-read in
      let o = lines-only (nth_output_refusal top) output_of output_line no_output (λ j. output-only top) h.outputs (h.gates + 2) b.after-gates n.outputs b.after-outputs b.outputs-read in
      let f = lines-only (nth_fault_refusal h.inputs top) fault_line_of fault_line sound (λ j. fault-only h.inputs top) h.faults (h.gates + h.outputs + 2) b.after-outputs n.faults [] b.faults-read in (
        rw (g.0, o.0, f.0, b.inputs_are, b.cap-is),
        g.1 ∙ ap (λ (l : List ℕ). gates_text n ++ l) (o.1 ∙ ap (λ (l : List ℕ). outputs_text n ++ l) (f.1 ∙ append-nil (faults_text n))),
      )

pub accepted-only : (text : List ℕ) (n : Netlist) → parse_of text ≡ accepted n → text ≡ text_of n
unfolding text_of
accepted-only text n e =
    let t = text-read-through text n e in
    let l = line_taken head_refusal text t.0 in
    let b = body-only (head_of (before line_end text)) n (after line_end text) t.1 in
    l.0 ∙ ap₂ ◌++◌ (head-only (before line_end text) n l.1 b.0) b.1

pub texts-exactly : (text : List ℕ) (n : Netlist) → (parse_of text ≡ accepted n) ↔ (WellFormed n × (text ≡ text_of n))
texts-exactly text n = (λ e. (well-formed text n e, accepted-only text n e), λ t. ap parse_of t.1 ∙ text-accepted n t.0)

pub accepted-short : (text : List ℕ) (n : Netlist) → parse_of text ≡ accepted n → length text ≤ circuit_bytes
accepted-short text n e = omega (arith, ap length (accepted-only text n e), text-short n (well-formed text n e))
