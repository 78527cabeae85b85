-- Every well-formed circuit has a text:
--   text-accepted       the text of a well-formed circuit is accepted as that circuit
--   accepted-exactly    the well-formed circuits are those that some text is accepted as
--   text-short          such a text is at most 1,804 bytes long
use mathlib.Core.Path.{◌≡◌, sym, ap, ◌∙◌}
use mathlib.Core.List.{List, [], ◌++◌, append-nil}
use mathlib.Core.Logic.{◌↔◌}
use Prim.Native.Nat.{ℕ, ◌+◌, ◌<◌, ◌≤◌}
use native.Mathlib.Omega.{arith}
use lib.ListN.{length, get_or, length-append}
use borrow.Author.Tests.{le-ltb}
use Rattle.text.specs.Text.{text_bytes}
use Rattle.statements.specs.Items.{no_output, sound}
use Rattle.gate_lines.specs.GateItems.{no_gate}
use Rattle.statements.specs.Lines.{head_refusal, head_of, output_of, fault_line_of}
use Rattle.gate_lines.specs.GateLines.{gate_of}
use Rattle.statements.specs.declared.Head.{Head}
use Rattle.sections.specs.FaultLines.{fault_line, nth_fault_refusal}
use Rattle.sections.specs.Sections.{each_line}
use Rattle.sections.proofs.BridgesWritten.{fault-told}
use Rattle.sections.proofs.FaultsWritten.{stuck-told}
use Rattle.sections.proofs.LinesWritten.{told-has, told-before, told-after, lines-read, lines-short, Told}
use Rattle.fields.specs.Fields.{unless}
use Rattle.netlist.specs.CircuitText.{circuit_bytes, head_line, gate_line, output_line, text_of}
use Rattle.netlist.specs.Circuits.{Netlist}
use Rattle.netlist.specs.Parsing.{gates_in, outputs_in, faults_in, accepted, end_of, body_of, parse_of, nth_gate_refusal, nth_output_refusal}
use Rattle.netlist.specs.WellFormed.{WellFormed, top_of}
use Rattle.netlist.proofs.Acceptance.{well-formed}
use Rattle.netlist.proofs.CircuitLines.{head_written, head-told, gate-told, output-told}

pub head_read : {bytes : ℕ} (text rest : List ℕ) (h : Head) → Told bytes head_refusal head_of text h → length (text ++ rest) ≤ text_bytes → parse_of (text ++ rest) ≡ body_of h rest
unfolding parse_of unless
head_read text rest h t few = rw (le-ltb text_bytes (length (text ++ rest)) few, told-has t rest, told-before t rest, t.passes, told-after t rest, t.says)

-- the parts of the text after its first line
abbrev pub gates_text : Netlist → List ℕ
gates_text n = each_line gate_line no_gate n.gates

abbrev pub outputs_text : Netlist → List ℕ
outputs_text n = each_line output_line no_output n.outputs

abbrev pub faults_text : Netlist → List ℕ
faults_text n = each_line fault_line sound n.faults

module _ (n : Netlist) (w : WellFormed n) where
  top-high : top_of n ≤ 56
  top-high = omega (arith, w.inputs-high, w.gates-high)

  gates-told : (j : ℕ) → j < length n.gates → Told 22 (nth_gate_refusal n.inputs j) gate_of (gate_line (get_or n.gates j no_gate)) (get_or n.gates j no_gate)
  gates-told j h = gate-told (n.inputs + j + 1) (get_or n.gates j no_gate) (omega (arith, w.inputs-high, w.gates-high)) (w.gates-right j h)

  outputs-told : (j : ℕ) → j < length n.outputs → Told 14 (nth_output_refusal (top_of n) j) output_of (output_line (get_or n.outputs j no_output)) (get_or n.outputs j no_output)
  outputs-told j h = output-told (top_of n) (get_or n.outputs j no_output) top-high (w.outputs-right j h)

  faults-told : (j : ℕ) → j < length n.faults → Told 21 (nth_fault_refusal n.inputs (top_of n) j) fault_line_of (fault_line (get_or n.faults j sound)) (get_or n.faults j sound)
  faults-told j h = let f = get_or n.faults j sound in fault-told 21 n.inputs (top_of n) f (omega arith) (omega (arith, w.inputs-high)) (stuck-told (top_of n) f top-high) (w.faults-right j h)

  body-read : body_of (head_written n) (gates_text n ++ (outputs_text n ++ faults_text n)) ≡ accepted n
  unfolding body_of gates_in outputs_in faults_in end_of
  body-read =
      ap (λ (rest : List ℕ). body_of (head_written n) (gates_text n ++ (outputs_text n ++ rest))) (sym (append-nil (faults_text n)))
      ∙ rw (
        lines-read (nth_gate_refusal n.inputs) gate_of gate_line no_gate n.gates gates-told 2 (outputs_text n ++ (faults_text n ++ [])),
        lines-read (nth_output_refusal (top_of n)) output_of output_line no_output n.outputs outputs-told (length n.gates + 2) (faults_text n ++ []),
        lines-read (nth_fault_refusal n.inputs (top_of n)) fault_line_of fault_line sound n.faults faults-told (length n.gates + length n.outputs + 2) [],
      )

  pub text-short : length (text_of n) ≤ circuit_bytes
  unfolding text_of
  text-short =
      let h = head-told n w in
      omega (
        arith,
        length-append (head_line n) (gates_text n ++ (outputs_text n ++ faults_text n)),
        length-append (gates_text n) (outputs_text n ++ faults_text n),
        length-append (outputs_text n) (faults_text n),
        ap length h.is,
        h.short,
        lines-short (nth_gate_refusal n.inputs) gate_of gate_line no_gate n.gates gates-told,
        lines-short (nth_output_refusal (top_of n)) output_of output_line no_output n.outputs outputs-told,
        lines-short (nth_fault_refusal n.inputs (top_of n)) fault_line_of fault_line sound n.faults faults-told,
        w.gates-high,
        w.outputs-high,
        w.faults-high,
      )

  pub text-accepted : parse_of (text_of n) ≡ accepted n
  unfolding text_of
  text-accepted = head_read (head_line n) (gates_text n ++ (outputs_text n ++ faults_text n)) (head_written n) (head-told n w) (omega (arith, text-short)) ∙ body-read

pub accepted-exactly : (n : Netlist) → WellFormed n ↔ ((text : List ℕ) × (parse_of text ≡ accepted n))
accepted-exactly n = (λ w. (text_of n, text-accepted n w), λ t. well-formed t.0 n t.1)
