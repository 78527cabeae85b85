-- The whole circuit text: the circuit that it states, or its refusal with number and place (document 01, "What is returned"):
--   "Text: 1 first, then line by line; within a line 2, 3, then 4, 5, 6." "bytes after the last due line; the place is the next line"
use Rattle.std.specs.Prelude.{ℕ, ◌+◌, cond, List, [], eqb, ltb, length}
use Rattle.text.specs.Text.{text_bytes, before, after, line_end}
use Rattle.statements.specs.Lines.{head_refusal, head_of, output_of, fault_line_of, output_refusal, unsigned_refusal}
use Rattle.gate_lines.specs.GateLines.{gate_of, gate_refusal, narrow_refusal}
use Rattle.statements.specs.Items.{Fault}
use Rattle.gate_lines.specs.GateItems.{Gate}
use Rattle.statements.specs.declared.Head.{Head}
use Rattle.statements.specs.declared.Output.{Output}
use Rattle.sections.specs.Sections.{Read, items, line_refused, line_refusal, lines_of}
use Rattle.sections.specs.FaultLines.{nth_fault_refusal}
use Rattle.netlist.specs.Circuits.{Netlist}

-- "Inputs are lines 1 to N; the j-th gate (from 1) drives line N+j."
abbrev pub nth_gate_refusal : ℕ → ℕ → List ℕ → ℕ
nth_gate_refusal inputs j l = gate_refusal (inputs + j + 1) l

-- as it was before there were gates of more than two line fields
abbrev pub nth_narrow_refusal : ℕ → ℕ → List ℕ → ℕ
nth_narrow_refusal inputs j l = narrow_refusal (inputs + j + 1) l

abbrev pub nth_output_refusal : ℕ → ℕ → List ℕ → ℕ
nth_output_refusal top j l = output_refusal top l

-- as it was before weights had a sign
abbrev pub nth_unsigned_refusal : ℕ → ℕ → List ℕ → ℕ
nth_unsigned_refusal top j l = unsigned_refusal top l

-- the gates begin at the text's second line
unfoldable pub gates_in : Head → List ℕ → Read Gate
gates_in h rest = lines_of (nth_gate_refusal h.inputs) gate_of h.gates 2 rest []

unfoldable pub outputs_in : Head → List ℕ → Read Output
outputs_in h rest = lines_of (nth_output_refusal (h.inputs + h.gates)) output_of h.outputs (h.gates + 2) rest []

unfoldable pub faults_in : Head → List ℕ → Read Fault
faults_in h rest = lines_of (nth_fault_refusal h.inputs (h.inputs + h.gates)) fault_line_of h.faults (h.gates + h.outputs + 2) rest []

pub data Parse : Type 0 where
  accepted : Netlist → Parse
  rejected : ℕ → ℕ → Parse

-- what a call makes of a text: of the circuit of an accepted one, or of a rejection's number and place
abbrev pub on_parse : {A : Type 0} → (Netlist → A) → (ℕ → ℕ → A) → Parse → A
on_parse found refuse (accepted n) = found n
on_parse found refuse (rejected number place) = refuse number place

abbrev pub on_read : {A : Type 0} → Read A → (List A → List ℕ → Parse) → Parse
on_read (items l rest) next = next l rest
on_read (line_refused number place) next = rejected number place

unfoldable pub end_of : Head → List Gate → List Output → List Fault → List ℕ → Parse
end_of h gates outputs faults rest =
    cond (ltb 0 (length rest)) (rejected 7 (h.gates + h.outputs + h.faults + 2))
    (accepted (record { inputs = h.inputs; gates = gates; outputs = outputs; faults = faults; cap = h.cap }))

unfoldable pub body_of : Head → List ℕ → Parse
body_of h rest =
    on_read (gates_in h rest)
    (λ gates rest. on_read (outputs_in h rest) (λ outputs rest. on_read (faults_in h rest) (λ faults rest. end_of h gates outputs faults rest)))

unfoldable pub parse_of : List ℕ → Parse
parse_of text =
    cond (ltb text_bytes (length text)) (rejected 1 0)
    (cond (eqb (line_refusal head_refusal text) 0)
    (body_of (head_of (before line_end text)) (after line_end text))
    (rejected (line_refusal head_refusal text) 1))
