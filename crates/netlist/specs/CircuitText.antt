-- The text of a circuit, written field by field; of a well-formed circuit it is accepted, and no other text is (proofs/AcceptedTexts `texts-exactly`).
-- Document 01, "The circuit text":
--   "Fields stand in fixed order, parted by commas, with no quoting. A line ends in one byte 0A hexadecimal, the last too." "The lines, in this order:"
--   "`circuit,N,G,M,Q,K`: N inputs (1 to 8), G gates (0 to 48), M outputs (1 to 4), Q faults (1 to 32), cap K (1 to 4)."
--   "G lines `gate,KIND,A,B`" "M lines `output,LINE,WEIGHT`" "Q lines `fault,LINE,VALUE`, with one to three LINE,VALUE pairs"
-- and document 02, notes 2, 4 and 8: "A gate line may carry two, three or four line fields" "WEIGHT becomes −15 to 15 without 0, written with `-`."
-- "A fault line may read `bridge,I,J`"
use Rattle.std.specs.Prelude.{ℕ, List, [], ◌∷◌, ◌++◌, map, pos, length}
use Rattle.text.specs.Text.{comma}
use Rattle.writing.specs.Writing.{line_of}
use Rattle.statements.specs.Items.{no_output, sound}
use Rattle.gate_lines.specs.GateItems.{Gate, no_gate, line_fields}
use Rattle.statements.specs.Lines.{circuit_word, output_word}
use Rattle.gate_lines.specs.GateLines.{gate_word}
use Rattle.kinds.specs.Kinds.{kind_word}
use Rattle.statements.specs.declared.Output.{Output}
use Rattle.sections.specs.Sections.{each_line}
use Rattle.sections.specs.FaultLines.{fault_line}
use Rattle.netlist.specs.Circuits.{Netlist}

-- no circuit's text is longer: its first line has at most 20 bytes, 48 gates 22 each, 4 outputs 14 each and 32 faults 21 each
abbrev pub circuit_bytes : ℕ
circuit_bytes = 1804

unfoldable pub head_line : Netlist → List ℕ
head_line n =
    line_of circuit_word (pos n.inputs ∷ pos (length n.gates) ∷ pos (length n.outputs) ∷ pos (length n.faults) ∷ pos n.cap ∷ [])

unfoldable pub gate_line : Gate → List ℕ
gate_line g = line_of (gate_word ++ (comma ∷ kind_word g.kind)) (map pos (line_fields g))

unfoldable pub output_line : Output → List ℕ
output_line o = line_of output_word (pos o.line ∷ o.weight ∷ [])

unfoldable pub text_of : Netlist → List ℕ
text_of n = head_line n ++ (each_line gate_line no_gate n.gates ++ (each_line output_line no_output n.outputs ++ each_line fault_line sound n.faults))
