-- The text of a circuit is that of the paper, byte for byte:
--   listing-written            document 01's listing
--   gated-written              x1x2x3 + x4·not(x2x3), whose faults are of two pairs
--   bridged-listing-written    the listing with a bridge among its faults
--   wide-and-written           an `and` of three inputs
--   subtracted-written         an input as an output of weight -15
use mathlib.Core.Bool.{Bool, true, false}
use mathlib.Core.Path.{◌≡◌, refl}
use mathlib.Core.List.{[], ◌∷◌}
use Prim.Native.Nat.{ℕ}
use lib.IntN.{ℤ, pos, negsuc}
use Rattle.writing.specs.Writing.{decimal_to, decimal_of, integer_of, gather, number_field, numbers_of, line_of}
use Rattle.statements.specs.Items.{free, no_bridge}
use Rattle.kinds.specs.Kinds.{kind_word}
use Rattle.statements.specs.Items.{Fault}
use Rattle.gate_lines.specs.GateItems.{up_to_none, line_fields, Gate}
use Rattle.kinds.specs.declared.Kind.{Kind}
use Rattle.kinds.specs.declared.Kind.TheVariants.{And, Or, Not}
use Rattle.statements.specs.declared.Output.{Output}
use Rattle.statements.specs.declared.Pair.{Pair}
use Rattle.netlist.specs.CircuitText.{head_line, gate_line, output_line, text_of}
use Rattle.sections.specs.FaultLines.{pair_written, stuck_line, bridge_line, fault_line}
use Rattle.sections.specs.Sections.{each_line}
use Rattle.netlist.specs.Circuits.{Netlist}
use Rattle.examples.specs.BridgeTexts.{bridged_listing}
use Rattle.examples.specs.SignedTexts.{subtracted_input}
use Rattle.examples.specs.WideTexts.{wide_and}
use Rattle.examples.specs.Texts.{text_of_lines, gated_text, listing}

abbrev wide : Kind → ℕ → ℕ → ℕ → ℕ → Gate
wide kind a b c d = record { kind = kind; a = a; b = b; c = c; d = d }

abbrev gate : Kind → ℕ → ℕ → Gate
gate kind a b = wide kind a b 0 0

abbrev output : ℕ → ℤ → Output
output line weight = record { line = line; weight = weight }

abbrev at : ℕ → Bool → Pair
at line value = record { line = line; value = value }

abbrev fault : Pair → Pair → Fault
fault first second = record { first = first; second = second; third = free; bridge = no_bridge }

abbrev bridge : ℕ → ℕ → Fault
bridge i j = record { first = free; second = free; third = free; bridge = record { first = i; second = j } }

abbrev pub listing_circuit : Netlist
listing_circuit =
    record {
      inputs = 3;
      gates = gate Not 2 0 ∷ gate And 1 2 ∷ gate And 3 4 ∷ gate Or 5 6 ∷ [];
      outputs = output 7 (pos 1) ∷ [];
      faults = fault (at 2 false) free ∷ fault (at 2 true) free ∷ [];
      cap = 2;
    }

abbrev pub bridged_listing_circuit : Netlist
bridged_listing_circuit =
    record {
      inputs = 3;
      gates = gate Not 2 0 ∷ gate And 1 2 ∷ gate And 3 4 ∷ gate Or 5 6 ∷ [];
      outputs = output 7 (pos 1) ∷ [];
      faults = fault (at 2 false) free ∷ bridge 1 3 ∷ [];
      cap = 2;
    }

abbrev pub gated_circuit : Netlist
gated_circuit =
    record {
      inputs = 4;
      gates = gate And 2 3 ∷ gate And 1 5 ∷ gate Not 5 0 ∷ gate And 4 7 ∷ gate Or 6 8 ∷ [];
      outputs = output 9 (pos 1) ∷ [];
      faults = fault (at 1 false) (at 2 false) ∷ fault (at 1 true) (at 2 false) ∷ fault (at 1 false) (at 2 true) ∷ fault (at 1 true) (at 2 true) ∷ [];
      cap = 1;
    }

abbrev pub wide_and_circuit : Netlist
wide_and_circuit =
    record {
      inputs = 3;
      gates = wide And 1 2 3 0 ∷ [];
      outputs = output 4 (pos 1) ∷ [];
      faults = fault (at 1 false) free ∷ fault (at 4 true) free ∷ [];
      cap = 1;
    }

abbrev pub subtracted_circuit : Netlist
subtracted_circuit = record { inputs = 1; gates = []; outputs = output 1 (negsuc 14) ∷ []; faults = fault (at 1 false) free ∷ []; cap = 1 }

pub listing-written : text_of listing_circuit ≡ listing
unfolding text_of head_line kind_word gate_line line_fields up_to_none output_line pair_written stuck_line bridge_line fault_line each_line line_of numbers_of number_field gather integer_of decimal_of decimal_to listing text_of_lines
listing-written = refl

pub gated-written : text_of gated_circuit ≡ gated_text
unfolding text_of head_line kind_word gate_line line_fields up_to_none output_line pair_written stuck_line bridge_line fault_line each_line line_of numbers_of number_field gather integer_of decimal_of decimal_to gated_text text_of_lines
gated-written = refl

pub bridged-listing-written : text_of bridged_listing_circuit ≡ bridged_listing
unfolding text_of head_line kind_word gate_line line_fields up_to_none output_line pair_written stuck_line bridge_line fault_line each_line line_of numbers_of number_field gather integer_of decimal_of decimal_to bridged_listing text_of_lines
bridged-listing-written = refl

pub wide-and-written : text_of wide_and_circuit ≡ wide_and
unfolding text_of head_line kind_word gate_line line_fields up_to_none output_line pair_written stuck_line bridge_line fault_line each_line line_of numbers_of number_field gather integer_of decimal_of decimal_to wide_and text_of_lines
wide-and-written = refl

pub subtracted-written : text_of subtracted_circuit ≡ subtracted_input
unfolding text_of head_line output_line pair_written stuck_line bridge_line fault_line each_line line_of numbers_of number_field gather integer_of decimal_of decimal_to subtracted_input text_of_lines
subtracted-written = refl
