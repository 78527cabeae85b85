-- Row values that are equal:
--   same_row    two faults, each with a row of its own, where every input shows the same and the faults treat the lines above the inputs alike
use mathlib.Core.Path.{◌≡◌, refl, ap, ◌∙◌}
use mathlib.Core.Bool.{Bool, false}
use mathlib.Core.List.{List, [], ◌∷◌, ◌++◌}
use Prim.Native.Nat.{ℕ, ◌<◌}
use native.Mathlib.Omega.{arith}
use lib.ListN.{length}
use Rattle.integer.specs.Sum.{sum_to}
use Rattle.integer.proofs.Tabs.{tab-ext}
use Rattle.netlist.specs.Circuits.{Netlist}
use Rattle.columns.specs.Shown.{shown}
use Rattle.simulation.specs.Rows.{input_shown, input_values, gate_next, gates_next, line_values, row_value, gate_in}
use Rattle.simulation.specs.Steps.{term_by}
use Rattle.simulation.proofs.LineValues.{length-inputs, length-next}
use Rattle.statements.specs.Items.{Fault}
use Rattle.gate_lines.specs.GateItems.{Gate}

-- the faults treat the lines above the inputs alike
module _ (n : Netlist) (f g : Fault) (above : (line : ℕ) (v : Bool) → n.inputs < line → shown f line v ≡ shown g line v) where
  same-gates : (gates : List Gate) (l : List Bool) → n.inputs < length l → gates_next f l gates ≡ gates_next g l gates
  unfolding gates_next gate_next
  same-gates [] l h = refl
  same-gates (d ∷ gates) l h =
      ap (λ (v : Bool). gates_next f (l ++ (v ∷ [])) gates) (above (length l) (gate_in l d) h)
      ∙ same-gates gates (gate_next g l d) (omega (arith, length-next g l d))

  -- and every input shows the same
  module _ (x y : ℕ) (inputs : (i : ℕ) → i < n.inputs → input_shown f x i ≡ input_shown g y i) where
    same_inputs : input_values f x n.inputs ≡ input_values g y n.inputs
    unfolding input_values
    same_inputs = ap (λ (l : List Bool). false ∷ l) (tab-ext n.inputs (input_shown f x) (input_shown g y) inputs)

    same_lines : line_values n f x ≡ line_values n g y
    unfolding line_values
    same_lines =
        ap (λ (l : List Bool). gates_next f l n.gates) same_inputs
        ∙ same-gates n.gates (input_values g y n.inputs) (omega (arith, length-inputs g y n.inputs))

    pub same_row : row_value n f x ≡ row_value n g y
    unfolding row_value
    same_row = ap (λ (l : List Bool). sum_to (length n.outputs) (term_by n.outputs l)) same_lines
