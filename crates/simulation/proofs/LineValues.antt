-- The lines of a circuit, one after the other:
--   length-inputs, length-next, length-lines, lines-few    how many values there are
--   input-more, gates-more    one input more, one gate more
use mathlib.Core.Path.{◌≡◌, refl, sym, ap, ◌∙◌}
use mathlib.Core.Bool.{Bool}
use mathlib.Core.List.{List, [], ◌∷◌, ◌++◌}
use Prim.Native.Nat.{ℕ, ◌+◌, ◌≤◌, ◌<◌}
use native.Mathlib.Numerals.{add-one}
use native.Mathlib.Omega.{arith}
use lib.ListN.{length, take, get_or, length-append}
use lib.Seq.{take-suc}
use Rattle.integer.specs.Tab.{tab}
use Rattle.integer.proofs.Tabs.{length-tab}
use Rattle.netlist.specs.Circuits.{Netlist}
use Rattle.netlist.specs.WellFormed.{WellFormed}
use Rattle.columns.specs.Shown.{shown}
use Rattle.gate_lines.specs.GateItems.{no_gate, Gate}
use Rattle.statements.specs.Items.{Fault}
use Rattle.simulation.specs.Rows.{input_shown, input_values, gate_in, gate_next, gates_next, line_values}

module _ (f : Fault) (x : ℕ) where
  pub length-inputs : (n : ℕ) → length (input_values f x n) ≡ n + 1
  unfolding input_values
  length-inputs n = omega (arith, length-tab n (input_shown f x))

  pub input-more : (i : ℕ) → input_values f x i ++ (input_shown f x i ∷ []) ≡ input_values f x (i + 1)
  unfolding input_values tab
  input-more i = ap (input_values f x) (sym (add-one i))

module _ (f : Fault) where
  gates-snoc : (l : List Bool) (gates : List Gate) (g : Gate) → gates_next f l (gates ++ (g ∷ [])) ≡ gate_next f (gates_next f l gates) g
  unfolding gates_next
  gates-snoc l [] g = refl
  gates-snoc l (h ∷ gates) g = gates-snoc (gate_next f l h) gates g

  pub length-next : (l : List Bool) (g : Gate) → length (gate_next f l g) ≡ length l + 1
  unfolding gate_next
  length-next l g = length-append l (shown f (length l) (gate_in l g) ∷ [])

  pub length-lines : (l : List Bool) (gates : List Gate) → length (gates_next f l gates) ≡ length l + length gates
  unfolding gates_next
  length-lines l [] = omega arith
  length-lines l (g ∷ gates) = omega (arith, length-lines (gate_next f l g) gates, length-next l g)

  -- with the gate at j of those in use
  pub gates-more : (l : List Bool) (gates : List Gate) (j : ℕ) → j < length gates
      → gate_next f (gates_next f l (take j gates)) (get_or gates j no_gate) ≡ gates_next f l (take (j + 1) gates)
  gates-more l gates j h = sym (gates-snoc l (take j gates) (get_or gates j no_gate)) ∙ ap (gates_next f l) (rw (add-one j, take-suc gates j no_gate h))

-- a circuit of the code has at most 56 lines, and there is index 0
pub lines-few : (c : Netlist) (f : Fault) (x : ℕ) → WellFormed c → length (line_values c f x) ≤ 57
unfolding line_values
lines-few c f x w = omega (arith, length-lines f (input_values f x c.inputs) c.gates, length-inputs f x c.inputs, w.inputs-high, w.gates-high)
