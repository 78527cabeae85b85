-- The rows of a circuit whose fault's lines are opened (document 01): "coefficients of n+k inputs, of which the last k (1 to 3, n at least 1) are
-- the opened lines". What was computed for an opened line is cut off, and its readers and the outputs see the value that is driven from outside.
use Rattle.std.specs.Prelude.{ℕ, ◌+◌, ◌%◌, ◌^◌, List, ℤ, length}
use Rattle.integer.specs.Tab.{tab}
use Rattle.netlist.specs.Circuits.{Netlist}
use Rattle.columns.specs.Shown.{applied}
use Rattle.simulation.specs.Rows.{row_value}
use Rattle.statements.specs.Items.{Fault}
use Rattle.statements.specs.declared.Pair.{Pair}
use Rattle.lookup.specs.StuckPairs.{stuck_values}

-- the pair's line, driven by bit i of row x
abbrev pub driven_by : ℕ → ℕ → Pair → Pair
driven_by x i s = record { line = s.line; value = applied x i }

-- the first line is driven by bit n of row x, and each further one by the next bit; nothing else of the fault changes
unfoldable pub driven : ℕ → Fault → ℕ → Fault
driven n f x = record { first = driven_by x n f.first; second = driven_by x (n + 1) f.second; third = driven_by x (n + 2) f.third; bridge = f.bridge }

-- the lowest N bits are applied to the inputs
unfoldable pub opened_circuit_row : Netlist → Fault → ℕ → ℤ
opened_circuit_row n f x = row_value n (driven n.inputs f x) (x % 2 ^ n.inputs)

-- the rows of N inputs and as many opened lines as the fault names
unfoldable pub opened_circuit_rows : Netlist → Fault → List ℤ
opened_circuit_rows n f = tab (2 ^ (n.inputs + length (stuck_values f))) (opened_circuit_row n f)
