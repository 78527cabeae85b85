-- What private functions leave of line values: a column of 256 values for each of 58 lines, one value a row.
--   Columns              every line on the first rows, by the row's line values
--   row_bit_of, source_of   which bit of a row an input is; which bits an input gets under a bridge
--   slot_of               where a line is read in them: no circuit has a line 57
--   read_term, read_sum    an output's term and a row's value, as they are read there
--   value_by              a row's value by its line values, with any outputs
--   with_bits              outputs with the weights 1, 2, 4, 8 in place of their own
use Rattle.std.specs.Prelude.{ℕ, ◌-◌, ◌<◌, ◌^◌, Bool, cond, List, ◌≡◌, ltb, ℤ, pos, get_or, length}
use Rattle.integer.specs.Sum.{sum_to}
use Rattle.integer.specs.Tab.{tab}
use Rattle.netlist.specs.Circuits.{Netlist}
use Rattle.statements.specs.Items.{no_output}
use Rattle.statements.specs.declared.Bridge.{Bridge}
use Rattle.statements.specs.Items.{Fault}
use Rattle.statements.specs.declared.Output.{Output}
use Rattle.columns.specs.Shown.{joins}
use Rattle.columns.specs.Steps.{shown_at}
use Rattle.simulation.specs.Rows.{input_values, reads, line_values, weighed}

-- line values of the row x are `lines x`; a line after the last shows 0
pub record Columns (values : List Bool) (n : ℕ) (lines : ℕ → List Bool) : Type 0 where
  pub each : (line x : ℕ) → line < 58 → x < n → shown_at values line x ≡ reads (lines x) line

abbrev pub input_lines : Fault → ℕ → ℕ → List Bool
input_lines f inputs x = input_values f x inputs

-- rows are below 256, so bit 8 is 0 in each of them
unfoldable pub row_bit_of : ℕ → ℕ
row_bit_of input = cond (ltb input 9) (input - 1) 8

-- for one of the bridge's inputs: that one where the bridge joins input i, from 0, and i itself elsewhere
unfoldable pub source_of : Bridge → ℕ → ℕ → ℕ
source_of b i input = cond (joins b i) (row_bit_of input) i

unfoldable pub slot_of : ℕ → ℕ
slot_of line = cond (ltb line 57) line 57

abbrev pub read_term : List Bool → List Output → ℕ → ℕ → ℤ
read_term values outputs x k = weighed (shown_at values (slot_of (get_or outputs k no_output).line) x) (get_or outputs k no_output).weight

unfoldable pub read_sum : List Bool → List Output → ℕ → ℤ
read_sum values outputs x = sum_to (length outputs) (read_term values outputs x)

abbrev pub term_by : List Output → List Bool → ℕ → ℤ
term_by outputs l k = weighed (reads l (get_or outputs k no_output).line) (get_or outputs k no_output).weight

unfoldable pub value_by : List Output → List Bool → ℤ
value_by outputs l = sum_to (length outputs) (term_by outputs l)

abbrev pub values_by : List Output → Netlist → Fault → ℕ → ℤ
values_by outputs n f x = value_by outputs (line_values n f x)

abbrev pub with_bit_at : List Output → ℕ → Output
with_bit_at outputs k = record { line = (get_or outputs k no_output).line; weight = pos (2 ^ k) }

unfoldable pub with_bits : List Output → List Output
with_bits outputs = tab (length outputs) (with_bit_at outputs)
