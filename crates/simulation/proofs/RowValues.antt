-- The value of a row as the code adds it up, and the rows as it writes them:
--   sum_room, sum_more, sum-small    a loop that adds up terms within 32,768: one turn
--   rows-read, own_rows    the sums of what the code reads are the rows' values by the outputs given; by its own, they are the circuit's rows
--   row-count-few               there are at most 256 rows
use mathlib.Core.Path.{◌≡◌, refl, sym, ap, ◌∙◌, subst}
use mathlib.Core.Bool.{Bool}
use mathlib.Core.List.{List}
use Prim.Native.Nat.{ℕ, ◌+◌, ◌*◌, ◌^◌, ◌≤◌, ◌<◌}
use native.Mathlib.Numerals.{add-one}
use native.Mathlib.Omega.{arith}
use lib.IntN.{ℤ, ◌+ℤ◌, nat_abs}
use lib.ListN.{length, get_or}
use lib.Pow.{pow_mono}
use mir.Syntax.{w32}
use mir.Val.{SFits, to_z, of_z}
use mir.ValLaws.{to_z-of_z}
use Rattle.integer.specs.Sum.{sum_to}
use Rattle.integer.specs.Tab.{tab}
use Rattle.integer.proofs.Bounds.{nat_abs-add, sfits-abs}
use Rattle.integer.proofs.Sums.{sum-ext}
use Rattle.integer.proofs.Tabs.{tab-ext}
use Rattle.netlist.specs.Circuits.{Netlist}
use Rattle.netlist.specs.WellFormed.{WellFormed}
use Rattle.statements.specs.Items.{no_output}
use Rattle.statements.specs.Items.{Fault}
use Rattle.statements.specs.declared.Output.{Output}
use Rattle.simulation.specs.Rows.{line_values, row_value, rows_of}
use Rattle.simulation.specs.Steps.{Columns, read_term, read_sum, term_by, value_by, values_by}
use Rattle.simulation.proofs.Columns.{slot-shows}
use Rattle.simulation.proofs.LineValues.{lines-few}

module _ (t : ℕ → ℤ) (k : ℕ) (z : ℤ) where
  pub sum_more : z ≡ t k → sum_to k t +ℤ z ≡ sum_to (k + 1) t
  unfolding sum_to
  sum_more e = ap (λ (y : ℤ). sum_to k t +ℤ y) e ∙ ap (λ (n : ℕ). sum_to n t) (sym (add-one k))

  module _ (small : nat_abs (sum_to k t) ≤ k * 32768) (one : nat_abs z ≤ 32768) where
    pub sum_room : k < 4 → nat_abs (sum_to k t) + nat_abs z < 2 ^ 31
    sum_room h = omega arith

    pub sum-small : z ≡ t k → nat_abs (sum_to (k + 1) t) ≤ (k + 1) * 32768
    sum-small e = subst (λ (y : ℤ). nat_abs y ≤ (k + 1) * 32768) (sum_more e) (omega (arith, nat_abs-add (sum_to k t) z))

-- whatever the outputs, what is read of the columns is the value by the line values
module _ (c : Netlist) (f : Fault) (n : ℕ) {values : List Bool} (w : WellFormed c) (are : Columns values n (line_values c f)) (outputs : List Output) where
  row_of : (x : ℕ) → x < n → read_sum values outputs x ≡ values_by outputs c f x
  unfolding read_sum value_by
  row_of x h =
      sum-ext (length outputs) (read_term values outputs x) (term_by outputs (line_values c f x))
      (λ k l. rw (slot-shows n (line_values c f) are (get_or outputs k no_output).line x h (lines-few c f x w)))

  -- what a loop that writes row x at x has written at its end
  pub rows-read : n ≡ 2 ^ c.inputs → tab n (read_sum values outputs) ≡ tab (2 ^ c.inputs) (values_by outputs c f)
  rows-read e = tab-ext n (read_sum values outputs) (values_by outputs c f) row_of ∙ ap (λ (k : ℕ). tab k (values_by outputs c f)) e

pub own_rows : (c : Netlist) (f : Fault) → tab (2 ^ c.inputs) (values_by c.outputs c f) ≡ rows_of c f
unfolding value_by rows_of row_value
own_rows c f = refl

pub row-count-few : (c : Netlist) → WellFormed c → 2 ^ c.inputs ≤ 256
row-count-few c w = pow_mono w.inputs-high

-- one turn of the machine's sum, of the value z of 32 bits
pub sum_turn : (b : ℕ) (z s : ℤ) → to_z w32 b ≡ s → SFits w32 z → nat_abs s + nat_abs z < 2 ^ 31 → to_z w32 (of_z w32 (to_z w32 b +ℤ to_z w32 (of_z w32 z))) ≡ s +ℤ z
sum_turn b z s e f h = rw (to_z-of_z w32 z f, e) (to_z-of_z w32 (s +ℤ z) (sfits-abs (omega (arith, nat_abs-add s z))))
