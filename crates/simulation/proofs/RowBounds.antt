-- How many rows there are, and their sizes from those of the weights:
--   length-rows                2 ^ N rows
--   row_within, rows-within    where each weight is within B, each row is within as many B as there are outputs, and so within 4 B
-- and of an accepted circuit:
--   rows_few                   256 rows at most
--   rows-bounded, rows-in-range    its row values are from -60 to 60, within the list call's range
use mathlib.Core.Path.{◌≡◌, subst⁻¹}
use mathlib.Core.Bool.{Bool, true, false}
use Prim.Native.Nat.{ℕ, ◌*◌, ◌^◌, ◌≤◌, ◌<◌, zero-le}
use native.Mathlib.Nat.{le_trans, le_refl, mul-le-mul}
use native.Mathlib.Omega.{arith}
use lib.Dec.{lit≤}
use lib.IntN.{ℤ, pos, nat_abs}
use lib.ListN.{length, get_or}
use lib.Pow.{pow_mono}
use Rattle.integer.specs.Tab.{Within}
use Rattle.integer.proofs.Bounds.{nat_abs-sum, within_more}
use Rattle.integer.proofs.Tabs.{length-tab, get_or-tab}
use Rattle.netlist.specs.Circuits.{Netlist}
use Rattle.netlist.specs.WellFormed.{WellFormed}
use Rattle.statements.specs.Items.{no_output}
use Rattle.statements.specs.Items.{Fault}
use Rattle.simulation.specs.Rows.{weighed, output_value, output_term, row_value, rows_of}

pub weighed-le : (B : ℕ) (shows : Bool) (z : ℤ) → nat_abs z ≤ B → nat_abs (weighed shows z) ≤ B
weighed-le B true z h = h
weighed-le B false z h = zero-le

pub length-rows : (n : Netlist) (f : Fault) → length (rows_of n f) ≡ 2 ^ n.inputs
unfolding rows_of
length-rows n f = length-tab (2 ^ n.inputs) (row_value n f)

pub row_within : (B : ℕ) (n : Netlist) (f : Fault) (x : ℕ) → ((k : ℕ) → k < length n.outputs → nat_abs (get_or n.outputs k no_output).weight ≤ B)
    → nat_abs (row_value n f x) ≤ length n.outputs * B
unfolding row_value
row_within B n f x h =
    nat_abs-sum B (length n.outputs) (output_term n f x)
    (λ k l. weighed-le B (output_value n f x k) (get_or n.outputs k no_output).weight (h k l))

pub rows-within : (B : ℕ) (n : Netlist) (f : Fault) → length n.outputs ≤ 4 → ((k : ℕ) → k < length n.outputs → nat_abs (get_or n.outputs k no_output).weight ≤ B)
    → Within (4 * B) (rows_of n f)
unfolding rows_of
rows-within B n f few h x l =
    let inside : x < 2 ^ n.inputs = omega (arith, length-tab (2 ^ n.inputs) (row_value n f)) in
    subst⁻¹ (λ (z : ℤ). nat_abs z ≤ 4 * B) (get_or-tab (2 ^ n.inputs) (row_value n f) (pos 0) x inside)
    (le_trans (row_within B n f x h) (mul-le-mul few (le_refl B)))

-- of an accepted circuit
pub rows-bounded : (n : Netlist) (f : Fault) → WellFormed n → Within 60 (rows_of n f)
rows-bounded n f w = rows-within 15 n f w.outputs-high (λ k l. (w.outputs-right k l).weight-high)

pub rows-in-range : (n : Netlist) (f : Fault) → WellFormed n → Within 1000 (rows_of n f)
rows-in-range n f w = within_more {B = 60} {C = 1000} (rows_of n f) (lit≤ tt) (rows-bounded n f w)

pub rows_few : (n : Netlist) (f : Fault) → WellFormed n → length (rows_of n f) ≤ 256
rows_few n f w = subst⁻¹ (λ (k : ℕ). k ≤ 256) (length-rows n f) (pow_mono w.inputs-high)
