-- What the outputs of a row show, as one number:
--   rows-with-bits    with the weights 1, 2, 4, 8 the rows' values are these numbers
--   same-outputs, outputs-same    two of them are equal exactly where each output shows the same
--   outputs-differ   where they are not, some output shows another value
--   outputs-decide, rows-decided    where they are, so are the rows' values
--   length-outputs, outputs-at    the list of them
--   with-bit     an output with its bit for a weight, as the code writes it
use mathlib.Core.Path.{◌≡◌, refl, sym, ap, ◌∙◌}
use mathlib.Core.Bool.{Bool, true, false, cond, beq}
use mathlib.Core.List.{List, [], ◌∷◌}
use Prim.Native.Nat.{ℕ, zero, suc, ◌+◌, ◌<◌, ◌^◌}
use native.Mathlib.Omega.{arith}
use lib.IntN.{ℤ, pos, ◌+ℤ◌, nat_abs}
use lib.ListN.{length, get_or}
use mir.Syntax.{w16}
use mir.Val.{to_z, of_z}
use Rattle.integer.specs.Counting.{all_below}
use Rattle.integer.specs.Mask.{bit, mask_of}
use Rattle.integer.specs.Sum.{sum_to}
use Rattle.integer.specs.Tab.{tab, nth}
use Rattle.integer.proofs.Bools.{clash}
use Rattle.integer.proofs.Masks.{bit_mask, mask_same}
use Rattle.integer.proofs.NumbersBelow.{all-each, some-fails}
use Rattle.std.specs.Cmp.{booleans_Decides}
use Rattle.integer.proofs.Sums.{sum-ext}
use Rattle.integer.proofs.Tabs.{length-tab, get_or-tab, tab-ext}
use Rattle.netlist.specs.Circuits.{Netlist}
use Rattle.statements.specs.Items.{no_output, Fault}
use Rattle.statements.specs.declared.Output.{Output}
use Rattle.simulation.specs.Rows.{reads, line_values, weighed, output_value, output_term, row_value, rows_of, row_outputs, outputs_of}
use Rattle.simulation.specs.Steps.{term_by, value_by, values_by, with_bit_at, with_bits}

-- the numbers below n that pass, added up as powers of 2
mask-summed : (p : ℕ → Bool) (n : ℕ) → sum_to n (λ k. weighed (p k) (pos (2 ^ k))) ≡ pos (mask_of p n)
unfolding sum_to mask_of
mask-summed p zero = refl
mask-summed p (suc n) = ap (λ (z : ℤ). z +ℤ weighed (p n) (pos (2 ^ n))) (mask-summed p n) ∙ go (p n)
  where
    go : (b : Bool) → pos (mask_of p n) +ℤ weighed b (pos (2 ^ n)) ≡ pos (mask_of p n + cond b (2 ^ n) 0)
    go true = refl
    go false = refl

pub rows-with-bits : (n : Netlist) (f : Fault) → tab (2 ^ n.inputs) (values_by (with_bits n.outputs) n f) ≡ outputs_of n f
unfolding outputs_of row_outputs with_bits value_by
rows-with-bits n f = tab-ext (2 ^ n.inputs) (values_by (with_bits n.outputs) n f) (row_outputs n f) (λ x h. row x)
  where
    M : ℕ
    M = length n.outputs

    row : (x : ℕ) → value_by (with_bits n.outputs) (line_values n f x) ≡ row_outputs n f x
    row x =
        ap (λ (m : ℕ). sum_to m (term_by (with_bits n.outputs) (line_values n f x))) (length-tab M (with_bit_at n.outputs))
        ∙ sum-ext M (term_by (with_bits n.outputs) (line_values n f x)) (λ k. weighed (output_value n f x k) (pos (2 ^ k)))
        (λ k h. ap (λ (o : Output). weighed (reads (line_values n f x) o.line) o.weight) (get_or-tab M (with_bit_at n.outputs) no_output k h))
        ∙ mask-summed (output_value n f x) M

module _ (n : Netlist) (a b : Fault) (x : ℕ) where
  abbrev Same : ℕ → Type 0
  Same k = output_value n a x k ≡ output_value n b x k

  pub same-outputs : row_outputs n a x ≡ row_outputs n b x → (k : ℕ) → k < length n.outputs → Same k
  unfolding row_outputs
  same-outputs e k h =
      let M = length n.outputs in
      sym (bit_mask (output_value n a x) M k h) ∙ ap (λ (z : ℤ). bit (nat_abs z) k) e ∙ bit_mask (output_value n b x) M k h

  pub outputs-same : ((k : ℕ) → k < length n.outputs → Same k) → row_outputs n a x ≡ row_outputs n b x
  unfolding row_outputs
  outputs-same same = ap pos (mask_same (output_value n a x) (output_value n b x) (length n.outputs) same)

  pub outputs-decide : row_outputs n a x ≡ row_outputs n b x → row_value n a x ≡ row_value n b x
  unfolding row_value
  outputs-decide e =
      sum-ext (length n.outputs) (output_term n a x) (output_term n b x) (λ k h. ap (λ (t : Bool). weighed t (get_or n.outputs k no_output).weight) (same-outputs e k h))

  -- a search among the outputs finds one that differs
  pub outputs-differ : (row_outputs n a x ≡ row_outputs n b x → ⊥) → (k : ℕ) × (k < length n.outputs) × (Same k → ⊥)
  outputs-differ d =
      go (all_below alike (length n.outputs)) refl
    where
      alike : ℕ → Bool
      alike k = beq (output_value n a x k) (output_value n b x k)

      go : (t : Bool) → all_below alike (length n.outputs) ≡ t → (k : ℕ) × (k < length n.outputs) × (Same k → ⊥)
      go true e = absurd (d (outputs-same (λ k h. (booleans_Decides (output_value n a x k) (output_value n b x k)).0 (all-each alike (length n.outputs) e k h))))
      go false e =
          let r = some-fails alike (length n.outputs) e in
          (r.0, r.1, λ s. clash (sym ((booleans_Decides (output_value n a x r.0) (output_value n b x r.0)).1 s) ∙ r.2))

-- and so over all rows

pub length-outputs : (n : Netlist) (f : Fault) → length (outputs_of n f) ≡ 2 ^ n.inputs
unfolding outputs_of
length-outputs n f = length-tab (2 ^ n.inputs) (row_outputs n f)

pub outputs-at : (n : Netlist) (f : Fault) (x : ℕ) → x < 2 ^ n.inputs → nth (outputs_of n f) x ≡ row_outputs n f x
unfolding outputs_of
outputs-at n f x h = get_or-tab (2 ^ n.inputs) (row_outputs n f) (pos 0) x h

pub rows-decided : (n : Netlist) (a b : Fault) (x : ℕ) → x < 2 ^ n.inputs → nth (outputs_of n a) x ≡ nth (outputs_of n b) x → nth (rows_of n a) x ≡ nth (rows_of n b) x
unfolding rows_of
rows-decided n a b x h e =
    get_or-tab (2 ^ n.inputs) (row_value n a) (pos 0) x h ∙ outputs-decide n a b x (sym (outputs-at n a x h) ∙ e ∙ outputs-at n b x h)
    ∙ sym (get_or-tab (2 ^ n.inputs) (row_value n b) (pos 0) x h)

-- The outputs with 1, 2, 4, 8 for weights, as the code writes them.

bits-are : (k : ℕ) → k < 4 → to_z w16 (of_z w16 (get_or (to_z w16 1 ∷ to_z w16 2 ∷ to_z w16 4 ∷ to_z w16 8 ∷ []) k (pos 0))) ≡ pos (2 ^ k)
bits-are zero h = refl
bits-are (suc zero) h = refl
bits-are (suc (suc zero)) h = refl
bits-are (suc (suc (suc zero))) h = refl
bits-are (suc (suc (suc (suc k)))) h = absurd (omega (arith, h))

pub with-bit : (outputs : List Output) (k : ℕ) → k < 4
    → record { line = (get_or outputs k no_output).line; weight = to_z w16 (of_z w16 (get_or (to_z w16 1 ∷ to_z w16 2 ∷ to_z w16 4 ∷ to_z w16 8 ∷ []) k (pos 0))) } ≡ with_bit_at outputs k
with-bit outputs k h = ap (λ (z : ℤ). record { line = (get_or outputs k no_output).line; weight = z }) (bits-are k h)
