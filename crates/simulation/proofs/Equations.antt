-- Line values satisfy the circuit's equations, whatever the order in which they are worked out:
--   input-lines    an input's line shows what it gets, seen through the fault: what is applied to it, and under a bridge the AND of both
--   gate-lines     a gate's line shows its kind's value of all the lines that it reads, as they are shown, seen through the fault
use mathlib.Core.Path.{◌≡◌, refl, sym, ap, ◌∙◌, subst}
use mathlib.Core.Bool.{Bool}
use mathlib.Core.List.{List, [], ◌∷◌}
use Prim.Native.Nat.{ℕ, zero, suc, ◌+◌, ◌<◌}
use native.Mathlib.Nat.{add-zero}
use native.Mathlib.Numerals.{add-one}
use native.Mathlib.Omega.{arith}
use lib.ListN.{length, get_or, get_or-append}
use lib.Seq.{get_or-append_seam}
use Rattle.integer.specs.ListTests.{Below}
use Rattle.integer.proofs.Tabs.{get_or-tab}
use Rattle.evaluation.proofs.Widths.{reads-below, map_below}
use Rattle.netlist.specs.Circuits.{Netlist}
use Rattle.netlist.specs.WellFormed.{WellFormed}
use Rattle.gate_lines.specs.GateItems.{no_gate, lines_read, Gate}
use Rattle.statements.specs.Items.{Fault}
use Rattle.columns.specs.Shown.{shown, applied_under}
use Rattle.gates.specs.Gates.{gate_value}
use Rattle.simulation.specs.Rows.{input_shown, input_values, reads, gate_in, gate_next, gates_next, line_values}
use Rattle.simulation.proofs.LineValues.{length-inputs, length-next}

module _ (f : Fault) where
  seam : (l : List Bool) (g : Gate) → reads (gate_next f l g) (length l) ≡ shown f (length l) (gate_in l g)
  unfolding gate_next
  seam l g = get_or-append_seam l (shown f (length l) (gate_in l g)) [] _

  -- further gates leave the lines before them alone
  kept : (gates : List Gate) (l : List Bool) (i : ℕ) → i < length l → reads (gates_next f l gates) i ≡ reads l i
  unfolding gates_next gate_next
  kept [] l i h = refl
  kept (g ∷ gates) l i h =
      let more : i < length (gate_next f l g) = omega (arith, length-next f l g) in
      kept gates (gate_next f l g) i more ∙ get_or-append l (shown f (length l) (gate_in l g) ∷ []) _ i h

  nth-gate : (gates : List Gate) (l : List Bool) (j : ℕ) → j < length gates → Below (length l + j) (lines_read (get_or gates j no_gate))
      → reads (gates_next f l gates) (length l + j) ≡ shown f (length l + j) (gate_in (gates_next f l gates) (get_or gates j no_gate))
  unfolding gates_next
  nth-gate [] l j h low = absurd (omega arith)
  nth-gate (g ∷ gates) l zero h low =
      let all = gates_next f (gate_next f l g) gates in
      let own : length l < length (gate_next f l g) = omega (arith, length-next f l g) in
      let same : (i : ℕ) → i < length l + 0 → reads l i ≡ reads all i = λ i k. sym (kept (g ∷ gates) l i (subst (λ n. i < n) (add-zero (length l)) k)) in
      subst (λ n. reads all n ≡ shown f n (gate_in all g)) (sym (add-zero (length l)))
      (kept gates (gate_next f l g) (length l) own
      ∙ seam l g
      ∙ ap (λ (bits : List Bool). shown f (length l) (gate_value g.kind bits)) (map_below (length l + 0) (reads l) (reads all) (lines_read g) same low))
  nth-gate (g ∷ gates) l (suc j) h low =
      let e : length (gate_next f l g) + j ≡ length l + suc j = omega (arith, length-next f l g) in
      let all = gates_next f (gate_next f l g) gates in
      subst (λ n. reads all n ≡ shown f n (gate_in all (get_or gates j no_gate))) e
      (nth-gate gates (gate_next f l g) j (omega arith) (subst (λ (n : ℕ). Below n (lines_read (get_or gates j no_gate))) (sym e) low))

module _ (n : Netlist) (f : Fault) (x : ℕ) where
  pub input-lines : (i : ℕ) → i < n.inputs → reads (line_values n f x) (i + 1) ≡ shown f (i + 1) (applied_under f.bridge x i)
  unfolding line_values input_values
  input-lines i h =
      let l = input_values f x n.inputs in
      let early : i + 1 < length l = omega (arith, length-inputs f x n.inputs) in
      kept f n.gates l (i + 1) early ∙ ap (reads l) (add-one i) ∙ get_or-tab n.inputs (input_shown f x) _ i h

  pub gate-lines : (j : ℕ) → WellFormed n → j < length n.gates
      → reads (line_values n f x) (n.inputs + j + 1) ≡ shown f (n.inputs + j + 1) (gate_in (line_values n f x) (get_or n.gates j no_gate))
  unfolding line_values
  gate-lines j w h =
      let l = input_values f x n.inputs in
      let e : length l + j ≡ n.inputs + j + 1 = omega (arith, length-inputs f x n.inputs) in
      let all = gates_next f l n.gates in
      let low = reads-below (n.inputs + j + 1) (get_or n.gates j no_gate) (w.gates-right j h) in
      subst (λ k. reads all k ≡ shown f k (gate_in all (get_or n.gates j no_gate))) e
      (nth-gate f n.gates l j h (subst (λ (k : ℕ). Below k (lines_read (get_or n.gates j no_gate))) (sym e) low))
