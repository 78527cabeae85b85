-- A bridge of two inputs of a circuit (document 02, note 8: "Both inputs then show the AND of what is applied."):
--   bridge-rows    under a bridge a circuit has its sound rows with the two inputs replaced by their AND
-- and for fault k of an accepted text, where it is a bridge, the call with the bridge on what the circuit call writes for the sound circuit:
--   bridges-answer    answers as the circuit call does for fault k
--   bridges-agree     writes what the circuit call writes for fault k
use mathlib.Core.Path.{◌≡◌, refl, sym, ap, ◌∙◌}
use mathlib.Core.Bool.{Bool, ◌&&◌}
use mathlib.Core.List.{List}
use Prim.Native.Nat.{ℕ, zero, suc, ◌+◌, ◌*◌, ◌-◌, ◌^◌, ◌<◌, ◌≤◌}
use native.Mathlib.Decide.{ℕ_discrete}
use native.Mathlib.Omega.{arith}
use lib.Dec.{eqb}
use lib.IntN.{ℤ, pos}
use lib.ListN.{length}
use Rattle.integer.specs.Tab.{tab, nth}
use Rattle.integer.proofs.Tabs.{tab-ext, get_or-tab}
use Rattle.netlist.specs.Circuits.{Netlist, fault_at}
use Rattle.netlist.specs.Parsing.{accepted, parse_of}
use Rattle.netlist.proofs.Acceptance.{well-formed}
use Rattle.sections.specs.FaultLines.{BridgeFault}
use Rattle.columns.specs.Shown.{shown, applied}
use Rattle.simulation.specs.Rows.{input_shown, row_value, rows_of}
use Rattle.simulation.proofs.RowBounds.{length-rows}
use Rattle.simulation.proofs.Showing.{sound-keeps, unbridged-shown, BridgeShows, bridge-shows}
use Rattle.statements.specs.Items.{no_bridge, sound}
use Rattle.statements.specs.Items.{Fault}
use Rattle.faults.specs.Faults.{bit_of, both_of, bridged_row, bridged_rows}
use Rattle.faults.proofs.BridgedRows.{bridged-shows-first, bridged-shows-second, bridged-keeps, bridged-below}
use Rattle.faults.proofs.Digits.{digit-small}
use Rattle.bridges.specs.Bridges.{bridged_answer, bridged_spectrum_of}
use Rattle.devices.specs.Devices.{circuit_problem}
use Rattle.devices.specs.Problems.{problem_from}
use Rattle.devices.proofs.ProblemRows.{circuit-count, circuit-rows}
use Rattle.devices.proofs.TextKinds.{circuit-described}
use Rattle.circuit.specs.CircuitCall.{circuit_answer, circuit_spectrum}
use Rattle.agreement.proofs.Accepted.{named-bridge-fault}
use Rattle.agreement.proofs.BridgedProblems.{BridgedProblem, bridged-problem-answer, bridged-problem-agree}
use Rattle.agreement.proofs.SameRows.{same_row}

-- the AND of two bits is their product
product-and : (a b : ℕ) → a < 2 → b < 2 → eqb (a * b) 1 ≡ (eqb a 1 && eqb b 1)
product-and zero zero h g = refl
product-and zero (suc zero) h g = refl
product-and (suc zero) zero h g = refl
product-and (suc zero) (suc zero) h g = refl
product-and (suc (suc a)) b h g = absurd (omega arith)
product-and zero (suc (suc b)) h g = absurd (omega arith)
product-and (suc zero) (suc (suc b)) h g = absurd (omega arith)

module _ (n : Netlist) (f : Fault) (bridge : BridgeFault n.inputs f) where
  abbrev i : ℕ
  i = f.bridge.first

  abbrev j : ℕ
  j = f.bridge.second

  both-applied : (x : ℕ) → eqb (both_of i j x) 1 ≡ (applied x (i - 1) && applied x (j - 1))
  both-applied x = product-and (bit_of i x) (bit_of j x) (digit-small (i - 1) x) (digit-small (j - 1) x)

  -- what an input of the sound circuit shows on the row with both replaced
  input-bridged : (x k : ℕ) → input_shown f x k ≡ applied (bridged_row i j x) k
  input-bridged x k = pick (ℕ_discrete (i - 1) k) (ℕ_discrete (j - 1) k)
    where
      shows : BridgeShows f x
      shows = bridge-shows n.inputs f x bridge

      pick : Dec (i - 1 ≡ k) → Dec (j - 1 ≡ k) → input_shown f x k ≡ applied (bridged_row i j x) k
      pick (yes e) s =
          ap (input_shown f x) (sym e) ∙ shows.first ∙ sym (both-applied x) ∙ ap (λ (m : ℕ). eqb m 1) (sym (bridged-shows-first i j bridge.first-low bridge.rise x)) ∙ ap (applied (bridged_row i j x)) e
      pick (no m) (yes e) =
          ap (input_shown f x) (sym e) ∙ shows.second ∙ sym (both-applied x) ∙ ap (λ (m : ℕ). eqb m 1) (sym (bridged-shows-second i j bridge.first-low bridge.rise x)) ∙ ap (applied (bridged_row i j x)) e
      pick (no m) (no o) =
          let back : k + 1 - 1 ≡ k = omega arith in
          shows.others k (λ e. m (omega arith)) (λ e. o (omega arith))
          ∙ ap (applied x) (sym back)
          ∙ ap (λ (m : ℕ). eqb m 1) (sym (bridged-keeps i j bridge.first-low bridge.rise x (k + 1) (omega arith) (λ e. m (omega arith)) (λ e. o (omega arith))))
          ∙ ap (applied (bridged_row i j x)) back

  row-bridged : (x : ℕ) → row_value n f x ≡ row_value n sound (bridged_row i j x)
  row-bridged x = same_row n f sound gates x (bridged_row i j x) inputs
    where
      gates : (line : ℕ) (v : Bool) → n.inputs < line → shown f line v ≡ shown sound line v
      gates line v h = (bridge-shows n.inputs f x bridge).lines line v (omega arith) ∙ sym (sound-keeps line v (omega arith))

      inputs : (k : ℕ) → k < n.inputs → input_shown f x k ≡ input_shown sound (bridged_row i j x) k
      inputs k h =
          input-bridged x k
          ∙ sym (sound-keeps (k + 1) (applied (bridged_row i j x) k) (omega arith))
          ∙ sym (unbridged-shown sound (bridged_row i j x) k refl)

  pub bridge-rows : rows_of n f ≡ bridged_rows f.bridge.first f.bridge.second (rows_of n sound)
  unfolding rows_of bridged_rows
  bridge-rows =
      let at : ℕ → ℤ = λ x. nth (rows_of n sound) (bridged_row i j x) in
      tab-ext (2 ^ n.inputs) (row_value n f) at
      (λ x h. row-bridged x ∙ sym (get_or-tab (2 ^ n.inputs) (row_value n sound) (pos 0) (bridged_row i j x) (bridged-below i j bridge.first-low bridge.rise x n.inputs bridge.second-high h)))
      ∙ ap (λ (k : ℕ). tab k at) (sym (length-rows n sound))

-- Fault k of an accepted text.

module _ (text : List ℕ) (n : Netlist) (parsed : parse_of text ≡ accepted n) (k : ℕ) (low : 1 ≤ k) (high : k ≤ length n.faults)
    (bridged : (fault_at n k).bridge ≡ no_bridge → ⊥) where
  agrees : BridgedProblem text (circuit_problem n) k (fault_at n k)
  unfolding circuit_problem problem_from
  agrees =
      let right = named-bridge-fault n k (well-formed text n parsed) low high bridged in
      record {
        is = circuit-described text n parsed;
        named = let q = circuit-count n in omega (arith, q, high);
        right = right;
        rows = circuit-rows n k high ∙ bridge-rows n (fault_at n k) right;
      }

  pub bridges-answer : (room : ℕ) → bridged_answer (circuit_spectrum text 0) (fault_at n k).bridge.first (fault_at n k).bridge.second room ≡ circuit_answer text k room
  bridges-answer = bridged-problem-answer agrees

  pub bridges-agree : bridged_spectrum_of (fault_at n k).bridge.first (fault_at n k).bridge.second (circuit_spectrum text 0) ≡ circuit_spectrum text k
  bridges-agree = bridged-problem-agree agrees
