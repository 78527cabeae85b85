-- The stuck-input call and the circuit call agree (document 01, "Spectrum under a fault, from coefficients alone"):
--   input-rows    under a fault of stuck inputs a circuit has its sound rows with those inputs replaced
-- and for fault k of an accepted text, where it is no bridge and names inputs only, the stuck-input call on what the circuit call writes for the sound circuit:
--   stuck-inputs-answer, -done    answers as the circuit call does for fault k, so Done where there is room
--   stuck-inputs-agree            writes what the circuit call writes for fault k
use mathlib.Core.Path.{◌≡◌, refl, sym, ap, ◌∙◌}
use mathlib.Core.Bool.{Bool, true, false, cond}
use mathlib.Core.List.{List, [], ◌∷◌, map}
use mathlib.Core.Logic.{inl, inr}
use Prim.Native.Nat.{ℕ, ◌+◌, ◌-◌, ◌^◌, ◌≤◌, ◌<◌}
use native.Mathlib.Omega.{arith}
use lib.Dec.{eqb}
use lib.IntN.{pos}
use lib.ListN.{length}
use borrow.Author.Tests.{eqb-true, eqb-false, ne_eqb}
use Rattle.screen.specs.Answers.{Done}
use Rattle.integer.specs.Tab.{tab}
use Rattle.integer.proofs.Tabs.{tab-ext, get_or-tab}
use Rattle.netlist.specs.Circuits.{Netlist, fault_at}
use Rattle.netlist.specs.Parsing.{accepted, parse_of}
use Rattle.sections.specs.FaultLines.{Above, StuckFault}
use Rattle.netlist.specs.WellFormed.{top_of}
use Rattle.netlist.proofs.Acceptance.{well-formed}
use Rattle.columns.specs.Shown.{stuck_or, shown, applied}
use Rattle.simulation.specs.Rows.{input_shown, row_value, rows_of}
use Rattle.simulation.proofs.RowBounds.{length-rows}
use Rattle.simulation.proofs.Showing.{others_keep, sound-keeps, unbridged-shown}
use Rattle.statements.specs.Items.{no_bridge, sound}
use Rattle.statements.specs.Items.{Fault}
use Rattle.statements.specs.declared.Pair.{Pair}
use Rattle.faults.specs.Faults.{Stuck, stuck_of, replaced, replaced_all, stuck_row, stuck_rows, stuck_answer, stuck_spectrum_of}
use Rattle.faults.proofs.Faulted.{replaced-shows, replaced-keeps}
use Rattle.faults.proofs.Sticking.{Rises}
use Rattle.circuit.specs.CircuitCall.{circuit_answer, circuit_spectrum}
use Rattle.devices.specs.Devices.{circuit_problem}
use Rattle.devices.specs.Problems.{problem_from}
use Rattle.devices.proofs.ProblemRows.{circuit-count, circuit-rows}
use Rattle.devices.proofs.TextKinds.{circuit-described}
use Rattle.lookup.specs.StuckPairs.{present_pairs, pair_line, bit_for, pair_value, stuck_lines, stuck_values, pairs_of, OfInputs}
use Rattle.lookup.proofs.StuckPairs.{bit-small, pairs-rise}
use Rattle.lookup.proofs.PairRows.{stuck-row-below}
use Rattle.agreement.proofs.Accepted.{named-stuck-fault}
use Rattle.agreement.proofs.Pairs.{bit-back, shown_by, shown-by-pairs}
use Rattle.agreement.proofs.StuckProblems.{StuckProblem, stuck-problem-answer, stuck-problem-done, stuck-problem-agree}
use Rattle.agreement.proofs.SameRows.{same_row}

-- Rows with inputs replaced.

abbrev numbered : List Pair → List Stuck
numbered pairs = stuck_of (map pair_line pairs) (map pair_value pairs)

-- lines that rise from above `last` leave the lines up to `last` alone
below-keep : (pairs : List Pair) (last top line : ℕ) (v : Bool) → Rises last top (numbered pairs) → line ≤ last → shown_by pairs line v ≡ v
unfolding stuck_of stuck_or
below-keep [] last top line v r h = refl
below-keep (s ∷ rest) last top line v r h =
    let low = r.0 in
    rw (ne_eqb s.line line (λ e. absurd (omega arith))) (below-keep rest s.line top line v r.2 (omega arith))

-- what is applied to input i + 1 by the row with the inputs replaced is what the pairs show there
replaced-applied : (pairs : List Pair) (last top : ℕ) → Rises last top (numbered pairs) → (x i : ℕ)
    → applied (replaced_all (numbered pairs) x) i ≡ shown_by pairs (i + 1) (applied x i)
unfolding stuck_of stuck_or replaced_all
replaced-applied [] last top r x i = refl
replaced-applied (s ∷ rest) last top r x i = replaced-applied rest s.line top r.2 (replaced t x) i ∙ pick (eqb s.line (i + 1)) refl
  where
    t : Stuck
    t = record { line = s.line; value = bit_for s.value }

    first : 1 ≤ s.line
    first = let low = r.0 in omega arith

    pick : (b : Bool) → eqb s.line (i + 1) ≡ b → shown_by rest (i + 1) (applied (replaced t x) i) ≡ cond b s.value (shown_by rest (i + 1) (applied x i))
    pick true e =
        let own = eqb-true s.line (i + 1) e in
        let place : i ≡ s.line - 1 = omega arith in
        below-keep rest s.line top (i + 1) (applied (replaced t x) i) r.2 (omega arith)
        ∙ ap (applied (replaced t x)) place
        ∙ ap (λ (k : ℕ). eqb k 1) (replaced-shows t first x (bit-small s.value))
        ∙ bit-back s.value
    pick false e =
        let place : i ≡ i + 1 - 1 = omega arith in
        let other = eqb-false s.line (i + 1) e in
        ap (shown_by rest (i + 1))
        (ap (applied (replaced t x)) place
        ∙ ap (λ (k : ℕ). eqb k 1) (replaced-keeps t first (i + 1) x (omega arith) (λ q. other (sym q)) (bit-small s.value))
        ∙ ap (applied x) (sym place))

-- A fault of inputs.

-- right for the inputs alone
pub input-fault : (n : Netlist) (f : Fault) → StuckFault (top_of n) f → OfInputs n.inputs f → StuckFault n.inputs f
input-fault n f r o =
    record {
      first-low = r.first-low;
      first-high = o.first;
      second = narrow f.first.line f.second r.second o.second;
      third = narrow f.second.line f.third r.third o.third;
      no_gap = r.no_gap;
      unbridged = r.unbridged;
    }
  where
    narrow : (last : ℕ) (s : Pair) → Above last (top_of n) s → s.line ≤ n.inputs → Above last n.inputs s
    narrow last s (inl none) h = inl none
    narrow last s (inr some) h = inr (some.0, h)

module _ (n : Netlist) (f : Fault) (right : StuckFault (top_of n) f) (inputs-only : OfInputs n.inputs f) where
  rises : Rises 0 n.inputs (pairs_of f)
  rises = pairs-rise n.inputs f (input-fault n f right inputs-only)

  row_stays : (x : ℕ) → x < 2 ^ n.inputs → replaced_all (pairs_of f) x < 2 ^ n.inputs
  row_stays x h = stuck-row-below n.inputs f x inputs-only h

  input-row : (x : ℕ) → row_value n f x ≡ row_value n sound (replaced_all (pairs_of f) x)
  unfolding pairs_of stuck_lines stuck_values
  input-row x = same_row n f sound gates x (replaced_all (pairs_of f) x) inputs
    where
      gates : (line : ℕ) (v : Bool) → n.inputs < line → shown f line v ≡ shown sound line v
      gates line v h =
          let a = inputs-only.first in
          let b = inputs-only.second in
          let c = inputs-only.third in
          others_keep f v line (λ e. absurd (omega arith)) (λ e. absurd (omega arith)) (λ e. absurd (omega arith)) ∙ sym (sound-keeps line v (omega arith))

      inputs : (i : ℕ) → i < n.inputs → input_shown f x i ≡ input_shown sound (replaced_all (pairs_of f) x) i
      inputs i h =
          unbridged-shown f x i right.unbridged
          ∙ shown-by-pairs f (i + 1) (applied x i) (omega arith)
          ∙ sym (replaced-applied (present_pairs f) 0 n.inputs rises x i)
          ∙ sym (sound-keeps (i + 1) (applied (replaced_all (pairs_of f) x) i) (omega arith))
          ∙ sym (unbridged-shown sound (replaced_all (pairs_of f) x) i refl)

  pub input-rows : rows_of n f ≡ stuck_rows (pairs_of f) (rows_of n sound)
  unfolding rows_of stuck_rows stuck_row
  input-rows =
      tab-ext (2 ^ n.inputs) (row_value n f) (stuck_row (pairs_of f) (rows_of n sound))
      (λ x h. input-row x ∙ sym (get_or-tab (2 ^ n.inputs) (row_value n sound) (pos 0) (replaced_all (pairs_of f) x) (row_stays x h)))
      ∙ ap (λ (k : ℕ). tab k (stuck_row (pairs_of f) (rows_of n sound))) (sym (length-rows n sound))

-- Fault k of an accepted text.

module _ (text : List ℕ) (n : Netlist) (parsed : parse_of text ≡ accepted n) (k : ℕ) (low : 1 ≤ k) (high : k ≤ length n.faults)
    (unbridged : (fault_at n k).bridge ≡ no_bridge) (inputs-only : OfInputs n.inputs (fault_at n k)) where
  right : StuckFault (top_of n) (fault_at n k)
  right = named-stuck-fault n k (well-formed text n parsed) low high unbridged

  agrees : StuckProblem text (circuit_problem n) k (fault_at n k)
  unfolding circuit_problem problem_from
  agrees = record {
    is = circuit-described text n parsed;
    named = let q = circuit-count n in omega (arith, q, high);
    right = input-fault n (fault_at n k) right inputs-only;
    rows = circuit-rows n k high ∙ input-rows n (fault_at n k) right inputs-only;
  }

  pub stuck-inputs-answer : (room : ℕ) → stuck_answer (circuit_spectrum text 0) (stuck_lines (fault_at n k)) (stuck_values (fault_at n k)) room ≡ circuit_answer text k room
  stuck-inputs-answer = stuck-problem-answer agrees

  pub stuck-inputs-done : (room : ℕ) → 2 ^ n.inputs ≤ room → stuck_answer (circuit_spectrum text 0) (stuck_lines (fault_at n k)) (stuck_values (fault_at n k)) room ≡ Done
  unfolding circuit_problem problem_from
  stuck-inputs-done = stuck-problem-done agrees

  pub stuck-inputs-agree : stuck_spectrum_of (stuck_of (stuck_lines (fault_at n k)) (stuck_values (fault_at n k))) (circuit_spectrum text 0) ≡ circuit_spectrum text k
  stuck-inputs-agree = stuck-problem-agree agrees
