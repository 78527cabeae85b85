-- The stuck-input call and the circuit call agree, for any kind of text: where the rows under fault k are the sound ones with the fault's inputs replaced, the
-- stuck-input call on what the circuit call writes for 0
--   stuck-problem-answer, -done    answers as the circuit call does for fault k, so Done where there is room
--   stuck-problem-agree            writes what the circuit call writes for fault k
use mathlib.Core.Path.{◌≡◌, sym, ap, ◌∙◌}
use mathlib.Core.List.{List}
use Prim.Native.Nat.{ℕ, ◌^◌, ◌≤◌}
use native.Mathlib.Omega.{arith}
use lib.Dec.{lit≤}
use lib.ListN.{length}
use Rattle.integer.proofs.Bounds.{within_more}
use Rattle.sections.specs.FaultLines.{StuckFault}
use Rattle.statements.specs.Items.{Fault}
use Rattle.screen.specs.Answers.{Done, inputs_of}
use Rattle.screen.proofs.Screens.{inputs-is}
use Rattle.transform.specs.Spectrum.{spectrum_of}
use Rattle.transform.proofs.Spectra.{length-spectrum}
use Rattle.faults.specs.Faults.{stuck_of, stuck_rows, stuck_right, stuck_answer, stuck_spectrum_of}
use Rattle.faults.proofs.Faulted.{stuck-faulted}
use Rattle.lookup.specs.StuckPairs.{stuck_lines, stuck_values, pairs_of}
use Rattle.lookup.proofs.StuckPairs.{pairs-right}
use Rattle.devices.specs.Describing.{described, description_of}
use Rattle.devices.specs.Problems.{Problem, rows_at, Proper}
use Rattle.devices.proofs.Descriptions.{described-proper}
use Rattle.circuit.specs.CircuitCall.{room_answer, circuit_answer, circuit_spectrum}
use Rattle.circuit.proofs.CircuitLaws.{fault-spectrum-bounded}
use Rattle.agreement.proofs.Accepted.{spectrum-is, answer-is, room-enough, room-answer}

-- the text's fault k is f, which names inputs only
pub record StuckProblem (text : List ℕ) (p : Problem) (k : ℕ) (f : Fault) : Type 0 where
  pub is : description_of text ≡ described p
  pub named : k ≤ length p.faulted
  pub right : StuckFault p.inputs f
  pub rows : rows_at p k ≡ stuck_rows (pairs_of f) (rows_at p 0)

module _ {text : List ℕ} {p : Problem} {k : ℕ} {f : Fault} (s : StuckProblem text p k f) where
  proper : Proper p
  proper = described-proper text p s.is

  sound-answer : (room : ℕ) → stuck_answer (spectrum_of (rows_at p 0)) (stuck_lines f) (stuck_values f) room ≡ room_answer p.inputs room
  unfolding stuck_answer
  sound-answer =
      let c = spectrum_of (rows_at p 0) in
      let size : length c ≡ 2 ^ p.inputs = length-spectrum (rows_at p 0) ∙ proper.rows_all 0 (omega arith) in
      let some = proper.inputs-low in
      let most = proper.inputs-high in
      let inputs : inputs_of (length c) ≡ p.inputs = ap inputs_of size ∙ inputs-is p.inputs (omega arith) (omega arith) in
      room-answer 2048000 p.inputs (stuck_right (inputs_of (length c)) (stuck_lines f) (stuck_values f)) c (length c) (omega arith)
      (ap (λ (m : ℕ). stuck_right m (stuck_lines f) (stuck_values f)) inputs ∙ pairs-right p.inputs f s.right)
      (within_more {B = 15360} {C = 2048000} c (lit≤ tt) (fault-spectrum-bounded p proper 0 (omega arith))) size

  pub stuck-problem-answer : (room : ℕ) → stuck_answer (circuit_spectrum text 0) (stuck_lines f) (stuck_values f) room ≡ circuit_answer text k room
  stuck-problem-answer room = rw (spectrum-is text p s.is 0) (sound-answer room) ∙ sym (answer-is text p s.is k room s.named)

  pub stuck-problem-done : (room : ℕ) → 2 ^ p.inputs ≤ room → stuck_answer (circuit_spectrum text 0) (stuck_lines f) (stuck_values f) room ≡ Done
  stuck-problem-done room enough = rw (spectrum-is text p s.is 0) (sound-answer room) ∙ room-enough p.inputs room enough

  pub stuck-problem-agree : stuck_spectrum_of (stuck_of (stuck_lines f) (stuck_values f)) (circuit_spectrum text 0) ≡ circuit_spectrum text k
  unfolding pairs_of
  stuck-problem-agree =
      let room = 2 ^ p.inputs in
      ap (stuck_spectrum_of (pairs_of f)) (spectrum-is text p s.is 0)
      ∙ stuck-faulted (rows_at p 0) (stuck_lines f) (stuck_values f) room (sound-answer room ∙ room-enough p.inputs room (omega arith))
      ∙ ap spectrum_of (sym s.rows)
      ∙ sym (spectrum-is text p s.is k)
