-- The call with a bridge and the circuit call agree, for any kind of text: where the rows under fault k are the sound ones with the two inputs bridged, the
-- call with the bridge on what the circuit call writes for 0
--   bridged-problem-answer    answers as the circuit call does for fault k
--   bridged-problem-agree     writes what the circuit call writes for fault k
use mathlib.Core.Path.{◌≡◌, sym, ap, ap₂, ◌∙◌}
use mathlib.Core.List.{List}
use Prim.Native.Nat.{ℕ, ◌^◌, ◌≤◌}
use native.Mathlib.Omega.{arith}
use lib.Dec.{lit≤}
use lib.IntN.{ℤ}
use lib.ListN.{length}
use Rattle.integer.proofs.Bounds.{within_more}
use Rattle.sections.specs.FaultLines.{BridgeFault}
use Rattle.statements.specs.Items.{Fault}
use Rattle.screen.specs.Answers.{Done, and_then, inputs_of}
use Rattle.screen.proofs.Screens.{inputs-is, then-done}
use Rattle.transform.specs.Spectrum.{spectrum_of}
use Rattle.transform.proofs.Spectra.{length-spectrum}
use Rattle.faults.specs.Faults.{bridged_rows}
use Rattle.bridges.specs.Bridges.{bridge_right, bridged_answer, bridged_spectrum_of, unhalved_answer}
use Rattle.bridges.proofs.BridgeArgumentsMean.{bridge-arguments}
use Rattle.bridges.proofs.BridgedCall.{bridged_screen, none-unhalved-rows, bridged-faulted}
use Rattle.devices.specs.Describing.{described, description_of}
use Rattle.devices.specs.Problems.{Problem, rows_at, Proper}
use Rattle.devices.proofs.Descriptions.{described-proper}
use Rattle.circuit.specs.CircuitCall.{room_answer, circuit_answer, circuit_spectrum}
use Rattle.circuit.proofs.CircuitLaws.{fault-spectrum-bounded}
use Rattle.agreement.proofs.Accepted.{spectrum-is, answer-is, room-enough, room-answer}

-- the text's fault k is f, which is a bridge
pub record BridgedProblem (text : List ℕ) (p : Problem) (k : ℕ) (f : Fault) : Type 0 where
  pub is : description_of text ≡ described p
  pub named : k ≤ length p.faulted
  pub right : BridgeFault p.inputs f
  pub rows : rows_at p k ≡ bridged_rows f.bridge.first f.bridge.second (rows_at p 0)

module _ {text : List ℕ} {p : Problem} {k : ℕ} {f : Fault} (s : BridgedProblem text p k f) where
  abbrev i : ℕ
  i = f.bridge.first

  abbrev j : ℕ
  j = f.bridge.second

  abbrev c : List ℤ
  c = spectrum_of (rows_at p 0)

  proper : Proper p
  proper = described-proper text p s.is

  screened : (room : ℕ) → bridged_screen c i j room ≡ room_answer p.inputs room
  screened =
      let size : length c ≡ 2 ^ p.inputs = length-spectrum (rows_at p 0) ∙ proper.rows_all 0 (omega arith) in
      let some = proper.inputs-low in
      let most = proper.inputs-high in
      let inputs : inputs_of (length c) ≡ p.inputs = ap inputs_of size ∙ inputs-is p.inputs (omega arith) (omega arith) in
      room-answer 2048000 p.inputs (bridge_right (inputs_of (length c)) i j) c (length c) (omega arith)
      (ap (λ (m : ℕ). bridge_right m i j) inputs ∙ (bridge-arguments p.inputs i j).1 record { low = s.right.first-low; rise = s.right.rise; high = s.right.second-high })
      (within_more {B = 15360} {C = 2048000} c (lit≤ tt) (fault-spectrum-bounded p proper 0 (omega arith))) size

  -- rows have whole halves
  whole : unhalved_answer i j c ≡ Done
  whole = let room = 2 ^ p.inputs in none-unhalved-rows (rows_at p 0) i j room (screened room ∙ room-enough p.inputs room (omega arith))

  sound-answer : (room : ℕ) → bridged_answer c i j room ≡ room_answer p.inputs room
  unfolding bridged_answer
  sound-answer room = ap₂ and_then (screened room) whole ∙ then-done (room_answer p.inputs room)

  pub bridged-problem-answer : (room : ℕ) → bridged_answer (circuit_spectrum text 0) f.bridge.first f.bridge.second room ≡ circuit_answer text k room
  bridged-problem-answer room = rw (spectrum-is text p s.is 0) (sound-answer room) ∙ sym (answer-is text p s.is k room s.named)

  pub bridged-problem-agree : bridged_spectrum_of f.bridge.first f.bridge.second (circuit_spectrum text 0) ≡ circuit_spectrum text k
  bridged-problem-agree =
      let room = 2 ^ p.inputs in
      ap (bridged_spectrum_of i j) (spectrum-is text p s.is 0)
      ∙ bridged-faulted (rows_at p 0) i j room (sound-answer room ∙ room-enough p.inputs room (omega arith))
      ∙ ap spectrum_of (sym s.rows)
      ∙ sym (spectrum-is text p s.is k)
