-- Fault k of an accepted text:
--   right-unbridged, right-bridged   a right fault is one of stuck lines where it has no bridge, and else a bridge
--   named-stuck-fault, named-bridge-fault    so is fault k
--   spectrum-is, answer-is           what the circuit call writes and answers for it, from the problem
--   circuit-spectrum-is, circuit-answer-is    the same from the circuit
--   room-answer, room-enough         a call on a list that passes the tests before 8 asks for room only, as the circuit call does
use mathlib.Core.Path.{◌≡◌, ap, ◌∙◌}
use mathlib.Core.Bool.{Bool, true}
use mathlib.Core.List.{List}
use mathlib.Core.Logic.{inl, inr}
use Prim.Native.Nat.{ℕ, zero, suc, ◌^◌, ◌≤◌, ◌<◌}
use native.Mathlib.Omega.{arith}
use lib.IntN.{ℤ, pos}
use lib.ListN.{length}
use borrow.Author.Tests.{le-ltb, ne_eqb}
use Rattle.integer.specs.Tab.{Within}
use Rattle.netlist.specs.Circuits.{Netlist, fault_at}
use Rattle.netlist.specs.Parsing.{accepted, parse_of}
use Rattle.sections.specs.FaultLines.{StuckFault, BridgeFault, FaultRight}
use Rattle.netlist.specs.WellFormed.{WellFormed, top_of}
use Rattle.simulation.specs.Rows.{rows_of}
use Rattle.statements.specs.Items.{no_bridge}
use Rattle.statements.specs.declared.Bridge.{Bridge}
use Rattle.statements.specs.Items.{Fault}
use Rattle.devices.specs.Describing.{described, description_of}
use Rattle.devices.specs.Devices.{circuit_problem}
use Rattle.devices.specs.Problems.{Problem, problem_from, rows_at}
use Rattle.devices.proofs.ProblemRows.{circuit-count, circuit-rows}
use Rattle.devices.proofs.TextKinds.{circuit-described}
use Rattle.screen.specs.Answers.{Done, minus, inputs_of, screen_of}
use Rattle.transform.specs.Spectrum.{spectrum_of}
use Rattle.screen.proofs.Screens.{within-screened}
use Rattle.circuit.specs.CircuitCall.{room_answer, fault_answer, circuit_answer, fault_spectrum, circuit_spectrum}

module _ (inputs top : ℕ) (f : Fault) where
  pub right-unbridged : FaultRight inputs top f → f.bridge ≡ no_bridge → StuckFault top f
  right-unbridged (inl stuck) none = stuck
  right-unbridged (inr bridge) none = absurd (omega (arith, bridge.first-low, ap (λ (b : Bridge). b.first) none))

  pub right-bridged : FaultRight inputs top f → (f.bridge ≡ no_bridge → ⊥) → BridgeFault inputs f
  right-bridged (inl stuck) some = absurd (some stuck.unbridged)
  right-bridged (inr bridge) some = bridge

named-fault-right : (n : Netlist) (k : ℕ) → WellFormed n → 1 ≤ k → k ≤ length n.faults → FaultRight n.inputs (top_of n) (fault_at n k)
named-fault-right n zero w low high = absurd (omega arith)
named-fault-right n (suc k) w low high = w.faults-right k (omega arith)

module _ (n : Netlist) (k : ℕ) (w : WellFormed n) (low : 1 ≤ k) (high : k ≤ length n.faults) where
  pub named-stuck-fault : (fault_at n k).bridge ≡ no_bridge → StuckFault (top_of n) (fault_at n k)
  named-stuck-fault = right-unbridged n.inputs (top_of n) (fault_at n k) (named-fault-right n k w low high)

  pub named-bridge-fault : ((fault_at n k).bridge ≡ no_bridge → ⊥) → BridgeFault n.inputs (fault_at n k)
  named-bridge-fault = right-bridged n.inputs (top_of n) (fault_at n k) (named-fault-right n k w low high)

module _ (text : List ℕ) (p : Problem) (is : description_of text ≡ described p) (k : ℕ) where
  pub spectrum-is : circuit_spectrum text k ≡ spectrum_of (rows_at p k)
  unfolding circuit_spectrum fault_spectrum
  spectrum-is = rw is

  pub answer-is : (room : ℕ) → k ≤ length p.faulted → circuit_answer text k room ≡ room_answer p.inputs room
  unfolding circuit_answer fault_answer
  answer-is room h = rw (is, le-ltb (length p.faulted) k h)

module _ (text : List ℕ) (n : Netlist) (parsed : parse_of text ≡ accepted n) (k : ℕ) (named : k ≤ length n.faults) where
  pub circuit-spectrum-is : circuit_spectrum text k ≡ spectrum_of (rows_of n (fault_at n k))
  circuit-spectrum-is = spectrum-is text (circuit_problem n) (circuit-described text n parsed) k ∙ ap spectrum_of (circuit-rows n k named)

  pub circuit-answer-is : (room : ℕ) → circuit_answer text k room ≡ room_answer n.inputs room
  unfolding circuit_problem problem_from
  circuit-answer-is room =
      answer-is text (circuit_problem n) (circuit-described text n parsed) k room (let q = circuit-count n in omega (arith, q, named))

pub room-enough : (inputs room : ℕ) → 2 ^ inputs ≤ room → room_answer inputs room ≡ Done
unfolding room_answer
room-enough inputs room h = rw (le-ltb room (2 ^ inputs) h)

pub room-answer : (B inputs : ℕ) (test : Bool) (l : List ℤ) (due : ℕ) → 0 < inputs_of (length l) → test ≡ true → Within B l → due ≡ 2 ^ inputs → (room : ℕ)
    → screen_of (minus B) (pos B) test l room due ≡ room_answer inputs room
unfolding screen_of room_answer
room-answer B inputs test l due some right small e room =
    rw (ne_eqb (inputs_of (length l)) 0 (λ z. absurd (omega arith)), right, le-ltb _ (length l) (within-screened B l small), e)
