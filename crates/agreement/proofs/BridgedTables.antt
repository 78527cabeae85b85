-- The call with a bridge and the circuit call agree on tables (document 02, note 8): for fault k of an accepted table that is a bridge, the call with the bridge
-- on what the circuit call writes for the sound table
--   table-bridge-rows       its rows are the sound ones with the two inputs replaced by their AND
--   table-bridges-answer    answers as the circuit call does for fault k
--   table-bridges-agree     writes what the circuit call writes for fault k
use mathlib.Core.Path.{◌≡◌, ◌∙◌}
use mathlib.Core.List.{List}
use Prim.Native.Nat.{ℕ, ◌≤◌}
use native.Mathlib.Omega.{arith}
use lib.ListN.{length}
use Rattle.sections.specs.FaultLines.{BridgeFault}
use Rattle.statements.specs.Items.{no_bridge, sound}
use Rattle.faults.specs.Faults.{bridged_rows}
use Rattle.tables.specs.Tables.{TruthTable, table_fault_at}
use Rattle.tables.specs.TableParsing.{accepted_table, table_of}
use Rattle.tables.proofs.TableAcceptance.{table-right}
use Rattle.lookup.specs.TableRows.{table_rows}
use Rattle.lookup.proofs.RowsOfTables.{bridged-table-rows}
use Rattle.bridges.specs.Bridges.{bridged_answer, bridged_spectrum_of}
use Rattle.devices.specs.Devices.{table_problem}
use Rattle.devices.specs.Problems.{problem_from}
use Rattle.devices.proofs.ProblemRows.{table-count, table-rows}
use Rattle.devices.proofs.TextKinds.{table-described}
use Rattle.circuit.specs.CircuitCall.{circuit_answer, circuit_spectrum}
use Rattle.agreement.proofs.Accepted.{right-bridged}
use Rattle.agreement.proofs.BridgedProblems.{BridgedProblem, bridged-problem-answer, bridged-problem-agree}
use Rattle.agreement.proofs.StuckTables.{named-table-fault}

module _ (text : List ℕ) (t : TruthTable) (parsed : table_of text ≡ accepted_table t) (k : ℕ) (low : 1 ≤ k) (high : k ≤ length t.faults)
    (bridged : (table_fault_at t k).bridge ≡ no_bridge → ⊥) where
  right : BridgeFault t.inputs (table_fault_at t k)
  right = right-bridged t.inputs t.inputs (table_fault_at t k) (named-table-fault t k (table-right text t parsed) low high) bridged

  pub table-bridge-rows : table_rows t (table_fault_at t k) ≡ bridged_rows (table_fault_at t k).bridge.first (table_fault_at t k).bridge.second (table_rows t sound)
  table-bridge-rows = bridged-table-rows t (table_fault_at t k) right

  agrees : BridgedProblem text (table_problem t) k (table_fault_at t k)
  unfolding table_problem problem_from
  agrees =
      record {
        is = table-described text t parsed;
        named = let q = table-count t in omega (arith, q, high);
        right = right;
        rows = table-rows t k high ∙ table-bridge-rows;
      }

  pub table-bridges-answer : (room : ℕ)
      → bridged_answer (circuit_spectrum text 0) (table_fault_at t k).bridge.first (table_fault_at t k).bridge.second room ≡ circuit_answer text k room
  table-bridges-answer = bridged-problem-answer agrees

  pub table-bridges-agree : bridged_spectrum_of (table_fault_at t k).bridge.first (table_fault_at t k).bridge.second (circuit_spectrum text 0) ≡ circuit_spectrum text k
  table-bridges-agree = bridged-problem-agree agrees
