-- The stuck-input call and the circuit call agree on tables (document 02, note 1): for fault k of an accepted table that is no bridge, the stuck-input call on
-- what the circuit call writes for the sound table
--   table-inputs-answer, -done    answers as the circuit call does for fault k, with any lent length, so Done where there is room
--   table-inputs-agree            writes what the circuit call writes for fault k
use mathlib.Core.Path.{◌≡◌, ◌∙◌}
use mathlib.Core.List.{List}
use Prim.Native.Nat.{ℕ, zero, suc, ◌^◌, ◌≤◌}
use native.Mathlib.Omega.{arith}
use lib.ListN.{length}
use Rattle.screen.specs.Answers.{Done}
use Rattle.sections.specs.FaultLines.{FaultRight}
use Rattle.statements.specs.Items.{no_bridge}
use Rattle.faults.specs.Faults.{stuck_of, stuck_answer, stuck_spectrum_of}
use Rattle.tables.specs.Tables.{TruthTable, table_fault_at}
use Rattle.tables.specs.TableParsing.{accepted_table, table_of}
use Rattle.tables.specs.TableWellFormed.{TableRight}
use Rattle.tables.proofs.TableAcceptance.{table-right}
use Rattle.lookup.specs.StuckPairs.{stuck_lines, stuck_values}
use Rattle.lookup.proofs.RowsOfTables.{stuck-table-rows, table-fault-of-inputs}
use Rattle.devices.specs.Devices.{table_problem}
use Rattle.devices.specs.Problems.{problem_from}
use Rattle.devices.proofs.ProblemRows.{table-count, table-rows}
use Rattle.devices.proofs.TextKinds.{table-described}
use Rattle.circuit.specs.CircuitCall.{circuit_answer, circuit_spectrum}
use Rattle.agreement.proofs.Accepted.{right-unbridged}
use Rattle.agreement.proofs.StuckProblems.{StuckProblem, stuck-problem-answer, stuck-problem-done, stuck-problem-agree}

pub named-table-fault : (t : TruthTable) (k : ℕ) → TableRight t → 1 ≤ k → k ≤ length t.faults → FaultRight t.inputs t.inputs (table_fault_at t k)
named-table-fault t zero w low high = absurd (omega arith)
named-table-fault t (suc k) w low high = w.faults-right k (omega arith)

module _ (text : List ℕ) (t : TruthTable) (parsed : table_of text ≡ accepted_table t) (k : ℕ) (low : 1 ≤ k) (high : k ≤ length t.faults)
    (unbridged : (table_fault_at t k).bridge ≡ no_bridge) where
  agrees : StuckProblem text (table_problem t) k (table_fault_at t k)
  unfolding table_problem problem_from
  agrees =
      let w = table-right text t parsed in
      record {
        is = table-described text t parsed;
        named = let q = table-count t in omega (arith, q, high);
        right = right-unbridged t.inputs t.inputs (table_fault_at t k) (named-table-fault t k w low high) unbridged;
        rows = table-rows t k high ∙ stuck-table-rows t (table_fault_at t k) unbridged (table-fault-of-inputs t k w);
      }

  pub table-inputs-answer : (room : ℕ) → stuck_answer (circuit_spectrum text 0) (stuck_lines (table_fault_at t k)) (stuck_values (table_fault_at t k)) room ≡ circuit_answer text k room
  table-inputs-answer = stuck-problem-answer agrees

  pub table-inputs-done : (room : ℕ) → 2 ^ t.inputs ≤ room → stuck_answer (circuit_spectrum text 0) (stuck_lines (table_fault_at t k)) (stuck_values (table_fault_at t k)) room ≡ Done
  unfolding table_problem problem_from
  table-inputs-done = stuck-problem-done agrees

  pub table-inputs-agree : stuck_spectrum_of (stuck_of (stuck_lines (table_fault_at t k)) (stuck_values (table_fault_at t k))) (circuit_spectrum text 0) ≡ circuit_spectrum text k
  table-inputs-agree = stuck-problem-agree agrees
