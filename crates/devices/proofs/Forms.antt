-- A device by its case: what a circuit or a table gives is its problem's.
use Rattle.std.proofs.Common.{◌≡◌, ◌∙◌, ℕ, ◌≤◌, sym, ap, length}
use Rattle.netlist.specs.Circuits.{Netlist, fault_at}
use Rattle.simulation.specs.Rows.{rows_of, outputs_of}
use Rattle.tables.specs.Tables.{TruthTable, table_fault_at}
use Rattle.lookup.specs.TableRows.{table_rows}
use Rattle.devices.specs.Devices.{circuit_problem, table_problem}
use Rattle.devices.specs.Forms.{problem_of}
use Rattle.devices.specs.Problems.{Problem, problem_from, rows_at, outputs_at}
use Rattle.devices.specs.declared.device.Device.{Device}
use Rattle.devices.specs.declared.device.Device.TheVariants.{Gates, Marks}
use Rattle.devices.proofs.ProblemRows.{circuit-count, circuit-rows, circuit-outputs, table-count, table-rows, table-outputs}

module _ (d : Device) where
  module _ (n : Netlist) (is : d ≡ Gates n) where
    pub is_circuit_problem : circuit_problem n ≡ problem_of d
    is_circuit_problem = ap problem_of (sym is)

    pub circuit-inputs : n.inputs ≡ (problem_of d).inputs
    unfolding circuit_problem problem_from
    circuit-inputs = ap (λ (q : Problem). q.inputs) is_circuit_problem

    pub circuit-cap : n.cap ≡ (problem_of d).cap
    unfolding circuit_problem problem_from
    circuit-cap = ap (λ (q : Problem). q.cap) is_circuit_problem

    pub circuit-faults : length n.faults ≡ length (problem_of d).faulted
    circuit-faults = sym (circuit-count n) ∙ ap (λ (q : Problem). length q.faulted) is_circuit_problem

    pub circuit-rows-at : (k : ℕ) → k ≤ length n.faults → rows_of n (fault_at n k) ≡ rows_at (problem_of d) k
    circuit-rows-at k h = sym (circuit-rows n k h) ∙ ap (λ (q : Problem). rows_at q k) is_circuit_problem

    pub circuit-outputs-at : (k : ℕ) → k ≤ length n.faults → outputs_of n (fault_at n k) ≡ outputs_at (problem_of d) k
    circuit-outputs-at k h = sym (circuit-outputs n k h) ∙ ap (λ (q : Problem). outputs_at q k) is_circuit_problem

  module _ (t : TruthTable) (is : d ≡ Marks t) where
    pub is_table_problem : table_problem t ≡ problem_of d
    is_table_problem = ap problem_of (sym is)

    pub table-inputs : t.inputs ≡ (problem_of d).inputs
    unfolding table_problem problem_from
    table-inputs = ap (λ (q : Problem). q.inputs) is_table_problem

    pub table-cap : t.cap ≡ (problem_of d).cap
    unfolding table_problem problem_from
    table-cap = ap (λ (q : Problem). q.cap) is_table_problem

    pub table-faults : length t.faults ≡ length (problem_of d).faulted
    table-faults = sym (table-count t) ∙ ap (λ (q : Problem). length q.faulted) is_table_problem

    pub table-rows-at : (k : ℕ) → k ≤ length t.faults → table_rows t (table_fault_at t k) ≡ rows_at (problem_of d) k
    table-rows-at k h = sym (table-rows t k h) ∙ ap (λ (q : Problem). rows_at q k) is_table_problem

    pub table-outputs-at : (k : ℕ) → rows_at (problem_of d) k ≡ outputs_at (problem_of d) k
    table-outputs-at k = ap (λ (q : Problem). rows_at q k) (sym is_table_problem) ∙ sym (table-outputs t k) ∙ ap (λ (q : Problem). outputs_at q k) is_table_problem
