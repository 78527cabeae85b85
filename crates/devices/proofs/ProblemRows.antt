-- A problem from what gives the rows under any fault:
--   rows-numbered, outputs-numbered    the rows and the outputs under the fault of a number, 0 for sound
--   from-proper      it is proper where the rows are 2^N within 60, the outputs decide them, and the counts are within their limits
-- and of circuits and tables:
--   circuit-numbered, table-numbered    the fault of a number, in their lists
--   circuit-count, table-count      how many faults their problems have
--   circuit-rows, table-rows        the rows of their problems
--   circuit-outputs, table-outputs  and what their outputs show
--   circuit-proper, table-proper    where they are well formed, their problems are proper
use mathlib.Core.Path.{◌≡◌, refl, sym, ap, ◌∙◌, subst⁻¹}
use mathlib.Core.List.{List, [], ◌∷◌, map}
use Prim.Native.Nat.{ℕ, zero, suc, ◌<◌, ◌≤◌, ◌^◌}
use native.Mathlib.Omega.{arith}
use lib.IntN.{ℤ}
use lib.ListN.{length, get_or, length-map}
use Rattle.integer.specs.Tab.{nth, Within}
use Rattle.netlist.specs.Circuits.{Netlist, fault_at}
use Rattle.netlist.specs.WellFormed.{WellFormed}
use Rattle.simulation.specs.Rows.{rows_of, outputs_of}
use Rattle.simulation.proofs.RowBounds.{length-rows, rows-bounded}
use Rattle.simulation.proofs.OutputsShown.{length-outputs, rows-decided}
use Rattle.sections.specs.FaultLines.{fault_numbered}
use Rattle.statements.specs.Items.{sound}
use Rattle.statements.specs.Items.{Fault}
use Rattle.tables.specs.Tables.{TruthTable, table_fault_at}
use Rattle.tables.specs.TableWellFormed.{TableRight}
use Rattle.lookup.specs.TableRows.{table_rows}
use Rattle.lookup.proofs.RowsOfTables.{length-table-rows, table-rows-small}
use Rattle.devices.specs.Devices.{circuit_problem, table_problem}
use Rattle.devices.specs.Problems.{Problem, problem_from, rows_at, outputs_at, Proper}

at-mapped : {A B : Type 0} (f : A → B) (l : List A) (i : ℕ) (d : A) (e : B) → i < length l → get_or (map f l) i e ≡ f (get_or l i d)
at-mapped f [] i d e h = absurd (omega arith)
at-mapped f (x ∷ xs) zero d e h = refl
at-mapped f (x ∷ xs) (suc i) d e h = at-mapped f xs i d e (omega arith)

module _ (inputs : ℕ) (rows outputs : Fault → List ℤ) (faults : List Fault) (cap : ℕ) where
  abbrev P : Problem
  P = problem_from inputs rows outputs faults cap

  fault-count : length P.faulted ≡ length faults
  unfolding problem_from
  fault-count = length-map faults rows

  pub rows-numbered : (k : ℕ) → k ≤ length faults → rows_at P k ≡ rows (fault_numbered faults k)
  unfolding problem_from
  rows-numbered zero h = refl
  rows-numbered (suc k) h = at-mapped rows faults k sound [] (omega arith)

  pub outputs-numbered : (k : ℕ) → k ≤ length faults → outputs_at P k ≡ outputs (fault_numbered faults k)
  unfolding problem_from
  outputs-numbered zero h = refl
  outputs-numbered (suc k) h = at-mapped outputs faults k sound [] (omega arith)

  -- where the outputs of a row decide its value, whatever the fault
  pub from-proper : (1 ≤ inputs) × (inputs ≤ 8) × (1 ≤ length faults) × (length faults ≤ 32) × (1 ≤ cap) × (cap ≤ 4)
      → ((f : Fault) → length (rows f) ≡ 2 ^ inputs) → ((f : Fault) → Within 60 (rows f)) → ((f : Fault) → length (outputs f) ≡ 2 ^ inputs)
      → ((f : Fault) (x : ℕ) → x < 2 ^ inputs → nth (outputs sound) x ≡ nth (outputs f) x → nth (rows sound) x ≡ nth (rows f) x) → Proper P
  unfolding problem_from
  from-proper b long small wide decide = record {
    inputs-low = b.0;
    inputs-high = b.1;
    faults-low = omega (arith, fault-count, b.2);
    faults-high = omega (arith, fault-count, b.3);
    cap-low = b.4;
    cap-high = b.5;
    rows_all = λ f h. ap length (rows-numbered f (omega (arith, fault-count, h))) ∙ long (fault_numbered faults f);
    rows-small = λ f h. subst⁻¹ (Within 60) (rows-numbered f (omega (arith, fault-count, h))) (small (fault_numbered faults f));
    outputs_all = λ f h. ap length (outputs-numbered f (omega (arith, fault-count, h))) ∙ wide (fault_numbered faults f);
    outputs-decide = λ f x h l e.
        let few : f ≤ length faults = omega (arith, fault-count, h) in
        decide (fault_numbered faults f) x l (e ∙ ap (λ (o : List ℤ). nth o x) (outputs-numbered f few)) ∙ ap (λ (r : List ℤ). nth r x) (sym (rows-numbered f few));
  }

-- Circuits.

pub circuit-numbered : (n : Netlist) (k : ℕ) → fault_numbered n.faults k ≡ fault_at n k
circuit-numbered n zero = refl
circuit-numbered n (suc k) = refl

pub circuit-count : (n : Netlist) → length (circuit_problem n).faulted ≡ length n.faults
unfolding circuit_problem
circuit-count n = fault-count n.inputs (rows_of n) (outputs_of n) n.faults n.cap

pub circuit-rows : (n : Netlist) (k : ℕ) → k ≤ length n.faults → rows_at (circuit_problem n) k ≡ rows_of n (fault_at n k)
unfolding circuit_problem
circuit-rows n k h = rows-numbered n.inputs (rows_of n) (outputs_of n) n.faults n.cap k h ∙ ap (rows_of n) (circuit-numbered n k)

pub circuit-outputs : (n : Netlist) (k : ℕ) → k ≤ length n.faults → outputs_at (circuit_problem n) k ≡ outputs_of n (fault_at n k)
unfolding circuit_problem
circuit-outputs n k h = outputs-numbered n.inputs (rows_of n) (outputs_of n) n.faults n.cap k h ∙ ap (outputs_of n) (circuit-numbered n k)

pub circuit-proper : (n : Netlist) → WellFormed n → Proper (circuit_problem n)
unfolding circuit_problem
circuit-proper n w =
    from-proper n.inputs (rows_of n) (outputs_of n) n.faults n.cap (w.inputs-low, w.inputs-high, w.faults-low, w.faults-high, w.cap-low, w.cap-high)
    (λ f. length-rows n f) (λ f. rows-bounded n f w) (λ f. length-outputs n f) (λ f x h e. rows-decided n sound f x h e)

-- Tables.

pub table-numbered : (t : TruthTable) (k : ℕ) → fault_numbered t.faults k ≡ table_fault_at t k
table-numbered t zero = refl
table-numbered t (suc k) = refl

pub table-count : (t : TruthTable) → length (table_problem t).faulted ≡ length t.faults
unfolding table_problem
table-count t = fault-count t.inputs (table_rows t) (table_rows t) t.faults t.cap

pub table-rows : (t : TruthTable) (k : ℕ) → k ≤ length t.faults → rows_at (table_problem t) k ≡ table_rows t (table_fault_at t k)
unfolding table_problem
table-rows t k h = rows-numbered t.inputs (table_rows t) (table_rows t) t.faults t.cap k h ∙ ap (table_rows t) (table-numbered t k)

-- a table's only output is its mark
pub table-outputs : (t : TruthTable) (k : ℕ) → outputs_at (table_problem t) k ≡ rows_at (table_problem t) k
unfolding table_problem problem_from
table-outputs t zero = refl
table-outputs t (suc k) = refl

pub table-proper : (t : TruthTable) → TableRight t → Proper (table_problem t)
unfolding table_problem
table-proper t w =
    from-proper t.inputs (table_rows t) (table_rows t) t.faults t.cap (w.inputs-low, w.inputs-high, w.faults-low, w.faults-high, w.cap-low, w.cap-high)
    (λ f. length-table-rows t f) (λ f. table-rows-small t f w) (λ f. length-table-rows t f) (λ f x h e. e)
