-- What demand 3 says of each kind of text, in its own words:
--   silent-meant, hidden-meant, one-output-told    of a circuit: by what its outputs show and by its row values; with one output no fault is hidden
--   circuits-meant, tables-meant    which labels show the faults, and which fault is silent or hidden, by a circuit's rows and outputs and by a table's marks
--   demand-three-circuit, demand-three-table    demand 3 for a circuit's text, and for a table's
--   demand-three-before    what it was before document 02's note 5
use mathlib.Core.Path.{◌≡◌, refl, sym, ap, ◌∙◌}
use mathlib.Core.Bool.{Bool, true, false}
use mathlib.Core.List.{List}
use mathlib.Core.Logic.{◌↔◌}
use Prim.Native.Nat.{ℕ, ◌<◌, ◌≤◌, ◌^◌}
use native.Mathlib.Omega.{arith}
use lib.IntN.{ℤ, pos, nat_abs, +ℤ_idl}
use lib.ListN.{length, get_or}
use Rattle.integer.specs.Sum.{sum_to}
use Rattle.integer.specs.Tab.{nth}
use Rattle.integer.proofs.Tabs.{get_or-tab}
use Rattle.netlist.specs.Circuits.{Netlist, fault_at}
use Rattle.netlist.specs.Parsing.{accepted, parse_of}
use Rattle.netlist.specs.WellFormed.{WellFormed}
use Rattle.netlist.proofs.Acceptance.{well-formed}
use Rattle.simulation.specs.Rows.{weighed, output_value, output_term, row_value, rows_of, row_outputs}
use Rattle.simulation.proofs.OutputsShown.{same-outputs, outputs-same, outputs-differ, outputs-at}
use Rattle.statements.specs.Items.{sound, no_output, Fault}
use Rattle.tables.specs.Tables.{TruthTable, table_fault_at}
use Rattle.tables.specs.TableParsing.{accepted_table, table_of}
use Rattle.lookup.specs.TableRows.{fault_row, table_row}
use Rattle.lookup.proofs.RowsOfTables.{sound-mark, table-row-is}
use Rattle.devices.specs.Describing.{described, description_of}
use Rattle.devices.specs.Devices.{circuit_problem, table_problem}
use Rattle.devices.specs.Problems.{Problem, problem_from, rows_at, outputs_at}
use Rattle.devices.proofs.Descriptions.{described-proper}
use Rattle.devices.proofs.ProblemRows.{circuit-count, circuit-rows, circuit-outputs, table-count, table-rows, table-outputs}
use Rattle.devices.proofs.TextKinds.{circuit-described, table-described}
use Rattle.transform.specs.Spectrum.{coefficient_of}
use Rattle.planner.specs.Demand.{Shows, Silent, Hidden, Right}
use Rattle.planner.specs.PlanCall.{plan_answer, working_numbers}
use Rattle.planner.specs.PlansBefore.{AsBefore}
use Rattle.planner.proofs.Demanded.{demand-three}
use Rattle.planner.proofs.PlansBefore.{plans-as-before}
use Rattle.demands.specs.Demands.{ShowsOf, circuit_rows_at, table_rows_at, OutputsKept, OutputChanged, SumsKept, CircuitMeant, TableMeant}

-- a problem whose rows are given by fault number
module _ (p : Problem) (faults : ℕ) (rows : ℕ → List ℤ) (count : length p.faulted ≡ faults) (same : (f : ℕ) → f ≤ faults → rows_at p f ≡ rows f) where
  shows-of : (labels : List ℕ) → Shows p labels ↔ ShowsOf p.inputs faults rows labels
  shows-of labels = (there, back)
    where
      there : Shows p labels → ShowsOf p.inputs faults rows labels
      there s = record {
        low = s.low;
        each = λ f low high.
            let r = s.each f (low, omega (arith, count, high)) in
            (r.0, r.1, λ e. r.2 (ap (λ (l : List ℤ). coefficient_of l r.0) (same 0 (omega arith)) ∙ e ∙ ap (λ (l : List ℤ). coefficient_of l r.0) (sym (same f high))));
      }

      back : ShowsOf p.inputs faults rows labels → Shows p labels
      back s = record {
        low = s.low;
        each = λ f h.
            let high : f ≤ faults = omega (arith, count, h.1) in
            let r = s.each f h.0 high in
            (r.0, r.1, λ e. r.2 (ap (λ (l : List ℤ). coefficient_of l r.0) (sym (same 0 (omega arith))) ∙ e ∙ ap (λ (l : List ℤ). coefficient_of l r.0) (same f high)));
      }

row_of : (n : Netlist) (f : Fault) (x : ℕ) → x < 2 ^ n.inputs → nth (rows_of n f) x ≡ row_value n f x
unfolding rows_of
row_of n f x h = get_or-tab (2 ^ n.inputs) (row_value n f) (pos 0) x h

-- of a circuit with one output
single-value : (n : Netlist) (f : Fault) (x : ℕ) → length n.outputs ≡ 1 → row_value n f x ≡ output_term n f x 0
unfolding row_value sum_to
single-value n f x one = ap (λ (m : ℕ). sum_to m (output_term n f x)) one ∙ +ℤ_idl (output_term n f x 0)

-- the number of what the outputs show on a row, and the row's value, under the fault of a number
module _ (n : Netlist) (k : ℕ) (high : k ≤ length n.faults) (x : ℕ) (h : x < 2 ^ n.inputs) where
  outputs-numbered-at : nth (outputs_at (circuit_problem n) k) x ≡ row_outputs n (fault_at n k) x
  outputs-numbered-at = ap (λ (l : List ℤ). nth l x) (circuit-outputs n k high) ∙ outputs-at n (fault_at n k) x h

  value-at : nth (rows_at (circuit_problem n) k) x ≡ row_value n (fault_at n k) x
  value-at = ap (λ (l : List ℤ). nth l x) (circuit-rows n k high) ∙ row_of n (fault_at n k) x h

module _ (n : Netlist) (f : ℕ) (high : f ≤ length n.faults) where
  abbrev C : Problem
  C = circuit_problem n

  abbrev F : Fault
  F = fault_at n f

  inside : (x : ℕ) → x < 2 ^ C.inputs → x < 2 ^ n.inputs
  unfolding circuit_problem problem_from
  inside x h = h

  outside : (x : ℕ) → x < 2 ^ n.inputs → x < 2 ^ C.inputs
  unfolding circuit_problem problem_from
  outside x h = h

  both-outputs : (x : ℕ) → x < 2 ^ n.inputs → (nth (outputs_at C 0) x ≡ nth (outputs_at C f) x) ↔ (row_outputs n sound x ≡ row_outputs n F x)
  both-outputs x h =
      let a = outputs-numbered-at n 0 (omega arith) x h in
      let b = outputs-numbered-at n f high x h in
      (λ e. sym a ∙ e ∙ b, λ e. a ∙ e ∙ sym b)

  both-values : (x : ℕ) → x < 2 ^ n.inputs → (nth (rows_at C 0) x ≡ nth (rows_at C f) x) ↔ (row_value n sound x ≡ row_value n F x)
  both-values x h =
      let a = value-at n 0 (omega arith) x h in
      let b = value-at n f high x h in
      (λ e. sym a ∙ e ∙ b, λ e. a ∙ e ∙ sym b)

  silent-meant : Silent C f ↔ OutputsKept n F
  silent-meant = (
    λ s x k h l. same-outputs n sound F x ((both-outputs x h).0 (s x (outside x h))) k l,
    λ q x h. (both-outputs x (inside x h)).1 (outputs-same n sound F x (λ k l. q x k (inside x h) l)),
  )

  hidden-meant : Hidden C f ↔ (OutputChanged n F × SumsKept n F)
  hidden-meant = (there, back)
    where
      there : Hidden C f → OutputChanged n F × SumsKept n F
      there q =
          let c = q.0 in
          let h = inside c.0 c.1 in
          let r = outputs-differ n sound F c.0 (λ e. c.2 ((both-outputs c.0 h).1 e)) in
          ((c.0, r.0, h, r.1, r.2), λ x l. (both-values x l).0 (q.1 x (outside x l)))

      back : OutputChanged n F × SumsKept n F → Hidden C f
      back q =
          let c = q.0 in
          ((c.0, outside c.0 c.2, λ e. c.4 (same-outputs n sound F c.0 ((both-outputs c.0 c.2).0 e) c.1 c.3)), λ x h. (both-values x (inside x h)).1 (q.1 x (inside x h)))

  -- the only output's weight is not 0, so a row's value tells what it shows
  one-output-told : WellFormed n → length n.outputs ≡ 1 → Hidden C f → ⊥
  one-output-told w one q =
      let r = hidden-meant.0 q in
      let c = r.0 in
      let first : c.1 ≡ 0 = omega (arith, one, c.3) in
      c.4 (ap (output_value n sound c.0) first ∙ told (output_value n sound c.0 0) (output_value n F c.0 0) (sym (single-value n sound c.0 one) ∙ r.1 c.0 c.2 ∙ single-value n F c.0 one) ∙ ap (output_value n F c.0) (sym first))
    where
      weight : ℤ
      weight = (get_or n.outputs 0 no_output).weight

      not-zero : weight ≡ pos 0 → ⊥
      not-zero e = omega (arith, ap nat_abs e, (w.outputs-right 0 (omega (arith, one))).weight-low)

      told : (a b : Bool) → weighed a weight ≡ weighed b weight → a ≡ b
      told true true e = refl
      told false false e = refl
      told true false e = absurd (not-zero e)
      told false true e = absurd (not-zero (sym e))

pub circuits-meant : (n : Netlist) → WellFormed n → CircuitMeant n
unfolding circuit_problem problem_from
circuits-meant n w = record {
  cap = refl;
  shows = shows-of (circuit_problem n) (length n.faults) (circuit_rows_at n) (circuit-count n) (circuit-rows n);
  silent = λ f named. silent-meant n f named.1;
  hidden = λ f named. hidden-meant n f named.1;
  one-output = λ one f named. one-output-told n f named.1 w one;
}

pub tables-meant : (t : TruthTable) → TableMeant t
unfolding table_problem problem_from table_row
tables-meant t = record {
  cap = refl;
  shows = shows-of (table_problem t) (length t.faults) (table_rows_at t) (table-count t) (table-rows t);
  silent = λ f named. (
    λ q x h. ap nat_abs (sym (marked 0 (omega arith) x h ∙ ap (λ (y : ℕ). pos (get_or t.marks y 0)) (sound-mark x)) ∙ q x h ∙ marked f named.1 x h),
    λ q x h. marked 0 (omega arith) x h ∙ ap (λ (y : ℕ). pos (get_or t.marks y 0)) (sound-mark x) ∙ ap pos (q x h) ∙ sym (marked f named.1 x h),
  );
  table-never-hidden = λ f named q.
      let c = q.0 in
      c.2 (ap (λ (l : List ℤ). nth l c.0) (table-outputs t 0) ∙ q.1 c.0 c.1 ∙ ap (λ (l : List ℤ). nth l c.0) (sym (table-outputs t f)));
}
  where
    -- the output of a row is its mark
    marked : (f : ℕ) → f ≤ length t.faults → (x : ℕ) → x < 2 ^ t.inputs → nth (outputs_at (table_problem t) f) x ≡ pos (get_or t.marks (fault_row (table_fault_at t f) x) 0)
    marked f high x h = ap (λ (l : List ℤ). nth l x) (table-outputs t f ∙ table-rows t f high) ∙ table-row-is t (table_fault_at t f) x h

pub demand-three-circuit : (text : List ℕ) (n : Netlist) (work : ℕ) → parse_of text ≡ accepted n → working_numbers ≤ work → Right (circuit_problem n) (plan_answer text work) × CircuitMeant n
demand-three-circuit text n work e h = (demand-three text (circuit_problem n) work (circuit-described text n e) h, circuits-meant n (well-formed text n e))

pub demand-three-table : (text : List ℕ) (t : TruthTable) (work : ℕ) → table_of text ≡ accepted_table t → working_numbers ≤ work → Right (table_problem t) (plan_answer text work) × TableMeant t
demand-three-table text t work e h = (demand-three text (table_problem t) work (table-described text t e) h, tables-meant t)

pub demand-three-before : (text : List ℕ) (p : Problem) → description_of text ≡ described p → AsBefore p
demand-three-before text p e = plans-as-before p (described-proper text p e)
