-- The three demands together; demand 3 is planner's `Right` over the problem that an accepted text states, with what the report prints for each fault. The same
-- is said in the words of each kind of text: of a circuit by its rows, of a table by its marks.
use Rattle.std.specs.Prelude.{ℕ, suc, ◌≤◌, ◌<◌, ◌^◌, ◌↔◌, ◌≡◌, ℤ, pos, length, get_or}
use mathlib.Core.List.{List, [], ◌∷◌, Memᴰ}
use Rattle.cover.specs.Cover.{fault_rows}
use Rattle.netlist.specs.Circuits.{Netlist, fault_at}
use Rattle.netlist.specs.Parsing.{accepted, parse_of}
use Rattle.simulation.specs.Rows.{output_value, row_value, rows_of}
use Rattle.statements.specs.Items.{sound, Fault}
use Rattle.statements.specs.Lines.{fault_word}
use Rattle.tables.specs.Tables.{TruthTable, table_fault_at}
use Rattle.tables.specs.TableParsing.{accepted_table, table_of}
use Rattle.lookup.specs.TableRows.{fault_row, table_rows}
use Rattle.devices.specs.Describing.{described, description_of}
use Rattle.devices.specs.Devices.{circuit_problem, table_problem}
use Rattle.devices.specs.Problems.{Problem, rows_at}
use Rattle.transform.specs.Spectrum.{coefficient_of}
use Rattle.writing.specs.Writing.{line_of}
use Rattle.planner.specs.Demand.{Shows, Silent, Hidden, Right}
use Rattle.planner.specs.PlanCall.{planned, verdict_of, plan_answer}
use Rattle.planner.specs.PlansBefore.{AsBefore}
use Rattle.report_lines.specs.ReportLines.{covering_label, fault_report_line}
use Rattle.report.specs.Printed.{PrintedFor}
use Rattle.demands.specs.DemandOne.{DemandOne}
use Rattle.demands.specs.DemandTwo.{DemandTwo}
use Rattle.demands.specs.Refusals.{CircuitFault, TableFault}

-- labels below 2^N, of which each of Q faults has one whose coefficient differs between the sound rows and the rows under the fault
pub record ShowsOf (inputs faults : ℕ) (rows : ℕ → List ℤ) (labels : List ℕ) : Type 0 where
  pub low : (l : ℕ) → Memᴰ l labels → l < 2 ^ inputs
  pub each : (f : ℕ) → 1 ≤ f → f ≤ faults → (l : ℕ) × Memᴰ l labels × (coefficient_of (rows 0) l ≡ coefficient_of (rows f) l → ⊥)

-- a circuit's rows under its fault of a number, and a table's: 0 for sound
abbrev pub circuit_rows_at : Netlist → ℕ → List ℤ
circuit_rows_at n f = rows_of n (fault_at n f)

abbrev pub table_rows_at : TruthTable → ℕ → List ℤ
table_rows_at t f = table_rows t (table_fault_at t f)

-- "no output changes on any row", whatever the weights
abbrev pub OutputsKept : Netlist → Fault → Type 0
OutputsKept n f = (x k : ℕ) → x < 2 ^ n.inputs → k < length n.outputs → output_value n sound x k ≡ output_value n f x k

-- "changes some output"
abbrev pub OutputChanged : Netlist → Fault → Type 0
OutputChanged n f = (x : ℕ) × (k : ℕ) × (x < 2 ^ n.inputs) × (k < length n.outputs) × (output_value n sound x k ≡ output_value n f x k → ⊥)

-- "but no row's weighted sum"
abbrev pub SumsKept : Netlist → Fault → Type 0
SumsKept n f = (x : ℕ) → x < 2 ^ n.inputs → row_value n sound x ≡ row_value n f x

-- what demand 3 says of a circuit: its own rows decide which labels show its faults, its outputs which fault is silent, and both which is hidden
pub record CircuitMeant (n : Netlist) : Type 0 where
  pub cap : (circuit_problem n).cap ≡ n.cap
  pub shows : (labels : List ℕ) → Shows (circuit_problem n) labels ↔ ShowsOf n.inputs (length n.faults) (circuit_rows_at n) labels
  pub silent : (f : ℕ) → CircuitFault n f → Silent (circuit_problem n) f ↔ OutputsKept n (fault_at n f)
  pub hidden : (f : ℕ) → CircuitFault n f → Hidden (circuit_problem n) f ↔ (OutputChanged n (fault_at n f) × SumsKept n (fault_at n f))
  -- where there is one output, its weight is not 0
  pub one-output : length n.outputs ≡ 1 → (f : ℕ) → CircuitFault n f → Hidden (circuit_problem n) f → ⊥

-- and of a table, over doubled rows: a fault is silent where every row's mark is that of the row with the stuck or bridged inputs replaced, and "hidden never occurs"
pub record TableMeant (t : TruthTable) : Type 0 where
  pub cap : (table_problem t).cap ≡ t.cap
  pub shows : (labels : List ℕ) → Shows (table_problem t) labels ↔ ShowsOf t.inputs (length t.faults) (table_rows_at t) labels
  pub silent : (f : ℕ) → TableFault t f
      → Silent (table_problem t) f ↔ ((x : ℕ) → x < 2 ^ t.inputs → get_or t.marks x 0 ≡ get_or t.marks (fault_row (table_fault_at t f) x) 0)
  pub table-never-hidden : (f : ℕ) → TableFault t f → Hidden (table_problem t) f → ⊥

pub record DemandThree : Type 0 where
  pub plan : (text : List ℕ) (p : Problem) (work : ℕ) → description_of text ≡ described p → 4608 ≤ work → Right p (plan_answer text work)
  pub circuit : (text : List ℕ) (n : Netlist) (work : ℕ) → parse_of text ≡ accepted n → 4608 ≤ work → Right (circuit_problem n) (plan_answer text work) × CircuitMeant n
  pub table : (text : List ℕ) (t : TruthTable) (work : ℕ) → table_of text ≡ accepted_table t → 4608 ≤ work → Right (table_problem t) (plan_answer text work) × TableMeant t
  -- what note 5 changes: only 13 is split
  pub plans-as-before : (text : List ℕ) (p : Problem) → description_of text ≡ described p → AsBefore p
  pub printed : (text : List ℕ) (p : Problem) (labels : List ℕ) → description_of text ≡ described p → verdict_of p ≡ planned labels → (f : ℕ) → f < length p.faulted
      → PrintedFor p labels (suc f) (covering_label p.sound (fault_rows p.faulted f) labels)
  -- "`fault,NUMBER,LABEL,VALUE` with the plan's first covering label and the faulted coefficient"
  pub line : (p : Problem) (labels : List ℕ) (f : ℕ) → f < length p.faulted → let label = covering_label p.sound (fault_rows p.faulted f) labels in
      fault_report_line p.sound p.faulted labels f ≡ line_of fault_word (pos (suc f) ∷ pos label ∷ coefficient_of (rows_at p (suc f)) label ∷ [])

pub record Demands : Type 0 where
  pub one : DemandOne
  pub two : DemandTwo
  pub three : DemandThree
