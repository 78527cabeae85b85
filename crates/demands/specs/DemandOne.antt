-- Demand 1, in the user's words, over the definitions that the calls' promises cite:
--   "Every call, on all input, ends and does nothing undefined. A malformed text gets its refusal number and place, a bad list, argument or short
--   buffer its number, and a refusal writes nothing except where the paper names it."
-- Limits stand here as the paper's numbers, not by name: a limit that moves must move here too.
-- That every call ends and does nothing undefined is the prover's part: no function passes the gate without it, and no call has a `requires`.
use Rattle.std.specs.Prelude.{ℕ, ◌<◌, ◌≤◌, true, false, List, [], ◌∷◌, ◌↔◌, ◌⊎◌, ◌≡◌, ◌≢◌, ℤ, pos, nat_abs, length, get_or, drop, Some}
use Rattle.fields.specs.Fields.{LeastFailing}
use Rattle.statements.specs.LineForms.{HeadForm, OutputForm, FaultForm, BridgeForm, FaultLineForm}
use Rattle.gate_lines.specs.GateForms.{GateForm}
use Rattle.statements.specs.Lines.{head_tests, head_refusal, output_tests, output_refusal, output_of, unsigned_refusal, unsigned_of, fault_tests, fault_refusal, fault_of, bridge_tests, bridge_refusal, names_bridge, fault_line_of}
use Rattle.gate_lines.specs.GateLines.{gate_tests, gate_refusal, gate_of, narrow_refusal, narrow_of}
use Rattle.sections.specs.FaultLines.{nth_fault_refusal, nth_stuck_refusal}
use Rattle.sections.specs.Sections.{lines_from, lines_of}
use Rattle.screen.specs.Answers.{Answer, answer_number, answer_place}
use Rattle.results.specs.Results.{written, leaves}
use Rattle.walsh.specs.Coefficients.{found_of, found_number, found_place, found_value}
use Rattle.walsh.specs.Lists.{spectrum_answer, rows_answer}
use Rattle.faults.specs.Faults.{bit_of, stuck_answer, opened_answer}
use Rattle.bridges.specs.Bridges.{bridged_answer}
use Rattle.netlist.specs.Circuits.{Netlist}
use Rattle.netlist.specs.CircuitText.{text_of}
use Rattle.netlist.specs.Parsing.{nth_gate_refusal, nth_narrow_refusal, nth_output_refusal, nth_unsigned_refusal, accepted, rejected, parse_of}
use Rattle.netlist.specs.Places.{LineFails, BytesFollow, NoneApplies}
use Rattle.netlist.specs.WellFormed.{WellFormed}
use Rattle.tables.specs.TableForms.{TableHeadForm, MarkForm}
use Rattle.tables.specs.TableLines.{is_table, table_head_tests, table_head_refusal, mark_tests, mark_refusal}
use Rattle.tables.specs.TableParsing.{accepted_table, rejected_table, table_of}
use Rattle.tables.specs.TablePlaces.{TableLineNumber, TableLineFails, TableBytesFollow, TableNoneApplies}
use Rattle.tables.specs.TableText.{table_text}
use Rattle.tables.specs.TableWellFormed.{TableRight}
use Rattle.tables.specs.Tables.{TruthTable}
use Rattle.devices.specs.Describing.{described, refused_at, description_of}
use Rattle.devices.specs.Devices.{circuit_problem, table_problem}
use Rattle.devices.specs.Problems.{Problem}
use Rattle.text.specs.Text.{bytes_of, before, field_of, field_count, line_end, minus_sign, signed_number_of}
use Rattle.writing.specs.Writing.{integer_of}
use Rattle.circuit.specs.CircuitCall.{circuit_answer}
use Rattle.planner.specs.PlanCall.{plan_verdict, plan_answer, WorkKept}
use Rattle.report_lines.specs.ReportLines.{refused_line}
use Rattle.report.specs.ReportCall.{report_of, report_answer, report_left, report_verdict}
use Rattle.reading.specs.Readings.{none, reading_number, reading_place, reading_of, fixed_of}
use Rattle.fixture.specs.ReadingCall.{reading_answer, pair_answer}
use Rattle.demands.specs.Tests.{NoRefusal, RefusedIf, AtNone, OnDevice, OnText}
use Rattle.demands.specs.Refusals.{CoefficientTests, SpectrumTests, RowsTests, StuckTests, OpenedTests, BridgedTests, CircuitTests, PlanTests, ReadingTests, PairTests}

-- "A malformed text gets its refusal number and place": each number exactly where it holds, and a text is accepted exactly when it is the one written from a
-- well-formed circuit
pub record TextsAnswered (text : List ℕ) : Type 0 where
  pub too_long : (parse_of text ≡ rejected 1 0) ↔ (16384 < length text)
  pub line : (number place : ℕ) → ((parse_of text ≡ rejected number place) × (((2 ≤ number) × (number ≤ 6)) ⊎ (number ≡ 19))) ↔ LineFails text number place
  pub bytes-follow : (place : ℕ) → (parse_of text ≡ rejected 7 place) ↔ BytesFollow text place
  pub no_other : (number place : ℕ) → parse_of text ≡ rejected number place → ((number ≡ 1) × (place ≡ 0)) ⊎ (((2 ≤ number) × (number ≤ 7)) ⊎ (number ≡ 19))
  pub accept : (n : Netlist) → (parse_of text ≡ accepted n) ↔ (WellFormed n × (text ≡ text_of n))
  -- "A text is accepted exactly when none of 1 to 7 applies", nor 19
  pub none-applies : ((n : Netlist) × (parse_of text ≡ accepted n)) ↔ NoneApplies text
  pub short : (n : Netlist) → parse_of text ≡ accepted n → length text ≤ 1804

-- the same of tables (document 02, notes 1 and 8): 2, 3, 5, 6 and 19 at a line, 15 at line 2, 7 at the line after the last
pub record TablesAnswered (text : List ℕ) : Type 0 where
  pub too_long : (table_of text ≡ rejected_table 1 0) ↔ (16384 < length text)
  pub line : (number place : ℕ) → ((table_of text ≡ rejected_table number place) × TableLineNumber number place) ↔ TableLineFails text number place
  pub bytes-follow : (place : ℕ) → (table_of text ≡ rejected_table 7 place) ↔ TableBytesFollow text place
  pub no_other : (number place : ℕ) → table_of text ≡ rejected_table number place
      → ((number ≡ 1) × (place ≡ 0)) ⊎ ((1 ≤ place) × (place ≤ 35) × ((number ≡ 7) ⊎ TableLineNumber number place))
  pub accept : (t : TruthTable) → (table_of text ≡ accepted_table t) ↔ (TableRight t × (text ≡ table_text t))
  pub none-applies : ((t : TruthTable) × (table_of text ≡ accepted_table t)) ↔ TableNoneApplies text
  pub short : (t : TruthTable) → table_of text ≡ accepted_table t → length text ≤ 846

-- which kind a text is: a table where the first field of its first line is `table`, and every other text is read as document 01 has it. "readings and later
-- calls on circuit texts give 2 at line 1 for a table", and 1 where it is too long
pub record KindsTold (text : List ℕ) : Type 0 where
  pub word : (is_table text ≡ true) ↔ (field_of (before line_end text) 0 ≡ bytes_of "table")
  -- what a call is told of it: the refusal with its number and place, or the problem, of the parser of its kind
  pub refusal : is_table text ≡ true → (number place : ℕ) → (description_of text ≡ refused_at number place) ↔ (table_of text ≡ rejected_table number place)
  pub problem : is_table text ≡ true → (p : Problem) → (description_of text ≡ described p) ↔ ((t : TruthTable) × (table_of text ≡ accepted_table t) × (table_problem t ≡ p))
  pub other-refusal : is_table text ≡ false → (number place : ℕ) → (description_of text ≡ refused_at number place) ↔ (parse_of text ≡ rejected number place)
  pub other-problem : is_table text ≡ false → (p : Problem) → (description_of text ≡ described p) ↔ ((n : Netlist) × (parse_of text ≡ accepted n) × (circuit_problem n ≡ p))
  pub unread : is_table text ≡ true → length text ≤ 16384 → parse_of text ≡ rejected 2 1

-- which fault lines are bridges, by their word (document 02, note 8). Fault lines of which none has it are read as document 01 has them
pub record BridgesTold : Type 0 where
  pub word : (l : List ℕ) → (names_bridge l ≡ true) ↔ (field_of l 0 ≡ bytes_of "bridge")
  pub as_before : (inputs top count place : ℕ) (rest : List ℕ) → ((k : ℕ) → k < count → names_bridge (before line_end (lines_from k rest)) ≡ false)
      → lines_of (nth_fault_refusal inputs top) fault_line_of count place rest [] ≡ lines_of (nth_stuck_refusal top) fault_of count place rest []

-- a gate's line of four fields is answered as document 01 has it, and so are gate lines of which none has five or six (document 02, note 2): "Texts with two fields
-- give the answers they gave."
pub record GatesTold : Type 0 where
  pub four-fields : (own : ℕ) (l : List ℕ) → field_count l ≡ 4 → (gate_refusal own l ≡ narrow_refusal own l) × (gate_of l ≡ narrow_of l)
  pub as_before : (inputs count place : ℕ) (rest : List ℕ)
      → ((k : ℕ) → k < count → (field_count (before line_end (lines_from k rest)) ≡ 5 → ⊥) × (field_count (before line_end (lines_from k rest)) ≡ 6 → ⊥))
      → lines_of (nth_gate_refusal inputs) gate_of count place rest [] ≡ lines_of (nth_narrow_refusal inputs) narrow_of count place rest []

-- an output's line whose WEIGHT does not begin with `-` is answered as document 01 has it, and so are output lines of which none does (document 02, note 4). Where a
-- number may have a sign, a field says an integer of at most four digits exactly where it is that integer as it is written
pub record OutputsTold : Type 0 where
  pub no_sign : (top : ℕ) (l : List ℕ) → get_or (field_of l 2) 0 0 ≢ minus_sign → (output_refusal top l ≡ unsigned_refusal top l) × (output_of l ≡ unsigned_of l)
  pub as_before : (top count place : ℕ) (rest : List ℕ) → ((k : ℕ) → k < count → get_or (field_of (before line_end (lines_from k rest)) 2) 0 0 ≢ minus_sign)
      → lines_of (nth_output_refusal top) output_of count place rest [] ≡ lines_of (nth_unsigned_refusal top) unsigned_of count place rest []
  pub integer : (field : List ℕ) (z : ℤ) → (signed_number_of field ≡ Some z) ↔ ((field ≡ integer_of z) × (nat_abs z < 10000))

-- what each kind of line is tested for, by what it is written from
pub record LinesTested : Type 0 where
  pub head : HeadForm
  pub gate : GateForm
  pub output : OutputForm
  pub fault : FaultForm
  pub bridge : BridgeForm
  -- "A fault line may read `bridge,I,J`": which of the two a fault line is
  pub fault-line : FaultLineForm
  pub table-head : TableHeadForm
  pub marks : MarkForm

-- "within a line 2, 3, then 4, 5, 6", 15 "after 2", and 19 "in the place of 5 and 6"
pub record LinesNumbered (l : List ℕ) : Type 0 where
  pub head : LeastFailing (head_tests l) (head_refusal l)
  pub gate : (own : ℕ) → LeastFailing (gate_tests own l) (gate_refusal own l)
  pub output : (top : ℕ) → LeastFailing (output_tests top l) (output_refusal top l)
  pub fault : (top : ℕ) → LeastFailing (fault_tests top l) (fault_refusal top l)
  pub bridge : (inputs : ℕ) → LeastFailing (bridge_tests inputs l) (bridge_refusal inputs l)
  pub table-head : LeastFailing (table_head_tests l) (table_head_refusal l)
  pub marks : (inputs : ℕ) → LeastFailing (mark_tests inputs l) (mark_refusal inputs l)

-- a call on a list that writes: "a refusal writes nothing"
pub record Writes (a : Answer) (new out : List ℤ) : Type 0 where
  pub refused : (answer_number a ≡ 0 → ⊥) → leaves a new out ≡ out
  pub done : answer_number a ≡ 0 → leaves a new out ≡ written new out

-- the plan call, and the report call, on working numbers that are `before`, and hold `after` afterwards: "13 and 14 may have used the working numbers", "later ones are untouched"; of 16:
-- "the working numbers free as with these" (document 02, note 5)
pub record PlanWrites (text before after : List ℕ) : Type 0 where
  pub later : drop 4608 after ≡ drop 4608 before
  pub refused : let number = (plan_answer text (length before)).number in (number ≡ 0 → ⊥) → (number ≡ 13 → ⊥) → (number ≡ 16 → ⊥) → (number ≡ 14 → ⊥) → after ≡ before

-- the report call's lent bytes: "if either is short it returns 8 before all else and writes nothing", else the refusal is a line of the report
pub record ReportWrites (text out : List ℕ) (work : ℕ) : Type 0 where
  pub short : (length out < 1024) ⊎ (work < 4608) → report_left text work out ≡ out
  pub refusal-line : 4608 ≤ work → ((plan_answer text work).number ≡ 0 → ⊥) → report_of text ≡ refused_line (plan_answer text work).number (plan_answer text work).place

-- "Sizes, labels and readings returned with a refusal are 0."
pub record RefusedZero : Type 0 where
  pub coefficient : (rows : List ℤ) (label : ℕ) → (found_number (found_of rows label) ≡ 0 → ⊥) → found_value (found_of rows label) ≡ pos 0
  pub plan : (text : List ℕ) (work : ℕ) → let a = plan_answer text work in (a.number ≡ 0 → ⊥) → (a.size ≡ 0) × (a.labels ≡ 0 ∷ 0 ∷ 0 ∷ 0 ∷ [])
  pub report : (text : List ℕ) (room work : ℕ) → let a = report_answer text room work in (a.number ≡ 0 → ⊥) → a.bytes ≡ 0
  pub reading : (text : List ℕ) (mask values : ℕ) → let a = reading_answer text mask values in (reading_number a ≡ 0 → ⊥) → (reading_of a ≡ none) × (fixed_of a ≡ 0)
  pub pair : (text : List ℕ) (fault mask values : ℕ) → let a = pair_answer text fault mask values in (a.number ≡ 0 → ⊥)
      → (a.readings.sound ≡ none) × (a.readings.faulty ≡ none) × (a.readings.difference ≡ none)

pub record DemandOne : Type 0 where
  pub texts : (text : List ℕ) → TextsAnswered text
  pub tables : (text : List ℕ) → TablesAnswered text
  pub kinds : (text : List ℕ) → KindsTold text
  pub gate-lines : GatesTold
  pub output-lines : OutputsTold
  pub bridge-lines : BridgesTold
  pub lines : LinesTested
  pub numbers : (l : List ℕ) → LinesNumbered l
  -- calls on a text
  pub circuit : (text : List ℕ) (fault room : ℕ) → let a = circuit_answer text fault room in OnDevice text (CircuitTests fault room) (answer_number a) (answer_place a)
  pub plan : (text : List ℕ) (work : ℕ) → let a = plan_answer text work in OnDevice text (PlanTests work) a.number a.place
  pub report : (text : List ℕ) (room work : ℕ) → RefusedIf 8 (AtNone ((room < 1024) ⊎ (work < 4608))) NoRefusal (report_answer text room work).number 0
  pub reading : (text : List ℕ) (mask values : ℕ) → let a = reading_answer text mask values in OnText text (ReadingTests mask values) (reading_number a) (reading_place a)
  pub pair : (text : List ℕ) (fault mask values : ℕ) → let a = pair_answer text fault mask values in OnText text (PairTests fault mask values) a.number a.place
  -- a table is never read: 1 where it is too long, else 2 at line 1, whatever else is wrong with it
  pub table-reading : (text : List ℕ) (mask values : ℕ) → is_table text ≡ true → let a = reading_answer text mask values in
      RefusedIf 1 (AtNone (16384 < length text)) (λ number place. (number ≡ 2) × (place ≡ 1)) (reading_number a) (reading_place a)
  pub table-pair : (text : List ℕ) (fault mask values : ℕ) → is_table text ≡ true → let a = pair_answer text fault mask values in
      RefusedIf 1 (AtNone (16384 < length text)) (λ number place. (number ≡ 2) × (place ≡ 1)) a.number a.place
  -- calls on a list
  pub coefficient : (rows : List ℤ) (label : ℕ) → let a = found_of rows label in CoefficientTests rows label (found_number a) (found_place a)
  pub spectrum : (rows : List ℤ) (room : ℕ) → let a = spectrum_answer rows room in SpectrumTests rows room (answer_number a) (answer_place a)
  pub rows : (c : List ℤ) (room : ℕ) → let a = rows_answer c room in RowsTests c room (answer_number a) (answer_place a)
  pub stuck : (c : List ℤ) (inputs values : List ℕ) (room : ℕ) → let a = stuck_answer c inputs values room in StuckTests c inputs values room (answer_number a) (answer_place a)
  pub opened : (c : List ℤ) (values : List ℕ) (room : ℕ) → let a = opened_answer c values room in OpenedTests c values room (answer_number a) (answer_place a)
  pub bridged : (c : List ℤ) (i j room : ℕ) → let a = bridged_answer c i j room in BridgedTests c i j room (answer_number a) (answer_place a)
  -- the four labels that differ only in I and J share their half, so the first whose half is not whole has neither
  pub bridged-place : (c : List ℤ) (i j room : ℕ) → let a = bridged_answer c i j room in answer_number a ≡ 11 → (bit_of i (answer_place a) ≡ 0) × (bit_of j (answer_place a) ≡ 0)
  -- what is written
  pub circuit-writes : (text : List ℕ) (fault room : ℕ) (new out : List ℤ) → Writes (circuit_answer text fault room) new out
  pub spectrum-writes : (rows : List ℤ) (room : ℕ) (new out : List ℤ) → Writes (spectrum_answer rows room) new out
  pub rows-writes : (c : List ℤ) (room : ℕ) (new out : List ℤ) → Writes (rows_answer c room) new out
  pub stuck-writes : (c : List ℤ) (inputs values : List ℕ) (room : ℕ) (new out : List ℤ) → Writes (stuck_answer c inputs values room) new out
  pub opened-writes : (c : List ℤ) (values : List ℕ) (room : ℕ) (new out : List ℤ) → Writes (opened_answer c values room) new out
  pub bridged-writes : (c : List ℤ) (i j room : ℕ) (new out : List ℤ) → Writes (bridged_answer c i j room) new out
  pub plan-writes : (text before after : List ℕ) → WorkKept (plan_verdict text (length before)) before after → PlanWrites text before after
  pub report-writes : (text out : List ℕ) (work : ℕ) → ReportWrites text out work
  pub report-work : (text : List ℕ) (room : ℕ) (before after : List ℕ) → WorkKept (report_verdict text room (length before)) before after
      → ((report_answer text room (length before)).number ≡ 8 → after ≡ before) × PlanWrites text before after
  pub zero : RefusedZero
