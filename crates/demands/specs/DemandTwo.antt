-- Demand 2, in the user's words, over the definitions that the calls' promises cite:
--   "Spectra equal the paper's sums, both ways. A faulty spectrum worked out from coefficients alone equals the sums over the faulted rows. A
--   reading is the exact fraction."
use Rattle.std.specs.Prelude.{ℕ, ◌+◌, ◌*◌, ◌<◌, ◌≤◌, ◌^◌, true, List, ◌↔◌, ◌⊎◌, ◌≡◌, ◌≢◌, Float, ℤ, pos, ◌-ℤ◌, ◌≤ℤ◌, ◌<ℤ◌, length, get_or}
use Rattle.std.specs.Int.Bits.{bit_and}
use Rattle.std.specs.Int.Count.{ones}
use Rattle.integer.specs.Mask.{bit}
use Rattle.integer.specs.Sum.{sum_to, signed}
use Rattle.integer.specs.Tab.{nth, Within}
use Rattle.screen.specs.Answers.{answer_number}
use Rattle.transform.specs.Spectrum.{sign, coefficient_of, spectrum_of}
use Rattle.walsh.specs.Coefficients.{found_of, found_number, found_value}
use Rattle.walsh.specs.Lists.{spectrum_answer, inverse_rows, rows_answer}
use Rattle.faults.specs.Faults.{stuck_of, stuck_answer, stuck_spectrum_of, stuck_rows, kept_inputs, opened_answer, opened_spectrum_of, opened_rows, replaced_all, bridged_rows}
use Rattle.bridges.specs.Bridges.{bridged_answer, bridged_spectrum_of}
use Rattle.statements.specs.Items.{no_output, no_bridge, sound}
use Rattle.gate_lines.specs.GateItems.{no_gate}
use Rattle.gates.specs.Gates.{TwoAsBefore}
use Rattle.netlist.specs.Circuits.{Netlist, fault_at}
use Rattle.netlist.specs.Parsing.{accepted, parse_of}
use Rattle.columns.specs.Shown.{applied, shown, applied_under}
use Rattle.simulation.specs.Rows.{input_shown, reads, gate_in, line_values, row_value, rows_of}
use Rattle.tables.specs.Tables.{TruthTable, table_fault_at}
use Rattle.tables.specs.TableParsing.{accepted_table, table_of}
use Rattle.lookup.specs.FreeRows.{ones_with, free_with}
use Rattle.lookup.specs.TableRows.{fault_row, table_rows}
use Rattle.circuit.specs.CircuitCall.{circuit_answer, circuit_spectrum}
use Rattle.lookup.specs.StuckPairs.{stuck_lines, stuck_values, pairs_of, OfInputs}
use Rattle.agreement.specs.Opened.{opened_circuit_rows}
use Rattle.reading.specs.Readings.{ReadingAnswer, Syndrome, Weighted, Constrained, agrees, whole_sum, count_of, reading_number}
use Rattle.fixture.specs.ReadingCall.{is_weighted, reading_answer, pair_answer, sum_of, row_count, ReadExactly, ComparedExactly}
use Rattle.demands.specs.Refusals.{CircuitFault, TableFault}

-- "The coefficient at a label is the signed sum of all row values", and back
pub record SpectraRight : Type 0 where
  pub whole : (rows : List ℤ) → length (spectrum_of rows) ≡ length rows
  pub sums : (rows : List ℤ) (label : ℕ) → label < length rows → nth (spectrum_of rows) label ≡ sum_to (length rows) (λ x. signed (sign label x) (nth rows x))
  pub one : (rows : List ℤ) (label : ℕ) → found_number (found_of rows label) ≡ 0 → found_value (found_of rows label) ≡ sum_to (length rows) (λ x. signed (sign label x) (nth rows x))
  -- the way back of a spectrum gives its rows, and what the way back gives has that spectrum
  pub back : (rows : List ℤ) (room : ℕ) → answer_number (spectrum_answer rows room) ≡ 0 → (answer_number (rows_answer (spectrum_of rows) room) ≡ 0) × (inverse_rows (spectrum_of rows) ≡ rows)
  pub there : (c : List ℤ) (room : ℕ) → answer_number (rows_answer c room) ≡ 0 → (answer_number (spectrum_answer (inverse_rows c) room) ≡ 0) × (spectrum_of (inverse_rows c) ≡ c)
  -- "Where the earlier tests pass, it refuses by 11 exactly when no rows in range have that spectrum."
  pub no_rows : (c : List ℤ) (room : ℕ) → (answer_number (rows_answer c room) ≡ 0) ⊎ (answer_number (rows_answer c room) ≡ 11)
      → (answer_number (rows_answer c room) ≡ 11) ↔ ((rows : List ℤ) → Within 1000 rows → spectrum_of rows ≡ c → ⊥)

-- "On a spectrum of rows both equal the sums of the faulted rows", and under a bridge (document 02, note 8): "On a spectrum of rows this must equal the sums over
-- bridged rows"
pub record FaultySpectraRight : Type 0 where
  pub stuck : (rows : List ℤ) (inputs values : List ℕ) (room : ℕ) → answer_number (stuck_answer (spectrum_of rows) inputs values room) ≡ 0
      → stuck_spectrum_of (stuck_of inputs values) (spectrum_of rows) ≡ spectrum_of (stuck_rows (stuck_of inputs values) rows)
  pub opened : (rows : List ℤ) (values : List ℕ) (room : ℕ) → answer_number (opened_answer (spectrum_of rows) values room) ≡ 0
      → opened_spectrum_of (spectrum_of rows) values ≡ spectrum_of (opened_rows (kept_inputs rows values) values rows)
  pub opened-divides : (rows : List ℤ) (values : List ℕ) (room : ℕ) → answer_number (opened_answer (spectrum_of rows) values room) ≡ 11 → ⊥
  pub bridged : (rows : List ℤ) (i j room : ℕ) → answer_number (bridged_answer (spectrum_of rows) i j room) ≡ 0
      → bridged_spectrum_of i j (spectrum_of rows) ≡ spectrum_of (bridged_rows i j rows)
  pub bridged-halves : (rows : List ℤ) (i j room : ℕ) → answer_number (bridged_answer (spectrum_of rows) i j room) ≡ 11 → ⊥

-- the circuit that an accepted text states, sound (0) and under each of its faults
pub record CircuitsRight (text : List ℕ) (n : Netlist) : Type 0 where
  pub rows : (k x : ℕ) → x < 2 ^ n.inputs → nth (rows_of n (fault_at n k)) x ≡ row_value n (fault_at n k) x
  pub spectrum : (k : ℕ) → k ≤ length n.faults → circuit_spectrum text k ≡ spectrum_of (rows_of n (fault_at n k))
  -- "Row values then run from −60 to 60" (document 02, note 4), and coefficients from -15,360 to 15,360
  pub row-values : (k : ℕ) → Within 60 (rows_of n (fault_at n k))
  pub coefficients : (k : ℕ) → k ≤ length n.faults → Within 15360 (circuit_spectrum text k)
  -- the circuit's equations: an input's line shows what it gets, and a gate's line its kind's value of all the lines that it reads, as they are shown
  pub input-lines : (k x i : ℕ) → i < n.inputs → let f = fault_at n k in reads (line_values n f x) (i + 1) ≡ shown f (i + 1) (applied_under f.bridge x i)
  pub gate-lines : (k x j : ℕ) → j < length n.gates → let f = fault_at n k in
      reads (line_values n f x) (n.inputs + j + 1) ≡ shown f (n.inputs + j + 1) (gate_in (line_values n f x) (get_or n.gates j no_gate))
  -- without a bridge an input gets what is applied to it
  pub unbridged : (k x i : ℕ) → (fault_at n k).bridge ≡ no_bridge → input_shown (fault_at n k) x i ≡ shown (fault_at n k) (i + 1) (applied x i)
  -- from the sound spectrum alone, where the fault is of stuck lines and names inputs only
  pub stuck-inputs : (k : ℕ) → CircuitFault n k → (fault_at n k).bridge ≡ no_bridge → OfInputs n.inputs (fault_at n k)
      → stuck_spectrum_of (stuck_of (stuck_lines (fault_at n k)) (stuck_values (fault_at n k))) (circuit_spectrum text 0) ≡ circuit_spectrum text k
  -- from the spectrum of the circuit with the lines of a fault of stuck lines opened
  pub opened-lines : (k : ℕ) → CircuitFault n k → (fault_at n k).bridge ≡ no_bridge
      → opened_spectrum_of (spectrum_of (opened_circuit_rows n (fault_at n k))) (stuck_values (fault_at n k)) ≡ circuit_spectrum text k
  -- "Both inputs then show the AND of what is applied": the sound rows with both inputs replaced, and that from the sound spectrum alone
  pub bridged-rows : (k : ℕ) → CircuitFault n k → ((fault_at n k).bridge ≡ no_bridge → ⊥) → let b = (fault_at n k).bridge in
      rows_of n (fault_at n k) ≡ bridged_rows b.first b.second (rows_of n sound)
  pub bridges : (k : ℕ) → CircuitFault n k → ((fault_at n k).bridge ≡ no_bridge → ⊥) → let b = (fault_at n k).bridge in
      bridged_spectrum_of b.first b.second (circuit_spectrum text 0) ≡ circuit_spectrum text k
  pub bridges-answer : (k room : ℕ) → CircuitFault n k → ((fault_at n k).bridge ≡ no_bridge → ⊥) → let b = (fault_at n k).bridge in
      bridged_answer (circuit_spectrum text 0) b.first b.second room ≡ circuit_answer text k room

-- the table that an accepted text states, sound (0) and under each of its faults: "Under a fault a row takes the mark of the row with its stuck inputs replaced",
-- and its bridged ones
pub record TablesRight (text : List ℕ) (t : TruthTable) : Type 0 where
  pub rows : (k x : ℕ) → x < 2 ^ t.inputs → nth (table_rows t (table_fault_at t k)) x ≡ pos (get_or t.marks (fault_row (table_fault_at t k) x) 0)
  pub sound-rows : (x : ℕ) → x < 2 ^ t.inputs → nth (table_rows t sound) x ≡ pos (get_or t.marks x 0)
  pub spectrum : (k : ℕ) → k ≤ length t.faults → circuit_spectrum text k ≡ spectrum_of (table_rows t (table_fault_at t k))
  -- eq. 11 and 12, doubled: twice the ones of even parity plus the free rows of even parity, less the same of odd parity
  pub free-rows : (k label : ℕ) → let f = table_fault_at t k in
      coefficient_of (table_rows t f) label ≡ pos (2 * ones_with t f 0 label + free_with t f 0 label) -ℤ pos (2 * ones_with t f 1 label + free_with t f 1 label)
  -- without a bridge the row has its stuck inputs replaced, and nothing else
  pub unbridged : (k x : ℕ) → (table_fault_at t k).bridge ≡ no_bridge → fault_row (table_fault_at t k) x ≡ replaced_all (pairs_of (table_fault_at t k)) x
  -- from the sound spectrum alone, under every fault: of stuck inputs
  pub stuck-inputs : (k : ℕ) → TableFault t k → (table_fault_at t k).bridge ≡ no_bridge
      → stuck_spectrum_of (stuck_of (stuck_lines (table_fault_at t k)) (stuck_values (table_fault_at t k))) (circuit_spectrum text 0) ≡ circuit_spectrum text k
  pub stuck-answer : (k room : ℕ) → TableFault t k → (table_fault_at t k).bridge ≡ no_bridge
      → stuck_answer (circuit_spectrum text 0) (stuck_lines (table_fault_at t k)) (stuck_values (table_fault_at t k)) room ≡ circuit_answer text k room
  -- and of two that are bridged
  pub bridged-rows : (k : ℕ) → TableFault t k → ((table_fault_at t k).bridge ≡ no_bridge → ⊥) → let b = (table_fault_at t k).bridge in
      table_rows t (table_fault_at t k) ≡ bridged_rows b.first b.second (table_rows t sound)
  pub bridges : (k : ℕ) → TableFault t k → ((table_fault_at t k).bridge ≡ no_bridge → ⊥) → let b = (table_fault_at t k).bridge in
      bridged_spectrum_of b.first b.second (circuit_spectrum text 0) ≡ circuit_spectrum text k
  pub bridges-answer : (k room : ℕ) → TableFault t k → ((table_fault_at t k).bridge ≡ no_bridge → ⊥) → let b = (table_fault_at t k).bridge in
      bridged_answer (circuit_spectrum text 0) b.first b.second room ≡ circuit_answer text k room

-- "rows that agree" with the values at the inputs of the mask, the whole sum of their values, and their count
pub record ReadingsRight (text : List ℕ) (n : Netlist) (mask values : ℕ) : Type 0 where
  pub agreeing : (row : ℕ) → bit_and values mask ≡ values → (agrees mask values row ≡ true) ↔ ((i : ℕ) → bit mask i ≡ true → bit row i ≡ bit values i)
  pub sum : (fault : ℕ) → sum_of text fault mask values ≡ whole_sum mask values (rows_of n (fault_at n fault))
  pub count : row_count text mask values ≡ count_of mask values (2 ^ n.inputs)

-- "The answer is a case: a plain syndrome, a weighted sum .., a constrained value with its number of fixed inputs (mask not 0; this case goes first)", and "any weight
-- other than 1 now makes a reading a weighted sum" (document 02, note 4): plain is one output of weight 1
abbrev pub weight_at : Netlist → ℕ → ℤ
weight_at n k = (get_or n.outputs k no_output).weight

pub record CaseRight (n : Netlist) (mask : ℕ) (r : ReadingAnswer) : Type 0 where
  pub constrained : (mask ≡ 0 → ⊥) → (x : Float) × (r ≡ Constrained x (ones mask))
  pub weighted : mask ≡ 0 → (1 < length n.outputs) ⊎ ((k : ℕ) × (k < length n.outputs) × (weight_at n k ≢ pos 1)) → (x : Float) × (r ≡ Weighted x)
  pub plain : mask ≡ 0 → length n.outputs ≡ 1 → weight_at n 0 ≡ pos 1 → (x : Float) × (r ≡ Syndrome x)
  -- where no weight has a sign, weighted is as document 01 has it: "M above 1 or a weight above 1"
  pub as_before : ((k : ℕ) → k < length n.outputs → pos 1 ≤ℤ weight_at n k)
      → (is_weighted n ≡ true) ↔ ((1 < length n.outputs) ⊎ ((k : ℕ) × (k < length n.outputs) × (pos 1 <ℤ weight_at n k)))

pub record DemandTwo : Type 0 where
  pub spectra : SpectraRight
  -- "Gates have their usual truth values": document 01's on two bits, and on the one of `not`
  pub gate-rule : TwoAsBefore
  pub faults : FaultySpectraRight
  pub circuits : (text : List ℕ) (n : Netlist) → parse_of text ≡ accepted n → CircuitsRight text n
  pub tables : (text : List ℕ) (t : TruthTable) → table_of text ≡ accepted_table t → TablesRight text t
  pub readings : (text : List ℕ) (n : Netlist) (mask values : ℕ) → parse_of text ≡ accepted n → ReadingsRight text n mask values
  pub cases : (text : List ℕ) (n : Netlist) (mask values : ℕ) → parse_of text ≡ accepted n → reading_number (reading_answer text mask values) ≡ 0 → CaseRight n mask (reading_answer text mask values)
  -- "Each value times the count gives the whole sum again"
  pub reading : (text : List ℕ) (mask values : ℕ) → ReadExactly text mask values (reading_answer text mask values)
  pub pair : (text : List ℕ) (fault mask values : ℕ) → ComparedExactly text fault mask values (pair_answer text fault mask values)
