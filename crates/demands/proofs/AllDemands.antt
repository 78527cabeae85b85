-- The three demands, as laws:
--   demand-one      every refusal has its number and place, exactly where it holds, and writes nothing
--   demand-two      spectra both ways, under faults too, and readings
--   all-demands     these and planner's demand-three
use mathlib.Core.Bool.{true, false, false≢true}
use mathlib.Core.List.{List, []}
use mathlib.Core.Path.{◌≡◌, refl, sym, ap, ◌∙◌, subst}
use mathlib.Core.Logic.{◌↔◌, ◌⊎◌, inl, inr, ⊎_elim}
use Prim.Native.Nat.{ℕ, ◌≤◌}
use native.Mathlib.Omega.{arith}
use Rattle.statements.specs.Lines.{bridge_word, names_bridge}
use Rattle.gate_lines.proofs.FourFields.{four-fields}
use Rattle.gates.proofs.TwoBits.{two-as-before}
use Rattle.sections.proofs.BridgesWritten.{lines-as-before}
use Rattle.netlist.proofs.NarrowGates.{gates-as-before}
use Rattle.netlist.proofs.UnsignedOutputs.{outputs-as-before}
use Rattle.statements.proofs.UnsignedWeights.{unsigned-line}
use Rattle.writing.proofs.ReadBack.{signed-back, signed-only}
use Rattle.statements.proofs.FormsMeant.{head-form, output-form, fault-form, bridge-form, fault-line-form}
use Rattle.gate_lines.proofs.GateFormsMeant.{gate-form}
use Rattle.statements.proofs.LineNumbers.{head-least, output-least, fault-least, bridge-least}
use Rattle.gate_lines.proofs.GateNumbers.{gate-least}
use Rattle.netlist.specs.Circuits.{Netlist}
use Rattle.netlist.specs.Places.{CircuitLineNumber}
use Rattle.netlist.specs.Parsing.{Parse, accepted, rejected, parse_of}
use Rattle.netlist.proofs.AcceptedTexts.{texts-exactly, accepted-short}
use Rattle.netlist.proofs.Refusals.{one-exactly, line-exactly, seven-exactly, none-exactly, text-refused}
use Rattle.walsh.specs.Lists.{spectrum_answer, rows_answer}
use Rattle.faults.specs.Faults.{stuck_answer, opened_answer}
use Rattle.bridges.specs.Bridges.{bridged_answer}
use Rattle.bridges.proofs.BridgedCall.{unhalved-first}
use Rattle.circuit.specs.CircuitCall.{circuit_answer}
use Rattle.circuit.proofs.CircuitLaws.{circuit-done}
use Rattle.planner.proofs.Demanded.{demand-three}
use Rattle.text.specs.Text.{before, field_of, line_end, same_bytes, signed_number_of}
use Rattle.text.proofs.Words.{same-equal, same_self}
use Rattle.tables.specs.TableLines.{table_word, is_table}
use Rattle.tables.specs.TableParsing.{TableParse, accepted_table, rejected_table, table_of}
use Rattle.tables.specs.Tables.{TruthTable}
use Rattle.tables.proofs.TableNumbers.{table-head-least, marks-least}
use Rattle.tables.proofs.TableFormsMeant.{table-head-form, mark-form}
use Rattle.tables.proofs.AcceptedTables.{tables-exactly, table-short}
use Rattle.tables.proofs.TableRefusals.{table-one-exactly, table-line-exactly, table-seven-exactly, table-none-exactly, table-refused}
use Rattle.devices.specs.Describing.{Description, described, refused_at, on_description, of_circuit, of_table}
use Rattle.devices.specs.Devices.{circuit_problem, table_problem}
use Rattle.devices.specs.Problems.{Problem}
use Rattle.devices.proofs.Descriptions.{table-text, circuit-text}
use Rattle.devices.proofs.TextKinds.{table-unparsed}
use Rattle.report.proofs.PrintedLabels.{printed-covers, printed-line}
use Rattle.fixture.proofs.Exactly.{reading-exact, pair-exact}
use Rattle.demands.specs.DemandOne.{TextsAnswered, TablesAnswered, KindsTold, GatesTold, OutputsTold, BridgesTold, LinesNumbered, DemandOne}
use Rattle.demands.specs.DemandTwo.{DemandTwo}
use Rattle.demands.specs.Demands.{Demands}
use Rattle.demands.proofs.ListCalls.{spectrum-tested, rows-tested, coefficient-tested, stuck-tested, opened-tested, bridged-tested, writes-of, spectrum-zero, rows-zero, stuck-zero, opened-zero, bridged-zero, coefficient-zero}
use Rattle.demands.proofs.TextCalls.{circuit-tested, plan-tested, report-tested, reading-tested, pair-tested, plan-writing, report-writing, report-working, plan-zero, report-zero, reading-zero, pair-zero, tables-unread, tables-unpaired}
use Rattle.demands.proofs.PlansMeant.{demand-three-circuit, demand-three-table, demand-three-before}
use Rattle.demands.proofs.SpectraCircuits.{spectra-right, faulty-spectra-right, circuits-right, tables-right, readings-right, case-right}

-- the numbers of a line and 7 together
numbered : (number : ℕ) → (number ≡ 7) ⊎ CircuitLineNumber number → ((2 ≤ number) × (number ≤ 7)) ⊎ (number ≡ 19)
numbered number (inl seven) = inl (omega arith, omega arith)
numbered number (inr (inl line)) = inl (line.0, omega (arith, line.1))
numbered number (inr (inr bridge)) = inr bridge

texts-answered : (text : List ℕ) → TextsAnswered text
texts-answered text =
    record {
      too_long = one-exactly text;
      line = line-exactly text;
      bytes-follow = seven-exactly text;
      no_other = λ number place e. ⊎_elim inl (λ line. inr (numbered number line.number_is)) (text-refused text number place e);
      accept = texts-exactly text;
      none-applies = none-exactly text;
      short = accepted-short text;
    }

tables-answered : (text : List ℕ) → TablesAnswered text
tables-answered text =
    record {
      too_long = table-one-exactly text;
      line = table-line-exactly text;
      bytes-follow = table-seven-exactly text;
      no_other = table-refused text;
      accept = tables-exactly text;
      none-applies = table-none-exactly text;
      short = table-short text;
    }

-- what each kind of text describes is a problem, or else a refusal, and says which
same-problem : {a b : Problem} → described a ≡ described b → a ≡ b
same-problem {a} e = ap (on_description (λ p. p) (λ number place. a)) e

apart : {X : Type 0} {p : Problem} {number place : ℕ} → described p ≡ refused_at number place → X
apart e = absurd (false≢true (sym (ap (on_description (λ p. true) (λ number place. false)) e)))

table-refusal : (q : TableParse) (number place : ℕ) → (of_table q ≡ refused_at number place) ↔ (q ≡ rejected_table number place)
table-refusal (accepted_table t) number place = (λ e. apart e, λ e. ap of_table e)
table-refusal (rejected_table a b) number place = (λ e. ap (on_description (λ p. rejected_table 0 0) rejected_table) e, λ e. ap of_table e)

table-problem : (q : TableParse) (p : Problem) → (of_table q ≡ described p) ↔ ((t : TruthTable) × (q ≡ accepted_table t) × (table_problem t ≡ p))
table-problem (accepted_table t) p = (λ e. (t, refl, same-problem e), λ s. ap of_table s.1 ∙ ap described s.2)
table-problem (rejected_table a b) p = (λ e. apart (sym e), λ s. ap of_table s.1 ∙ ap described s.2)

circuit-refusal : (q : Parse) (number place : ℕ) → (of_circuit q ≡ refused_at number place) ↔ (q ≡ rejected number place)
circuit-refusal (accepted n) number place = (λ e. apart e, λ e. ap of_circuit e)
circuit-refusal (rejected a b) number place = (λ e. ap (on_description (λ p. rejected 0 0) rejected) e, λ e. ap of_circuit e)

circuit-problem : (q : Parse) (p : Problem) → (of_circuit q ≡ described p) ↔ ((n : Netlist) × (q ≡ accepted n) × (circuit_problem n ≡ p))
circuit-problem (accepted n) p = (λ e. (n, refl, same-problem e), λ s. ap of_circuit s.1 ∙ ap described s.2)
circuit-problem (rejected a b) p = (λ e. apart (sym e), λ s. ap of_circuit s.1 ∙ ap described s.2)

kinds-told : (text : List ℕ) → KindsTold text
unfolding is_table
kinds-told text =
    record {
      word = (same-equal (field_of (before line_end text) 0) table_word, λ e. ap (λ (w : List ℕ). same_bytes w table_word) e ∙ same_self table_word);
      refusal = λ e number place. subst (λ (d : Description). (d ≡ refused_at number place) ↔ (table_of text ≡ rejected_table number place)) (sym (table-text text e)) (table-refusal (table_of text) number place);
      problem = λ e p. subst (λ (d : Description). (d ≡ described p) ↔ ((t : TruthTable) × (table_of text ≡ accepted_table t) × (table_problem t ≡ p))) (sym (table-text text e)) (table-problem (table_of text) p);
      other-refusal = λ e number place. subst (λ (d : Description). (d ≡ refused_at number place) ↔ (parse_of text ≡ rejected number place)) (sym (circuit-text text e)) (circuit-refusal (parse_of text) number place);
      other-problem = λ e p. subst (λ (d : Description). (d ≡ described p) ↔ ((n : Netlist) × (parse_of text ≡ accepted n) × (circuit_problem n ≡ p))) (sym (circuit-text text e)) (circuit-problem (parse_of text) p);
      unread = table-unparsed text;
    }

bridges-told : BridgesTold
unfolding names_bridge
bridges-told =
    record {
      word = λ l. (same-equal (field_of l 0) bridge_word, λ e. ap (λ (w : List ℕ). same_bytes w bridge_word) e ∙ same_self bridge_word);
      as_before = λ inputs top count place rest plain. lines-as-before inputs top count place rest [] plain;
    }

gates-told : GatesTold
gates-told = record { four-fields = four-fields; as_before = gates-as-before }

outputs-told : OutputsTold
outputs-told =
    record {
      no_sign = λ top l none. unsigned-line l none top;
      as_before = outputs-as-before;
      integer = λ field z. (signed-only field z, λ t. ap signed_number_of t.0 ∙ signed-back z t.1);
    }

lines-numbered : (l : List ℕ) → LinesNumbered l
lines-numbered l =
    record {
      head = head-least l;
      gate = λ own. gate-least own l;
      output = λ top. output-least top l;
      fault = λ top. fault-least top l;
      bridge = λ inputs. bridge-least inputs l;
      table-head = table-head-least l;
      marks = λ inputs. marks-least inputs l;
    }

pub demand-one : DemandOne
demand-one =
    record {
      texts = texts-answered;
      tables = tables-answered;
      kinds = kinds-told;
      gate-lines = gates-told;
      output-lines = outputs-told;
      bridge-lines = bridges-told;
      lines = record { head = head-form; gate = gate-form; output = output-form; fault = fault-form; bridge = bridge-form; fault-line = fault-line-form; table-head = table-head-form; marks = mark-form };
      numbers = lines-numbered;
      circuit = circuit-tested;
      plan = plan-tested;
      report = report-tested;
      reading = reading-tested;
      pair = λ text fault mask values. pair-tested text mask values fault;
      table-reading = tables-unread;
      table-pair = λ text fault mask values table. tables-unpaired text mask values table fault;
      coefficient = coefficient-tested;
      spectrum = spectrum-tested;
      rows = rows-tested;
      stuck = stuck-tested;
      opened = opened-tested;
      bridged = bridged-tested;
      bridged-place = λ c i j room e. let p = unhalved-first c i j room e in (p.no-first, p.no_second);
      circuit-writes = λ text fault room. writes-of (circuit_answer text fault room) (circuit-done text fault room);
      spectrum-writes = λ rows room. writes-of (spectrum_answer rows room) (spectrum-zero rows room);
      rows-writes = λ c room. writes-of (rows_answer c room) (rows-zero c room);
      stuck-writes = λ c inputs values room. writes-of (stuck_answer c inputs values room) (stuck-zero c inputs values room);
      opened-writes = λ c values room. writes-of (opened_answer c values room) (opened-zero c values room);
      bridged-writes = λ c i j room. writes-of (bridged_answer c i j room) (bridged-zero c i j room);
      plan-writes = plan-writing;
      report-writes = report-writing;
      report-work = report-working;
      zero =
          record {
            coefficient = coefficient-zero;
            plan = plan-zero;
            report = report-zero;
            reading = reading-zero;
            pair = λ text fault mask values. pair-zero text mask values fault;
          };
    }

pub demand-two : DemandTwo
demand-two =
    record {
      spectra = spectra-right;
      gate-rule = two-as-before;
      faults = faulty-spectra-right;
      circuits = circuits-right;
      tables = tables-right;
      readings = readings-right;
      cases = case-right;
      reading = reading-exact;
      pair = pair-exact;
    }

pub all-demands : Demands
all-demands = record { one = demand-one; two = demand-two; three = record { plan = demand-three; circuit = demand-three-circuit; table = demand-three-table; plans-as-before = demand-three-before; printed = printed-covers; line = printed-line } }
