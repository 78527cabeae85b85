-- The parts of demand 2:
--   spectra-right           the list call and the way back
--   faulty-spectra-right    the fault calls on spectra of rows
--   circuits-right          the circuit call, and the fault calls on a circuit's spectra
--   tables-right            the same of tables, with eq. 11 and 12 of document 004
--   readings-right, case-right    whole sums and counts of readings, and the case of each
use mathlib.Core.Path.{◌≡◌, refl, sym, ap, ◌∙◌}
use mathlib.Core.Bool.{Bool, true, false, not, ◌||◌, or-true, false≢true}
use mathlib.Core.List.{List, [], ◌∷◌}
use mathlib.Core.Logic.Iff
use mathlib.Core.Logic.{◌↔◌, ◌⊎◌, ◌≢◌, inl, inr, ⊎_map}
use Prim.Native.Nat.{ℕ, zero, suc, ◌<◌, ◌^◌}
use native.Mathlib.Omega.{arith}
use lib.Dec.{ltb}
use lib.Ieee.{Float}
use lib.IntN.{ℤ, pos}
use lib.ListN.{length, get_or}
use lib.Signed.{◌≤ℤ◌, ◌<ℤ◌}
use borrow.Author.Tests.{eq-eqb, ne_eqb, lt-ltb, ltb-true}
use Rattle.std.proofs.lemmas.Bool.Decides.{Decides-int_eq}
use Rattle.std.proofs.lemmas.Int.{ints}
use Rattle.std.specs.Ordering.{int_eq}
use Rattle.integer.proofs.Bools.{either}
use Rattle.integer.proofs.Tabs.{get_or-tab}
use Rattle.screen.specs.Answers.{Answer, Done, Refused, answer_number, and_then, minus, screen_of}
use Rattle.screen.proofs.Screens.{screen-not-11}
use Rattle.transform.specs.Spectrum.{term_of, signed_sum, coefficient_of, spectrum_of}
use Rattle.transform.proofs.Spectra.{length-spectrum, nth-spectrum}
use Rattle.results.specs.Quotients.{divided_answer}
use Rattle.walsh.specs.Coefficients.{found, found_of, found_number, found_value}
use Rattle.walsh.specs.Lists.{rows_answer}
use Rattle.walsh.proofs.Undoing.{undo, redo, refused-exactly}
use Rattle.faults.proofs.Faulted.{stuck-faulted, opened-faulted, opened-never-11}
use Rattle.bridges.proofs.BridgedCall.{bridged-faulted, bridged-never-11}
use Rattle.statements.specs.Items.{no_output, sound}
use Rattle.statements.specs.declared.Output.{Output}
use Rattle.netlist.specs.Circuits.{Netlist, fault_at}
use Rattle.netlist.specs.Parsing.{accepted, parse_of}
use Rattle.netlist.specs.WellFormed.{WellFormed}
use Rattle.netlist.proofs.Acceptance.{well-formed}
use Rattle.simulation.specs.Rows.{row_value, rows_of}
use Rattle.tables.specs.Tables.{TruthTable, table_fault_at}
use Rattle.tables.specs.TableParsing.{accepted_table, table_of}
use Rattle.tables.proofs.TableAcceptance.{table-right}
use Rattle.lookup.specs.TableRows.{table_row}
use Rattle.simulation.proofs.Equations.{input-lines, gate-lines}
use Rattle.simulation.proofs.RowBounds.{rows-bounded, rows_few}
use Rattle.circuit.proofs.CircuitLaws.{spectrum-bounded}
use Rattle.simulation.proofs.Showing.{unbridged-shown}
use Rattle.lookup.proofs.RowsOfTables.{sound-mark, table-row-is, stuck-row-is}
use Rattle.lookup.proofs.FreeRows.{free-rows-half}
use Rattle.devices.specs.Devices.{table_problem}
use Rattle.devices.proofs.ProblemRows.{table-rows}
use Rattle.devices.proofs.TextKinds.{table-described}
use Rattle.agreement.proofs.Accepted.{named-bridge-fault, spectrum-is, circuit-spectrum-is}
use Rattle.agreement.proofs.StuckTables.{table-inputs-answer, table-inputs-agree}
use Rattle.agreement.proofs.StuckInputs.{stuck-inputs-agree}
use Rattle.agreement.proofs.OpenedLines.{opened-lines-agree}
use Rattle.agreement.proofs.BridgedInputs.{bridge-rows, bridges-answer, bridges-agree}
use Rattle.agreement.proofs.BridgedTables.{table-bridge-rows, table-bridges-answer, table-bridges-agree}
use Rattle.reading.proofs.AgreeingRows.{agrees-exactly}
use Rattle.reading.specs.Readings.{ReadingAnswer, case_of, reading_number}
use Rattle.fixture.specs.ReadingCall.{some_not_one, is_weighted, fault_mean, fixes_inputs, unless12, reading_answer, sum_of, row_count}
use Rattle.demands.specs.DemandTwo.{SpectraRight, FaultySpectraRight, CircuitsRight, TablesRight, ReadingsRight, weight_at, CaseRight}
use Rattle.demands.proofs.ListCalls.{ZeroDone, screen-zero, spectrum-zero, rows-zero, stuck-zero, opened-zero, bridged-zero}

-- ---- spectra

-- where the way back is done or refuses by 11, the tests before 11 passed
earlier-passed : (c : List ℤ) (room : ℕ) → (answer_number (rows_answer c room) ≡ 0) ⊎ (answer_number (rows_answer c room) ≡ 11) → screen_of (minus 2048000) (pos 2048000) true c room (length c) ≡ Done
unfolding rows_answer
earlier-passed c room = go (screen_of (minus 2048000) (pos 2048000) true c room (length c)) refl
  where
    go : (a : Answer) → screen_of (minus 2048000) (pos 2048000) true c room (length c) ≡ a
        → (answer_number (and_then a (divided_answer (length c) (minus 1000) (pos 1000) (spectrum_of c))) ≡ 0) ⊎ (answer_number (and_then a (divided_answer (length c) (minus 1000) (pos 1000) (spectrum_of c))) ≡ 11)
        → a ≡ Done
    go Done e s = refl
    go (Refused number place) e (inl z) = sym e ∙ screen-zero (minus 2048000) (pos 2048000) true c room (length c) (ap answer_number e ∙ z)
    go (Refused number place) e (inr z) = absurd (screen-not-11 (minus 2048000) (pos 2048000) true c room (length c) (ap answer_number e ∙ z))

pub spectra-right : SpectraRight
unfolding found_of coefficient_of signed_sum term_of
spectra-right =
    record {
      whole = length-spectrum;
      sums = λ rows label h. nth-spectrum rows (length rows) label refl h;
      one = λ rows label z. coefficient (screen_of (minus 1000) (pos 1000) (ltb label (length rows)) rows 0 0) (screen-zero (minus 1000) (pos 1000) (ltb label (length rows)) rows 0 0) (coefficient_of rows label) z;
      back = λ rows room z. let u = undo rows room (spectrum-zero rows room z) in (ap answer_number u.0, u.1);
      there = λ c room z. let r = redo c room (rows-zero c room z) in (ap answer_number r.0, r.1);
      no_rows = λ c room s. refused-exactly c room (earlier-passed c room s);
    }
  where
    coefficient : (a : Answer) → ZeroDone a → (z : ℤ) → found_number (found a z) ≡ 0 → found_value (found a z) ≡ z
    coefficient Done d z e = refl
    coefficient (Refused number place) d z e = ap (λ (b : Answer). found_value (found b z)) (d e)

pub faulty-spectra-right : FaultySpectraRight
faulty-spectra-right =
    record {
      stuck = λ rows inputs values room z. stuck-faulted rows inputs values room (stuck-zero (spectrum_of rows) inputs values room z);
      opened = λ rows values room z. opened-faulted rows values room (opened-zero (spectrum_of rows) values room z);
      opened-divides = opened-never-11;
      bridged = λ rows i j room z. bridged-faulted rows i j room (bridged-zero (spectrum_of rows) i j room z);
      bridged-halves = bridged-never-11;
    }

-- ---- circuits

pub circuits-right : (text : List ℕ) (n : Netlist) → parse_of text ≡ accepted n → CircuitsRight text n
unfolding rows_of
circuits-right text n e =
    record {
      rows = λ k x h. get_or-tab (2 ^ n.inputs) (row_value n (fault_at n k)) (pos 0) x h;
      spectrum = circuit-spectrum-is text n e;
      row-values = λ k. rows-bounded n (fault_at n k) w;
      coefficients = λ k h. rw (circuit-spectrum-is text n e k h) (spectrum-bounded (rows_of n (fault_at n k)) (rows_few n (fault_at n k) w) (rows-bounded n (fault_at n k) w));
      input-lines = λ k x i h. input-lines n (fault_at n k) x i h;
      gate-lines = λ k x j h. gate-lines n (fault_at n k) x j w h;
      unbridged = λ k x i none. unbridged-shown (fault_at n k) x i none;
      stuck-inputs = λ k named unbridged inputs-only. stuck-inputs-agree text n e k named.0 named.1 unbridged inputs-only;
      opened-lines = λ k named unbridged. opened-lines-agree text n e k named.0 named.1 unbridged;
      bridged-rows = λ k named b. bridge-rows n (fault_at n k) (named-bridge-fault n k w named.0 named.1 b);
      bridges = λ k named b. bridges-agree text n e k named.0 named.1 b;
      bridges-answer = λ k room named b. bridges-answer text n e k named.0 named.1 b room;
    }
  where
    w : WellFormed n
    w = well-formed text n e

-- ---- tables

pub tables-right : (text : List ℕ) (t : TruthTable) → table_of text ≡ accepted_table t → TablesRight text t
unfolding table_row
tables-right text t e =
    record {
      rows = λ k x h. table-row-is t (table_fault_at t k) x h;
      sound-rows = λ x h. table-row-is t sound x h ∙ ap (λ (y : ℕ). pos (get_or t.marks y 0)) (sound-mark x);
      spectrum = λ k h. spectrum-is text (table_problem t) (table-described text t e) k ∙ ap spectrum_of (table-rows t k h);
      free-rows = λ k label. free-rows-half t (table_fault_at t k) (table-right text t e) label;
      unbridged = λ k x none. stuck-row-is (table_fault_at t k) x none;
      stuck-inputs = λ k named unbridged. table-inputs-agree text t e k named.0 named.1 unbridged;
      stuck-answer = λ k room named unbridged. table-inputs-answer text t e k named.0 named.1 unbridged room;
      bridged-rows = λ k named b. table-bridge-rows text t e k named.0 named.1 b;
      bridges = λ k named b. table-bridges-agree text t e k named.0 named.1 b;
      bridges-answer = λ k room named b. table-bridges-answer text t e k named.0 named.1 b room;
    }

-- ---- readings

pub readings-right : (text : List ℕ) (n : Netlist) (mask values : ℕ) → parse_of text ≡ accepted n → ReadingsRight text n mask values
unfolding sum_of row_count
readings-right text n mask values e = record { agreeing = agrees-exactly mask values; sum = λ fault. rw e; count = rw e }

-- some weight is not 1, exactly where one can be named
abbrev NotOne : List Output → Type 0
NotOne outputs = (k : ℕ) × (k < length outputs) × ((get_or outputs k no_output).weight ≢ pos 1)

some-means : (outputs : List Output) → (some_not_one outputs ≡ true) ↔ NotOne outputs
unfolding some_not_one
some-means [] = (λ e. absurd (false≢true e), λ s. absurd (omega (arith, s.1)))
some-means (o ∷ outputs) = let rest = some-means outputs in (there (int_eq o.weight (pos 1)) refl rest.0, back rest.1)
  where
    there : (t : Bool) → int_eq o.weight (pos 1) ≡ t → (some_not_one outputs ≡ true → NotOne outputs) → (not t || some_not_one outputs) ≡ true → NotOne (o ∷ outputs)
    there true e rest h = let s = rest h in (suc s.0, omega (arith, s.1), s.2)
    there false e rest h = (zero, omega arith, λ one. false≢true (sym e ∙ (Decides-int_eq o.weight (pos 1)).1 one))

    first : (t : Bool) → int_eq o.weight (pos 1) ≡ t → o.weight ≢ pos 1 → (not t || some_not_one outputs) ≡ true
    first true e f = absurd (f ((Decides-int_eq o.weight (pos 1)).0 e))
    first false e f = refl

    back : (NotOne outputs → some_not_one outputs ≡ true) → NotOne (o ∷ outputs) → (not (int_eq o.weight (pos 1)) || some_not_one outputs) ≡ true
    back rest (zero, h, f) = first (int_eq o.weight (pos 1)) refl f
    back rest (suc k, h, f) = rw (rest (k, omega (arith, h), f)) (or-true (not (int_eq o.weight (pos 1))))

module _ (n : Netlist) where
  weighted-means : (is_weighted n ≡ true) ↔ ((1 < length n.outputs) ⊎ NotOne n.outputs)
  unfolding is_weighted
  weighted-means = (λ e. ⊎_map (ltb-true 1 (length n.outputs)) (some-means n.outputs).0 (either (ltb 1 (length n.outputs)) (some_not_one n.outputs) e), back)
    where
      back : (1 < length n.outputs) ⊎ NotOne n.outputs → (ltb 1 (length n.outputs) || some_not_one n.outputs) ≡ true
      back (inl h) = rw (lt-ltb 1 (length n.outputs) h)
      back (inr s) = rw ((some-means n.outputs).1 s) (or-true (ltb 1 (length n.outputs)))

  one-plain : length n.outputs ≡ 1 → weight_at n 0 ≡ pos 1 → is_weighted n ≡ false
  one-plain h e = go (is_weighted n) refl
    where
      never : (1 < length n.outputs) ⊎ NotOne n.outputs → ⊥
      never (inl more) = omega (arith, h, more)
      never (inr (zero, k, f)) = f e
      never (inr (suc k, more, f)) = omega (arith, h, more)

      go : (t : Bool) → is_weighted n ≡ t → is_weighted n ≡ false
      go true w = absurd (never (weighted-means.0 w))
      go false w = w

  above-as-before : ((k : ℕ) → k < length n.outputs → pos 1 ≤ℤ weight_at n k)
      → (is_weighted n ≡ true) ↔ ((1 < length n.outputs) ⊎ ((k : ℕ) × (k < length n.outputs) × (pos 1 <ℤ weight_at n k)))
  above-as-before low =
      Iff.trans weighted-means (
        ⊎_map (λ h. h) (λ s. (s.0, s.1, omega (arith, ints, low s.0 s.1, s.2))),
        ⊎_map (λ h. h) (λ s. (s.0, s.1, λ one. omega (arith, ints, s.2, one))),
      )

  case-of : (mask : ℕ) (x : Float) → CaseRight n mask (case_of (is_weighted n) mask x)
  unfolding case_of
  case-of mask x =
      record {
        constrained = λ f. (x, rw (ne_eqb mask 0 f));
        weighted = λ e s. (x, rw (eq-eqb mask 0 e, weighted-means.1 s));
        plain = λ e h one. (x, rw (eq-eqb mask 0 e, one-plain h one));
        as_before = above-as-before;
      }

pub case-right : (text : List ℕ) (n : Netlist) (mask values : ℕ) → parse_of text ≡ accepted n → reading_number (reading_answer text mask values) ≡ 0 → CaseRight n mask (reading_answer text mask values)
unfolding reading_answer
case-right text n mask values e z = rw e (go (fixes_inputs n.inputs mask values) (rw e at z))
  where
    r : ReadingAnswer
    r = case_of (is_weighted n) mask (fault_mean n 0 mask values)

    go : (t : Bool) → reading_number (unless12 t r) ≡ 0 → CaseRight n mask (unless12 t r)
    go true z = case-of n mask (fault_mean n 0 mask values)
    go false z = absurd (omega arith)
