-- Document 01's examples marked • as one table, and readings of their circuits. A case says what a call answers and leaves for it, through the definitions that the calls'
-- promises cite.
use Rattle.std.specs.Prelude.{ℕ, ◌^◌, Bool, true, false, ◌≡◌, List, [], ◌∷◌, Float, ℤ, pos, length, replicate, take}
use Rattle.std.specs.Float.{binary64}
use Rattle.std.specs.Float.Ieee.{round}
use Rattle.integer.specs.Tab.{nth}
use Rattle.fixture.specs.ReadingCall.{reading_answer, pair_answer}
use Rattle.circuit.specs.CircuitCall.{circuit_answer, circuit_spectrum}
use Rattle.planner.specs.PlanCall.{planned, refused, working_numbers, plan_numbers, plan_answer}
use Rattle.reading.specs.Readings.{ReadingAnswer, Syndrome, Weighted, Constrained, Unreadable}
use Rattle.report_lines.specs.ReportLines.{report_bytes}
use Rattle.report.specs.ReportCall.{report_answer, report_left, Reported}
use Rattle.screen.specs.Answers.{minus, answer_number, answer_place}
use Rattle.results.specs.Results.{leaves}
use Rattle.walsh.specs.Coefficients.{Coefficient, found_of}
use Rattle.walsh.specs.Lists.{spectrum_answer, rows_answer, inverse_rows}
use Rattle.transform.specs.Spectrum.{coefficient_of, spectrum_of}
use Rattle.faults.specs.Faults.{stuck_of, stuck_answer, stuck_spectrum_of, stuck_rows, kept_inputs, opened_answer, opened_spectrum_of, opened_rows, bridged_rows}
use Rattle.bridges.specs.Bridges.{bridged_answer, bridged_spectrum_of}
use Rattle.examples.specs.Functions.{figure, product_or_input, selected, gated, gated_opened}
use Rattle.examples.specs.Texts.{product_or_input_text, gated_text, listing, listing_report, silent_text, silent_report, pair_text, and_or_text, xor_not_text, half_and_one_text}

pub data Case : Type 0 where
  -- rows and their whole spectrum
  whole : List ℤ → List ℤ → Case
  -- rows, a label and its coefficient
  one : List ℤ → ℕ → ℤ → Case
  -- rows, stuck inputs and their values, and the sum of the faulted rows
  stuck : List ℤ → List ℕ → List ℕ → ℤ → Case
  -- rows, the values of the opened last lines, and the sum of the rows with the lines set
  opened : List ℤ → List ℕ → ℤ → Case
  -- rows, two inputs that are bridged, and the sum of the bridged rows
  bridged : List ℤ → ℕ → ℕ → ℤ → Case
  -- coefficients, two inputs that are bridged, and what the call leaves
  bridged_whole : List ℤ → ℕ → ℕ → List ℤ → Case
  -- coefficients, two inputs, and the number and place by which the call refuses to bridge them
  bridged_not : List ℤ → ℕ → ℕ → ℕ → ℕ → Case
  -- a circuit's text, the number of a fault and the whole spectrum under it
  circuit : List ℕ → ℕ → List ℤ → Case
  -- a circuit's text, the number of its rows, that of a fault and the sum of the rows under it
  total : List ℕ → ℕ → ℕ → ℤ → Case
  -- a circuit's text and its plan
  plan : List ℕ → List ℕ → Case
  -- a circuit's text and the number and place by which its plan is refused
  no_plan : List ℕ → ℕ → ℕ → Case
  -- a circuit's text and its report
  report : List ℕ → List ℕ → Case
  -- a circuit's text, a mask of fixed inputs, their values and the reading
  reading : List ℕ → ℕ → ℕ → ReadingAnswer → Case
  -- a circuit's text, the number of a fault, a mask, its values and the readings: sound, faulty, and sound minus faulty
  compares : List ℕ → ℕ → ℕ → ℕ → Float → Float → Float → Case

-- a result that is lent, of n numbers
abbrev pub lent : ℕ → List ℤ
lent n = replicate n (pos 0)

-- what each call leaves in a result of the length that is due
abbrev pub spectrum_left : List ℤ → List ℤ
spectrum_left rows = leaves (spectrum_answer rows (length rows)) (spectrum_of rows) (lent (length rows))

abbrev pub rows_left : List ℤ → List ℤ
rows_left c = leaves (rows_answer c (length c)) (inverse_rows c) (lent (length c))

abbrev pub stuck_left : List ℤ → List ℕ → List ℕ → List ℤ
stuck_left c inputs values = leaves (stuck_answer c inputs values (length c)) (stuck_spectrum_of (stuck_of inputs values) c) (lent (length c))

abbrev pub opened_left : List ℤ → List ℕ → List ℤ
opened_left c values = leaves (opened_answer c values (2 ^ kept_inputs c values)) (opened_spectrum_of c values) (lent (2 ^ kept_inputs c values))

abbrev pub bridged_left : List ℤ → ℕ → ℕ → List ℤ
bridged_left c i j = leaves (bridged_answer c i j (length c)) (bridged_spectrum_of i j c) (lent (length c))

abbrev pub circuit_left : List ℕ → ℕ → ℕ → List ℤ
circuit_left text fault room = leaves (circuit_answer text fault room) (circuit_spectrum text fault) (lent room)

-- with as many bytes and working numbers as are due
abbrev pub reported : List ℕ → Reported
reported text = report_answer text report_bytes working_numbers

abbrev pub reported_bytes : List ℕ → List ℕ
reported_bytes text = take (reported text).bytes (report_left text working_numbers (replicate report_bytes 0))

-- ±n / 10 ^ places as a binary64
unfoldable pub decimal : Bool → ℕ → ℕ → Float
decimal negative n places = round binary64 negative n (10 ^ places)

abbrev pub plus : ℕ → ℕ → Float
plus n places = decimal false n places

abbrev pub less : ℕ → ℕ → Float
less n places = decimal true n places

-- what a case says: of the call, and under a fault of the sum over the faulted rows too
abbrev pub Holds : Case → Type 0
Holds (whole rows coefficients) = (spectrum_left rows ≡ coefficients) × (rows_left coefficients ≡ rows)
Holds (one rows label z) = found_of rows label ≡ Coefficient z
Holds (stuck rows inputs values z) = (nth (stuck_left (spectrum_of rows) inputs values) 0 ≡ z) × (coefficient_of (stuck_rows (stuck_of inputs values) rows) 0 ≡ z)
Holds (opened rows values z) = (nth (opened_left (spectrum_of rows) values) 0 ≡ z) × (coefficient_of (opened_rows (kept_inputs rows values) values rows) 0 ≡ z)
Holds (bridged rows i j z) = (nth (bridged_left (spectrum_of rows) i j) 0 ≡ z) × (coefficient_of (bridged_rows i j rows) 0 ≡ z)
Holds (bridged_whole c i j new) = bridged_left c i j ≡ new
Holds (bridged_not c i j number place) = let a = bridged_answer c i j (length c) in (answer_number a ≡ number) × (answer_place a ≡ place)
Holds (circuit text fault coefficients) = circuit_left text fault (length coefficients) ≡ coefficients
Holds (total text rows fault z) = nth (circuit_left text fault rows) 0 ≡ z
Holds (plan text labels) = plan_answer text working_numbers ≡ plan_numbers (planned labels)
Holds (no_plan text number place) = plan_answer text working_numbers ≡ plan_numbers (refused number place)
Holds (report text bytes) = ((reported text).number ≡ 0) × (reported_bytes text ≡ bytes)
Holds (reading text mask values r) = reading_answer text mask values ≡ r
Holds (compares text fault mask values sound faulty difference) =
    pair_answer text fault mask values ≡ record { number = 0; place = 0; readings = record { sound = sound; faulty = faulty; difference = difference } }

abbrev pub Every : (Case → Type 0) → List Case → Type 0
Every P [] = Unit {0}
Every P (c ∷ rest) = P c × Every P rest

unfoldable pub table : List Case
table =
    -- Ones at rows 5, 7, 8, 9, 10, 14, 15 of 16 (004, fig. 1)
    whole figure (pos 7 ∷ minus 1 ∷ minus 1 ∷ minus 1 ∷ minus 1 ∷ pos 3 ∷ pos 3 ∷ minus 1 ∷ minus 3 ∷ minus 3 ∷ pos 1 ∷ pos 1 ∷ minus 3 ∷ pos 1 ∷ minus 3 ∷ pos 1 ∷ [])
    -- x1x2 + x3: sum 5; x1 stuck at 0 gives 4, at 1 gives 6; x3 stuck at 0 gives 2, at 1 gives 8
    ∷ one product_or_input 0 (pos 5)
    ∷ stuck product_or_input (1 ∷ []) (0 ∷ []) (pos 4)
    ∷ stuck product_or_input (1 ∷ []) (1 ∷ []) (pos 6)
    ∷ stuck product_or_input (3 ∷ []) (0 ∷ []) (pos 2)
    ∷ stuck product_or_input (3 ∷ []) (1 ∷ []) (pos 8)
    -- x1x2 + x3·not x2: 4, -2, 0, 2, -2, 0, -2, 0
    ∷ whole selected (pos 4 ∷ minus 2 ∷ pos 0 ∷ pos 2 ∷ minus 2 ∷ pos 0 ∷ minus 2 ∷ pos 0 ∷ [])
    -- x1x2x3 + x4·not(x2x3): sum 8; x1, x2 stuck at 0,0: 8; 1,0: 8; 0,1: 4; 1,1: 12
    ∷ one gated 0 (pos 8)
    ∷ stuck gated (1 ∷ 2 ∷ []) (0 ∷ 0 ∷ []) (pos 8)
    ∷ stuck gated (1 ∷ 2 ∷ []) (1 ∷ 0 ∷ []) (pos 8)
    ∷ stuck gated (1 ∷ 2 ∷ []) (0 ∷ 1 ∷ []) (pos 4)
    ∷ stuck gated (1 ∷ 2 ∷ []) (1 ∷ 1 ∷ []) (pos 12)
    -- The same with x2x3 of the first product opened: 17 at label 0, -5 at the opened line; stuck at 0 gives 6, at 1 gives 11
    ∷ one gated_opened 0 (pos 17)
    ∷ one gated_opened 16 (minus 5)
    ∷ opened gated_opened (0 ∷ []) (pos 6)
    ∷ opened gated_opened (1 ∷ []) (pos 11)
    -- the same functions as circuits: sound, and under each fault of the text
    ∷ total product_or_input_text 8 0 (pos 5)
    ∷ total product_or_input_text 8 1 (pos 4)
    ∷ total product_or_input_text 8 2 (pos 6)
    ∷ total product_or_input_text 8 3 (pos 2)
    ∷ total product_or_input_text 8 4 (pos 8)
    ∷ total gated_text 16 0 (pos 8)
    ∷ total gated_text 16 1 (pos 8)
    ∷ total gated_text 16 2 (pos 8)
    ∷ total gated_text 16 3 (pos 4)
    ∷ total gated_text 16 4 (pos 12)
    -- the listing, sound and with x2 stuck at 0 and at 1: x3 and x1 are left
    ∷ circuit listing 0 (pos 4 ∷ minus 2 ∷ pos 0 ∷ pos 2 ∷ minus 2 ∷ pos 0 ∷ minus 2 ∷ pos 0 ∷ [])
    ∷ circuit listing 1 (pos 4 ∷ pos 0 ∷ pos 0 ∷ pos 0 ∷ minus 4 ∷ pos 0 ∷ pos 0 ∷ pos 0 ∷ [])
    ∷ circuit listing 2 (pos 4 ∷ minus 4 ∷ pos 0 ∷ pos 0 ∷ pos 0 ∷ pos 0 ∷ pos 0 ∷ pos 0 ∷ [])
    -- "It writes `plan,1`, `label,1,-2`, `fault,1,1,0`, `fault,2,1,-4`, a line each."
    ∷ plan listing (1 ∷ [])
    ∷ report listing listing_report
    -- "fault 3 at 0: 13, place 1"
    ∷ no_plan silent_text 13 1
    ∷ report silent_text silent_report
    -- "faults 3 at 1 and 4 at 1: 14. With cap 2: labels 1 and 2."
    ∷ no_plan (pair_text "circuit,2,4,2,2,1") 14 0
    ∷ plan (pair_text "circuit,2,4,2,2,2") (1 ∷ 2 ∷ [])
    -- each kind of gate: rows 0, x1, x2 and both are 12, 6, 6, 3 (and 1, or 2, nand 4, nor 8), and 6, 1, 5, 2 (xor 1, xnor 2, not x1 4)
    ∷ circuit and_or_text 0 (pos 27 ∷ pos 9 ∷ pos 9 ∷ pos 3 ∷ [])
    ∷ circuit xor_not_text 0 (pos 14 ∷ pos 8 ∷ pos 0 ∷ pos 2 ∷ [])
    -- 129 ones in 256 rows are 0.50390625, and 128 are 0.5
    ∷ reading half_and_one_text 0 0 (Syndrome (plus 50390625 8))
    ∷ compares half_and_one_text 1 0 0 (plus 50390625 8) (plus 5 1) (plus 390625 8)
    -- x1 to x7 at 1 leave two rows, both ones: under the fault one
    ∷ reading half_and_one_text 127 127 (Constrained (plus 1 0) 7)
    ∷ compares half_and_one_text 1 127 127 (plus 1 0) (plus 5 1) (plus 5 1)
    -- x1x2 + x3 with x1 at 1, sound and with x3 stuck at 1; every input fixed; a value that is not within its mask
    ∷ reading product_or_input_text 1 1 (Constrained (plus 75 2) 1)
    ∷ compares product_or_input_text 4 1 1 (plus 75 2) (plus 1 0) (less 25 2)
    ∷ reading product_or_input_text 7 4 (Constrained (plus 1 0) 3)
    ∷ reading product_or_input_text 1 2 (Unreadable 12 0)
    -- two outputs make a weighted sum; a fixed input goes first
    ∷ reading (pair_text "circuit,2,4,2,2,1") 0 0 (Weighted (plus 1 0))
    ∷ reading (pair_text "circuit,2,4,2,2,1") 1 0 (Constrained (plus 5 1) 1)
    ∷ []
