-- What the head, an output and a fault of the circuit text say, and the number by which such a line is refused (document 01, "The circuit text", "What is returned"):
--   "within a line 2, 3, then 4, 5, 6"
-- of weights (document 02, note 4): "WEIGHT becomes −15 to 15 without 0, written with `-`." "Weight 0 gives 3, and `-0` is a bad number."
-- and of a bridge (document 02, note 8): "Turned away: 19 where I or J is above N or they do not rise, in the place of 5 and 6."
-- A field that is no number, or is not there, counts as 0 where its value is asked; a line with a bad number is refused before that matters.
use Rattle.std.specs.Prelude.{ℕ, suc, ◌-◌, Bool, cond, ◌&&◌, ◌||◌, List, [], ◌∷◌, eqb, leb, ltb, pos, nat_abs, is_some}
use Rattle.text.specs.Text.{bytes_of, field_of, field_count, same_bytes, signed_number_of}
use Rattle.fields.specs.Fields.{fits, in_range, is_line, numbers_from, unless, value_at, signed_value_at}
use Rattle.statements.specs.Items.{free, no_bridge}
use Rattle.statements.specs.Items.{Fault}
use Rattle.statements.specs.declared.Head.{Head}
use Rattle.statements.specs.declared.Output.{Output}
use Rattle.statements.specs.declared.Pair.{Pair}

abbrev pub circuit_word : List ℕ
circuit_word = bytes_of "circuit"

abbrev pub output_word : List ℕ
output_word = bytes_of "output"

abbrev pub fault_word : List ℕ
fault_word = bytes_of "fault"

abbrev pub bridge_word : List ℕ
bridge_word = bytes_of "bridge"

-- "`circuit,N,G,M,Q,K`: N inputs (1 to 8), G gates (0 to 48), M outputs (1 to 4), Q faults (1 to 32), cap K (1 to 4)"
unfoldable pub is_head : List ℕ → Bool
is_head l = is_line l circuit_word 1 6

unfoldable pub head_fits : List ℕ → Bool
head_fits l = (((fits l 1 1 8 && fits l 2 0 48) && fits l 3 1 4) && fits l 4 1 32) && fits l 5 1 4

unfoldable pub head_refusal : List ℕ → ℕ
head_refusal l = unless (is_head l) 2 (unless (head_fits l) 3 0)

unfoldable pub head_of : List ℕ → Head
head_of l = record { inputs = value_at l 1; gates = value_at l 2; outputs = value_at l 3; faults = value_at l 4; cap = value_at l 5 }

-- "`output,LINE,WEIGHT`: LINE 1 to 56", and "WEIGHT becomes −15 to 15 without 0, written with `-`": the one number of a text that may have a sign
unfoldable pub is_output : List ℕ → Bool
is_output l = ((eqb (field_count l) 3 && same_bytes (field_of l 0) output_word) && numbers_from l 1 1) && is_some (signed_number_of (field_of l 2))

unfoldable pub output_fits : List ℕ → Bool
output_fits l = fits l 1 1 56 && in_range (nat_abs (signed_value_at l 2)) 1 15

-- 5: "output or fault names a line above N+G", which is `top`
unfoldable pub output_refusal : ℕ → List ℕ → ℕ
output_refusal top l = unless (is_output l) 2 (unless (output_fits l) 3 (unless (leb (value_at l 1) top) 5 0))

unfoldable pub output_of : List ℕ → Output
output_of l = record { line = value_at l 1; weight = signed_value_at l 2 }

-- "`fault,LINE,VALUE`, with one to three LINE,VALUE pairs"
unfoldable pub is_fault : List ℕ → Bool
is_fault l = (eqb (field_count l) 3 || eqb (field_count l) 5 || eqb (field_count l) 7) && is_line l fault_word 1 (field_count l)

-- "LINE 1 to 56 and rising, VALUE 0 or 1": the pair at field k, where the line has one
unfoldable pub pair_in_range : Bool → ℕ → ℕ → Bool
pair_in_range absent line value = absent || (in_range line 1 56 && in_range value 0 1)

unfoldable pub pair_fits : List ℕ → ℕ → Bool
pair_fits l k = pair_in_range (leb (field_count l) k) (value_at l k) (value_at l (suc k))

unfoldable pub fault_fits : List ℕ → Bool
fault_fits l = (pair_fits l 1 && pair_fits l 3) && pair_fits l 5

unfoldable pub lines_exist : ℕ → List ℕ → Bool
lines_exist top l = (leb (value_at l 1) top && leb (value_at l 3) top) && leb (value_at l 5) top

-- the line at field k, where there is one, is above that of the pair before
unfoldable pub rises_at : List ℕ → ℕ → Bool
rises_at l k = leb (field_count l) k || ltb (value_at l (k - 2)) (value_at l k)

unfoldable pub lines_rise : List ℕ → Bool
lines_rise l = rises_at l 3 && rises_at l 5

unfoldable pub fault_refusal : ℕ → List ℕ → ℕ
fault_refusal top l = unless (is_fault l) 2 (unless (fault_fits l) 3 (unless (lines_exist top l) 5 (unless (lines_rise l) 6 0)))

-- a pair that is not there names line 0
unfoldable pub pair_at : List ℕ → ℕ → Pair
pair_at l k = record { line = value_at l k; value = eqb (value_at l (suc k)) 1 }

unfoldable pub fault_of : List ℕ → Fault
fault_of l = record { first = pair_at l 1; second = pair_at l 3; third = pair_at l 5; bridge = no_bridge }

-- "A fault line may read `bridge,I,J` with inputs I below J (3 outside 1 to 56)."
unfoldable pub is_bridge : List ℕ → Bool
is_bridge l = is_line l bridge_word 1 3

unfoldable pub bridge_fits : List ℕ → Bool
bridge_fits l = fits l 1 1 56 && fits l 2 1 56

-- neither I nor J is above N, and they rise
unfoldable pub inputs_rise : ℕ → List ℕ → Bool
inputs_rise inputs l = (leb (value_at l 1) inputs && leb (value_at l 2) inputs) && ltb (value_at l 1) (value_at l 2)

unfoldable pub bridge_refusal : ℕ → List ℕ → ℕ
bridge_refusal inputs l = unless (is_bridge l) 2 (unless (bridge_fits l) 3 (unless (inputs_rise inputs l) 19 0))

unfoldable pub bridge_of : List ℕ → Fault
bridge_of l = record { first = free; second = free; third = free; bridge = record { first = value_at l 1; second = value_at l 2 } }

-- a fault line of either kind: its word says which
unfoldable pub names_bridge : List ℕ → Bool
names_bridge l = same_bytes (field_of l 0) bridge_word

unfoldable pub fault_line_refusal : ℕ → ℕ → List ℕ → ℕ
fault_line_refusal inputs top l = cond (names_bridge l) (bridge_refusal inputs l) (fault_refusal top l)

unfoldable pub fault_line_of : List ℕ → Fault
fault_line_of l = cond (names_bridge l) (bridge_of l) (fault_of l)

-- The tests of a line with their numbers, in no order that matters: the number of a line is the least of one that fails (proofs/LineNumbers).
abbrev pub head_tests : List ℕ → List (ℕ × Bool)
head_tests l = (2, is_head l) ∷ (3, head_fits l) ∷ []

abbrev pub output_tests : ℕ → List ℕ → List (ℕ × Bool)
output_tests top l = (2, is_output l) ∷ (3, output_fits l) ∷ (5, leb (value_at l 1) top) ∷ []

abbrev pub fault_tests : ℕ → List ℕ → List (ℕ × Bool)
fault_tests top l = (2, is_fault l) ∷ (3, fault_fits l) ∷ (5, lines_exist top l) ∷ (6, lines_rise l) ∷ []

abbrev pub bridge_tests : ℕ → List ℕ → List (ℕ × Bool)
bridge_tests inputs l = (2, is_bridge l) ∷ (3, bridge_fits l) ∷ (19, inputs_rise inputs l) ∷ []

-- As it was before weights had a sign (document 01): "WEIGHT 1 to 15".
unfoldable pub unsigned_refusal : ℕ → List ℕ → ℕ
unsigned_refusal top l = unless (is_line l output_word 1 3) 2 (unless (fits l 1 1 56 && fits l 2 1 15) 3 (unless (leb (value_at l 1) top) 5 0))

unfoldable pub unsigned_of : List ℕ → Output
unsigned_of l = record { line = value_at l 1; weight = pos (value_at l 2) }
