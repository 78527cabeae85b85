-- What a gate's line says, and the number by which it is refused (document 01, "The circuit text", "What is returned"; document 02, note 2):
--   "A gate line may carry two, three or four line fields; `not` keeps just A and its `0`." "Added fields have the range and the checks of B."
--   "within a line 2, 3, then 4"
-- A field that is no number, or is not there, counts as 0 where its value is asked; a line with a bad number is refused before that matters.
use Rattle.std.specs.Prelude.{ℕ, Bool, ◌&&◌, ◌||◌, List, [], ◌∷◌, eqb, leb, ltb}
use Rattle.text.specs.Text.{bytes_of, field_of, field_count}
use Rattle.fields.specs.Fields.{fits, in_range, is_line, unless, value_at}
use Rattle.kinds.specs.Kinds.{is_kind, kind_of}
use Rattle.kinds.specs.declared.Kind.{Kind}
use Rattle.kinds.specs.declared.Kind.TheVariants.{And, Or, Nand, Nor, Xor, Xnor, Not}
use Rattle.gate_lines.specs.GateItems.{Gate}

abbrev pub gate_word : List ℕ
gate_word = bytes_of "gate"

-- how many fields a gate's line may have, the word and KIND among them
unfoldable pub fields_fit : Kind → ℕ → Bool
fields_fit And n = in_range n 4 6
fields_fit Or n = in_range n 4 6
fields_fit Nand n = in_range n 4 6
fields_fit Nor n = in_range n 4 6
fields_fit Xor n = in_range n 4 6
fields_fit Xnor n = in_range n 4 6
fields_fit Not n = eqb n 4

-- "gate,KIND,A,B", with C, or C and D, where the kind may have them
unfoldable pub is_gate : List ℕ → Bool
is_gate l = (fields_fit (kind_of (field_of l 1)) (field_count l) && is_line l gate_word 2 (field_count l)) && is_kind (field_of l 1)

-- "A is 1 to 56; B is 1 to 56, and 0 for `not`"
unfoldable pub second_fits : Kind → ℕ → Bool
second_fits And b = in_range b 1 56
second_fits Or b = in_range b 1 56
second_fits Nand b = in_range b 1 56
second_fits Nor b = in_range b 1 56
second_fits Xor b = in_range b 1 56
second_fits Xnor b = in_range b 1 56
second_fits Not b = eqb b 0

-- "Added fields have the range and the checks of B": C or D, where the line has it
unfoldable pub added_fits : Bool → ℕ → Bool
added_fits absent line = absent || in_range line 1 56

unfoldable pub gate_fits : List ℕ → Bool
gate_fits l =
    ((fits l 2 1 56 && second_fits (kind_of (field_of l 1)) (value_at l 3)) && added_fits (leb (field_count l) 4) (value_at l 4)) && added_fits (leb (field_count l) 5) (value_at l 5)

-- "Each of A and B is below the gate's own line", and each added line
unfoldable pub reads_below : ℕ → List ℕ → Bool
reads_below own l = ((ltb (value_at l 2) own && ltb (value_at l 3) own) && ltb (value_at l 4) own) && ltb (value_at l 5) own

unfoldable pub gate_refusal : ℕ → List ℕ → ℕ
gate_refusal own l = unless (is_gate l) 2 (unless (gate_fits l) 3 (unless (reads_below own l) 4 0))

unfoldable pub gate_of : List ℕ → Gate
gate_of l = record { kind = kind_of (field_of l 1); a = value_at l 2; b = value_at l 3; c = value_at l 4; d = value_at l 5 }

-- The tests of the line with their numbers, in no order that matters: its number is the least of one that fails (proofs/GateNumbers).
abbrev pub gate_tests : ℕ → List ℕ → List (ℕ × Bool)
gate_tests own l = (2, is_gate l) ∷ (3, gate_fits l) ∷ (4, reads_below own l) ∷ []

-- As it was before there were added fields (document 01): "gate,KIND,A,B".
unfoldable pub narrow_refusal : ℕ → List ℕ → ℕ
narrow_refusal own l =
    unless (is_line l gate_word 2 4 && is_kind (field_of l 1)) 2
    (unless (fits l 2 1 56 && second_fits (kind_of (field_of l 1)) (value_at l 3)) 3 (unless (ltb (value_at l 2) own && ltb (value_at l 3) own) 4 0))

unfoldable pub narrow_of : List ℕ → Gate
narrow_of l = record { kind = kind_of (field_of l 1); a = value_at l 2; b = value_at l 3; c = 0; d = 0 }
