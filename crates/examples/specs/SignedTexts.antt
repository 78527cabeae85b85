-- The texts of document 02's note 4, with a report, and texts whose output's line is refused.
use Rattle.std.specs.Prelude.{ℕ, List, [], ◌∷◌}
use Prim.Native.String.{String}
use Rattle.examples.specs.Texts.{text_of_lines}

-- document 01's listing with this output, its sixth line
unfoldable pub with_output : String → List ℕ
with_output output =
    text_of_lines
    ("circuit,3,4,1,2,2"
    ∷ "gate,not,2,0"
    ∷ "gate,and,1,2"
    ∷ "gate,and,3,4"
    ∷ "gate,or,5,6"
    ∷ output
    ∷ "fault,2,0"
    ∷ "fault,2,1"
    ∷ [])

-- of its output subtracted
unfoldable pub subtracted_report : List ℕ
subtracted_report = text_of_lines ("plan,1" ∷ "label,1,2" ∷ "fault,1,1,0" ∷ "fault,2,1,4" ∷ [])

-- one input, an output of weight -15
unfoldable pub subtracted_input : List ℕ
subtracted_input = text_of_lines ("circuit,1,0,1,1,1" ∷ "output,1,-15" ∷ "fault,1,0" ∷ [])

-- one input, added and subtracted
unfoldable pub opposite_weights : List ℕ
opposite_weights = text_of_lines ("circuit,1,0,2,2,1" ∷ "output,1,7" ∷ "output,1,-7" ∷ "fault,1,0" ∷ "fault,1,1" ∷ [])

-- an output, with this line of a fault
unfoldable pub with_fault : String → List ℕ
with_fault fault = text_of_lines ("circuit,1,0,1,1,1" ∷ "output,1,-1" ∷ fault ∷ [])
