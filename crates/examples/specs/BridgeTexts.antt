-- The texts of document 02's note 8, with their reports, and texts whose bridge is refused.
use Rattle.std.specs.Prelude.{ℕ, List, [], ◌∷◌}
use Prim.Native.String.{String}
use Rattle.examples.specs.Texts.{text_of_lines}

-- document 01's listing, x1x2 + x3·not x2, with a stuck line and a bridge
unfoldable pub bridged_listing : List ℕ
bridged_listing =
    text_of_lines
    ("circuit,3,4,1,2,2"
    ∷ "gate,not,2,0"
    ∷ "gate,and,1,2"
    ∷ "gate,and,3,4"
    ∷ "gate,or,5,6"
    ∷ "output,7,1"
    ∷ "fault,2,0"
    ∷ "bridge,1,3"
    ∷ [])

unfoldable pub bridged_listing_report : List ℕ
bridged_listing_report = text_of_lines ("plan,1" ∷ "label,3,2" ∷ "fault,1,3,0" ∷ "fault,2,3,0" ∷ [])

-- x1x2 + x3: with x1 and x2 bridged it is the same function
unfoldable pub silent_bridge : List ℕ
silent_bridge = text_of_lines ("circuit,3,2,1,1,1" ∷ "gate,and,1,2" ∷ "gate,or,3,4" ∷ "output,5,1" ∷ "bridge,1,2" ∷ [])

unfoldable pub silent_bridge_report : List ℕ
silent_bridge_report = text_of_lines ("refused,13,1" ∷ [])

-- the rows of example 6.2 of source document 004
unfoldable pub bridged_table : List ℕ
bridged_table = text_of_lines ("table,4,3,2" ∷ "1001111001001000" ∷ "bridge,1,2" ∷ "bridge,2,3" ∷ "bridge,3,4" ∷ [])

unfoldable pub bridged_table_report : List ℕ
bridged_table_report = text_of_lines ("plan,1" ∷ "label,2,6" ∷ "fault,1,2,4" ∷ "fault,2,2,2" ∷ "fault,3,2,2" ∷ [])

-- a circuit of two inputs and one gate, and a table of two inputs, with this fault line
unfoldable pub gate_with : String → List ℕ
gate_with fault = text_of_lines ("circuit,2,1,1,1,1" ∷ "gate,and,1,2" ∷ "output,3,1" ∷ fault ∷ [])

unfoldable pub table_with : String → List ℕ
table_with fault = text_of_lines ("table,2,1,1" ∷ "0111" ∷ fault ∷ [])
