-- The circuit texts of document 01's examples, a string for each line, and that of 129 ones in 256 rows, which two decimals take for half of them.
use Rattle.std.specs.Prelude.{ℕ, List, [], ◌∷◌, ◌++◌}
use Prim.Native.String.{String}
use Rattle.text.specs.Text.{bytes_of}

-- each line ends in one byte 0A
unfoldable pub text_of_lines : List String → List ℕ
text_of_lines [] = []
text_of_lines (line ∷ lines) = bytes_of line ++ (10 ∷ text_of_lines lines)

-- x1x2 + x3
unfoldable pub product_or_input_text : List ℕ
product_or_input_text =
    text_of_lines
    ("circuit,3,2,1,4,1"
    ∷ "gate,and,1,2"
    ∷ "gate,or,3,4"
    ∷ "output,5,1"
    ∷ "fault,1,0"
    ∷ "fault,1,1"
    ∷ "fault,3,0"
    ∷ "fault,3,1"
    ∷ [])

-- x1x2x3 + x4·not(x2x3)
unfoldable pub gated_text : List ℕ
gated_text =
    text_of_lines
    ("circuit,4,5,1,4,1"
    ∷ "gate,and,2,3"
    ∷ "gate,and,1,5"
    ∷ "gate,not,5,0"
    ∷ "gate,and,4,7"
    ∷ "gate,or,6,8"
    ∷ "output,9,1"
    ∷ "fault,1,0,2,0"
    ∷ "fault,1,1,2,0"
    ∷ "fault,1,0,2,1"
    ∷ "fault,1,1,2,1"
    ∷ [])

-- the listing: x1x2 + x3·not x2
unfoldable pub listing : List ℕ
listing =
    text_of_lines
    ("circuit,3,4,1,2,2"
    ∷ "gate,not,2,0"
    ∷ "gate,and,1,2"
    ∷ "gate,and,3,4"
    ∷ "gate,or,5,6"
    ∷ "output,7,1"
    ∷ "fault,2,0"
    ∷ "fault,2,1"
    ∷ [])

-- what `signature` writes for it
unfoldable pub listing_report : List ℕ
listing_report = text_of_lines ("plan,1" ∷ "label,1,-2" ∷ "fault,1,1,0" ∷ "fault,2,1,-4" ∷ [])

-- x1 + x1x2, whose product at 0 changes nothing
unfoldable pub silent_text : List ℕ
silent_text = text_of_lines ("circuit,2,2,1,1,1" ∷ "gate,and,1,2" ∷ "gate,or,1,3" ∷ "output,4,1" ∷ "fault,3,0" ∷ [])

unfoldable pub silent_report : List ℕ
silent_report = text_of_lines ("refused,13,1" ∷ [])

-- two inputs, each through a line that is always 0 and is feared to be 1
unfoldable pub pair_text : String → List ℕ
pair_text head =
    text_of_lines
    (head
    ∷ "gate,xor,1,1"
    ∷ "gate,xor,1,1"
    ∷ "gate,xor,1,3"
    ∷ "gate,xor,2,4"
    ∷ "output,5,1"
    ∷ "output,6,1"
    ∷ "fault,3,1"
    ∷ "fault,4,1"
    ∷ [])

-- x8 + x1x2x3x4x5x6x7, on half of the rows and on one more; without the product on half of them
unfoldable pub half_and_one_text : List ℕ
half_and_one_text =
    text_of_lines
    ("circuit,8,7,1,1,1"
    ∷ "gate,and,1,2"
    ∷ "gate,and,3,9"
    ∷ "gate,and,4,10"
    ∷ "gate,and,5,11"
    ∷ "gate,and,6,12"
    ∷ "gate,and,7,13"
    ∷ "gate,or,8,14"
    ∷ "output,15,1"
    ∷ "fault,14,0"
    ∷ [])

-- "Gates have their usual truth values": each kind of gate on x1 and x2, an output of its own weight
unfoldable pub and_or_text : List ℕ
and_or_text =
    text_of_lines
    ("circuit,2,4,4,1,1"
    ∷ "gate,and,1,2"
    ∷ "gate,or,1,2"
    ∷ "gate,nand,1,2"
    ∷ "gate,nor,1,2"
    ∷ "output,3,1"
    ∷ "output,4,2"
    ∷ "output,5,4"
    ∷ "output,6,8"
    ∷ "fault,1,0"
    ∷ [])

unfoldable pub xor_not_text : List ℕ
xor_not_text =
    text_of_lines
    ("circuit,2,3,3,1,1"
    ∷ "gate,xor,1,2"
    ∷ "gate,xnor,1,2"
    ∷ "gate,not,1,0"
    ∷ "output,3,1"
    ∷ "output,4,2"
    ∷ "output,5,4"
    ∷ "fault,1,0"
    ∷ [])
