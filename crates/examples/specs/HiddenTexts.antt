-- The texts of document 02's note 5, in which a fault changes outputs and no row's value.
use Rattle.std.specs.Prelude.{ℕ, List, [], ◌∷◌}
use Rattle.examples.specs.Texts.{text_of_lines}

-- x1 and its complement: with x1 stuck at 0 they change places on row 1
unfoldable pub exchanged_outputs : List ℕ
exchanged_outputs = text_of_lines ("circuit,1,1,2,1,1" ∷ "gate,not,1,0" ∷ "output,1,1" ∷ "output,2,1" ∷ "fault,1,0" ∷ [])

unfoldable pub hidden_report : List ℕ
hidden_report = text_of_lines ("refused,16,1" ∷ [])

-- of other weights the sum tells them apart
unfoldable pub unequal_outputs : List ℕ
unequal_outputs = text_of_lines ("circuit,1,1,2,1,1" ∷ "gate,not,1,0" ∷ "output,1,1" ∷ "output,2,2" ∷ "fault,1,0" ∷ [])

-- x1 added and subtracted
unfoldable pub output_subtracted : List ℕ
output_subtracted = text_of_lines ("circuit,1,0,2,1,1" ∷ "output,1,1" ∷ "output,1,-1" ∷ "fault,1,0" ∷ [])

-- the first, with a gate that nothing reads, and a fault of it behind the hidden one
unfoldable pub silent_behind : List ℕ
silent_behind = text_of_lines ("circuit,1,2,2,2,1" ∷ "gate,not,1,0" ∷ "gate,xor,1,1" ∷ "output,1,1" ∷ "output,2,1" ∷ "fault,1,0" ∷ "fault,3,1" ∷ [])
