-- The texts of document 02's note 2, with a report, and texts whose gate's line is refused.
use Rattle.std.specs.Prelude.{ℕ, List, [], ◌∷◌}
use Prim.Native.String.{String}
use Rattle.examples.specs.Texts.{text_of_lines}

-- x1x2x3 by one gate
unfoldable pub wide_and : List ℕ
wide_and = text_of_lines ("circuit,3,1,1,2,1" ∷ "gate,and,1,2,3" ∷ "output,4,1" ∷ "fault,1,0" ∷ "fault,4,1" ∷ [])

unfoldable pub wide_and_report : List ℕ
wide_and_report = text_of_lines ("plan,1" ∷ "label,0,1" ∷ "fault,1,0,0" ∷ "fault,2,0,8" ∷ [])

-- the parity of four inputs by one gate
unfoldable pub wide_parity : List ℕ
wide_parity = text_of_lines ("circuit,4,1,1,1,1" ∷ "gate,xor,1,2,3,4" ∷ "output,5,1" ∷ "fault,5,0" ∷ [])

-- a circuit of three inputs and this gate
unfoldable pub with_gate : String → List ℕ
with_gate gate = text_of_lines ("circuit,3,1,1,1,1" ∷ gate ∷ "output,4,1" ∷ "fault,4,0" ∷ [])
