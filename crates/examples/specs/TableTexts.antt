-- The tables of document 02's note 1, as texts, with the report of one.
use Rattle.std.specs.Prelude.{ℕ, List, [], ◌∷◌}
use Rattle.examples.specs.Texts.{text_of_lines}

-- source document 004, fig. 2
unfoldable pub figure_table : List ℕ
figure_table = text_of_lines ("table,4,1,1" ∷ "00000101111000--" ∷ "fault,1,0" ∷ [])

unfoldable pub small_table : List ℕ
small_table = text_of_lines ("table,2,2,1" ∷ "01-1" ∷ "fault,1,0" ∷ "fault,2,1" ∷ [])

unfoldable pub small_table_report : List ℕ
small_table_report = text_of_lines ("plan,1" ∷ "label,0,5" ∷ "fault,1,0,2" ∷ "fault,2,0,6" ∷ [])

-- every row has the same mark
unfoldable pub constant_table : List ℕ
constant_table = text_of_lines ("table,1,1,1" ∷ "11" ∷ "fault,1,0" ∷ [])

unfoldable pub constant_table_report : List ℕ
constant_table_report = text_of_lines ("refused,13,1" ∷ [])

unfoldable pub comma_table : List ℕ
comma_table = text_of_lines ("table,2,1,1" ∷ "0,11" ∷ "fault,1,0" ∷ [])

unfoldable pub short_table : List ℕ
short_table = text_of_lines ("table,2,1,1" ∷ "01x" ∷ "fault,1,0" ∷ [])

-- a fault line names an input
unfoldable pub line_above_table : List ℕ
line_above_table = text_of_lines ("table,2,1,1" ∷ "0111" ∷ "fault,3,0" ∷ [])
