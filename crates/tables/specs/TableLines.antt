-- What the first two lines of a table's text say, and the numbers by which they are refused (document 02, note 1):
--   "Add a text `table,N,Q,K`, one line of 2^N marks `0`, `1` or `-` by row number" "A free row counts one half .. kept and printed doubled."
--   "A line of marks of another length gets 2. Turned away: 15 at line 2, after 2, for another mark, a comma too."
-- The fault lines are those of circuits, with N for the last line that may be named ("5 above N").
use Rattle.std.specs.Prelude.{ℕ, ◌^◌, Bool, true, cond, ◌&&◌, ◌||◌, List, [], ◌∷◌, map, eqb, length}
use Rattle.text.specs.Text.{bytes_of, before, field_of, line_end, same_bytes}
use Rattle.fields.specs.Fields.{fits, is_line, unless, value_at}
use Rattle.tables.specs.declared.TableHead.{TableHead}

abbrev pub table_word : List ℕ
table_word = bytes_of "table"

-- a text is a table where the first field of its first line is `table`
unfoldable pub is_table : List ℕ → Bool
is_table text = same_bytes (field_of (before line_end text) 0) table_word

-- "`table,N,Q,K`": N 1 to 8, Q 1 to 32, K 1 to 4
unfoldable pub is_table_head : List ℕ → Bool
is_table_head l = is_line l table_word 1 4

unfoldable pub table_head_fits : List ℕ → Bool
table_head_fits l = (fits l 1 1 8 && fits l 2 1 32) && fits l 3 1 4

unfoldable pub table_head_refusal : List ℕ → ℕ
table_head_refusal l = unless (is_table_head l) 2 (unless (table_head_fits l) 3 0)

unfoldable pub table_head_of : List ℕ → TableHead
table_head_of l = record { inputs = value_at l 1; faults = value_at l 2; cap = value_at l 3 }

-- the three marks; `-` marks a free row
abbrev pub zero_mark : ℕ
zero_mark = 48

abbrev pub one_mark : ℕ
one_mark = 49

abbrev pub free_mark : ℕ
free_mark = 45

unfoldable pub is_mark : ℕ → Bool
is_mark b = eqb b zero_mark || (eqb b one_mark || eqb b free_mark)

-- twice what the row counts: a free row one half
unfoldable pub doubled_mark : ℕ → ℕ
doubled_mark b = cond (eqb b one_mark) 2 (cond (eqb b free_mark) 1 0)

unfoldable pub all_marks : List ℕ → Bool
all_marks [] = true
all_marks (b ∷ rest) = is_mark b && all_marks rest

-- a line of marks has no fields
unfoldable pub mark_refusal : ℕ → List ℕ → ℕ
mark_refusal inputs l = unless (eqb (length l) (2 ^ inputs)) 2 (unless (all_marks l) 15 0)

unfoldable pub marks_of : List ℕ → List ℕ
marks_of l = map doubled_mark l

-- The tests of a line with their numbers, in no order that matters: the number of a line is the least of one that fails (proofs/TableNumbers).
abbrev pub table_head_tests : List ℕ → List (ℕ × Bool)
table_head_tests l = (2, is_table_head l) ∷ (3, table_head_fits l) ∷ []

abbrev pub mark_tests : ℕ → List ℕ → List (ℕ × Bool)
mark_tests inputs l = (2, eqb (length l) (2 ^ inputs)) ∷ (15, all_marks l) ∷ []
