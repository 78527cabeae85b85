-- What the tests of a table's first two lines ask, said of what the lines are written from (document 02, note 1). A second statement beside `TableLines`, which
-- reads fields and bytes; they agree (proofs/TableFormsMeant).
use Rattle.std.specs.Prelude.{ℕ, zero, suc, ◌≤◌, true, List, [], ◌∷◌, map, ◌↔◌, ◌≡◌, length}
use Rattle.integer.specs.ListTests.{Below}
use Rattle.writing.specs.Writing.{Small}
use Rattle.fields.specs.Fields.{line_from}
use Rattle.tables.specs.TableLines.{table_word, is_table_head, table_head_fits, zero_mark, one_mark, free_mark, all_marks, marks_of}

-- "`table,N,Q,K`"
pub record TableHeadForm : Type 0 where
  pub form : (l : List ℕ) → (is_table_head l ≡ true) ↔ ((ns : List ℕ) × Small ns × (length ns ≡ 3) × (l ≡ line_from table_word ns))
  pub range : (n q k : ℕ) → let ns = n ∷ q ∷ k ∷ [] in Small ns
      → (table_head_fits (line_from table_word ns) ≡ true) ↔ ((1 ≤ n) × (n ≤ 8) × (1 ≤ q) × (q ≤ 32) × (1 ≤ k) × (k ≤ 4))

-- a doubled value as it is marked: 0, `-` for one half, 1
abbrev pub mark_for : ℕ → ℕ
mark_for zero = zero_mark
mark_for (suc zero) = free_mark
mark_for (suc (suc v)) = one_mark

-- "marks `0`, `1` or `-`": a line of marks is written from values 0, 1 and 2, and from no others
pub record MarkForm : Type 0 where
  pub form : (l : List ℕ) → (all_marks l ≡ true) ↔ ((values : List ℕ) × Below 3 values × (l ≡ map mark_for values))
  pub value : (values : List ℕ) → Below 3 values → marks_of (map mark_for values) ≡ values
