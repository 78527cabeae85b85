-- The tests of a table's first two lines ask of their fields and bytes what `TableForms` asks of what they are written from:
--   table-head-form, mark-form    for the first line, and for the line of marks
--   marks-joined, values-marked   a line of marks is written from its doubled values, and values below 3 are read from what they are written as
use mathlib.Core.Path.{◌≡◌, refl, sym, ap, ap₂, ◌∙◌, subst}
use mathlib.Core.Bool.{true, ◌||◌}
use mathlib.Core.List.{List, [], ◌∷◌, map}
use mathlib.Core.Logic.Iff
use mathlib.Core.Logic.{◌↔◌, ◌⊎◌, inl, inr}
use Prim.Native.Nat.{ℕ, zero, suc, ◌<◌, ◌≤◌}
use native.Mathlib.Omega.{arith}
use lib.Dec.{eqb}
use lib.ListN.{get_or}
use borrow.Author.Tests.{eqb-true}
use Rattle.integer.specs.ListTests.{Below}
use Rattle.integer.proofs.Bools.{both, either}
use Rattle.text.specs.Text.{index_of}
use Rattle.writing.specs.Writing.{Small}
use Rattle.fields.specs.Fields.{fits, value_at, line_from}
use Rattle.fields.proofs.JoinedLines.{line-form}
use Rattle.fields.proofs.PlainLines.{plain_value}
use Rattle.fields.proofs.TestsMean.{both-mean, range-means}
use Rattle.tables.specs.TableLines.{table_word, is_table_head, table_head_fits, zero_mark, one_mark, free_mark, is_mark, doubled_mark, all_marks, marks_of}
use Rattle.tables.specs.TableForms.{TableHeadForm, mark_for, MarkForm}
use Rattle.tables.proofs.TableAcceptance.{marks-below}

-- ---- the first line

table-head-range : (n q k : ℕ) → let ns = n ∷ q ∷ k ∷ [] in Small ns
    → (table_head_fits (line_from table_word ns) ≡ true) ↔ ((1 ≤ n) × (n ≤ 8) × (1 ≤ q) × (q ≤ 32) × (1 ≤ k) × (k ≤ 4))
unfolding table_head_fits fits index_of
table-head-range n q k small =
    Iff.trans (both-mean (both-mean (range-means (at 0) 1 8) (range-means (at 1) 1 32)) (range-means (at 2) 1 4))
    (λ t. (t.0.0.0, t.0.0.1, t.0.1.0, t.0.1.1, t.1.0, t.1.1), λ t. (((t.0, t.1), (t.2, t.3)), (t.4, t.5)))
  where
    ns : List ℕ
    ns = n ∷ q ∷ k ∷ []

    at : (k : ℕ) → value_at (line_from table_word ns) (suc k) ≡ get_or ns k 0
    at k = plain_value table_word ns small refl k

pub table-head-form : TableHeadForm
unfolding is_table_head index_of
table-head-form = record { form = λ l. line-form l table_word 3 refl; range = table-head-range }

-- ---- the line of marks

-- a mark is the one for its doubled value
mark-meant : (b : ℕ) → is_mark b ≡ true → b ≡ mark_for (doubled_mark b)
unfolding is_mark doubled_mark
mark-meant b e = go (either (eqb b zero_mark) (eqb b one_mark || eqb b free_mark) e)
  where
    at : (c : ℕ) → eqb b c ≡ true → c ≡ mark_for (doubled_mark c) → b ≡ mark_for (doubled_mark b)
    at c e is = subst (λ (c : ℕ). c ≡ mark_for (doubled_mark c)) (sym (eqb-true b c e)) is

    other : (eqb b one_mark ≡ true) ⊎ (eqb b free_mark ≡ true) → b ≡ mark_for (doubled_mark b)
    other (inl e) = at one_mark e refl
    other (inr e) = at free_mark e refl

    go : (eqb b zero_mark ≡ true) ⊎ ((eqb b one_mark || eqb b free_mark) ≡ true) → b ≡ mark_for (doubled_mark b)
    go (inl e) = at zero_mark e refl
    go (inr e) = other (either (eqb b one_mark) (eqb b free_mark) e)

-- a value below 3, as it is marked, is a mark and read as itself
value-marked : (v : ℕ) → v < 3 → (is_mark (mark_for v) ≡ true) × (doubled_mark (mark_for v) ≡ v)
unfolding is_mark doubled_mark
value-marked zero h = (refl, refl)
value-marked (suc zero) h = (refl, refl)
value-marked (suc (suc zero)) h = (refl, refl)
value-marked (suc (suc (suc v))) h = absurd (omega arith)

below-tail : (n v : ℕ) (values : List ℕ) → Below n (v ∷ values) → Below n values
below-tail n v values h i k = h (suc i) (omega arith)

-- a line of marks is that of its doubled values
pub marks-joined : (l : List ℕ) → all_marks l ≡ true → l ≡ map mark_for (marks_of l)
unfolding all_marks marks_of
marks-joined [] e = refl
marks-joined (b ∷ l) e = let t = both (is_mark b) (all_marks l) e in ap₂ ◌∷◌ (mark-meant b t.0) (marks-joined l t.1)

-- values below 3, as they are marked
pub values-marked : (values : List ℕ) → Below 3 values → (all_marks (map mark_for values) ≡ true) × (marks_of (map mark_for values) ≡ values)
unfolding all_marks marks_of
values-marked [] h = (refl, refl)
values-marked (v ∷ values) h =
    let m = value-marked v (h 0 (omega arith)) in
    let r = values-marked values (below-tail 3 v values h) in
    (rw m.0 r.0, ap₂ ◌∷◌ m.1 r.1)

pub mark-form : MarkForm
mark-form =
    record {
      form = λ l. (λ e. (marks_of l, marks-below l, marks-joined l e), λ t. ap all_marks t.2 ∙ (values-marked t.0 t.1).0);
      value = λ values h. (values-marked values h).1;
    }
