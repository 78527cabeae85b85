-- What the tests of a gate's line ask, said of the kind and the numbers that it is written from (document 01, "The circuit text"; document 02, note 2): the form without
-- which it is refused by 2, the ranges of 3, and what 4 compares. A second statement beside `GateLines`, which reads fields out of bytes; they agree
-- (proofs/GateFormsMeant).
use Rattle.std.specs.Prelude.{ℕ, ◌<◌, ◌≤◌, true, List, ◌∷◌, ◌++◌, ◌↔◌, ◌≡◌, length, get_or}
use Rattle.integer.specs.ListTests.{Below}
use Rattle.text.specs.Text.{comma}
use Rattle.writing.specs.Writing.{Small}
use Rattle.fields.specs.Fields.{line_from}
use Rattle.kinds.specs.Kinds.{kind_word}
use Rattle.kinds.specs.declared.Kind.{Kind}
use Rattle.kinds.specs.declared.Kind.TheVariants.{Not}
use Rattle.gate_lines.specs.GateLines.{gate_word, is_gate, gate_fits, reads_below}

abbrev pub gate_from : Kind → List ℕ → List ℕ
gate_from kind lines = line_from (gate_word ++ (comma ∷ kind_word kind)) lines

-- "two, three or four line fields; `not` keeps just A and its `0`"
pub record GateFields (kind : Kind) (lines : List ℕ) : Type 0 where
  pub small : Small lines
  pub some : 2 ≤ length lines
  pub few : length lines ≤ 4
  pub two-of-not : kind ≡ Not → length lines ≡ 2

-- "A is 1 to 56; B is 1 to 56, and 0 for `not`" "Added fields have the range and the checks of B."
pub record GateForm : Type 0 where
  pub form : (l : List ℕ) → (is_gate l ≡ true) ↔ ((kind : Kind) × (lines : List ℕ) × GateFields kind lines × (l ≡ gate_from kind lines))
  pub range : (kind : Kind) (lines : List ℕ) → GateFields kind lines → (kind ≡ Not → ⊥)
      → (gate_fits (gate_from kind lines) ≡ true) ↔ ((i : ℕ) → i < length lines → (1 ≤ get_or lines i 0) × (get_or lines i 0 ≤ 56))
  pub not-range : (lines : List ℕ) → GateFields Not lines → (gate_fits (gate_from Not lines) ≡ true) ↔ ((1 ≤ get_or lines 0 0) × (get_or lines 0 0 ≤ 56) × (get_or lines 1 0 ≡ 0))
  pub below : (own : ℕ) (kind : Kind) (lines : List ℕ) → GateFields kind lines → (reads_below own (gate_from kind lines) ≡ true) ↔ Below own lines
