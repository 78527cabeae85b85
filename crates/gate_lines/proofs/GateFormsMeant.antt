-- The tests of a gate's line ask of its fields what `GateForms` asks of the kind and the numbers that it is written from:
--   gate-form                 for lines of two, three and four line fields
--   gate-kind, gate-value     what is read of such a line
--   GateFormed, gate-formed   what the test of the form shows
use mathlib.Core.Path.{◌≡◌, refl, ap, ◌∙◌, subst}
use mathlib.Core.Bool.{true, ◌&&◌}
use mathlib.Core.List.{List, ◌∷◌, ◌++◌, map}
use mathlib.Core.Logic.Iff
use mathlib.Core.Logic.{◌↔◌}
use Prim.Native.Nat.{ℕ, zero, suc, ◌-◌, ◌<◌, ◌≤◌}
use native.Mathlib.Nat.{lt_of_not-le}
use native.Mathlib.Decide.{dec_le}
use native.Mathlib.Omega.{arith}
use lib.Dec.{leb, ltb}
use lib.IntN.{pos}
use lib.ListN.{length, get_or, get_or-eq_default}
use borrow.Author.Tests.{eqb-true, eq-eqb}
use Rattle.integer.specs.ListTests.{Below}
use Rattle.integer.proofs.Bools.{both}
use Rattle.text.specs.Text.{comma, index_of, field_of, field_count}
use Rattle.writing.specs.Writing.{Small}
use Rattle.writing.proofs.LineFields.{next_field, next-count, word-field}
use Rattle.fields.specs.Fields.{fits, is_line, numbers_from, value_at, line_from}
use Rattle.fields.proofs.JoinedLines.{values_from, values-small, values-count, two-words-joined}
use Rattle.fields.proofs.PlainLines.{plain-count, plain_value, plain-numbers, value-after-word, line-after-word}
use Rattle.fields.proofs.TestsMean.{both-mean, below-means, range-means, there-means}
use Rattle.kinds.specs.Kinds.{kind_word, is_kind, kind_of}
use Rattle.kinds.specs.declared.Kind.{Kind}
use Rattle.kinds.specs.declared.Kind.TheVariants.{Not}
use Rattle.kinds.proofs.KindWords.{kind-written, kind-only}
use Rattle.gate_lines.specs.GateLines.{gate_word, fields_fit, is_gate, second_fits, added_fits, gate_fits, reads_below}
use Rattle.gate_lines.specs.GateForms.{gate_from, GateFields, GateForm}
use Rattle.gate_lines.proofs.SecondLines.{second-read, fields-some, fields-right}

-- ---- from the kind and the numbers to the line

module _ (kind : Kind) (lines : List ℕ) (small : Small lines) where
  -- from the kind on
  abbrev after-gate : List ℕ
  after-gate = line_from (kind_word kind) lines

  pub gate-kind : field_of (gate_from kind lines) 1 ≡ kind_word kind
  unfolding index_of
  gate-kind = next_field gate_word after-gate refl 0 ∙ word-field (kind_word kind) (map pos lines) (kind-written kind).one_field

  pub gate-value : (k : ℕ) → value_at (gate_from kind lines) (suc (suc k)) ≡ get_or lines k 0
  unfolding index_of
  gate-value k = value-after-word gate_word after-gate refl (suc k) ∙ plain_value (kind_word kind) lines small (kind-written kind).one_field k

  gate-count : field_count (gate_from kind lines) ≡ suc (suc (length lines))
  unfolding index_of
  gate-count = next-count gate_word after-gate refl ∙ ap suc (plain-count (kind_word kind) lines small (kind-written kind).one_field)

  gate-numbers : is_line (gate_from kind lines) gate_word 2 (suc (suc (length lines))) ≡ true
  unfolding index_of
  gate-numbers =
      let one = (kind-written kind).one_field in
      let all : length lines ≡ suc (length lines) - 1 = omega arith in
      line-after-word gate_word after-gate refl 1 (suc (length lines)) (plain-count (kind_word kind) lines small one)
      (subst (λ (n : ℕ). numbers_from after-gate 1 n ≡ true) all (plain-numbers (kind_word kind) lines small one))

  second-means : (second_fits (kind_of (field_of (gate_from kind lines) 1)) (value_at (gate_from kind lines) 3) ≡ true) ↔ (second_fits kind (get_or lines 1 0) ≡ true)
  second-means = rw (gate-kind, (kind-written kind).read, gate-value 1) (λ e. e, λ e. e)

  -- the added line in field k + 2, where it is there
  added-means : (k : ℕ) → (added_fits (leb (field_count (gate_from kind lines)) (suc (suc k))) (value_at (gate_from kind lines) (suc (suc k))) ≡ true) ↔ (k < length lines → (1 ≤ get_or lines k 0) × (get_or lines k 0 ≤ 56))
  unfolding added_fits
  added-means k =
      Iff.trans (there-means (field_count (gate_from kind lines)) (suc (suc k)) (range-means (gate-value k) 1 56)) (λ g h. g (omega (arith, gate-count)), λ g h. g (omega (arith, gate-count)))

-- what holds of each of two to four
two-to-four : (P : ℕ → Type 0) (n : ℕ) → 2 ≤ n → n ≤ 4 → (((P 0 × P 1) × (2 < n → P 2)) × (3 < n → P 3)) ↔ ((i : ℕ) → i < n → P i)
two-to-four P n some few = (there, λ g. (((g 0 (omega arith), g 1 (omega arith)), g 2), g 3))
  where
    there : ((P 0 × P 1) × (2 < n → P 2)) × (3 < n → P 3) → (i : ℕ) → i < n → P i
    there t zero h = t.0.0.0
    there t (suc zero) h = t.0.0.1
    there t (suc (suc zero)) h = t.0.1 h
    there t (suc (suc (suc zero))) h = t.1 h
    there t (suc (suc (suc (suc i)))) h = absurd (omega arith)

-- one that is not there is read as 0, which is below where another is
four_below : (own : ℕ) (lines : List ℕ) → 2 ≤ length lines → length lines ≤ 4
    → ((((get_or lines 0 0 < own) × (get_or lines 1 0 < own)) × (get_or lines 2 0 < own)) × (get_or lines 3 0 < own)) ↔ Below own lines
four_below own lines some few = Iff.trans (λ t. ((t.0.0, λ h. t.0.1), λ h. t.1), λ t. ((t.0.0, from lines 2 t.0.0.0 t.0.1), from lines 3 t.0.0.0 t.1)) (two-to-four (λ i. get_or lines i 0 < own) (length lines) some few)
  where
    from : (lines : List ℕ) (k : ℕ) → get_or lines 0 0 < own → (k < length lines → get_or lines k 0 < own) → get_or lines k 0 < own
    from lines k first h = go (dec_le (length lines) k)
      where
        go : Dec (length lines ≤ k) → get_or lines k 0 < own
        go (yes none) = omega (arith, get_or-eq_default lines 0 none)
        go (no some) = h (lt_of_not-le some)

module _ (kind : Kind) (lines : List ℕ) (right : GateFields kind lines) where
  gate-written : is_gate (gate_from kind lines) ≡ true
  unfolding is_gate
  gate-written =
      rw (
        gate-kind kind lines right.small,
        (kind-written kind).read,
        gate-count kind lines right.small,
        fields-right kind (suc (suc (length lines))) (omega (arith, right.some)) (omega (arith, right.few)) (λ is. ap (λ (n : ℕ). suc (suc n)) (right.two-of-not is)),
        gate-numbers kind lines right.small,
        (kind-written kind).known,
      )

  gate-range : (kind ≡ Not → ⊥) → (gate_fits (gate_from kind lines) ≡ true) ↔ ((i : ℕ) → i < length lines → (1 ≤ get_or lines i 0) × (get_or lines i 0 ≤ 56))
  unfolding gate_fits fits
  gate-range other =
      Iff.trans
      (both-mean (both-mean (both-mean (range-means (gate-value kind lines right.small 0) 1 56) (Iff.trans (second-means kind lines right.small) second_range)) (added-means kind lines right.small 2)) (added-means kind lines right.small 3))
      (two-to-four (λ i. (1 ≤ get_or lines i 0) × (get_or lines i 0 ≤ 56)) (length lines) right.some right.few)
    where
      second_range : (second_fits kind (get_or lines 1 0) ≡ true) ↔ ((1 ≤ get_or lines 1 0) × (get_or lines 1 0 ≤ 56))
      second_range = rw (← second-read kind (get_or lines 1 0) other) (range-means refl 1 56)

  gate-below : (own : ℕ) → (reads_below own (gate_from kind lines) ≡ true) ↔ Below own lines
  unfolding reads_below
  gate-below own = Iff.trans (both-mean (both-mean (both-mean (at 0) (at 1)) (at 2)) (at 3)) (four_below own lines right.some right.few)
    where
      at : (k : ℕ) → (ltb (value_at (gate_from kind lines) (suc (suc k))) own ≡ true) ↔ (get_or lines k 0 < own)
      at k = below-means (gate-value kind lines right.small k) refl

not-range : (lines : List ℕ) → GateFields Not lines → (gate_fits (gate_from Not lines) ≡ true) ↔ ((1 ≤ get_or lines 0 0) × (get_or lines 0 0 ≤ 56) × (get_or lines 1 0 ≡ 0))
unfolding gate_fits fits second_fits
not-range lines right =
    let two = right.two-of-not refl in
    Iff.trans
    (both-mean (both-mean (both-mean (range-means (gate-value Not lines right.small 0) 1 56) (second-means Not lines right.small)) (added-means Not lines right.small 2)) (added-means Not lines right.small 3)) (
      λ t. (t.0.0.0.0, t.0.0.0.1, eqb-true (get_or lines 1 0) 0 t.0.0.1),
      λ t. ((((t.0, t.1), eq-eqb (get_or lines 1 0) 0 t.2), λ h. absurd (omega (arith, two))), λ h. absurd (omega (arith, two))),
    )

-- ---- and back

pub record GateFormed (l : List ℕ) : Type 0 where
  pub some : 4 ≤ field_count l
  pub few : field_count l ≤ 6
  pub four-of-not : kind_of (field_of l 1) ≡ Not → field_count l ≡ 4
  pub numbers : is_line l gate_word 2 (field_count l) ≡ true
  pub known : is_kind (field_of l 1) ≡ true

pub gate-formed : (l : List ℕ) → is_gate l ≡ true → GateFormed l
unfolding is_gate
gate-formed l e =
    let f = both (fields_fit (kind_of (field_of l 1)) (field_count l) && is_line l gate_word 2 (field_count l)) (is_kind (field_of l 1)) e in
    let g = both (fields_fit (kind_of (field_of l 1)) (field_count l)) (is_line l gate_word 2 (field_count l)) f.0 in
    let s = fields-some (kind_of (field_of l 1)) (field_count l) g.0 in
    record { some = s.0; few = s.1; four-of-not = s.2; numbers = g.1; known = f.1 }

gate-joined : (l : List ℕ) → is_gate l ≡ true → (kind : Kind) × (lines : List ℕ) × GateFields kind lines × (l ≡ gate_from kind lines)
gate-joined l e = (
  kind_of (field_of l 1),
  values_from l 2 k,
  record { small = values-small l 2 k; some = omega (arith, f.some, values-count l 2 k); few = omega (arith, f.few, values-count l 2 k); two-of-not = λ is. omega (arith, f.four-of-not is, values-count l 2 k) },
  two-words-joined l gate_word k (subst (λ (n : ℕ). is_line l gate_word 2 n ≡ true) all f.numbers) ∙ ap (λ (w : List ℕ). line_from (gate_word ++ (comma ∷ w)) (values_from l 2 k)) (kind-only (field_of l 1) f.known),
)
  where
    f : GateFormed l
    f = gate-formed l e

    k : ℕ
    k = field_count l - 2

    all : field_count l ≡ suc (suc k)
    all = omega (arith, f.some)

pub gate-form : GateForm
gate-form =
    record {
      form = λ l. (gate-joined l, λ t. ap is_gate t.3 ∙ gate-written t.0 t.1 t.2);
      range = gate-range;
      not-range = not-range;
      below = λ own kind lines right. gate-below kind lines right own;
    }
