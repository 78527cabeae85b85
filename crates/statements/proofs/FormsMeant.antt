-- The tests of a line ask of its fields what `LineForms` asks of the numbers that it is written from:
--   head-form, output-form, fault-form, bridge-form    for each kind of line
--   fault-line-form                                     a fault line is answered as a line of its form
--   output-joined, line-value, weight-value             an output's line is its line and its weight as they are written, and says them
--   PairCount, fault-formed                             the fields of a fault line: a word and the numbers of one to three pairs
--   bridge-named, fault-unnamed, word-told              its word tells a bridge from a fault of stuck lines
use mathlib.Core.Path.{◌≡◌, refl, sym, ap, ◌∙◌, subst}
use mathlib.Core.Bool.{Bool, true, false, cond, ◌&&◌, ◌||◌, false≢true}
use mathlib.Core.List.{List, [], ◌∷◌, ◌++◌}
use mathlib.Core.Logic.Iff
use mathlib.Core.Logic.{◌↔◌, ◌⊎◌, ◌≢◌, inl, inr, ⊎_map}
use Prim.Native.Nat.{ℕ, zero, suc, ◌+◌, ◌-◌, ◌<◌, ◌≤◌}
use native.Mathlib.Nat.{lt_of_not-le}
use native.Mathlib.Decide.{dec_le}
use native.Mathlib.Omega.{arith}
use lib.Dec.{eqb, leb}
use lib.IntN.{ℤ, pos, negsuc, nat_abs}
use lib.ListN.{length, get_or, get_or-eq_default}
use lib.Signed.{◌≤ℤ◌}
use borrow.Author.Tests.{eqb-true, eq-eqb}
use Rattle.std.proofs.lemmas.Int.{ints}
use Rattle.std.specs.Prelude.{Some, is_some}
use Rattle.integer.proofs.Bools.{both, either}
use Rattle.text.specs.Text.{comma, index_of, field_of, field_count, same_bytes, number_of, signed_number_of}
use Rattle.text.proofs.Parts.{three-fields}
use Rattle.text.proofs.Words.{same_self, same-equal}
use Rattle.writing.specs.Writing.{Small, gather, number_field, numbers_of}
use Rattle.writing.proofs.LineFields.{number-field, word-field, line-count, natural-read}
use Rattle.writing.proofs.ReadBack.{signed-back}
use Rattle.fields.specs.Fields.{fits, in_range, is_line, numbers_from, value_at, signed_value_at, Fails, LeastFailing, line_from}
use Rattle.fields.proofs.JoinedLines.{values_from, values-small, field-written, signed-written, line-joined, line-form, word-is}
use Rattle.fields.proofs.TestsMean.{both-mean, at-most-means, below-means, range-means, there-means}
use Rattle.fields.proofs.PlainLines.{plain-count, plain_value, plain-line}
use Rattle.statements.specs.Lines.{circuit_word, output_word, fault_word, bridge_word, is_head, head_fits, is_output, output_fits, is_fault, pair_in_range, pair_fits, fault_fits, lines_exist, rises_at, lines_rise, fault_refusal, is_bridge, bridge_fits, inputs_rise, bridge_refusal, names_bridge, fault_line_refusal}
use Rattle.statements.specs.LineForms.{HeadForm, output_from, OutputForm, flat_pairs, line_of_pair, value_of_pair, FaultPairs, FaultForm, BridgeForm, FaultLineForm}
use Rattle.statements.proofs.LineNumbers.{fault-least, bridge-least}

-- ---- the first line

head-range : (n g m q k : ℕ) → let ns = n ∷ g ∷ m ∷ q ∷ k ∷ [] in Small ns
    → (head_fits (line_from circuit_word ns) ≡ true) ↔ ((1 ≤ n) × (n ≤ 8) × (g ≤ 48) × (1 ≤ m) × (m ≤ 4) × (1 ≤ q) × (q ≤ 32) × (1 ≤ k) × (k ≤ 4))
unfolding head_fits fits index_of
head-range n g m q k small =
    Iff.trans
    (both-mean (both-mean (both-mean (both-mean (range-means (at 0) 1 8) (range-means (at 1) 0 48)) (range-means (at 2) 1 4)) (range-means (at 3) 1 32)) (range-means (at 4) 1 4)) (
      λ t. let r = t.0.0 in (r.0.0.0, r.0.0.1, r.0.1.1, r.1.0, r.1.1, t.0.1.0, t.0.1.1, t.1.0, t.1.1),
      λ t. (((((t.0, t.1), (omega arith, t.2)), (t.3, t.4)), (t.5, t.6)), (t.7, t.8)),
    )
  where
    ns : List ℕ
    ns = n ∷ g ∷ m ∷ q ∷ k ∷ []

    at : (k : ℕ) → value_at (line_from circuit_word ns) (suc k) ≡ get_or ns k 0
    at k = plain_value circuit_word ns small refl k

pub head-form : HeadForm
unfolding is_head index_of
head-form = record { form = λ l. line-form l circuit_word 5 refl; range = head-range }

-- ---- outputs

-- by its size: from -15 to 15 without 0
weight-means : (w : ℤ) → (in_range (nat_abs w) 1 15 ≡ true) ↔ ((negsuc 14 ≤ℤ w) × (w ≤ℤ pos 15) × (w ≢ pos 0))
weight-means w = Iff.trans (range-means refl 1 15) (λ t. (omega (arith, ints, t), omega (arith, ints, t), λ z. omega (arith, ints, t, z)), λ t. (omega (arith, ints, t), omega (arith, ints, t)))

module _ (line : ℕ) (weight : ℤ) (small : line < 10000) where
  line-read : number_of (field_of (output_from line weight) 1) ≡ Some line
  unfolding index_of
  line-read = ap number_of (number-field output_word (pos line ∷ weight ∷ []) 0 refl (omega arith)) ∙ natural-read line small

  pub line-value : value_at (output_from line weight) 1 ≡ line
  unfolding value_at
  line-value = rw line-read

  module _ (near : nat_abs weight < 10000) where
    weight-read : signed_number_of (field_of (output_from line weight) 2) ≡ Some weight
    unfolding index_of
    weight-read = ap signed_number_of (number-field output_word (pos line ∷ weight ∷ []) 1 refl (omega arith)) ∙ signed-back weight near

    pub weight-value : signed_value_at (output_from line weight) 2 ≡ weight
    unfolding signed_value_at
    weight-value = rw weight-read

    output-written : is_output (output_from line weight) ≡ true
    unfolding is_output numbers_from index_of
    output-written =
        rw (
          eq-eqb (field_count (output_from line weight)) 3 (line-count output_word (pos line ∷ weight ∷ []) refl),
          word-field output_word (pos line ∷ weight ∷ []) refl,
          same_self output_word,
          line-read,
          weight-read,
        )

    output-range : (output_fits (output_from line weight) ≡ true) ↔ ((1 ≤ line) × (line ≤ 56) × (negsuc 14 ≤ℤ weight) × (weight ≤ℤ pos 15) × (weight ≢ pos 0))
    unfolding output_fits fits
    output-range = rw weight-value (Iff.trans (both-mean (range-means line-value 1 56) (weight-means weight)) (λ t. (t.0.0, t.0.1, t.1.0, t.1.1, t.1.2), λ t. ((t.0, t.1), (t.2, t.3, t.4))))

pub output-joined : (l : List ℕ) → is_output l ≡ true → (l ≡ output_from (value_at l 1) (signed_value_at l 2)) × (nat_abs (signed_value_at l 2) < 10000)
unfolding is_output numbers_from numbers_of gather number_field
output-joined l e =
    let b = both _ (is_some (signed_number_of (field_of l 2))) e in
    let c = both (eqb (field_count l) 3 && same_bytes (field_of l 0) output_word) _ b.0 in
    let d = both (eqb (field_count l) 3) (same_bytes (field_of l 0) output_word) c.0 in
    let w = signed-written l 2 b.1 in
    (three-fields l (eqb-true (field_count l) 3 d.0) ∙ fields (same-equal (field_of l 0) output_word d.1) (field-written l 1 (both _ true c.1).0) w.0, w.1)
  where
    fields : {a b c x y z : List ℕ} → a ≡ x → b ≡ y → c ≡ z → a ++ (comma ∷ (b ++ (comma ∷ c))) ≡ x ++ (comma ∷ (y ++ (comma ∷ z)))
    fields e f g = rw (e, f, g)

pub output-form : OutputForm
output-form =
    record {
      form = λ l. (λ e. let j = output-joined l e in (value_at l 1, signed_value_at l 2, (values-small l 1 1).0, j.1, j.0), λ t. ap is_output t.4 ∙ output-written t.0 t.1 t.2 t.3);
      range = output-range;
      exists = λ top line weight small. at-most-means (line-value line weight small) refl;
    }

-- ---- faults

-- fields of one pair, two or three
abbrev pub PairCount : ℕ → Type 0
PairCount n = ((n ≡ 3) ⊎ (n ≡ 5)) ⊎ (n ≡ 7)

pub fault-formed : (l : List ℕ) → is_fault l ≡ true → PairCount (field_count l) × (is_line l fault_word 1 (field_count l) ≡ true)
unfolding is_fault
fault-formed l e =
    let n = field_count l in
    let b = both (eqb n 3 || eqb n 5 || eqb n 7) (is_line l fault_word 1 n) e in
    (⊎_map (λ c. ⊎_map (eqb-true n 3) (eqb-true n 5) (either (eqb n 3) (eqb n 5) c)) (eqb-true n 7) (either (eqb n 3 || eqb n 5) (eqb n 7) b.0), b.1)

abbrev FaultFrom : List ℕ → Type 0
FaultFrom l = (pairs : List (ℕ × ℕ)) × FaultPairs pairs × (l ≡ line_from fault_word (flat_pairs pairs))

fault-joined : (l : List ℕ) → is_fault l ≡ true → FaultFrom l
fault-joined l e = let f = fault-formed l e in go f.0 (λ n c. line-joined l fault_word n (subst (λ (n : ℕ). is_line l fault_word 1 n ≡ true) c f.1))
  where
    pair : ℕ → ℕ × ℕ
    pair k = (value_at l k, value_at l (suc k))

    go : PairCount (field_count l) → ((n : ℕ) → field_count l ≡ suc n → l ≡ line_from fault_word (values_from l 1 n)) → FaultFrom l
    go (inl (inl one)) joined = (pair 1 ∷ [], record { some = omega arith; few = omega arith; small = values-small l 1 2 }, joined 2 one)
    go (inl (inr two)) joined = (pair 1 ∷ pair 3 ∷ [], record { some = omega arith; few = omega arith; small = values-small l 1 4 }, joined 4 two)
    go (inr three) joined = (pair 1 ∷ pair 3 ∷ pair 5 ∷ [], record { some = omega arith; few = omega arith; small = values-small l 1 6 }, joined 6 three)

flat-count : (pairs : List (ℕ × ℕ)) → length (flat_pairs pairs) ≡ length pairs + length pairs
flat-count [] = refl
flat-count (p ∷ pairs) = omega (arith, flat-count pairs)

-- LINE and VALUE of pair i, 0 where it is not there
flat-at : (pairs : List (ℕ × ℕ)) (i : ℕ) → (get_or (flat_pairs pairs) (i + i) 0 ≡ line_of_pair pairs i) × (get_or (flat_pairs pairs) (suc (i + i)) 0 ≡ value_of_pair pairs i)
flat-at [] i = (refl, refl)
flat-at (p ∷ pairs) zero = (refl, refl)
flat-at (p ∷ pairs) (suc i) = let next : suc i + suc i ≡ suc (suc (i + i)) = omega arith in rw next (flat-at pairs i)

-- what holds of each of at most three
first_three : (P : ℕ → Type 0) (n : ℕ) → n ≤ 3 → (((0 < n → P 0) × (1 < n → P 1)) × (2 < n → P 2)) ↔ ((i : ℕ) → i < n → P i)
first_three P n few = (there, λ g. ((g 0, g 1), g 2))
  where
    there : ((0 < n → P 0) × (1 < n → P 1)) × (2 < n → P 2) → (i : ℕ) → i < n → P i
    there t zero = t.0.0
    there t (suc zero) = t.0.1
    there t (suc (suc zero)) = t.1
    there t (suc (suc (suc i))) = λ h. absurd (omega arith)

module _ (pairs : List (ℕ × ℕ)) (right : FaultPairs pairs) where
  abbrev fault_from : List ℕ
  fault_from = line_from fault_word (flat_pairs pairs)

  pair-line : (i : ℕ) → value_at fault_from (suc (i + i)) ≡ line_of_pair pairs i
  unfolding index_of
  pair-line i = plain_value fault_word (flat_pairs pairs) right.small refl (i + i) ∙ (flat-at pairs i).0

  pair-value : (i : ℕ) → value_at fault_from (suc (suc (i + i))) ≡ value_of_pair pairs i
  unfolding index_of
  pair-value i = plain_value fault_word (flat_pairs pairs) right.small refl (suc (i + i)) ∙ (flat-at pairs i).1

  fault-count : field_count fault_from ≡ suc (length pairs + length pairs)
  unfolding index_of
  fault-count = plain-count fault_word (flat_pairs pairs) right.small refl ∙ ap suc (flat-count pairs)

  pair-fits : (i : ℕ) → (pair_fits fault_from (suc (i + i)) ≡ true) ↔ (i < length pairs → (1 ≤ line_of_pair pairs i) × (line_of_pair pairs i ≤ 56) × (value_of_pair pairs i ≤ 1))
  unfolding pair_fits pair_in_range
  pair-fits i =
      Iff.trans (there-means (field_count fault_from) (suc (i + i)) (both-mean (range-means (pair-line i) 1 56) (range-means (pair-value i) 0 1))) (
        λ g h. let t = g (omega (arith, fault-count)) in (t.0.0, t.0.1, t.1.1),
        λ g h. let t = g (omega (arith, fault-count)) in ((t.0, t.1), (omega arith, t.2)),
      )

  -- a pair that is not there names line 0
  pair-exists : (top i : ℕ) → (leb (value_at fault_from (suc (i + i))) top ≡ true) ↔ (i < length pairs → line_of_pair pairs i ≤ top)
  pair-exists top i = Iff.trans (at-most-means (pair-line i) refl) (λ h there. h, go (dec_le (length pairs) i))
    where
      go : Dec (length pairs ≤ i) → (i < length pairs → line_of_pair pairs i ≤ top) → line_of_pair pairs i ≤ top
      go (yes none) g = omega (arith, ap (λ (p : ℕ × ℕ). p.0) (get_or-eq_default pairs (0, 0) none))
      go (no some) g = g (lt_of_not-le some)

  pair-rises : (i : ℕ) → (rises_at fault_from (suc (suc i + suc i)) ≡ true) ↔ (suc i < length pairs → line_of_pair pairs i < line_of_pair pairs (suc i))
  unfolding rises_at
  pair-rises i =
      let last : suc (suc i + suc i) - 2 ≡ suc (i + i) = omega arith in
      Iff.trans (there-means (field_count fault_from) (suc (suc i + suc i)) (below-means (ap (value_at fault_from) last ∙ pair-line i) (pair-line (suc i))))
      (λ g h. g (omega (arith, fault-count)), λ g h. g (omega (arith, fault-count)))

  fault-rise : (lines_rise fault_from ≡ true) ↔ ((i : ℕ) → suc i < length pairs → line_of_pair pairs i < line_of_pair pairs (suc i))
  unfolding lines_rise
  fault-rise = Iff.trans (both-mean (pair-rises 0) (pair-rises 1)) (there, λ g. (g 0, g 1))
    where
      there : (1 < length pairs → line_of_pair pairs 0 < line_of_pair pairs 1) × (2 < length pairs → line_of_pair pairs 1 < line_of_pair pairs 2) → (i : ℕ) → suc i < length pairs → line_of_pair pairs i < line_of_pair pairs (suc i)
      there t zero = t.0
      there t (suc zero) = t.1
      there t (suc (suc i)) = λ h. absurd (omega (arith, right.few))

  fault-line : is_fault fault_from ≡ true
  unfolding is_fault index_of
  fault-line = rw (fault-count, whole (length pairs) right.some right.few) (ap (λ (n : ℕ). is_line fault_from fault_word 1 (suc n)) (sym (flat-count pairs)) ∙ plain-line fault_word (flat_pairs pairs) right.small refl)
    where
      whole : (n : ℕ) → 1 ≤ n → n ≤ 3 → (eqb (suc (n + n)) 3 || eqb (suc (n + n)) 5 || eqb (suc (n + n)) 7) ≡ true
      whole zero low high = absurd (omega arith)
      whole (suc zero) low high = refl
      whole (suc (suc zero)) low high = refl
      whole (suc (suc (suc zero))) low high = refl
      whole (suc (suc (suc (suc n)))) low high = absurd (omega arith)

pub fault-form : FaultForm
unfolding fault_fits lines_exist
fault-form =
    record {
      form = λ l. (fault-joined l, λ t. ap is_fault t.2 ∙ fault-line t.0 t.1);
      range = λ pairs right. Iff.trans (both-mean (both-mean (pair-fits pairs right 0) (pair-fits pairs right 1)) (pair-fits pairs right 2)) (first_three _ (length pairs) right.few);
      exists = λ top pairs right. Iff.trans (both-mean (both-mean (pair-exists pairs right top 0) (pair-exists pairs right top 1)) (pair-exists pairs right top 2)) (first_three _ (length pairs) right.few);
      rise = fault-rise;
    }

-- ---- bridges

module _ (i j : ℕ) (small : Small (i ∷ j ∷ [])) where
  bridge-value : (k : ℕ) → value_at (line_from bridge_word (i ∷ j ∷ [])) (suc k) ≡ get_or (i ∷ j ∷ []) k 0
  unfolding index_of
  bridge-value k = plain_value bridge_word (i ∷ j ∷ []) small refl k

  bridge-range : (bridge_fits (line_from bridge_word (i ∷ j ∷ [])) ≡ true) ↔ ((1 ≤ i) × (i ≤ 56) × (1 ≤ j) × (j ≤ 56))
  unfolding bridge_fits fits
  bridge-range = Iff.trans (both-mean (range-means (bridge-value 0) 1 56) (range-means (bridge-value 1) 1 56)) (λ t. (t.0.0, t.0.1, t.1.0, t.1.1), λ t. ((t.0, t.1), (t.2, t.3)))

  bridge-inputs : (n : ℕ) → (inputs_rise n (line_from bridge_word (i ∷ j ∷ [])) ≡ true) ↔ ((i ≤ n) × (j ≤ n) × (i < j))
  unfolding inputs_rise
  bridge-inputs n =
      Iff.trans (both-mean (both-mean (at-most-means (bridge-value 0) refl) (at-most-means (bridge-value 1) refl)) (below-means (bridge-value 0) (bridge-value 1)))
      (λ t. (t.0.0, t.0.1, t.1), λ t. ((t.0, t.1), t.2))

pub bridge-form : BridgeForm
unfolding is_bridge index_of
bridge-form = record { form = λ l. line-form l bridge_word 2 refl; range = bridge-range; inputs = λ n i j small. bridge-inputs i j small n }

-- ---- fault lines of either kind

module _ (l : List ℕ) where
  pub bridge-named : is_bridge l ≡ true → names_bridge l ≡ true
  unfolding is_bridge names_bridge
  bridge-named e = ap (λ (w : List ℕ). same_bytes w bridge_word) (word-is l bridge_word 1 3 e) ∙ same_self bridge_word

  pub fault-unnamed : is_fault l ≡ true → names_bridge l ≡ false
  unfolding names_bridge same_bytes
  fault-unnamed e = ap (λ (w : List ℕ). same_bytes w bridge_word) (word-is l fault_word 1 (field_count l) (fault-formed l e).1)

  -- as the code asks it
  pub word-told : {field : List ℕ} {r b : Bool} → field ≡ field_of l 0 → r ≡ same_bytes field bridge_word → r ≡ b → names_bridge l ≡ b
  unfolding names_bridge
  word-told f said e = ap (λ (w : List ℕ). same_bytes w bridge_word) (sym f) ∙ sym said ∙ e

-- 2 is given exactly where the first test fails, and by no later one
two-exactly : (b : Bool) (rest : List (ℕ × Bool)) (number : ℕ) → ((k : ℕ) → Fails rest k → 2 < k) → LeastFailing ((2, b) ∷ rest) number → (number ≡ 2) ↔ (b ≡ true → ⊥)
two-exactly b rest number above l = (λ e t. there l.given e t, λ n. back b n refl)
  where
    there : (number ≡ 0) ⊎ Fails ((2, b) ∷ rest) number → number ≡ 2 → b ≡ true → ⊥
    there (inl z) e t = omega arith
    there (inr (inl f)) e t = false≢true (sym f.1 ∙ t)
    there (inr (inr f)) e t = omega (arith, above number f)

    -- a number from 1 to 2
    only : (number ≡ 0) ⊎ Fails ((2, b) ∷ rest) number → 1 ≤ number → number ≤ 2 → number ≡ 2
    only (inl z) low high = omega arith
    only (inr (inl f)) low high = sym f.0
    only (inr (inr f)) low high = omega (arith, above number f)

    back : (t : Bool) → (t ≡ true → ⊥) → b ≡ t → number ≡ 2
    back true n e = absurd (n refl)
    back false n e = let m = l.least 2 (inl (refl, e)) in only l.given m.0 m.1

fault-two : (top : ℕ) (l : List ℕ) → (fault_refusal top l ≡ 2) ↔ (is_fault l ≡ true → ⊥)
fault-two top l = two-exactly (is_fault l) ((3, fault_fits l) ∷ (5, lines_exist top l) ∷ (6, lines_rise l) ∷ []) (fault_refusal top l) above (fault-least top l)
  where
    above : (k : ℕ) → Fails ((3, fault_fits l) ∷ (5, lines_exist top l) ∷ (6, lines_rise l) ∷ []) k → 2 < k
    above k (inl f) = omega (arith, f.0)
    above k (inr (inl f)) = omega (arith, f.0)
    above k (inr (inr (inl f))) = omega (arith, f.0)
    above k (inr (inr (inr f))) = elim f [ ]

bridge-two : (inputs : ℕ) (l : List ℕ) → (bridge_refusal inputs l ≡ 2) ↔ (is_bridge l ≡ true → ⊥)
bridge-two inputs l = two-exactly (is_bridge l) ((3, bridge_fits l) ∷ (19, inputs_rise inputs l) ∷ []) (bridge_refusal inputs l) above (bridge-least inputs l)
  where
    above : (k : ℕ) → Fails ((3, bridge_fits l) ∷ (19, inputs_rise inputs l) ∷ []) k → 2 < k
    above k (inl f) = omega (arith, f.0)
    above k (inr (inl f)) = omega (arith, f.0)
    above k (inr (inr f)) = elim f [ ]

pub fault-line-form : FaultLineForm
unfolding fault_line_refusal
fault-line-form =
    record {
      neither = λ inputs top l. go inputs top l (names_bridge l) refl;
      stuck = λ inputs top l e. rw (fault-unnamed l e);
      bridge = λ inputs top l e. rw (bridge-named l e);
    }
  where
    go : (inputs top : ℕ) (l : List ℕ) (b : Bool) → names_bridge l ≡ b
        → (cond b (bridge_refusal inputs l) (fault_refusal top l) ≡ 2) ↔ ((is_fault l ≡ true → ⊥) × (is_bridge l ≡ true → ⊥))
    go inputs top l true named =
        let t = bridge-two inputs l in
        (λ e. (λ f. false≢true (sym (fault-unnamed l f) ∙ named), t.0 e), λ n. t.1 n.1)
    go inputs top l false named =
        let t = fault-two top l in
        (λ e. (t.0 e, λ f. false≢true (sym named ∙ bridge-named l f)), λ n. t.1 n.0)
