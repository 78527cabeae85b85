-- A gate and the line that it is written as:
--   gate-passes, gate-says    the line of a right gate is not refused, and says that gate
--   fields-most               its numbers are at most 56, and at most four
--   fields-kept               a line that is not refused carries the fields of the gate that it says
--   added-there               an added field that is there names a line
--   second-some               a gate that is no `not` has a second line
--   kept-below                lines up to the first that is not there are below what all are below
use mathlib.Core.Path.{◌≡◌, refl, sym, ap, subst, subst⁻¹}
use mathlib.Core.Bool.{true, ◌&&◌}
use mathlib.Core.List.{List, [], ◌∷◌}
use mathlib.Core.Logic.{◌⊎◌, inl, inr}
use Prim.Native.Nat.{ℕ, zero, suc, ◌-◌, ◌<◌, ◌≤◌}
use native.Mathlib.Omega.{arith}
use lib.Dec.{leb, lit≤}
use lib.ListN.{length, get_or}
use Rattle.integer.specs.ListTests.{any, Below}
use Rattle.integer.proofs.Bools.{both}
use Rattle.text.specs.Text.{field_of, field_count}
use Rattle.writing.specs.Writing.{Small}
use Rattle.writing.proofs.LineFields.{AtMost, most-small}
use Rattle.fields.specs.Fields.{fits, unless, value_at}
use Rattle.fields.proofs.Chains.{unless-passed}
use Rattle.fields.proofs.JoinedLines.{values_from}
use Rattle.fields.proofs.PlainLines.{absent}
use Rattle.fields.proofs.TestsMean.{range-means, there-means}
use Rattle.kinds.specs.Kinds.{kind_of}
use Rattle.kinds.specs.declared.Kind.{Kind}
use Rattle.kinds.specs.declared.Kind.TheVariants.{And, Or, Nand, Nor, Xor, Xnor, Not}
use Rattle.kinds.proofs.KindWords.{kind-written, other-kind}
use Rattle.gate_lines.specs.GateForms.{gate_from, GateFields}
use Rattle.gate_lines.specs.GateItems.{Gate, up_to_none, line_fields, SecondRight, GateRight}
use Rattle.gate_lines.specs.GateLines.{is_gate, second_fits, added_fits, gate_fits, gate_refusal, gate_of}
use Rattle.gate_lines.proofs.GateFormsMeant.{gate-form, gate-kind, gate-value, GateFormed, gate-formed}

-- ---- the numbers before the first 0

kept-few : (l : List ℕ) → length (up_to_none l) ≤ length l
unfolding up_to_none
kept-few [] = omega arith
kept-few (zero ∷ l) = omega arith
kept-few (suc x ∷ l) = omega (arith, kept-few l)

kept-some : (l : List ℕ) (i : ℕ) → i < length (up_to_none l) → 1 ≤ get_or (up_to_none l) i 0
unfolding up_to_none
kept-some [] i h = absurd (omega arith)
kept-some (zero ∷ l) i h = absurd (omega arith)
kept-some (suc x ∷ l) zero h = omega arith
kept-some (suc x ∷ l) (suc i) h = kept-some l i (omega arith)

pub kept-below : (n : ℕ) (l : List ℕ) → Below n l → Below n (up_to_none l)
unfolding up_to_none
kept-below n [] b i h = absurd (omega arith)
kept-below n (zero ∷ l) b i h = absurd (omega arith)
kept-below n (suc x ∷ l) b zero h = b 0 (omega arith)
kept-below n (suc x ∷ l) b (suc i) h = kept-below n l (λ j k. b (suc j) (omega arith)) i (omega arith)

kept-most : (most l : List ℕ) → AtMost most l → AtMost most (up_to_none l)
unfolding up_to_none
kept-most most [] h = tt
kept-most most (zero ∷ l) h = tt
kept-most [] (suc x ∷ l) h = absurd h
kept-most (m ∷ most) (suc x ∷ l) h = (h.0, kept-most most l h.1)

-- of two, where the second is 0 when the first is
two-kept : (c d : ℕ) → (c ≡ 0 → d ≡ 0) → (get_or (up_to_none (c ∷ d ∷ [])) 0 0 ≡ c) × (get_or (up_to_none (c ∷ d ∷ [])) 1 0 ≡ d)
unfolding up_to_none
two-kept zero d gap = (refl, sym (gap refl))
two-kept (suc c) zero gap = (refl, refl)
two-kept (suc c) (suc d) gap = (refl, refl)

one-there : (c : ℕ) → 1 ≤ c → up_to_none (c ∷ 0 ∷ []) ≡ c ∷ []
unfolding up_to_none
one-there zero h = absurd (omega arith)
one-there (suc c) h = refl

two-there : (c d : ℕ) → 1 ≤ c → 1 ≤ d → up_to_none (c ∷ d ∷ []) ≡ c ∷ d ∷ []
unfolding up_to_none
two-there zero d h k = absurd (omega arith)
two-there (suc c) zero h k = absurd (omega arith)
two-there (suc c) (suc d) h k = refl

-- ---- the line of a right gate

-- a gate that is no `not` reads its second line
pub second-some : (kind : Kind) (b : ℕ) → SecondRight kind b → (kind ≡ Not) ⊎ ((kind ≡ Not → ⊥) × (1 ≤ b))
second-some And b h = inr (other-kind refl, h)
second-some Or b h = inr (other-kind refl, h)
second-some Nand b h = inr (other-kind refl, h)
second-some Nor b h = inr (other-kind refl, h)
second-some Xor b h = inr (other-kind refl, h)
second-some Xnor b h = inr (other-kind refl, h)
second-some Not b h = inl refl

module _ (own : ℕ) (g : Gate) (few : own ≤ 56) (r : GateRight own g) where
  pub fields-most : AtMost (56 ∷ 56 ∷ 56 ∷ 56 ∷ []) (line_fields g)
  unfolding line_fields
  fields-most = (
    omega (arith, r.first_below),
    (omega (arith, r.second_below), kept-most (56 ∷ 56 ∷ []) (g.c ∷ g.d ∷ []) (omega (arith, r.third-below), (omega (arith, r.fourth-below), tt))),
  )

  fields-small : Small (line_fields g)
  unfolding any
  fields-small = most-small (56 ∷ 56 ∷ 56 ∷ 56 ∷ []) (line_fields g) refl fields-most

  fields-form : GateFields g.kind (line_fields g)
  unfolding line_fields up_to_none
  fields-form =
      record {
        small = fields-small;
        some = omega arith;
        few = omega (arith, kept-few (g.c ∷ g.d ∷ []));
        two-of-not = λ is. rw (r.not_narrow is);
      }

  fields-below : Below own (line_fields g)
  unfolding line_fields
  fields-below zero h = r.first_below
  fields-below (suc zero) h = r.second_below
  fields-below (suc (suc i)) h = kept-below own (g.c ∷ g.d ∷ []) added i (omega arith)
    where
      added : Below own (g.c ∷ g.d ∷ [])
      added zero h = r.third-below
      added (suc zero) h = r.fourth-below
      added (suc (suc i)) h = absurd (omega arith)

  fields-fit : gate_fits (gate_from g.kind (line_fields g)) ≡ true
  unfolding line_fields
  fields-fit = go (second-some g.kind g.b r.second)
    where
      high : (i : ℕ) → i < length (line_fields g) → get_or (line_fields g) i 0 ≤ 56
      high i h = omega (arith, fields-below i h)

      low : 1 ≤ g.b → (i : ℕ) → i < length (line_fields g) → 1 ≤ get_or (line_fields g) i 0
      low second zero h = r.first
      low second (suc zero) h = second
      low second (suc (suc i)) h = kept-some (g.c ∷ g.d ∷ []) i (omega arith)

      go : (g.kind ≡ Not) ⊎ ((g.kind ≡ Not → ⊥) × (1 ≤ g.b)) → gate_fits (gate_from g.kind (line_fields g)) ≡ true
      go (inl is) =
          subst⁻¹ (λ (k : Kind). GateFields k (line_fields g) → gate_fits (gate_from k (line_fields g)) ≡ true) is
          (λ form. (gate-form.not-range (line_fields g) form).1 (r.first, omega (arith, r.first_below), subst (λ (k : Kind). SecondRight k g.b) is r.second)) fields-form
      go (inr other) = (gate-form.range g.kind (line_fields g) fields-form other.0).1 (λ i h. (low other.1 i h, high i h))

  pub gate-passes : gate_refusal own (gate_from g.kind (line_fields g)) ≡ 0
  unfolding gate_refusal unless
  gate-passes =
      rw (
        (gate-form.form (gate_from g.kind (line_fields g))).1 (g.kind, line_fields g, fields-form, refl),
        fields-fit,
        (gate-form.below own g.kind (line_fields g) fields-form).1 fields-below,
      )

  pub gate-says : gate_of (gate_from g.kind (line_fields g)) ≡ g
  unfolding gate_of line_fields
  gate-says =
      let at = gate-value g.kind (line_fields g) fields-small in
      let added = two-kept g.c g.d r.no_gap in
      rw (gate-kind g.kind (line_fields g) fields-small, (kind-written g.kind).read, at 0, at 1, at 2, at 3, added.0, added.1)

-- ---- and back

module _ (l : List ℕ) (fit : gate_fits l ≡ true) where
  pub added-there : (4 < field_count l → 1 ≤ value_at l 4) × (5 < field_count l → 1 ≤ value_at l 5)
  unfolding gate_fits added_fits
  added-there =
      let third = (fits l 2 1 56 && second_fits (kind_of (field_of l 1)) (value_at l 3)) && added_fits (leb (field_count l) 4) (value_at l 4) in
      let f = both third (added_fits (leb (field_count l) 5) (value_at l 5)) fit in
      let e = both (fits l 2 1 56 && second_fits (kind_of (field_of l 1)) (value_at l 3)) (added_fits (leb (field_count l) 4) (value_at l 4)) f.0 in
      (λ h. ((there-means (field_count l) 4 (range-means refl 1 56)).0 e.1 h).0, λ h. ((there-means (field_count l) 5 (range-means refl 1 56)).0 f.1 h).0)

pub fields-kept : (own : ℕ) (l : List ℕ) → gate_refusal own l ≡ 0 → values_from l 2 (field_count l - 2) ≡ line_fields (gate_of l)
unfolding gate_refusal gate_of line_fields up_to_none
fields-kept own l e = go (field_count l) refl form.some form.few
  where
    form : GateFormed l
    form = gate-formed l (unless-passed (is_gate l) 2 _ (lit≤ tt) e).0

    there : (4 < field_count l → 1 ≤ value_at l 4) × (5 < field_count l → 1 ≤ value_at l 5)
    there = added-there l (unless-passed (gate_fits l) 3 _ (lit≤ tt) (unless-passed (is_gate l) 2 _ (lit≤ tt) e).1).0

    added : List ℕ → List ℕ
    added ns = value_at l 2 ∷ value_at l 3 ∷ ns

    go : (n : ℕ) → field_count l ≡ n → 4 ≤ n → n ≤ 6 → values_from l 2 (n - 2) ≡ added (up_to_none (value_at l 4 ∷ value_at l 5 ∷ []))
    go zero is low high = absurd (omega arith)
    go (suc zero) is low high = absurd (omega arith)
    go (suc (suc zero)) is low high = absurd (omega arith)
    go (suc (suc (suc zero))) is low high = absurd (omega arith)
    go (suc (suc (suc (suc zero)))) is low high = rw (absent l 4 (omega (arith, is)))
    go (suc (suc (suc (suc (suc zero))))) is low high = ap added (rw (absent l 5 (omega (arith, is))) (sym (one-there (value_at l 4) (there.0 (omega (arith, is))))))
    go (suc (suc (suc (suc (suc (suc zero)))))) is low high = ap added (sym (two-there (value_at l 4) (value_at l 5) (there.0 (omega (arith, is))) (there.1 (omega (arith, is)))))
    go (suc (suc (suc (suc (suc (suc (suc n))))))) is low high = absurd (omega arith)
