-- Lines of the form that document 01 gives are read as before there were added fields:
--   four-fields     a line of four fields is refused by the same number, and says the same gate
--   other-fields    so is one of any number of fields but five and six, and where it passes it says the same gate
use mathlib.Core.Path.{◌≡◌, refl}
use mathlib.Core.Bool.{Bool, true, false, ◌&&◌}
use mathlib.Core.List.{List}
use Prim.Native.Nat.{ℕ, zero, suc}
use native.Mathlib.Decide.{ℕ_discrete}
use native.Mathlib.Omega.{arith}
use lib.Dec.{ltb, lit≤}
use borrow.Author.Tests.{ne_eqb, le-ltb, lt-ltb}
use Rattle.text.specs.Text.{field_of, field_count}
use Rattle.fields.specs.Fields.{fits, is_line, unless, value_at}
use Rattle.fields.proofs.Chains.{unless-passed}
use Rattle.fields.proofs.PlainLines.{absent}
use Rattle.kinds.specs.Kinds.{is_kind, kind_of}
use Rattle.gate_lines.specs.GateLines.{gate_word, is_gate, second_fits, added_fits, gate_fits, reads_below, gate_refusal, gate_of, narrow_refusal, narrow_of}
use Rattle.gate_lines.proofs.SecondLines.{fields-right}
use Rattle.gate_lines.proofs.GateFormsMeant.{gate-formed}

kept : (b : Bool) → ((b && true) && true) ≡ b
kept true = refl
kept false = refl

-- line 0 is below every line that another is below
none_below : (a b own : ℕ) → (((ltb a own && ltb b own) && ltb 0 own) && ltb 0 own) ≡ (ltb a own && ltb b own)
none_below a b zero = rw (le-ltb a 0 (omega arith))
none_below a b (suc own) = rw (lt-ltb 0 (suc own) (omega arith)) (kept (ltb a (suc own) && ltb b (suc own)))

module _ (own : ℕ) (l : List ℕ) where
  module _ (four : field_count l ≡ 4) where
    same-form : is_gate l ≡ (is_line l gate_word 2 4 && is_kind (field_of l 1))
    unfolding is_gate
    same-form = rw (four, fields-right (kind_of (field_of l 1)) 4 (lit≤ tt) (lit≤ tt) (λ is. refl))

    same-range : gate_fits l ≡ (fits l 2 1 56 && second_fits (kind_of (field_of l 1)) (value_at l 3))
    unfolding gate_fits added_fits
    same-range = rw four (kept (fits l 2 1 56 && second_fits (kind_of (field_of l 1)) (value_at l 3)))

    same-below : reads_below own l ≡ (ltb (value_at l 2) own && ltb (value_at l 3) own)
    unfolding reads_below
    same-below = rw (absent l 4 (omega (arith, four)), absent l 5 (omega (arith, four))) (none_below (value_at l 2) (value_at l 3) own)

    pub four-fields : (gate_refusal own l ≡ narrow_refusal own l) × (gate_of l ≡ narrow_of l)
    unfolding gate_refusal narrow_refusal gate_of narrow_of
    four-fields = (rw (same-form, same-range, same-below), rw (absent l 4 (omega (arith, four)), absent l 5 (omega (arith, four))))

  module _ (not_five : field_count l ≡ 5 → ⊥) (not-six : field_count l ≡ 6 → ⊥) where
    formed-four : is_gate l ≡ true → field_count l ≡ 4
    formed-four e = let f = gate-formed l e in omega (arith, f.some, f.few, not_five, not-six)

    no-form : (b : Bool) → is_gate l ≡ b → (field_count l ≡ 4 → ⊥) → is_gate l ≡ false
    no-form true e other = absurd (other (formed-four e))
    no-form false e other = e

    pub other-fields : (gate_refusal own l ≡ narrow_refusal own l) × (gate_refusal own l ≡ 0 → gate_of l ≡ narrow_of l)
    unfolding gate_refusal narrow_refusal unless is_line
    other-fields = (go (ℕ_discrete (field_count l) 4), λ e. (four-fields (formed-four (unless-passed (is_gate l) 2 _ (lit≤ tt) e).0)).1)
      where
        go : Dec (field_count l ≡ 4) → gate_refusal own l ≡ narrow_refusal own l
        go (yes four) = (four-fields four).0
        go (no other) = rw (no-form (is_gate l) refl other, ne_eqb (field_count l) 4 other)
