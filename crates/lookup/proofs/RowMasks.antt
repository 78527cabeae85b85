-- Every row with its stuck inputs replaced from two of them:
--   stuck-row-settled            an input of such a row is what it was in the row, or the same in every row
--   stuck-row-masked             so rows 0 and 255 tell all others: row 0 what is set, and the bits in which they differ what is kept
--   masked_below                 by these two masks rows of k inputs stay rows of k inputs
--   marks-there, masked-rows     so, after the bridge, the code reads marks that are there, and writes the table's rows
use mathlib.Core.Path.{◌≡◌, refl, sym, ap, ap₂, ◌∙◌, subst}
use mathlib.Core.Bool.{Bool, true, false, xor, ◌&&◌, ◌||◌}
use mathlib.Core.Logic.{◌⊎◌, inl, inr}
use mathlib.Core.List.{List}
use Prim.Native.Nat.{ℕ, ◌-◌, ◌^◌, ◌<◌, ◌≤◌}
use native.Mathlib.Nat.{mod-eq_of_lt}
use native.Mathlib.Omega.{arith}
use lib.Bits.{bit_and, bit_or, bit_xor, and_mask}
use lib.Dec.{eqb}
use lib.IntN.{ℤ, pos}
use lib.ListN.{length, get_or}
use borrow.Author.Tests.{eqb-true, eqb-false}
use Rattle.integer.specs.Mask.{bit}
use Rattle.integer.specs.Tab.{tab}
use Rattle.integer.proofs.Masks.{bit-and, bit-or, bit-xor, bit-zero, same-bits}
use Rattle.integer.proofs.Tabs.{tab-ext}
use Rattle.faults.proofs.Digits.{put, put-shows, put_keeps}
use Rattle.faults.proofs.Sticking.{replaced-put}
use Rattle.statements.specs.declared.Bridge.{Bridge}
use Rattle.statements.specs.Items.{Fault}
use Rattle.statements.specs.declared.Pair.{Pair}
use Rattle.tables.specs.Tables.{TruthTable}
use Rattle.lookup.specs.StuckPairs.{pair_value, OfInputs}
use Rattle.lookup.specs.TableRows.{stuck_row_number, bridge_row, fault_row, table_row, table_rows}
use Rattle.lookup.specs.Steps.{pair_row}
use Rattle.lookup.proofs.StuckPairs.{bit-small}
use Rattle.lookup.proofs.PairRows.{pair_none, pair-some, stuck_row_steps, bridge-row-below, stuck-row-below}
use Rattle.lookup.proofs.RowsOfTables.{table-room}

-- bit i is kept, or the same whatever the row
abbrev pub Settled : (ℕ → ℕ) → ℕ → Type 0
Settled g i = ((x : ℕ) → bit (g x) i ≡ bit x i) ⊎ ((b : Bool) × ((x : ℕ) → bit (g x) i ≡ b))

after : (g h : ℕ → ℕ) (i : ℕ) → Settled g i → Settled h i → Settled (λ x. h (g x)) i
after g h i (inl p) (inl q) = inl (λ x. q (g x) ∙ p x)
after g h i (inr p) (inl q) = inr (p.0, λ x. q (g x) ∙ p.1 x)
after g h i p (inr q) = inr (q.0, λ x. q.1 (g x))

pair-settled : (s : Pair) (i : ℕ) → Settled (pair_row s) i
unfolding bit
pair-settled s i = none_or (eqb s.line 0) refl
  where
    replaces : (s.line ≡ 0 → ⊥) → (x : ℕ) → pair_row s x ≡ put (s.line - 1) (pair_value s) x
    replaces some x = pair-some s x some ∙ replaced-put (record { line = s.line; value = pair_value s }) (omega (arith, some)) x

    own-or : (s.line ≡ 0 → ⊥) → (b : Bool) → eqb i (s.line - 1) ≡ b → Settled (pair_row s) i
    own-or some true e =
        let own = eqb-true i (s.line - 1) e in
        inr (eqb (pair_value s) 1, λ x. ap₂ bit (replaces some x) own ∙ ap (λ (n : ℕ). eqb n 1) (put-shows (s.line - 1) (pair_value s) x (bit-small s.value)))
    own-or some false e =
        let other = eqb-false i (s.line - 1) e in
        inl (λ x. ap (λ (n : ℕ). bit n i) (replaces some x) ∙ ap (λ (n : ℕ). eqb n 1) (put_keeps (s.line - 1) (pair_value s) x (bit-small s.value) i other))

    none_or : (b : Bool) → eqb s.line 0 ≡ b → Settled (pair_row s) i
    none_or true e = inl (λ x. ap (λ (n : ℕ). bit n i) (pair_none s x (eqb-true s.line 0 e)))
    none_or false e = own-or (eqb-false s.line 0 e) (eqb i (s.line - 1)) refl

pub stuck-row-settled : (f : Fault) (i : ℕ) → Settled (stuck_row_number f) i
stuck-row-settled f i =
    same
    (after (λ x. pair_row f.second (pair_row f.first x)) (pair_row f.third) i
    (after (pair_row f.first) (pair_row f.second) i (pair-settled f.first i) (pair-settled f.second i)) (pair-settled f.third i))
  where
    same : Settled (λ x. pair_row f.third (pair_row f.second (pair_row f.first x))) i → Settled (stuck_row_number f) i
    same (inl p) = inl (λ x. ap (λ (n : ℕ). bit n i) (stuck_row_steps f x) ∙ p x)
    same (inr p) = inr (p.0, λ x. ap (λ (n : ℕ). bit n i) (stuck_row_steps f x) ∙ p.1 x)

-- of numbers that have no bit that `all` has not
masked : (g : ℕ → ℕ) → ((i : ℕ) → Settled g i) → (all x : ℕ) → bit_and x all ≡ x → bit_or (bit_and x (bit_xor (g all) (g 0))) (g 0) ≡ g x
unfolding xor
masked g settled all x inside = same-bits _ (g x) (λ i. parts i ∙ at i (settled i))
  where
    parts : (i : ℕ) → bit (bit_or (bit_and x (bit_xor (g all) (g 0))) (g 0)) i ≡ ((bit x i && xor (bit (g all) i) (bit (g 0) i)) || bit (g 0) i)
    parts i =
        bit-or (bit_and x (bit_xor (g all) (g 0))) (g 0) i
        ∙ ap (λ (b : Bool). b || bit (g 0) i) (bit-and x (bit_xor (g all) (g 0)) i ∙ ap (λ (b : Bool). bit x i && b) (bit-xor (g all) (g 0) i))

    kept : (a b : Bool) → ((a && xor b false) || false) ≡ (a && b)
    kept true true = refl
    kept true false = refl
    kept false b = refl

    fixed : (a b : Bool) → ((a && xor b b) || b) ≡ b
    fixed true true = refl
    fixed true false = refl
    fixed false b = refl

    at : (i : ℕ) → Settled g i → ((bit x i && xor (bit (g all) i) (bit (g 0) i)) || bit (g 0) i) ≡ bit (g x) i
    at i (inl p) =
        ap₂ (λ (a b : Bool). (bit x i && xor a b) || b) (p all) (p 0 ∙ bit-zero i)
        ∙ kept (bit x i) (bit all i)
        ∙ sym (bit-and x all i)
        ∙ ap (λ (n : ℕ). bit n i) inside
        ∙ sym (p x)
    at i (inr p) = ap₂ (λ (a b : Bool). (bit x i && xor a b) || b) (p.1 all) (p.1 0) ∙ fixed (bit x i) p.0 ∙ sym (p.1 x)

pub stuck-row-masked : (f : Fault) (x : ℕ) → x < 256
    → bit_or (bit_and x (bit_xor (stuck_row_number f 255) (stuck_row_number f 0))) (stuck_row_number f 0) ≡ stuck_row_number f x
stuck-row-masked f x small = masked (stuck_row_number f) (stuck-row-settled f) 255 x (and_mask x 8 ∙ mod-eq_of_lt small)

-- The code's masks.

-- the mark that the code looks up by row y
abbrev pub masked_mark : List ℕ → ℕ → ℕ → ℕ → ℤ
masked_mark marks set kept y = pos (get_or marks (bit_or (bit_and y kept) set) 0)

-- what it writes in row x
abbrev pub masked_row : List ℕ → Bridge → ℕ → ℕ → ℕ → ℤ
masked_row marks b set kept x = masked_mark marks set kept (bridge_row b x)

module _ (f : Fault) (set all : ℕ) (e : set ≡ stuck_row_number f 0) (g : all ≡ stuck_row_number f 255) where
  by-masks : (y : ℕ) → y < 256 → bit_or (bit_and y (bit_xor all set)) set ≡ stuck_row_number f y
  by-masks y small = ap₂ (λ (a b : ℕ). bit_or (bit_and y (bit_xor a b)) b) g e ∙ stuck-row-masked f y small

  pub masked_below : (inputs : ℕ) → inputs ≤ 8 → OfInputs inputs f → (y : ℕ) → y < 2 ^ inputs → bit_or (bit_and y (bit_xor all set)) set < 2 ^ inputs
  masked_below inputs few o y h =
      subst (λ (n : ℕ). n < 2 ^ inputs) (sym (by-masks y (omega (arith, table-room inputs few)))) (stuck-row-below inputs f y o h)

  module _ (t : TruthTable) (few : t.inputs ≤ 8) (o : OfInputs t.inputs f) where
    bridged-below : (x : ℕ) → x < 2 ^ t.inputs → bridge_row f.bridge x < 2 ^ t.inputs
    bridged-below x h = bridge-row-below f.bridge x t.inputs o.bridge-rises o.bridge-high h

    pub marks-there : length t.marks ≡ 2 ^ t.inputs → (x : ℕ) → x < 2 ^ t.inputs → bit_or (bit_and (bridge_row f.bridge x) (bit_xor all set)) set < length t.marks
    marks-there marks x h = omega (arith, masked_below t.inputs few o (bridge_row f.bridge x) (bridged-below x h), marks)

    pub masked-rows : tab (2 ^ t.inputs) (masked_row t.marks f.bridge set (bit_xor all set)) ≡ table_rows t f
    unfolding table_rows table_row fault_row
    masked-rows =
        tab-ext (2 ^ t.inputs) (masked_row t.marks f.bridge set (bit_xor all set)) (table_row t f)
        (λ x h. ap (λ (n : ℕ). pos (get_or t.marks n 0)) (by-masks (bridge_row f.bridge x) (omega (arith, table-room t.inputs few, bridged-below x h))))
