-- The words of the kinds:
--   kind-written    the word that a kind is written as is read as that kind
--   kind-only       no other word is that of a kind
--   unknown, counted_as_not    a word that is spelt like none of them is no kind's, and counts as `not`
-- and which of them is `not`:
--   is_not, other-kind    every kind but `not` is another one
use mathlib.Core.Path.{◌≡◌, refl, sym, ap, ◌∙◌}
use mathlib.Core.Bool.{Bool, true, false, cond, ◌||◌, false≢true}
use mathlib.Core.List.{List}
use Prim.Native.Nat.{ℕ, ◌≤◌}
use native.Mathlib.Omega.{arith}
use lib.ListN.{length, get_or}
use Rattle.text.specs.Text.{comma, line_end, index_of, same_bytes}
use Rattle.text.proofs.Words.{same-equal}
use Rattle.writing.proofs.LineFields.{Lacks}
use Rattle.kinds.specs.Kinds.{and_word, or_word, nand_word, nor_word, xor_word, xnor_word, not_word, kind_word, is_kind, kind_of}
use Rattle.kinds.specs.declared.Kind.{Kind}
use Rattle.kinds.specs.declared.Kind.TheVariants.{And, Or, Nand, Nor, Xor, Xnor, Not}

pub record KindWritten (k : Kind) : Type 0 where
  pub known : is_kind (kind_word k) ≡ true
  pub read : kind_of (kind_word k) ≡ k
  pub one_field : Lacks comma (kind_word k)
  pub one_line : Lacks line_end (kind_word k)
  pub short : length (kind_word k) ≤ 4

pub kind-written : (k : Kind) → KindWritten k
unfolding kind_word is_kind kind_of same_bytes index_of
kind-written And = record { known = refl; read = refl; one_field = refl; one_line = refl; short = omega arith }
kind-written Or = record { known = refl; read = refl; one_field = refl; one_line = refl; short = omega arith }
kind-written Nand = record { known = refl; read = refl; one_field = refl; one_line = refl; short = omega arith }
kind-written Nor = record { known = refl; read = refl; one_field = refl; one_line = refl; short = omega arith }
kind-written Xor = record { known = refl; read = refl; one_field = refl; one_line = refl; short = omega arith }
kind-written Xnor = record { known = refl; read = refl; one_field = refl; one_line = refl; short = omega arith }
kind-written Not = record { known = refl; read = refl; one_field = refl; one_line = refl; short = omega arith }

pub kind-only : (w : List ℕ) → is_kind w ≡ true → w ≡ kind_word (kind_of w)
unfolding is_kind kind_of kind_word
kind-only w e =
    go (same_bytes w and_word) (same_bytes w or_word) (same_bytes w nand_word) (same_bytes w nor_word) (same_bytes w xor_word) (same_bytes w xnor_word)
    (same-equal w and_word) (same-equal w or_word) (same-equal w nand_word) (same-equal w nor_word) (same-equal w xor_word) (same-equal w xnor_word) (same-equal w not_word) e
  where
    go : (a b c d f g : Bool) {h : Bool} → (a ≡ true → w ≡ and_word) → (b ≡ true → w ≡ or_word) → (c ≡ true → w ≡ nand_word) → (d ≡ true → w ≡ nor_word)
        → (f ≡ true → w ≡ xor_word) → (g ≡ true → w ≡ xnor_word) → (h ≡ true → w ≡ not_word) → (a || b || c || d || f || g || h) ≡ true
        → w ≡ kind_word (cond a And (cond b Or (cond c Nand (cond d Nor (cond f Xor (cond g Xnor Not))))))
    go true b c d f g p q r s t u v e = p refl
    go false true c d f g p q r s t u v e = q refl
    go false false true d f g p q r s t u v e = r refl
    go false false false true f g p q r s t u v e = s refl
    go false false false false true g p q r s t u v e = t refl
    go false false false false false true p q r s t u v e = u refl
    go false false false false false false p q r s t u v e = v e

-- by its length and by its bytes
abbrev Unspelt : List ℕ → List ℕ → Type 0
Unspelt w p = length w ≡ length p → get_or w 0 0 ≡ get_or p 0 0 → get_or w 1 0 ≡ get_or p 1 0 → get_or w 2 0 ≡ get_or p 2 0 → get_or w 3 0 ≡ get_or p 3 0 → ⊥

unlike : (w p : List ℕ) → Unspelt w p → same_bytes w p ≡ false
unlike w p h = go (same_bytes w p) refl
  where
    go : (b : Bool) → same_bytes w p ≡ b → same_bytes w p ≡ false
    go true e =
        let is = same-equal w p e in
        absurd (h (ap length is) (ap (λ (l : List ℕ). get_or l 0 0) is) (ap (λ (l : List ℕ). get_or l 1 0) is) (ap (λ (l : List ℕ). get_or l 2 0) is) (ap (λ (l : List ℕ). get_or l 3 0) is))
    go false e = e

module _ (w : List ℕ) (p : Unspelt w and_word) (q : Unspelt w or_word) (r : Unspelt w nand_word) (s : Unspelt w nor_word) (t : Unspelt w xor_word) (u : Unspelt w xnor_word) (v : Unspelt w not_word) where
  pub unknown : false ≡ is_kind w
  unfolding is_kind
  unknown = rw (unlike w and_word p, unlike w or_word q, unlike w nand_word r, unlike w nor_word s, unlike w xor_word t, unlike w xnor_word u, unlike w not_word v)

  pub counted_as_not : Not ≡ kind_of w
  unfolding kind_of
  counted_as_not = rw (unlike w and_word p, unlike w or_word q, unlike w nand_word r, unlike w nor_word s, unlike w xor_word t, unlike w xnor_word u)

abbrev pub is_not : Kind → Bool
is_not And = false
is_not Or = false
is_not Nand = false
is_not Nor = false
is_not Xor = false
is_not Xnor = false
is_not Not = true

pub other-kind : {kind : Kind} → is_not kind ≡ false → kind ≡ Not → ⊥
other-kind f e = false≢true (sym f ∙ ap is_not e)
