-- A line is its fields joined by commas, and a number in it the decimal of its value:
--   values_from                           the values of the fields from k on
--   values-small, values-count           they are below 10,000, and so many
--   field-written, signed-written        a field that is a number, without and with a sign, is that number as it is written
--   end-added                            a line of a word and numbers, with the byte that ends it
--   line-joined, line-ended              a line of a word and numbers is that word and those numbers as they are written
--   two-words-joined, two-words-ended    the same where a second word stands before the numbers
--   line-form                            exactly those lines have that form
--   word-is                              a line's word is its first field
use mathlib.Core.Path.{◌≡◌, refl, sym, ap, ap₂, ◌∙◌, subst}
use mathlib.Core.Bool.{true, ◌&&◌}
use mathlib.Core.List.{List, [], ◌∷◌, ◌++◌, append_assoc, map}
use mathlib.Core.Logic.{◌↔◌}
use Prim.Native.Nat.{ℕ, zero, suc, ◌-◌, ◌<◌}
use native.Mathlib.Omega.{arith}
use lib.Dec.{eqb}
use lib.IntN.{ℤ, pos, nat_abs}
use lib.ListN.{length}
use borrow.Author.Tests.{eqb-true}
use Rattle.text.specs.Text.{comma, line_end, after, field_of, field_count, same_bytes, number_of, signed_number_of}
use Rattle.std.specs.Prelude.{Option, Some, None, is_some, unwrap_or}
use Rattle.integer.proofs.Bools.{both, clash}
use Rattle.text.proofs.Decimals.{number-le}
use Rattle.text.proofs.Parts.{only-field, first-separated}
use Rattle.text.proofs.Words.{same-equal}
use Rattle.writing.specs.Writing.{Small, integer_of, numbers_of, line_of}
use Rattle.writing.proofs.LineFields.{Lacks, no-numbers, numbers-cons}
use Rattle.writing.proofs.ReadBack.{number-only, signed-only}
use Rattle.writing.proofs.Writings.{natural-written}
use Rattle.fields.specs.Fields.{is_number, number_value, value_at, signed_value_at, numbers_from, is_line}
use Rattle.fields.proofs.PlainLines.{plain-line}

-- the values of the `count` fields from k on
abbrev pub values_from : List ℕ → ℕ → ℕ → List ℕ
values_from l k zero = []
values_from l k (suc count) = value_at l k ∷ values_from l (suc k) count

pub values-small : (l : List ℕ) (k count : ℕ) → Small (values_from l k count)
unfolding value_at
values-small l k zero = tt
values-small l k (suc count) = (small (number_of (field_of l k)) refl, values-small l (suc k) count)
  where
    small : (n : Option ℕ) → number_of (field_of l k) ≡ n → number_value n < 10000
    small (Some v) e = omega (arith, number-le (field_of l k) v e)
    small None e = omega arith

pub values-count : (l : List ℕ) (k count : ℕ) → length (values_from l k count) ≡ count
values-count l k zero = refl
values-count l k (suc count) = ap suc (values-count l (suc k) count)

-- a field that is a number
pub field-written : (l : List ℕ) (k : ℕ) → is_number (number_of (field_of l k)) ≡ true → field_of l k ≡ integer_of (pos (value_at l k))
unfolding value_at
field-written l k e = go (number_of (field_of l k)) refl e
  where
    go : (n : Option ℕ) → number_of (field_of l k) ≡ n → is_number n ≡ true → field_of l k ≡ integer_of (pos (number_value n))
    go (Some v) q h = number-only (field_of l k) v q ∙ sym (natural-written v)
    go None q h = clash (sym h)

pub signed-written : (l : List ℕ) (k : ℕ) → is_some (signed_number_of (field_of l k)) ≡ true
    → (field_of l k ≡ integer_of (signed_value_at l k)) × (nat_abs (signed_value_at l k) < 10000)
unfolding signed_value_at
signed-written l k e = go (signed_number_of (field_of l k)) refl e
  where
    go : (z : Option ℤ) → signed_number_of (field_of l k) ≡ z → is_some z ≡ true → (field_of l k ≡ integer_of (unwrap_or z (pos 0))) × (nat_abs (unwrap_or z (pos 0)) < 10000)
    go (Some z) q h = signed-only (field_of l k) z q
    go None q h = clash (sym h)

-- the fields after the first comma
module _ (l : List ℕ) where
  numbers_after : (k count : ℕ) → numbers_from l (suc k) count ≡ numbers_from (after comma l) k count
  unfolding numbers_from field_of
  numbers_after k zero = refl
  numbers_after k (suc count) = rw (numbers_after (suc k) count)

  values-after : (k count : ℕ) → values_from l (suc k) count ≡ values_from (after comma l) k count
  unfolding value_at field_of
  values-after k zero = refl
  values-after k (suc count) = ap (λ (ns : List ℕ). value_at l (suc k) ∷ ns) (values-after (suc k) count)

-- a first field and k numbers
abbrev Joined : ℕ → List ℕ → Type 0
Joined k l = field_count l ≡ suc k → numbers_from l 1 k ≡ true → l ≡ field_of l 0 ++ numbers_of (map pos (values_from l 1 k))

two-words-first : (k : ℕ) (l : List ℕ) → Joined k (after comma l) → field_count l ≡ suc (suc k) → numbers_from l 2 k ≡ true
    → l ≡ field_of l 0 ++ (comma ∷ (field_of l 1 ++ numbers_of (map pos (values_from l 2 k))))
unfolding field_of
two-words-first k l joined c e =
    let p = first-separated l (omega (arith, c)) in
    p.1
    ∙ ap (λ (m : List ℕ). field_of l 0 ++ (comma ∷ m)) (joined (omega (arith, c, p.0)) (sym (numbers_after l 1 k) ∙ e))
    ∙ ap (λ (ns : List ℕ). field_of l 0 ++ (comma ∷ (field_of l 1 ++ numbers_of (map pos ns)))) (sym (values-after l 1 k))

joined : (k : ℕ) (l : List ℕ) → Joined k l
unfolding numbers_from
joined zero l c e = only-field l c ∙ sym (no-numbers (field_of l 0))
joined (suc k) l c e =
    let b = both (is_number (number_of (field_of l 1))) (numbers_from l 2 k) e in
    two-words-first k l (joined k (after comma l)) c b.1
    ∙ ap (λ (m : List ℕ). field_of l 0 ++ m) (ap (λ (f : List ℕ). comma ∷ (f ++ numbers_of (map pos (values_from l 2 k)))) (field-written l 1 b.0) ∙ sym (numbers-cons (pos (value_at l 1)) (map pos (values_from l 2 k))))

-- with the byte that ends it
pub end-added : (l word : List ℕ) (numbers : List ℤ) → l ≡ word ++ numbers_of numbers → l ++ (line_end ∷ []) ≡ line_of word numbers
unfolding line_of
end-added l word numbers e = ap (λ (m : List ℕ). m ++ (line_end ∷ [])) e ∙ append_assoc word (numbers_of numbers) (line_end ∷ [])

-- of a line whose numbers stand from field `from` on
pub word-is : (l word : List ℕ) (from fields : ℕ) → is_line l word from fields ≡ true → field_of l 0 ≡ word
unfolding is_line
word-is l word from fields e =
    let a = both (eqb (field_count l) fields && same_bytes (field_of l 0) word) _ e in
    same-equal (field_of l 0) word (both (eqb (field_count l) fields) (same_bytes (field_of l 0) word) a.0).1

module _ (l word : List ℕ) (k : ℕ) where
  -- what the tests of a line show that has k numbers from field `from` on
  formed : (from fields : ℕ) → fields - from ≡ k → is_line l word from fields ≡ true → (field_count l ≡ fields) × (field_of l 0 ≡ word) × (numbers_from l from k ≡ true)
  unfolding is_line
  formed from fields z e =
      let a = both (eqb (field_count l) fields && same_bytes (field_of l 0) word) (numbers_from l from (fields - from)) e in
      let b = both (eqb (field_count l) fields) (same_bytes (field_of l 0) word) a.0 in
      (eqb-true (field_count l) fields b.0, word-is l word from fields e, subst (λ (c : ℕ). numbers_from l from c ≡ true) z a.1)

  module _ (e : is_line l word 1 (suc k) ≡ true) where
    pub line-joined : l ≡ word ++ numbers_of (map pos (values_from l 1 k))
    line-joined =
        let f = formed 1 (suc k) (omega arith) e in
        joined k l f.0 f.2 ∙ ap (λ (w : List ℕ). w ++ numbers_of (map pos (values_from l 1 k))) f.1

    pub line-ended : l ++ (line_end ∷ []) ≡ line_of word (map pos (values_from l 1 k))
    line-ended = end-added l word (map pos (values_from l 1 k)) line-joined

  module _ (e : is_line l word 2 (suc (suc k)) ≡ true) where
    pub two-words-joined : l ≡ (word ++ (comma ∷ field_of l 1)) ++ numbers_of (map pos (values_from l 2 k))
    two-words-joined =
        let f = formed 2 (suc (suc k)) (omega arith) e in
        two-words-first k l (joined k (after comma l)) f.0 f.2
        ∙ ap (λ (w : List ℕ). w ++ (comma ∷ (field_of l 1 ++ numbers_of (map pos (values_from l 2 k))))) f.1
        ∙ sym (append_assoc word (comma ∷ field_of l 1) (numbers_of (map pos (values_from l 2 k))))

    pub two-words-ended : l ++ (line_end ∷ []) ≡ line_of (word ++ (comma ∷ field_of l 1)) (map pos (values_from l 2 k))
    two-words-ended = end-added l (word ++ (comma ∷ field_of l 1)) (map pos (values_from l 2 k)) two-words-joined

  pub line-form : Lacks comma word → (is_line l word 1 (suc k) ≡ true) ↔ ((ns : List ℕ) × Small ns × (length ns ≡ k) × (l ≡ word ++ numbers_of (map pos ns)))
  line-form lacks = (
    λ e. (values_from l 1 k, values-small l 1 k, values-count l 1 k, line-joined e),
    λ t. ap₂ (λ (m : List ℕ) (c : ℕ). is_line m word 1 (suc c)) t.3 (sym t.2) ∙ plain-line word t.0 t.1 lacks,
  )
