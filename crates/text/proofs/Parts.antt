-- Laws of the first b of a list and of fields:
--   index-le         the first b stands within the list or at its end
--   split-first      a list is what stands before its first b, that b, and what stands after it
--   cut-before, cut-after, cut_has, cut-none
--                    a scan from `at` that stops at e, the first b from there on: what it cuts off, what it leaves, whether there was a b
--   field-part, field-within    field k is the part of the list that starts at its index
--   only-field, first-separated    a list is its only field, or its first field, a comma, and what stands after it
--   three-fields     a list of three fields is these with commas between
--   no_field         where there is no field k it is the empty part at the list's end
--   span-within, span-field     the same for the two ends that `locate` hands back
--   fields_counted, index-hit, index-miss, index-end
--                    the same in the library's words: what a search from `from` on finds, and how many fields a count finds
--   rest-next, rest-past, rest-here    what one turn of the loop over commas shows
use mathlib.Core.Path.{◌≡◌, refl, sym, ap, ◌∙◌}
use mathlib.Core.Bool.{Bool, true, false, cond}
use mathlib.Core.List.{List, [], ◌∷◌, ◌++◌}
use Prim.Native.Nat.{ℕ, zero, suc, ◌+◌, ◌-◌, ◌<◌, ◌≤◌, zero-le}
use native.Mathlib.Nat.{lt_of_not-le}
use native.Mathlib.Decide.{dec_le}
use native.Mathlib.Numerals.{add-one}
use native.Mathlib.Omega.{arith}
use lib.ListN.{length, take, drop, get_or, length-drop, drop_of_length-le}
use lib.Seq.{drop-cons, drop-drop, length-take-le, take_all}
use lib.Dec.{eqb}
use borrow.Author.Tests.{eqb-true, eq-eqb, ne_eqb, lt-ltb, le-ltb}
use Rattle.std.proofs.lemmas.Grind.{common_steps}
use Rattle.std.specs.List.{count_by}
use Rattle.text.specs.Text.{comma, index_of, before, after, has_byte, field_of, field_start, field_count}

-- the list from i is the element at i and the list from i + 1
pub step : (l : List ℕ) (i : ℕ) → i < length l → drop i l ≡ get_or l i 0 ∷ drop (i + 1) l
step l i h = rw (add-one, drop-cons l i 0)

pub index-le : (b : ℕ) (l : List ℕ) → index_of b l ≤ length l
unfolding index_of
index-le b [] = zero-le
index-le b (x ∷ l) = by (eqb x b) (index-le b l)
  where
    by : (t : Bool) → index_of b l ≤ length l → cond t zero (suc (index_of b l)) ≤ suc (length l)
    by true h = zero-le
    by false h = omega arith

-- the library's word for how many fields there are
pub fields_counted : (l : List ℕ) → field_count l ≡ 1 + count_by (λ x. eqb x comma) l
unfolding field_count
fields_counted [] = refl
fields_counted (x ∷ l) = rw (fields_counted l) (grind (arith, common_steps))

pub split-first : (b : ℕ) (l : List ℕ) → index_of b l < length l → l ≡ before b l ++ (b ∷ after b l)
unfolding index_of before after
split-first b [] h = absurd (omega arith)
split-first b (x ∷ l) h = by (eqb x b) refl (split-first b l) h
  where
    by : (t : Bool) → eqb x b ≡ t → (index_of b l < length l → l ≡ take (index_of b l) l ++ (b ∷ drop (suc (index_of b l)) l))
        → cond t zero (suc (index_of b l)) < suc (length l)
        → x ∷ l ≡ take (cond t zero (suc (index_of b l))) (x ∷ l) ++ (b ∷ drop (suc (cond t zero (suc (index_of b l)))) (x ∷ l))
    by true e ih h = ap (λ (y : ℕ). y ∷ l) (eqb-true x b e)
    by false e ih h = ap (λ (m : List ℕ). x ∷ m) (ih (omega arith))

-- a scan for b that has come to i
module _ (b : ℕ) (l : List ℕ) (i : ℕ) where
  pub index-hit : i < length l → get_or l i 0 ≡ b → i + index_of b (drop i l) ≡ i
  unfolding index_of
  index-hit h e = rw (drop-cons l i 0, eq-eqb (get_or l i 0) b e) (omega arith)

  pub index-miss : i < length l → (get_or l i 0 ≡ b → ⊥) → i + index_of b (drop i l) ≡ (i + 1) + index_of b (drop (i + 1) l)
  unfolding index_of
  index-miss h e = rw (drop-cons l i 0, ne_eqb (get_or l i 0) b e, add-one i) (omega arith)

  pub index-end : length l ≤ i → i + index_of b (drop i l) ≡ i
  unfolding index_of
  index-end h = rw (drop_of_length-le l h) (omega arith)

-- a scan from `at` for b that stopped at e
module _ (b : ℕ) (text : List ℕ) (at e : ℕ) (cut : e ≡ at + index_of b (drop at text)) where
  pub cut-before : take (e - at) (drop at text) ≡ before b (drop at text)
  unfolding before
  cut-before = let m : e - at ≡ index_of b (drop at text) = omega arith in rw m

  pub cut-after : drop (e + 1) text ≡ after b (drop at text)
  unfolding after
  cut-after = let m : at + suc (index_of b (drop at text)) ≡ e + 1 = omega arith in rw (drop-drop, m)

  pub cut_inside : e < length text → index_of b (drop at text) < length (drop at text)
  cut_inside h = omega (arith, length-drop at text)

  pub cut-at-end : length text ≤ e → length (drop at text) ≤ index_of b (drop at text)
  cut-at-end h = omega (arith, length-drop at text)

  pub cut_has : e < length text → has_byte b (drop at text) ≡ true
  cut_has h = lt-ltb (index_of b (drop at text)) (length (drop at text)) (cut_inside h)

  pub cut-none : length text ≤ e → has_byte b (drop at text) ≡ false
  cut-none h = le-ltb (index_of b (drop at text)) (length (drop at text)) (cut-at-end h)

pub after_none : (b : ℕ) (l : List ℕ) → length l ≤ index_of b l → after b l ≡ []
unfolding after
after_none b l h = let m : length l ≤ suc (index_of b l) = omega arith in drop_of_length-le l m

pub field-nil : (k : ℕ) → field_of [] k ≡ []
unfolding field_of before after index_of
field-nil zero = refl
field-nil (suc k) = field-nil k

-- field k + 1 where there is a comma, and where there is none
module _ (l : List ℕ) (k : ℕ) where
  pub field-suc : field_of l (suc k) ≡ field_of (after comma l) k
  unfolding field_of
  field-suc = refl

  pub start-suc : index_of comma l < length l → field_start l (suc k) ≡ suc (index_of comma l) + field_start (after comma l) k
  unfolding field_start
  start-suc h = rw (lt-ltb (index_of comma l) (length l) h)

  pub start_none : length l ≤ index_of comma l → field_start l (suc k) ≡ length l
  unfolding field_start
  start_none h = rw (le-ltb (index_of comma l) (length l) h)

  pub field-none : length l ≤ index_of comma l → field_of l (suc k) ≡ []
  field-none h = rw (field-suc, after_none comma l h) (field-nil k)

  -- what starts there is the same, in the list and in the part after the comma
  pub drop-start : index_of comma l < length l → drop (field_start l (suc k)) l ≡ drop (field_start (after comma l) k) (after comma l)
  unfolding after
  drop-start h = rw (start-suc h, drop-drop)

pub length-after : (b : ℕ) (l : List ℕ) → length (after b l) ≡ length l - suc (index_of b l)
unfolding after
length-after b l = length-drop (suc (index_of b l)) l

pub length-first : (l : List ℕ) → length (field_of l zero) ≡ index_of comma l
unfolding field_of before
length-first l = length-take-le (index_of comma l) l (index-le comma l)

pub start_first : (l : List ℕ) → field_start l zero ≡ 0
unfolding field_start
start_first l = refl

pub first_part : (l : List ℕ) → field_of l zero ≡ take (index_of comma l) l
unfolding field_of before
first_part l = refl

pub field-part : (l : List ℕ) (k : ℕ) → field_of l k ≡ take (length (field_of l k)) (drop (field_start l k) l)
field-part l zero = rw (length-first, start_first, first_part)
field-part l (suc k) = by (field-part (after comma l) k) (dec_le (length l) (index_of comma l))
  where
    by : field_of (after comma l) k ≡ take (length (field_of (after comma l) k)) (drop (field_start (after comma l) k) (after comma l))
        → Dec (length l ≤ index_of comma l) → field_of l (suc k) ≡ take (length (field_of l (suc k))) (drop (field_start l (suc k)) l)
    by ih (yes h) = rw (field-none l k h)
    by ih (no h) = rw (field-suc, drop-start l k (lt_of_not-le h)) ih

pub field-within : (l : List ℕ) (k : ℕ) → field_start l k + length (field_of l k) ≤ length l
field-within l zero = omega (arith, length-first l, start_first l, index-le comma l)
field-within l (suc k) = by (field-within (after comma l) k) (dec_le (length l) (index_of comma l))
  where
    by : field_start (after comma l) k + length (field_of (after comma l) k) ≤ length (after comma l)
        → Dec (length l ≤ index_of comma l) → field_start l (suc k) + length (field_of l (suc k)) ≤ length l
    by ih (yes h) = rw (field-none l k h, start_none l k h) (omega arith)
    by ih (no h) = let m = lt_of_not-le h in rw (field-suc, start-suc l k m) (omega (arith, length-after comma l))

-- the part from a to e, where field k stands
module _ (l : List ℕ) (k a e : ℕ) (from : a ≡ field_start l k) (to : e ≡ field_start l k + length (field_of l k)) where
  pub span-within : e ≤ length l
  span-within = omega (arith, field-within l k)

  pub span-field : take (e - a) (drop a l) ≡ field_of l k
  span-field = let n : e - a ≡ length (field_of l k) = omega arith in rw (n, from) (sym (field-part l k))

-- one field at least, and one more than after the first comma
pub some-field : (l : List ℕ) → 1 ≤ field_count l
unfolding field_count
some-field [] = omega arith
some-field (x ∷ l) = by (eqb x comma) (some-field l)
  where
    by : (t : Bool) → 1 ≤ field_count l → 1 ≤ cond t (suc (field_count l)) (field_count l)
    by true h = omega arith
    by false h = h

pub count-suc : (l : List ℕ) → index_of comma l < length l → field_count l ≡ suc (field_count (after comma l))
unfolding field_count index_of after
count-suc [] h = absurd (omega arith)
count-suc (x ∷ l) h = by (eqb x comma) (count-suc l) h
  where
    by : (t : Bool) → (index_of comma l < length l → field_count l ≡ suc (field_count (drop (suc (index_of comma l)) l)))
        → cond t zero (suc (index_of comma l)) < suc (length l)
        → cond t (suc (field_count l)) (field_count l) ≡ suc (field_count (drop (suc (cond t zero (suc (index_of comma l)))) (x ∷ l)))
    by true ih h = refl
    by false ih h = ih (omega arith)

-- without a comma it is one field
one-count : (l : List ℕ) → length l ≤ index_of comma l → field_count l ≡ 1
unfolding field_count index_of
one-count [] h = refl
one-count (x ∷ l) h = by (eqb x comma) (one-count l) h
  where
    by : (t : Bool) → (length l ≤ index_of comma l → field_count l ≡ 1) → suc (length l) ≤ cond t zero (suc (index_of comma l))
        → cond t (suc (field_count l)) (field_count l) ≡ 1
    by true ih h = absurd (omega arith)
    by false ih h = ih (omega arith)

-- a list of one field, and one of more
module _ (l : List ℕ) where
  pub only-field : field_count l ≡ 1 → l ≡ field_of l 0
  unfolding field_of before
  only-field e = go (dec_le (length l) (index_of comma l))
    where
      go : Dec (length l ≤ index_of comma l) → l ≡ before comma l
      go (yes none) = sym (take_all (index_of comma l) l none)
      go (no some) = absurd (omega (arith, e, count-suc l (lt_of_not-le some), some-field (after comma l)))

  pub first-separated : 1 < field_count l → (field_count l ≡ suc (field_count (after comma l))) × (l ≡ field_of l 0 ++ (comma ∷ after comma l))
  unfolding field_of
  first-separated h = go (dec_le (length l) (index_of comma l))
    where
      go : Dec (length l ≤ index_of comma l) → (field_count l ≡ suc (field_count (after comma l))) × (l ≡ before comma l ++ (comma ∷ after comma l))
      go (yes none) = absurd (omega (arith, h, one-count l none))
      go (no some) = (count-suc l (lt_of_not-le some), split-first comma l (lt_of_not-le some))

pub three-fields : (l : List ℕ) → field_count l ≡ 3 → l ≡ field_of l 0 ++ (comma ∷ (field_of l 1 ++ (comma ∷ field_of l 2)))
unfolding field_of
three-fields l c =
    let p = first-separated l (omega (arith, c)) in
    let q = first-separated (after comma l) (omega (arith, c, p.0)) in
    let r = only-field (after comma (after comma l)) (omega (arith, c, p.0, q.0)) in
    p.1
    ∙ ap (λ (m : List ℕ). field_of l 0 ++ (comma ∷ m)) q.1
    ∙ ap (λ (m : List ℕ). field_of l 0 ++ (comma ∷ (field_of (after comma l) 0 ++ (comma ∷ m)))) r

pub no_field : (l : List ℕ) (k : ℕ) → field_count l ≤ k → (field_of l k ≡ []) × (field_start l k ≡ length l)
no_field l zero h = absurd (omega (arith, some-field l))
no_field l (suc k) h = by (no_field (after comma l) k) (dec_le (length l) (index_of comma l))
  where
    by : (field_count (after comma l) ≤ k → (field_of (after comma l) k ≡ []) × (field_start (after comma l) k ≡ length (after comma l)))
        → Dec (length l ≤ index_of comma l) → (field_of l (suc k) ≡ []) × (field_start l (suc k) ≡ length l)
    by ih (yes n) = (field-none l k n, start_none l k n)
    by ih (no n) =
        let m = lt_of_not-le n in
        let e = ih (omega (arith, count-suc l m)) in
        (field-suc l k ∙ e.0, start-suc l k m ∙ omega (arith, e.1, length-after comma l))

-- after i commas, the last just before a, field k of the list is field k - i of the rest from a
pub record Rest (l : List ℕ) (k i a : ℕ) : Type 0 where
  pub field : field_of l k ≡ field_of (drop a l) (k - i)
  pub start : field_start l k ≡ a + field_start (drop a l) (k - i)

one_less : {i k : ℕ} → i < k → k - i ≡ suc (k - (i + 1))
one_less h = omega arith

-- where field k stands, by the next comma from a, at e
module _ (l : List ℕ) (k i a e : ℕ) (rest : Rest l k i a) (cut : e ≡ a + index_of comma (drop a l)) where
  pub rest-next : i < k → e < length l → Rest l k (i + 1) (e + 1)
  rest-next h m =
      let n = one_less h in
      let w = cut_inside comma l a e cut m in
      let t = start-suc (drop a l) (k - (i + 1)) w in
      record {
        field = rest.field ∙ rw (n, field-suc, cut-after comma l a e cut);
        start = rest.start ∙ rw (n, cut-after comma l a e cut) (omega arith);
      }

  pub rest-past : i < k → a ≤ length l → length l ≤ e → (length l ≡ field_start l k) × (length l ≡ field_start l k + length (field_of l k))
  rest-past h m z =
      let n = one_less h in
      let w = cut-at-end comma l a e cut z in
      let s : field_start l k ≡ length l = rest.start ∙ rw n (omega (arith, start_none (drop a l) (k - (i + 1)) w, length-drop a l)) in
      let f : field_of l k ≡ [] = rest.field ∙ rw n (field-none (drop a l) (k - (i + 1)) w) in
      (sym s, rw f (omega arith))

  pub rest-here : k ≤ i → (a ≡ field_start l k) × (e ≡ field_start l k + length (field_of l k))
  rest-here h =
      let n : k - i ≡ zero = omega arith in
      let s : field_start l k ≡ a = rest.start ∙ rw n (omega (arith, start_first (drop a l))) in
      let f : length (field_of l k) ≡ index_of comma (drop a l) = ap length rest.field ∙ rw n (length-first (drop a l)) in
      (sym s, omega arith)
