-- A line that was written, as it is read:
--   line-has, line_before, line_after       in front of a rest it is cut off at its end: no 0A stands inside
--   word-field, number-field, line-count    its fields: the word, where that has no comma, then each number; how many there are
--   next_field, next-count                  the fields after a word and a comma
--   natural-read                            a natural number below 10,000 is read as itself
--   AtMost, most-small, line-longest        numbers that are at most some others: below 10,000 where those are, and a line of them is no longer
--   gather-cons                             texts one after the other, by the first of them
use mathlib.Core.Path.{◌≡◌, refl, sym, ap, ◌∙◌}
use mathlib.Core.Bool.{Bool, true, false, cond, ◌&&◌}
use mathlib.Core.List.{List, [], ◌∷◌, ◌++◌, append_assoc, append-nil, map}
use Prim.Native.Nat.{ℕ, zero, suc, ◌+◌, ◌<◌, ◌≤◌}
use native.Mathlib.Omega.{arith}
use lib.Dec.{eqb, leb, ltb}
use lib.IntN.{ℤ, pos, nat_abs}
use lib.ListN.{length, drop, get_or, length-append, length-map, get_or-map}
use lib.Seq.{take-append_seam, take-length, drop-append-add}
use lib.Signed.{lt_z}
use borrow.Author.Tests.{lt-ltb, eq-eqb, ne_eqb, leb-true, ltb-false}
use Rattle.integer.proofs.Bools.{both, neither}
use Rattle.integer.specs.ListTests.{any}
use Rattle.integer.specs.Tab.{nth}
use Rattle.text.specs.Text.{comma, line_end, index_of, before, after, has_byte, field_of, field_count, digits, number_of, minus_sign}
use Rattle.std.specs.Prelude.{Some}
use Rattle.writing.specs.Writing.{Small, decimal_of, integer_of, gather, number_field, numbers_of, line_of}
use Rattle.writing.proofs.ReadBack.{digits-only, read_back, decimal-rises}
use Rattle.writing.proofs.Writings.{natural-written, line-long}

-- ---- texts without some byte

-- no b is in the text
abbrev pub Lacks : ℕ → List ℕ → Type 0
Lacks b l = index_of b l ≡ length l

pub index-after : (b : ℕ) (l rest : List ℕ) → Lacks b l → index_of b (l ++ rest) ≡ length l + index_of b rest
unfolding index_of
index-after b [] rest e = omega arith
index-after b (x ∷ l) rest e = by (eqb x b) (index-after b l rest) e
  where
    by : (t : Bool) → (Lacks b l → index_of b (l ++ rest) ≡ length l + index_of b rest) → cond t zero (suc (index_of b l)) ≡ suc (length l)
        → cond t zero (suc (index_of b (l ++ rest))) ≡ suc (length l) + index_of b rest
    by true ih k = absurd (omega arith)
    by false ih k = omega (arith, ih (omega arith))

pub lacks-append : (b : ℕ) (l m : List ℕ) → Lacks b l → Lacks b m → Lacks b (l ++ m)
lacks-append b l m e f = omega (arith, index-after b l m e, length-append l m)

-- up to the first b and after it
module _ (b : ℕ) (l rest : List ℕ) (lacks : Lacks b l) where
  index-first : index_of b (l ++ (b ∷ rest)) ≡ length l
  unfolding index_of
  index-first = index-after b l (b ∷ rest) lacks ∙ rw (eq-eqb b b refl) (omega arith)

  pub has_first : has_byte b (l ++ (b ∷ rest)) ≡ true
  has_first = lt-ltb (index_of b (l ++ (b ∷ rest))) (length (l ++ (b ∷ rest))) (omega (arith, index-first, length-append l (b ∷ rest)))

  pub before-first : before b (l ++ (b ∷ rest)) ≡ l
  unfolding before
  before-first = rw index-first (take-append_seam l (b ∷ rest))

  pub after_first : after b (l ++ (b ∷ rest)) ≡ rest
  unfolding after
  after_first = rw index-first (ap (λ (k : ℕ). drop k (l ++ (b ∷ rest))) (next (length l)) ∙ drop-append-add l (b ∷ rest) 1)
    where
      next : (n : ℕ) → suc n ≡ n + 1
      next n = omega arith

before-none : (b : ℕ) (l : List ℕ) → Lacks b l → before b l ≡ l
unfolding before
before-none b l e = rw e (take-length l)

-- digits and the sign are above both separators
lacks-digits : (b : ℕ) (l : List ℕ) → b < 48 → digits l ≡ true → Lacks b l
unfolding index_of digits
lacks-digits b [] h e = refl
lacks-digits b (x ∷ l) h e =
    let d = both (leb 48 x && leb x 57) (digits l) e in
    let low = leb-true 48 x (both (leb 48 x) (leb x 57) d.0).0 in
    rw (ne_eqb x b (λ q. omega arith)) (ap suc (lacks-digits b l h d.1))

lacks-integer : (b : ℕ) (z : ℤ) → b < minus_sign → Lacks b (integer_of z)
unfolding integer_of index_of
lacks-integer b z h = by (lt_z z (pos 0)) (lacks-digits b (decimal_of (nat_abs z)) (omega arith) (digits-only (nat_abs z)))
  where
    by : (t : Bool) → Lacks b (decimal_of (nat_abs z)) → Lacks b (cond t (minus_sign ∷ decimal_of (nat_abs z)) (decimal_of (nat_abs z)))
    by true e = rw (ne_eqb minus_sign b (λ q. omega arith)) (ap suc e)
    by false e = e

-- ---- texts one after the other

pub gather-cons : (f : ℕ → List ℕ) (n : ℕ) → gather f (suc n) ≡ f 0 ++ gather (λ i. f (suc i)) n
unfolding gather
gather-cons f zero = sym (append-nil (f 0))
gather-cons f (suc n) = ap (λ (l : List ℕ). l ++ f (suc n)) (gather-cons f n) ∙ append_assoc (f 0) (gather (λ i. f (suc i)) n) (f (suc n))

lacks-gather : (b : ℕ) (f : ℕ → List ℕ) (n : ℕ) → ((i : ℕ) → Lacks b (f i)) → Lacks b (gather f n)
unfolding gather index_of
lacks-gather b f zero h = refl
lacks-gather b f (suc n) h = lacks-append b (gather f n) (f n) (lacks-gather b f n h) (h n)

-- ---- the fields of a line

-- the fields after a first one
module _ (word rest : List ℕ) (lacks : Lacks comma word) where
  pub first_field : field_of (word ++ (comma ∷ rest)) 0 ≡ word
  unfolding field_of
  first_field = before-first comma word rest lacks

  pub next_field : (k : ℕ) → field_of (word ++ (comma ∷ rest)) (suc k) ≡ field_of rest k
  unfolding field_of
  next_field k = ap (λ (l : List ℕ). field_of l k) (after_first comma word rest lacks)

count-after : (l rest : List ℕ) → Lacks comma l → field_count (l ++ rest) ≡ field_count rest
unfolding index_of field_count
count-after [] rest e = refl
count-after (x ∷ l) rest e = by (eqb x comma) (count-after l rest) e
  where
    by : (t : Bool) → (Lacks comma l → field_count (l ++ rest) ≡ field_count rest) → cond t zero (suc (index_of comma l)) ≡ suc (length l)
        → cond t (suc (field_count (l ++ rest))) (field_count (l ++ rest)) ≡ field_count rest
    by true ih k = absurd (omega arith)
    by false ih k = ih (omega arith)

pub next-count : (word rest : List ℕ) → Lacks comma word → field_count (word ++ (comma ∷ rest)) ≡ suc (field_count rest)
unfolding field_count
next-count word rest lacks = count-after word (comma ∷ rest) lacks

pub numbers-cons : (z : ℤ) (numbers : List ℤ) → numbers_of (z ∷ numbers) ≡ comma ∷ (integer_of z ++ numbers_of numbers)
unfolding numbers_of number_field
numbers-cons z numbers = gather-cons (number_field (z ∷ numbers)) (length numbers)

pub no-numbers : (word : List ℕ) → word ++ numbers_of [] ≡ word
unfolding numbers_of gather
no-numbers word = append-nil word

lacks-comma : (z : ℤ) → Lacks comma (integer_of z)
lacks-comma z = lacks-integer comma z (omega arith)

-- a line without its end
pub word-field : (word : List ℕ) (numbers : List ℤ) → Lacks comma word → field_of (word ++ numbers_of numbers) 0 ≡ word
unfolding field_of
word-field word [] lacks = rw (no-numbers word) (before-none comma word lacks)
word-field word (z ∷ numbers) lacks = rw (numbers-cons z numbers) (before-first comma word (integer_of z ++ numbers_of numbers) lacks)

pub number-field : (word : List ℕ) (numbers : List ℤ) (k : ℕ) → Lacks comma word → k < length numbers
    → field_of (word ++ numbers_of numbers) (suc k) ≡ integer_of (nth numbers k)
number-field word [] k lacks h = absurd (omega arith)
number-field word (z ∷ numbers) zero lacks h = rw (numbers-cons z numbers, next_field word (integer_of z ++ numbers_of numbers) lacks 0) (word-field (integer_of z) numbers (lacks-comma z))
number-field word (z ∷ numbers) (suc k) lacks h =
    rw (numbers-cons z numbers, next_field word (integer_of z ++ numbers_of numbers) lacks (suc k)) (number-field (integer_of z) numbers k (lacks-comma z) (omega arith))

pub line-count : (word : List ℕ) (numbers : List ℤ) → Lacks comma word → field_count (word ++ numbers_of numbers) ≡ suc (length numbers)
unfolding field_count numbers_of gather
line-count word [] lacks = count-after word [] lacks
line-count word (z ∷ numbers) lacks =
    rw (numbers-cons z numbers, next-count word (integer_of z ++ numbers_of numbers) lacks) (ap suc (line-count (integer_of z) numbers (lacks-comma z)))

-- ---- the end of a line

lacks-end : (word : List ℕ) (numbers : List ℤ) → Lacks line_end word → Lacks line_end (word ++ numbers_of numbers)
unfolding numbers_of number_field index_of
lacks-end word numbers lacks = lacks-append line_end word (numbers_of numbers) lacks (lacks-gather line_end (number_field numbers) (length numbers) each)
  where
    each : (i : ℕ) → Lacks line_end (number_field numbers i)
    each i = ap suc (lacks-integer line_end (nth numbers i) (omega arith))

line-split : (word : List ℕ) (numbers : List ℤ) (rest : List ℕ) → line_of word numbers ++ rest ≡ (word ++ numbers_of numbers) ++ (line_end ∷ rest)
unfolding line_of
line-split word numbers rest =
    append_assoc word (numbers_of numbers ++ (line_end ∷ [])) rest
    ∙ ap (λ (l : List ℕ). word ++ l) (append_assoc (numbers_of numbers) (line_end ∷ []) rest)
    ∙ sym (append_assoc word (numbers_of numbers) (line_end ∷ rest))

module _ (word : List ℕ) (numbers : List ℤ) (rest : List ℕ) (lacks : Lacks line_end word) where
  pub line-has : has_byte line_end (line_of word numbers ++ rest) ≡ true
  line-has = rw (line-split word numbers rest) (has_first line_end (word ++ numbers_of numbers) rest (lacks-end word numbers lacks))

  pub line_before : before line_end (line_of word numbers ++ rest) ≡ word ++ numbers_of numbers
  line_before = rw (line-split word numbers rest) (before-first line_end (word ++ numbers_of numbers) rest (lacks-end word numbers lacks))

  pub line_after : after line_end (line_of word numbers ++ rest) ≡ rest
  line_after = rw (line-split word numbers rest) (after_first line_end (word ++ numbers_of numbers) rest (lacks-end word numbers lacks))

-- ---- natural numbers of at most four digits

pub natural-read : (n : ℕ) → n < 10000 → number_of (integer_of (pos n)) ≡ Some n
natural-read n h = ap number_of (natural-written n) ∙ read_back n h

small_at : (ns : List ℕ) → Small ns → (k : ℕ) → k < length ns → get_or ns k 0 < 10000
small_at [] s k h = absurd (omega arith)
small_at (n ∷ ns) s zero h = s.0
small_at (n ∷ ns) s (suc k) h = small_at ns s.1 k (omega arith)

module _ (word : List ℕ) (ns : List ℕ) (small : Small ns) where
  number_at : (k : ℕ) → nth (map pos ns) k ≡ pos (get_or ns k 0)
  number_at k = get_or-map pos ns k 0

  pub natural-field : (k : ℕ) → Lacks comma word → k < length ns → number_of (field_of (word ++ numbers_of (map pos ns)) (suc k)) ≡ Some (get_or ns k 0)
  natural-field k lacks h =
      ap number_of (number-field word (map pos ns) k lacks (omega (arith, length-map ns pos)) ∙ ap integer_of (number_at k))
      ∙ natural-read (get_or ns k 0) (small_at ns small k h)

-- no more numbers than in `most`, each at most the one at its place
abbrev pub AtMost : List ℕ → List ℕ → Type 0
AtMost most [] = Unit
AtMost [] (n ∷ ns) = ⊥
AtMost (m ∷ most) (n ∷ ns) = (n ≤ m) × AtMost most ns

pub most-small : (most ns : List ℕ) → any (ltb 9999) most ≡ false → AtMost most ns → Small ns
unfolding any
most-small most [] s h = tt
most-small [] (n ∷ ns) s h = absurd h
most-small (m ∷ most) (n ∷ ns) s h =
    let b = neither (ltb 9999 m) (any (ltb 9999) most) s in
    (omega (arith, ltb-false 9999 m b.0, h.0), most-small most ns b.1 h.1)

numbers-longest : (most ns : List ℕ) → AtMost most ns → length (numbers_of (map pos ns)) ≤ length (numbers_of (map pos most))
numbers-longest most [] h = omega (arith, ap length (no-numbers []))
numbers-longest [] (n ∷ ns) h = absurd h
numbers-longest (m ∷ most) (n ∷ ns) h =
    omega (
      arith,
      long n ns,
      long m most,
      decimal-rises n m h.0,
      numbers-longest most ns h.1,
    )
  where
    long : (n : ℕ) (ns : List ℕ) → length (numbers_of (map pos (n ∷ ns))) ≡ length (decimal_of n) + length (numbers_of (map pos ns)) + 1
    long n ns = omega (arith, ap length (numbers-cons (pos n) (map pos ns)), length-append (integer_of (pos n)) (numbers_of (map pos ns)), ap length (natural-written n))

pub line-longest : (word most ns : List ℕ) → AtMost most ns → length (line_of word (map pos ns)) ≤ length (line_of word (map pos most))
line-longest word most ns h = omega (arith, line-long word (map pos ns), line-long word (map pos most), numbers-longest most ns h)
