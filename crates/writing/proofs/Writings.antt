-- What the writer leaves, and how long it is:
--   placed-join      what is placed after what was placed is placed with it
--   placed-turn      one byte more
--   decimal-one, decimal-more    a number by its last digit
--   decimals, integers, lines    what the proofs of `put_decimal`, `put_integer` and `put_line` use of these
--   decimal-length, integer-length    a number below 10^k has at most k digits
--   gather-length, gather-le, gather_ext    texts one after the other
--   none_written, text-more, all-written    writing them, one more at a time
--   line-one, line-two, line-three          how long a line is, by its numbers
use mathlib.Core.Path.{◌≡◌, refl, sym, ap, ap₂, ◌∙◌, subst}
use mathlib.Core.Bool.{Bool, true, false, cond}
use mathlib.Core.List.{List, [], ◌∷◌, ◌++◌, append_assoc}
use Prim.Native.Nat.{ℕ, zero, suc, ◌+◌, ◌-◌, ◌*◌, ◌/◌, ◌^◌, ◌<◌, ◌≤◌}
use native.Mathlib.Nat.{pow-suc, mul-le-mul, le_refl}
use native.Mathlib.Omega.{arith}
use lib.Dec.{ltb}
use lib.IntN.{ℤ, pos, nat_abs}
use lib.ListN.{length, take, drop, set, length-set, length-append, length-drop, take-append-drop}
use lib.Signed.{lt_z}
use lib.Seq.{length-take-le, drop-append-add, drop-drop, set_split, take_at}
use borrow.Author.Tests.{lt-ltb, le-ltb, ltb-true, ltb-false}
use Rattle.std.proofs.lemmas.Int.{to_z-of_z}
use Rattle.integer.specs.Tab.{nth}
use Rattle.text.specs.Text.{comma, line_end, minus_sign}
use Rattle.writing.specs.Writing.{placed, decimal_digit, decimal_to, decimal_of, integer_of, number_field, gather, numbers_of, line_of}

-- where what was placed ends
front : (at : ℕ) (new out : List ℕ) → at + length new ≤ length out → length (take at out ++ new) ≡ at + length new
front at new out h = length-append (take at out) new ∙ ap (λ (k : ℕ). k + length new) (length-take-le at out (omega (arith, h)))

placed-split : (at : ℕ) (new out : List ℕ) → placed at new out ≡ take at out ++ new ++ drop (at + length new) out
unfolding placed
placed-split at new out = sym (append_assoc (take at out) new (drop (at + length new) out))

pub length-placed : (at : ℕ) (new out : List ℕ) → at + length new ≤ length out → length (placed at new out) ≡ length out
length-placed at new out h =
    ap length (placed-split at new out)
    ∙ length-append (take at out ++ new) (drop (at + length new) out)
    ∙ ap (λ (k : ℕ). k + length (drop (at + length new) out)) (front at new out h)
    ∙ ap (λ (k : ℕ). at + length new + k) (length-drop (at + length new) out)
    ∙ back (at + length new) (length out) h
  where
    back : (k n : ℕ) → k ≤ n → k + (n - k) ≡ n
    back k n l = omega arith

pub placed-join : (at : ℕ) (a b out : List ℕ) → at + length a + length b ≤ length out → placed (at + length a) b (placed at a out) ≡ placed at (a ++ b) out
placed-join at a b out h =
    let fits : at + length a ≤ length out = omega (arith, h) in
    let rest = drop (at + length a) out in
    let wide : at + length (a ++ b) ≡ at + length a + length b = ap (λ (k : ℕ). at + k) (length-append a b) ∙ assoc at (length a) (length b) in
    ap (λ (l : List ℕ). placed (at + length a) b l) (placed-split at a out)
    ∙ placed-split (at + length a) b (take at out ++ a ++ rest)
    ∙ ap (λ (l : List ℕ). l ++ b ++ drop (at + length a + length b) (take at out ++ a ++ rest)) (take_at (take at out ++ a) rest (at + length a) (front at a out fits))
    ∙ ap (λ (l : List ℕ). take at out ++ a ++ b ++ l) (
    ap (λ (k : ℕ). drop (k + length b) (take at out ++ a ++ rest)) (sym (front at a out fits))
    ∙ drop-append-add (take at out ++ a) rest (length b)
    ∙ drop-drop (length b) (at + length a) out
    ∙ ap (λ (k : ℕ). drop k out) (sym wide))
    ∙ ap (λ (l : List ℕ). l ++ drop (at + length (a ++ b)) out) (append_assoc (take at out) a b)
    ∙ sym (placed-split at (a ++ b) out)
  where
    assoc : (x y z : ℕ) → x + (y + z) ≡ x + y + z
    assoc x y z = omega arith

pub placed-none : (at : ℕ) (out : List ℕ) → placed at [] out ≡ out
unfolding placed
placed-none at out = ap (λ (k : ℕ). take at out ++ drop k out) (none at) ∙ take-append-drop at out
  where
    none : (n : ℕ) → n + 0 ≡ n
    none n = omega arith

-- one byte
pub placed_one : (at b : ℕ) (out : List ℕ) → at < length out → set out at b ≡ placed at (b ∷ []) out
unfolding placed
placed_one at b out h = set_split out at b h ∙ ap (λ (k : ℕ). take at out ++ (b ∷ drop k out)) (next at)
  where
    next : (n : ℕ) → suc n ≡ n + 1
    next n = omega arith

-- one byte more
pub placed-turn : (at b : ℕ) (a out now : List ℕ) (end : ℕ) → now ≡ placed at a out → end ≡ at + length a → at + length a < length out
    → set now end b ≡ placed at (a ++ (b ∷ [])) out
placed-turn at b a out now end e f h =
    ap (λ (l : List ℕ). set l end b) e
    ∙ ap (λ (k : ℕ). set (placed at a out) k b) f
    ∙ placed_one (at + length a) b (placed at a out) (subst (λ (k : ℕ). at + length a < k) (sym (length-placed at a out (omega (arith, h)))) h)
    ∙ placed-join at a (b ∷ []) out (omega (arith, h))

-- a text more
pub placed-more : (at : ℕ) (a b out now : List ℕ) (end : ℕ) → now ≡ placed at a out → end ≡ at + length a → at + length a + length b ≤ length out
    → placed end b now ≡ placed at (a ++ b) out
placed-more at a b out now end e f h =
    ap (λ (l : List ℕ). placed end b l) e ∙ ap (λ (k : ℕ). placed k b (placed at a out)) f ∙ placed-join at a b out h

-- what is placed at the front
pub placed-front : (new out : List ℕ) → placed 0 new out ≡ new ++ drop (length new) out
unfolding placed
placed-front new out = ap (λ (k : ℕ). new ++ drop k out) (plain (length new))
  where
    plain : (n : ℕ) → 0 + n ≡ n
    plain n = omega arith

-- ---- numbers

pub tenth : (n k : ℕ) → 10 ≤ n → n < suc k → n / 10 < k
tenth n k l h = omega arith

-- `most` and `more` are both enough
enough : (most more n : ℕ) → n < most → n < more → decimal_to most n ≡ decimal_to more n
unfolding decimal_to
enough zero more n h k = absurd (omega arith)
enough (suc most) zero n h k = absurd (omega arith)
enough (suc most) (suc more) n h k = go (ltb n 10) refl (λ l. enough most more (n / 10) (tenth n most l h) (tenth n more l k))
  where
    go : (t : Bool) → ltb n 10 ≡ t → (10 ≤ n → decimal_to most (n / 10) ≡ decimal_to more (n / 10))
        → cond t (decimal_digit n ∷ []) (decimal_to most (n / 10) ++ (decimal_digit n ∷ [])) ≡ cond t (decimal_digit n ∷ []) (decimal_to more (n / 10) ++ (decimal_digit n ∷ []))
    go true e ih = refl
    go false e ih = ap (λ (l : List ℕ). l ++ (decimal_digit n ∷ [])) (ih (ltb-false n 10 e))

pub decimal-one : (n : ℕ) → n < 10 → decimal_of n ≡ decimal_digit n ∷ []
unfolding decimal_of decimal_to
decimal-one n h = rw (lt-ltb n 10 h)

pub decimal-more : (n : ℕ) → 10 ≤ n → decimal_of n ≡ decimal_of (n / 10) ++ (decimal_digit n ∷ [])
unfolding decimal_of decimal_to
decimal-more n h =
    ap (λ (t : Bool). cond t (decimal_digit n ∷ []) (decimal_to n (n / 10) ++ (decimal_digit n ∷ []))) (le-ltb n 10 h)
    ∙ ap (λ (l : List ℕ). l ++ (decimal_digit n ∷ [])) (enough n (suc (n / 10)) (n / 10) (omega arith) (omega arith))

-- writing a number: its only digit, or its last one after those of a tenth
module _ (at n : ℕ) (out : List ℕ) (fits : at + length (decimal_of n) ≤ length out) where
  pub one_written : n < 10 → set out at (decimal_digit n) ≡ placed at (decimal_of n) out
  one_written h =
      let room : at < length out = omega (arith, fits, ap length (decimal-one n h)) in
      placed_one at (decimal_digit n) out room ∙ ap (λ (l : List ℕ). placed at l out) (sym (decimal-one n h))

  pub last_written : 10 ≤ n → (now : List ℕ) (end : ℕ) → now ≡ placed at (decimal_of (n / 10)) out → end ≡ at + length (decimal_of (n / 10))
      → set now end (decimal_digit n) ≡ placed at (decimal_of n) out
  last_written h now end e f =
      let long = ap length (decimal-more n h) ∙ length-append (decimal_of (n / 10)) (decimal_digit n ∷ []) in
      placed-turn at (decimal_digit n) (decimal_of (n / 10)) out now end e f (omega (arith, long, fits)) ∙ ap (λ (l : List ℕ). placed at l out) (sym (decimal-more n h))

pub ruleset decimals = (decimal-one, decimal-more, one_written, last_written, length-append, length-placed)

-- a number below 10^k has at most k digits
pub decimal-length : (k n : ℕ) → n < 10 ^ suc k → length (decimal_of n) ≤ suc k
decimal-length zero n h = let e = ap length (decimal-one n h) in omega (arith, e)
decimal-length (suc k) n h = go (ltb n 10) refl (λ l. decimal-length k (n / 10) l)
  where
    go : (t : Bool) → ltb n 10 ≡ t → (n / 10 < 10 ^ suc k → length (decimal_of (n / 10)) ≤ suc k) → length (decimal_of n) ≤ suc (suc k)
    go true e ih = let a = ap length (decimal-one n (ltb-true n 10 e)) in omega (arith, a)
    go false e ih =
        let a = ap length (decimal-more n (ltb-false n 10 e)) ∙ length-append (decimal_of (n / 10)) (decimal_digit n ∷ []) in
        let p : 10 ^ suc (suc k) ≡ 10 ^ suc k * 10 = pow-suc 10 (suc k) in
        let b = ih (omega (arith, h, p)) in
        omega (arith, a, b)

pub unsigned : (m : ℕ) (z : ℤ) → m ≡ nat_abs z → lt_z z (pos 0) ≡ false → integer_of z ≡ decimal_of m
unfolding integer_of
unsigned m z size h = rw (h, size)

pub natural-written : (n : ℕ) → integer_of (pos n) ≡ decimal_of n
natural-written n = unsigned n (pos n) refl (le-ltb n 0 (omega arith))

pub signed-digits : (m : ℕ) (z : ℤ) → m ≡ nat_abs z → lt_z z (pos 0) ≡ true → integer_of z ≡ minus_sign ∷ decimal_of m
unfolding integer_of
signed-digits m z size h = rw (h, size)

-- a sign, then a size
pub signed_written : (at m : ℕ) (out : List ℕ) → at + 1 + length (decimal_of m) ≤ length out → placed (at + 1) (decimal_of m) (set out at minus_sign) ≡ placed at (minus_sign ∷ decimal_of m) out
signed_written at m out fits =
    let h : at < length out = omega (arith, fits) in
    placed-more at (minus_sign ∷ []) (decimal_of m) out (set out at minus_sign) (at + 1) (placed_one at minus_sign out h) refl (omega (arith, fits))

pub ruleset integers = (signed-digits, unsigned, signed_written, to_z-of_z, length-set)

-- its digits, and a sign
pub integer-length : (k : ℕ) (z : ℤ) → nat_abs z < 10 ^ suc k → length (integer_of z) ≤ suc (suc k)
unfolding integer_of
integer-length k z h = go (lt_z z (pos 0)) (decimal-length k (nat_abs z) h)
  where
    go : (t : Bool) → length (decimal_of (nat_abs z)) ≤ suc k → length (cond t (minus_sign ∷ decimal_of (nat_abs z)) (decimal_of (nat_abs z))) ≤ suc (suc k)
    go true l = omega (arith, l)
    go false l = omega (arith, l)

pub natural-length : (k n : ℕ) → n < 10 ^ suc k → length (integer_of (pos n)) ≤ suc k
natural-length k n h = let e = ap length (natural-written n) in let l = decimal-length k n h in omega (arith, e, l)

-- ---- texts one after the other

pub gather-length : (B : ℕ) (f : ℕ → List ℕ) (n : ℕ) → ((i : ℕ) → i < n → length (f i) ≤ B) → length (gather f n) ≤ n * B
unfolding gather
gather-length B f zero h = omega arith
gather-length B f (suc n) h =
    let e = length-append (gather f n) (f n) in
    let a = gather-length B f n (λ i l. h i (omega (arith, l))) in
    let b = h n (omega arith) in
    omega (arith, e, a, b)

pub gather-le : (f : ℕ → List ℕ) (i n : ℕ) → i ≤ n → length (gather f i) ≤ length (gather f n)
unfolding gather
gather-le f i zero h = let e : i ≡ 0 = omega (arith, h) in let q = ap (λ (k : ℕ). length (gather f k)) e in omega (arith, q)
gather-le f i (suc n) h = go (ltb n i) refl (λ l. gather-le f i n l)
  where
    go : (t : Bool) → ltb n i ≡ t → (i ≤ n → length (gather f i) ≤ length (gather f n)) → length (gather f i) ≤ length (gather f n ++ f n)
    go true e ih =
        let l = ltb-true n i e in
        let same : i ≡ suc n = omega (arith, l, h) in
        let q : length (gather f i) ≡ length (gather f n ++ f n) = ap (λ (k : ℕ). length (gather f k)) same in
        omega (arith, q)
    go false e ih =
        let a = ih (ltb-false n i e) in
        let b = length-append (gather f n) (f n) in
        omega (arith, a, b)

-- one text more
pub gather-step : (f : ℕ → List ℕ) (i : ℕ) → gather f (i + 1) ≡ gather f i ++ f i
unfolding gather
gather-step f i = ap (gather f) (next i)
  where
    next : (n : ℕ) → n + 1 ≡ suc n
    next n = omega arith

pub gather_ext : (f g : ℕ → List ℕ) (n : ℕ) → ((i : ℕ) → i < n → f i ≡ g i) → gather f n ≡ gather g n
unfolding gather
gather_ext f g zero h = refl
gather_ext f g (suc n) h = ap₂ ◌++◌ (gather_ext f g n (λ i l. h i (omega (arith, l)))) (h n (omega arith))

-- writing n texts one after the other: `now` holds the first i of them, and `end` is where they end
abbrev pub WrittenSoFar : ℕ → (ℕ → List ℕ) → ℕ → List ℕ → ℕ → List ℕ → ℕ → Type 0
WrittenSoFar at f n out i now end = (i ≤ n) × (now ≡ placed at (gather f i) out) × (end ≡ at + length (gather f i))

module _ (at : ℕ) (f : ℕ → List ℕ) (n : ℕ) (out : List ℕ) (fits : at + length (gather f n) ≤ length out) where
  pub none_written : WrittenSoFar at f n out 0 out at
  unfolding gather
  none_written = (omega arith, sym (placed-none at out), omega arith)

  module _ {i : ℕ} {now : List ℕ} {end : ℕ} (w : WrittenSoFar at f n out i now end) where
    pub as_long : length now ≡ length out
    as_long = let l = gather-le f i n w.0 in ap length w.1 ∙ length-placed at (gather f i) out (omega (arith, l, fits))

    pub all-written : n ≤ i → (end ≡ at + length (gather f n)) × (now ≡ placed at (gather f n) out)
    all-written h =
        let e : i ≡ n = omega (arith, h, w.0) in
        (w.2 ∙ ap (λ (k : ℕ). at + length (gather f k)) e, w.1 ∙ ap (λ (k : ℕ). placed at (gather f k) out) e)

    module _ (h : i < n) where
      next-long : length (gather f (i + 1)) ≡ length (gather f i) + length (f i)
      next-long = ap length (gather-step f i) ∙ length-append (gather f i) (f i)

      next-room : at + length (gather f i) + length (f i) ≤ length out
      next-room = let l = gather-le f (i + 1) n (omega (arith, h)) in omega (arith, next-long, l, fits)

      pub text-room : end + length (f i) ≤ length now
      text-room = let n = as_long in omega (arith, next-room, w.2, n)

      pub text-more : {r : ℕ} {new : List ℕ} → (r ≡ end + length (f i)) × (new ≡ placed end (f i) now) → WrittenSoFar at f n out (i + 1) new r
      text-more k = (
        omega (arith, h),
        k.1 ∙ placed-more at (gather f i) (f i) out now end w.1 w.2 next-room ∙ ap (λ (b : List ℕ). placed at b out) (sym (gather-step f i)),
        omega (arith, next-long, k.0, w.2),
      )

-- where none is longer than B
module _ (B at : ℕ) (f : ℕ → List ℕ) (n : ℕ) (out : List ℕ) (each : (i : ℕ) → i < n → length (f i) ≤ B) (room : at + n * B ≤ length out) where
  pub all_fit : at + length (gather f n) ≤ length out
  all_fit = let l = gather-length B f n each in omega (arith, l, room)

  pub next_fits : {i : ℕ} {now : List ℕ} {end : ℕ} → WrittenSoFar at f n out i now end → i < n → end + B ≤ length now
  next_fits {i} w h =
      let l = gather-length B f i (λ j k. each j (omega (arith, k, h))) in
      let e = as_long at f n out all_fit w in
      let m : (i + 1) * B ≤ n * B = mul-le-mul (omega (arith, h)) (le_refl B) in
      omega (arith, l, e, w.2, m, room)

-- the next number with the comma before it, of numbers of which the first i are written
module _ (at : ℕ) (numbers : List ℤ) (out : List ℕ) (fits : at + length (numbers_of numbers) ≤ length out) {i : ℕ} {now : List ℕ} {end : ℕ}
    (w : WrittenSoFar at (number_field numbers) (length numbers) out i now end) (h : i < length numbers) where
  field-room : end + length (number_field numbers i) ≤ length now
  unfolding numbers_of
  field-room = text-room at (number_field numbers) (length numbers) out fits w h

  pub comma-room : end < length now
  unfolding number_field
  comma-room = omega (arith, field-room)

  pub number-room : end + 1 + length (integer_of (nth numbers i)) ≤ length (set now end comma)
  unfolding number_field
  number-room = omega (arith, field-room, length-set now end comma)

  pub number-more : {r : ℕ} {new : List ℕ} → r ≡ end + 1 + length (integer_of (nth numbers i)) → new ≡ placed (end + 1) (integer_of (nth numbers i)) (set now end comma)
      → WrittenSoFar at (number_field numbers) (length numbers) out (i + 1) new r
  unfolding number_field numbers_of
  number-more e f =
      let g = placed-more end (comma ∷ []) (integer_of (nth numbers i)) now (set now end comma) (end + 1) (placed_one end comma now comma-room) refl (omega (arith, field-room)) in
      text-more at (number_field numbers) (length numbers) out fits w h (omega (arith, e), f ∙ g)

-- ---- lines

pub line-long : (word : List ℕ) (numbers : List ℤ) → length (line_of word numbers) ≡ length word + length (numbers_of numbers) + 1
unfolding line_of
line-long word numbers =
    ap length (sym (append_assoc word (numbers_of numbers) (line_end ∷ [])))
    ∙ length-append (word ++ numbers_of numbers) (line_end ∷ [])
    ∙ ap (λ (k : ℕ). k + 1) (length-append word (numbers_of numbers))

-- a line of one, two and three numbers
pub line-one : (word : List ℕ) (a : ℤ) → length (line_of word (a ∷ [])) ≡ length word + length (integer_of a) + 2
unfolding numbers_of gather number_field
line-one word a = omega (arith, line-long word (a ∷ []))

pub line-two : (word : List ℕ) (a b : ℤ) → length (line_of word (a ∷ b ∷ [])) ≡ length word + length (integer_of a) + length (integer_of b) + 3
unfolding numbers_of gather number_field
line-two word a b = omega (arith, line-long word (a ∷ b ∷ []), length-append (integer_of a) (comma ∷ integer_of b))

pub line-three : (word : List ℕ) (a b c : ℤ) → length (line_of word (a ∷ b ∷ c ∷ [])) ≡ length word + length (integer_of a) + length (integer_of b) + length (integer_of c) + 4
unfolding numbers_of gather number_field
line-three word a b c =
    omega (arith, line-long word (a ∷ b ∷ c ∷ []), length-append (integer_of a ++ (comma ∷ integer_of b)) (comma ∷ integer_of c), length-append (integer_of a) (comma ∷ integer_of b))

-- writing a line: its word, its numbers, its end
pub line-written : (at : ℕ) (word : List ℕ) (numbers : List ℤ) (out : List ℕ) → at + length (line_of word numbers) ≤ length out
    → (first : List ℕ) (word_end : ℕ) → first ≡ placed at word out → word_end ≡ at + length word
    → (second : List ℕ) (end : ℕ) → second ≡ placed word_end (numbers_of numbers) first → end ≡ word_end + length (numbers_of numbers)
    → set second end line_end ≡ placed at (line_of word numbers) out
unfolding line_of
line-written at word numbers out fits first word_end e f second end g k =
    let long = line-long word numbers in
    let two-long = length-append word (numbers_of numbers) in
    let two = g ∙ placed-more at word (numbers_of numbers) out first word_end e f (omega (arith, long, fits)) in
    placed-turn at line_end (word ++ numbers_of numbers) out second end two (omega (arith, two-long, f, k)) (omega (arith, two-long, long, fits))
    ∙ ap (λ (l : List ℕ). placed at l out) (append_assoc word (numbers_of numbers) (line_end ∷ []))

pub ruleset lines = (line-long, line-written, length-append, length-placed)
