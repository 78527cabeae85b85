-- Floats that are fractions of whole numbers, in any format. `rounded f z c` is the format's value nearest to z / c.
--   of-int         the float of a whole number z is z / 1, rounded
--   by_count       z by n is z / n, rounded
--   times-count    z / n times n is z, rounded
--   difference     y / c less z / c is (y - z) / c, rounded
use mathlib.Core.Path.{◌≡◌, refl, ap, ◌∙◌}
use mathlib.Core.Bool.{Bool, true, false, not, cond, ◌&&◌}
use Prim.Native.Nat.{ℕ, zero, suc, ◌+◌, ◌-◌, ◌*◌, ◌<◌, zero-le}
use native.Mathlib.Nat.{mul_assoc, mul_comm, mul_left_comm, mul_right_comm, mul-one, mul-pos, add-mul, mul-sub, lt_of_mul-lt-mul_right, le_of_mul-le-mul_right, mul-lt-mul_of_pos_right, mul-le-mul_right}
use native.Mathlib.Omega.{arith}
use lib.Dec.{ltb}
use lib.IntN.{ℤ, pos, negsuc, nat_abs, sub_ℕ, ◌-ℤ◌}
use lib.Ieee.{Float, nan, inf, fin, Format, up, down, round, sum, add, sub, neg, mul, div, of_int, unlike}
use lib.Ieee.Fits.{down_pos}
use lib.Ieee.Positive.{first_pos}
use lib.Ieee.Scale.{round_same}
use borrow.Author.Tests.{ltb-true, ltb-false, lt-ltb, le-ltb, ne_eqb}
use Rattle.reading.specs.Exact.{negative, Exact}

abbrev pub rounded : Format → ℤ → ℕ → Float
rounded f z c = round f (negative z) (nat_abs z) c

pub of-int : (f : Format) (z : ℤ) → of_int f z ≡ rounded f z 1
unfolding of_int
of-int f (pos n) = refl
of-int f (negsuc n) = refl

-- Two floats that are fractions are finite: what is shown of every ±m * 2 ^ e and ±n * 2 ^ g with these signs and sizes holds of them.
finite : (P : Float → Float → Type 0) (x w : Float) (y z : ℤ) (c d : ℕ)
    → ((m n : ℕ) (e g : ℤ) → m * up e * c ≡ nat_abs y * down e → n * up g * d ≡ nat_abs z * down g → P (fin (negative y) m e) (fin (negative z) n g))
    → Exact x y c → Exact w z d → P x w
unfolding Exact
finite P nan w y z c d shown h k = absurd h
finite P (inf s) w y z c d shown h k = absurd h
finite P (fin s m e) nan y z c d shown h k = absurd k
finite P (fin s m e) (inf t) y z c d shown h k = absurd k
finite P (fin s m e) (fin t n g) y z c d shown h k = rw (h.0, k.0) (shown m n e g h.1 k.1)

-- A product and a quotient by a count. X / E and Y / G are the two sizes.

unlike-false : (s : Bool) → unlike s false ≡ s
unlike-false true = refl
unlike-false false = refl

product : (X Y E G a n : ℕ) → X * n ≡ a * E → Y * 1 ≡ n * G → X * Y * 1 ≡ a * (E * G)
product X Y E G a n p q = rw (mul_assoc X Y 1, q, ← mul_assoc X n G, p, mul_assoc a E G)

ratio : (X Y E G a n : ℕ) → X * 1 ≡ a * E → Y * 1 ≡ n * G → X * G * n ≡ a * (Y * E)
ratio X Y E G a n p q = rw (← mul-one X, ← mul-one Y, p, q) (simp (mul_assoc, mul_comm, mul_left_comm))

module _ (f : Format) (x w : Float) (z : ℤ) (n : ℕ) (some : 0 < n) where
  pub times-count : Exact x z n → Exact w (pos n) 1 → mul f x w ≡ rounded f z 1
  unfolding mul
  times-count = finite (λ u v. mul f u v ≡ rounded f z 1) x w z (pos n) n 1 λ m k e g p q.
      rw unlike-false (round_same f (negative z) (m * up e * (k * up g)) (down e * down g) (nat_abs z) 1 (mul-pos (down_pos e) (down_pos g)) (omega arith)
      (product (m * up e) (k * up g) (down e) (down g) (nat_abs z) n p q))

  pub by_count : Exact x z 1 → Exact w (pos n) 1 → div f x w ≡ rounded f z n
  unfolding div
  by_count = finite (λ u v. div f u v ≡ rounded f z n) x w z (pos n) 1 1 λ m k e g p q.
      let size : 0 < k * up g = first_pos (k * up g) 1 (rw q (mul-pos some (down_pos g))) in
      let digits : 0 < k = first_pos k (up g) size in
      rw (ne_eqb k 0 (λ none. omega arith), unlike-false) (round_same f (negative z) (m * up e * down g) (k * up g * down e) (nat_abs z) n (mul-pos size (down_pos e)) some
      (ratio (m * up e) (k * up g) (down e) (down g) (nat_abs z) n p q))

-- A difference. First over ℕ: A / C is a / c, and B / C is b / c.

sub-mul : (a b c : ℕ) → (a - b) * c ≡ a * c - b * c
sub-mul a b c = rw (mul_comm (a - b) c, mul-sub c a b, mul_comm c a, mul_comm c b)

module _ (A B C a b c : ℕ) (p : A * c ≡ a * C) (q : B * c ≡ b * C) where
  add-scaled : (A + B) * c ≡ (a + b) * C
  add-scaled = rw (add-mul A B c, p, q, ← add-mul a b C)

  sub-scaled : (A - B) * c ≡ (a - b) * C
  sub-scaled = rw (sub-mul A B c, p, q, ← sub-mul a b C)

  less-scaled : 0 < C → 0 < c → ltb A B ≡ ltb a b
  less-scaled many some = go (ltb a b) refl
    where
      go : (t : Bool) → ltb a b ≡ t → ltb A B ≡ t
      go true l = lt-ltb A B (lt_of_mul-lt-mul_right c (rw (p, q) (mul-lt-mul_of_pos_right (ltb-true a b l) many)))
      go false l = le-ltb A B (le_of_mul-le-mul_right (rw (p, q) (mul-le-mul_right C (ltb-false a b l))) some)

sum-scaled : (f : Format) (s t : Bool) (A B C a b c : ℕ) → 0 < C → 0 < c → A * c ≡ a * C → B * c ≡ b * C → sum f s A t B C ≡ sum f s a t b c
unfolding sum
sum-scaled f s t A B C a b c many some p q =
    rw (
      less-scaled A B C a b c p q many some,
      less-scaled B A C b a c q p many some,
      round_same f s (A + B) C (a + b) c many some (add-scaled A B C a b c p q),
      round_same f t (B - A) C (b - a) c many some (sub-scaled B A C b a c q p),
      round_same f (s && ltb b a) (A - B) C (a - b) c many some (sub-scaled A B C a b c p q),
    )

module _ (f : Format) (c : ℕ) where
  sized : (s : Bool) {m n : ℕ} → m ≡ n → round f s m c ≡ round f s n c
  sized s e = ap (λ n. round f s n c) e

  -- a - b
  unlike-sum : (a b : ℕ) → sum f false a true b c ≡ rounded f (sub_ℕ a b) c
  unfolding sum
  unlike-sum a b = go (ltb a b) refl
    where
      go : (t : Bool) → ltb a b ≡ t → cond t (round f true (b - a) c) (round f false (a - b) c) ≡ rounded f (cond t (negsuc (b - suc a)) (pos (a - b))) c
      go true l = sized true (omega (arith, ltb-true a b l))
      go false l = refl

  -- - a + b is b - a, and +0 where they are equal
  exchanged : (a b : ℕ) → sum f true a false b c ≡ sum f false b true a c
  unfolding sum
  exchanged a b = go (ltb a b) (ltb b a) refl refl
    where
      go : (t u : Bool) → ltb a b ≡ t → ltb b a ≡ u → cond t (round f false (b - a) c) (round f u (a - b) c) ≡ cond u (round f true (a - b) c) (round f false (b - a) c)
      go true true l g = absurd (omega (arith, ltb-true a b l, ltb-true b a g))
      go true false l g = refl
      go false true l g = refl
      go false false l g = sized false (omega (arith, ltb-false a b l, ltb-false b a g))

  signed-sum : (y z : ℤ) → sum f (negative y) (nat_abs y) (not (negative z)) (nat_abs z) c ≡ rounded f (y -ℤ z) c
  unfolding sum
  signed-sum (pos a) (pos zero) = rw (le-ltb a 0 zero-le) (sized false (omega arith))
  signed-sum (pos a) (pos (suc b)) = unlike-sum a (suc b)
  signed-sum (pos a) (negsuc b) = refl
  signed-sum (negsuc a) (pos zero) = rw (lt-ltb 0 (suc a) (omega arith)) (sized true (omega arith))
  signed-sum (negsuc a) (pos (suc b)) = sized true (omega arith)
  signed-sum (negsuc a) (negsuc b) = exchanged (suc a) (suc b) ∙ unlike-sum (suc b) (suc a)

widened : (X G E a c : ℕ) → X * c ≡ a * E → X * G * c ≡ a * (E * G)
widened X G E a c p = rw (mul_right_comm X G c, p, mul_assoc a E G)

pub difference : (f : Format) (x w : Float) (y z : ℤ) (c : ℕ) → 0 < c → Exact x y c → Exact w z c → sub f x w ≡ rounded f (y -ℤ z) c
unfolding sub add neg
difference f x w y z c some = finite (λ u v. sub f u v ≡ rounded f (y -ℤ z) c) x w y z c c λ m n e g p q.
    sum-scaled f (negative y) (not (negative z)) (m * up e * down g) (n * up g * down e) (down e * down g) (nat_abs y) (nat_abs z) c (mul-pos (down_pos e) (down_pos g)) some
    (widened (m * up e) (down g) (down e) (nat_abs y) c p) (rw (mul_comm (down e) (down g)) (widened (n * up g) (down e) (down g) (nat_abs z) c q))
    ∙ signed-sum f c y z
