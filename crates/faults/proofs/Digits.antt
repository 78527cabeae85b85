-- One binary digit of a number, and the number with that digit replaced:
--   put_low_half, put-high-half, put-above    the replaced digit in each half of the numbers below 2 ^ (b + 1), and below a higher digit
--   digit-low-half, digit-high-half, digit-above    the digit there
--   put-below    the number stays below 2 ^ k
--   put-shows, put_keeps    the digit has the value, and every other digit is as it was
--   put_same, put-there    a digit put where it stands changes nothing
--   put-zero, and-bit    a number is what it is without a digit and that digit's part; the part is what AND with 2 ^ b gives
--   add-below    where digit b is 0, adding 2 ^ b stays below 2 ^ k
--   digit-beyond, digit-added    and changes no digit above b, and makes digit b 1
--   digit-small               a digit is 0 or 1
use mathlib.Core.Path.{◌≡◌, sym, ap, ap₂, ◌∙◌, subst}
use mathlib.Core.Logic.{⊎_elim}
use Prim.Native.Nat.{ℕ, zero, suc, ◌+◌, ◌*◌, ◌-◌, ◌/◌, ◌%◌, ◌^◌, ◌≤◌, ◌<◌}
use native.Mathlib.Nat.{lt_of_not-le, div-eq_of_lt, mod-eq_of_lt, add-mul-div_right, add-mul-mod_self_right, mul_assoc, mul_comm, add_assoc, pow-suc, zero-mul, one-mul, add-mul, mod-lt, div-add-mod}
use native.Mathlib.Decide.{dec_le}
use native.Mathlib.Omega.{arith}
use lib.Arith.{lt_of_le-ne}
use lib.Bits.{bit_and, and_high}
use lib.Pow.{pow_pos, pow-add, pow_mono, shr-shr, high, low, field, mod-mod-pow}
use Rattle.integer.proofs.Halves.{double, which}

abbrev pub digit : ℕ → ℕ → ℕ
digit b x = x / 2 ^ b % 2

-- x with digit b replaced by v
abbrev pub put : ℕ → ℕ → ℕ → ℕ
put b v x = x / 2 ^ suc b * 2 ^ suc b + v * 2 ^ b + x % 2 ^ b

module _ (b x : ℕ) (h : x < 2 ^ b) where
  pub put_low_half : (v : ℕ) → put b v x ≡ v * 2 ^ b + x
  put_low_half v =
      let q : x / 2 ^ suc b ≡ 0 = div-eq_of_lt (omega (arith, double b)) in
      ap₂ (λ (m n : ℕ). m * 2 ^ suc b + v * 2 ^ b + n) q (mod-eq_of_lt h) ∙ ap (λ (n : ℕ). n + v * 2 ^ b + x) (zero-mul (2 ^ suc b)) ∙ omega arith

  mod-high : (2 ^ b + x) % 2 ^ b ≡ x
  mod-high =
      let e : 2 ^ b + x ≡ x + 1 * 2 ^ b = omega arith in
      ap (λ (n : ℕ). n % 2 ^ b) e ∙ add-mul-mod_self_right x 1 (2 ^ b) ∙ mod-eq_of_lt h

  pub put-high-half : (v : ℕ) → put b v (2 ^ b + x) ≡ v * 2 ^ b + x
  put-high-half v =
      let q : (2 ^ b + x) / 2 ^ suc b ≡ 0 = div-eq_of_lt (omega (arith, double b)) in
      ap₂ (λ (m n : ℕ). m * 2 ^ suc b + v * 2 ^ b + n) q mod-high ∙ ap (λ (n : ℕ). n + v * 2 ^ b + x) (zero-mul (2 ^ suc b)) ∙ omega arith

  pub digit-low-half : digit b x ≡ 0
  digit-low-half = ap (λ (n : ℕ). n % 2) (div-eq_of_lt h)

  pub digit-high-half : digit b (2 ^ b + x) ≡ 1
  digit-high-half =
      let e : 2 ^ b + x ≡ x + 1 * 2 ^ b = omega arith in
      ap (λ (n : ℕ). n / 2 ^ b % 2) e ∙ ap (λ (n : ℕ). n % 2) (add-mul-div_right x 1 (pow_pos b) ∙ ap (λ (n : ℕ). n + 1) (div-eq_of_lt h))

-- 2 ^ k is a multiple of 2 ^ (b + 1), for b below k
module _ (k b : ℕ) (h : b < k) where
  multiple : 2 ^ k ≡ 2 ^ (k - suc b) * 2 ^ suc b
  multiple = let e : k ≡ (k - suc b) + suc b = omega arith in ap (λ (n : ℕ). 2 ^ n) e ∙ pow-add 2 (k - suc b) (suc b)

  multiple' : 2 ^ k ≡ (2 ^ (k - suc b) * 2) * 2 ^ b
  multiple' = multiple ∙ ap (λ (n : ℕ). 2 ^ (k - suc b) * n) (pow-suc 2 b ∙ mul_comm (2 ^ b) 2) ∙ sym (mul_assoc (2 ^ (k - suc b)) 2 (2 ^ b))

  more : (x c m : ℕ) → 2 ^ k ≡ m * 2 ^ c → 2 ^ k + x ≡ x + m * 2 ^ c
  more x c m e = omega arith

  pub digit-above : (x : ℕ) → digit b (2 ^ k + x) ≡ digit b x
  digit-above x =
      ap (λ (n : ℕ). n / 2 ^ b % 2) (more x b (2 ^ (k - suc b) * 2) multiple')
      ∙ ap (λ (n : ℕ). n % 2) (add-mul-div_right x (2 ^ (k - suc b) * 2) (pow_pos b)) ∙ add-mul-mod_self_right (x / 2 ^ b) (2 ^ (k - suc b)) 2

  pub put-above : (v x : ℕ) → put b v (2 ^ k + x) ≡ 2 ^ k + put b v x
  put-above v x =
      ap₂ (λ (m n : ℕ). m * 2 ^ suc b + v * 2 ^ b + n)
      (ap (λ (n : ℕ). n / 2 ^ suc b) (more x (suc b) (2 ^ (k - suc b)) multiple) ∙ add-mul-div_right x (2 ^ (k - suc b)) (pow_pos (suc b)))
      (ap (λ (n : ℕ). n % 2 ^ b) (more x b (2 ^ (k - suc b) * 2) multiple') ∙ add-mul-mod_self_right x (2 ^ (k - suc b) * 2) (2 ^ b))
      ∙ ap (λ (n : ℕ). n + v * 2 ^ b + x % 2 ^ b) (add-mul (x / 2 ^ suc b) (2 ^ (k - suc b)) (2 ^ suc b) ∙ ap (λ (n : ℕ). x / 2 ^ suc b * 2 ^ suc b + n) (sym multiple))
      ∙ omega arith

pub add-below : (k b y : ℕ) → b < k → y < 2 ^ k → digit b y ≡ 0 → y + 2 ^ b < 2 ^ k
add-below zero b y l h e = absurd (omega arith)
add-below (suc k) b y l h e =
    ⊎_elim
    (λ low. down low (dec_le k b))
    (λ u. up u.0 u.1 u.2 (λ g. add-below k b u.0 g u.1) (dec_le k b))
    (which k y h)
  where
    down : y < 2 ^ k → Dec (k ≤ b) → y + 2 ^ b < 2 ^ suc k
    down low (yes g) = let s : b ≡ k = omega arith in let t = ap (λ (n : ℕ). 2 ^ n) s in omega (arith, double k)
    down low (no g) = let s = lt_of_not-le g in let t : 2 ^ b ≤ 2 ^ k = pow_mono (omega arith) in omega (arith, double k)

    up : (x : ℕ) → x < 2 ^ k → y ≡ 2 ^ k + x → (b < k → digit b x ≡ 0 → x + 2 ^ b < 2 ^ k) → Dec (k ≤ b) → y + 2 ^ b < 2 ^ suc k
    up x hx ey ih (yes g) =
        let s : b ≡ k = omega arith in
        let one : digit b y ≡ 1 = ap₂ (λ (m n : ℕ). digit m n) s ey ∙ digit-high-half k x hx in
        absurd (omega arith)
    up x hx ey ih (no g) =
        let s = lt_of_not-le g in
        let t = ih s (sym (digit-above k b s x) ∙ ap (digit b) (sym ey) ∙ e) in
        omega (arith, double k)

small : (b v x : ℕ) → v < 2 → x < 2 ^ b → v * 2 ^ b + x < 2 ^ suc b
small b zero x hv h = omega (arith, double b, zero-mul (2 ^ b))
small b (suc zero) x hv h = omega (arith, double b, one-mul (2 ^ b))
small b (suc (suc v)) x hv h = absurd (omega arith)

pub put-below : (k b v x : ℕ) → b < k → v < 2 → x < 2 ^ k → put b v x < 2 ^ k
put-below zero b v x l hv h = absurd (omega arith)
put-below (suc k) b v x l hv h = pick (λ g y. put-below k b v y g hv) (dec_le k b)
  where
    pick : (b < k → (y : ℕ) → y < 2 ^ k → put b v y < 2 ^ k) → Dec (k ≤ b) → put b v x < 2 ^ suc k
    pick ih (yes g) =
        let e : b ≡ k = omega arith in
        subst (λ (n : ℕ). put b v x < 2 ^ suc n) e
        (⊎_elim
        (λ low. subst (λ (n : ℕ). n < 2 ^ suc b) (sym (put_low_half b x low v)) (small b v x hv low))
        (λ u. subst (λ (n : ℕ). n < 2 ^ suc b) (sym (ap (put b v) u.2 ∙ put-high-half b u.0 u.1 v)) (small b v u.0 hv u.1))
        (which b x (subst (λ (n : ℕ). x < 2 ^ suc n) (sym e) h)))
    pick ih (no g) =
        let s = lt_of_not-le g in
        ⊎_elim
        (λ low. let t = ih s x low in omega (arith, double k))
        (λ u. let t = ih s u.0 u.1 in let w = ap (put b v) u.2 ∙ put-above k b s v u.0 in omega (arith, double k))
        (which k x h)

one_more : (b y : ℕ) → (y + 2 ^ b) / 2 ^ b ≡ y / 2 ^ b + 1
one_more b y = let w : y + 2 ^ b ≡ y + 1 * 2 ^ b = omega arith in ap (λ (n : ℕ). n / 2 ^ b) w ∙ add-mul-div_right y 1 (pow_pos b)

-- the digits above b do not see 2 ^ b where digit b is 0
pub digit-beyond : (b c y : ℕ) → b < c → digit b y ≡ 0 → digit c (y + 2 ^ b) ≡ digit c y
digit-beyond b c y l e = ap (λ (n : ℕ). n % 2) (split (y + 2 ^ b) ∙ ap (λ (n : ℕ). n / 2 / 2 ^ (c - suc b)) (one_more b y) ∙ rest ∙ sym (split y))
  where
    apart : (n : ℕ) → n / 2 ^ c ≡ n / 2 ^ (b + (1 + (c - suc b)))
    apart n = let w : c ≡ b + (1 + (c - suc b)) = omega arith in ap (λ (m : ℕ). n / 2 ^ m) w

    split : (n : ℕ) → n / 2 ^ c ≡ n / 2 ^ b / 2 / 2 ^ (c - suc b)
    split n = apart n ∙ sym (shr-shr n b (1 + (c - suc b))) ∙ sym (shr-shr (n / 2 ^ b) 1 (c - suc b))

    rest : (y / 2 ^ b + 1) / 2 / 2 ^ (c - suc b) ≡ y / 2 ^ b / 2 / 2 ^ (c - suc b)
    rest = let w : (y / 2 ^ b + 1) / 2 ≡ y / 2 ^ b / 2 = half (y / 2 ^ b) e in ap (λ (n : ℕ). n / 2 ^ (c - suc b)) w
      where
        half : (q : ℕ) → q % 2 ≡ 0 → (q + 1) / 2 ≡ q / 2
        half q z = omega arith

-- the number is the digits above, the value and the digits below
module _ (b v x : ℕ) (hv : v < 2) where
  below : x % 2 ^ b < 2 ^ b
  below = mod-lt x (pow_pos b)

  by-digit : put b v x ≡ (x / 2 ^ suc b * 2 + v) * 2 ^ b + x % 2 ^ b
  by-digit =
      ap (λ (n : ℕ). x / 2 ^ suc b * n + v * 2 ^ b + x % 2 ^ b) (pow-suc 2 b ∙ mul_comm (2 ^ b) 2)
      ∙ ap (λ (n : ℕ). n + v * 2 ^ b + x % 2 ^ b) (sym (mul_assoc (x / 2 ^ suc b) 2 (2 ^ b)))
      ∙ ap (λ (n : ℕ). n + x % 2 ^ b) (sym (add-mul (x / 2 ^ suc b * 2) v (2 ^ b)))

  pub put-shows : digit b (put b v x) ≡ v
  put-shows = ap (digit b) by-digit ∙ ap (λ (n : ℕ). n % 2) (high (x / 2 ^ suc b * 2 + v) b below) ∙ last (x / 2 ^ suc b)
    where
      last : (q : ℕ) → (q * 2 + v) % 2 ≡ v
      last q = omega arith

  above_same : put b v x / 2 ^ suc b ≡ x / 2 ^ suc b
  above_same = ap (λ (n : ℕ). n / 2 ^ suc b) (add_assoc (x / 2 ^ suc b * 2 ^ suc b) (v * 2 ^ b) (x % 2 ^ b)) ∙ high (x / 2 ^ suc b) (suc b) (small b v (x % 2 ^ b) hv below)

  below-same : put b v x % 2 ^ b ≡ x % 2 ^ b
  below-same = ap (λ (n : ℕ). n % 2 ^ b) by-digit ∙ low (x / 2 ^ suc b * 2 + v) b below

  -- a digit above b is one of the quotient by 2 ^ (b + 1), one below b is one of the remainder by 2 ^ b
  digit-of-high : (c n : ℕ) → b < c → digit c n ≡ n / 2 ^ suc b / 2 ^ (c - suc b) % 2
  digit-of-high c n l = let e : c ≡ suc b + (c - suc b) = omega arith in ap (λ (m : ℕ). n / 2 ^ m % 2) e ∙ ap (λ (m : ℕ). m % 2) (sym (shr-shr n (suc b) (c - suc b)))

  digit-of-low : (c n : ℕ) → c < b → digit c n ≡ n % 2 ^ b / 2 ^ c % 2
  digit-of-low c n l =
      let e : b ≡ (b - suc c + 1) + c = omega arith in
      sym (ap (λ (m : ℕ). n % 2 ^ m / 2 ^ c % 2) e ∙ ap (λ (m : ℕ). m % 2) (field n (b - suc c + 1) c) ∙ mod-mod-pow (n / 2 ^ c) (b - suc c) 1)

  pub put_keeps : (c : ℕ) → (c ≡ b → ⊥) → digit c (put b v x) ≡ digit c x
  put_keeps c other = pick (dec_le c b)
    where
      pick : Dec (c ≤ b) → digit c (put b v x) ≡ digit c x
      pick (yes l) =
          let s : c < b = lt_of_le-ne l other in
          digit-of-low c (put b v x) s ∙ ap (λ (m : ℕ). m / 2 ^ c % 2) below-same ∙ sym (digit-of-low c x s)
      pick (no l) =
          let s = lt_of_not-le l in
          digit-of-high c (put b v x) s ∙ ap (λ (m : ℕ). m / 2 ^ (c - suc b) % 2) above_same ∙ sym (digit-of-high c x s)

pub digit-small : (b x : ℕ) → digit b x < 2
digit-small b x = mod-lt (x / 2 ^ b) (omega arith)

pub put_same : (b x : ℕ) → put b (digit b x) x ≡ x
put_same b x =
    by-digit b (digit b x) x (digit-small b x)
    ∙ ap (λ (n : ℕ). n * 2 ^ b + x % 2 ^ b) (ap (λ (n : ℕ). n * 2 + digit b x) next ∙ whole (x / 2 ^ b))
    ∙ ap (λ (n : ℕ). n + x % 2 ^ b) (mul_comm (x / 2 ^ b) (2 ^ b)) ∙ div-add-mod x (2 ^ b)
  where
    next : x / 2 ^ suc b ≡ x / 2 ^ b / 2
    next = let e : suc b ≡ b + 1 = omega arith in ap (λ (n : ℕ). x / 2 ^ n) e ∙ sym (shr-shr x b 1)

    whole : (q : ℕ) → q / 2 * 2 + q % 2 ≡ q
    whole q = omega arith

pub put-there : (b v x : ℕ) → digit b x ≡ v → put b v x ≡ x
put-there b v x e = ap (λ (n : ℕ). put b n x) (sym e) ∙ put_same b x

pub digit-added : (b y : ℕ) → digit b y ≡ 0 → digit b (y + 2 ^ b) ≡ 1
digit-added b y e = ap (λ (n : ℕ). n % 2) (one_more b y) ∙ odd (y / 2 ^ b) e
  where
    odd : (q : ℕ) → q % 2 ≡ 0 → (q + 1) % 2 ≡ 1
    odd q z = omega arith

pub put-zero : (b x : ℕ) → put b 0 x + digit b x * 2 ^ b ≡ x
put-zero b x = sums ∙ put_same b x
  where
    sums : put b 0 x + digit b x * 2 ^ b ≡ put b (digit b x) x
    sums = omega arith

pub and-bit : (b x : ℕ) → bit_and x (2 ^ b) ≡ digit b x * 2 ^ b
and-bit b x = let e : 2 ^ b ≡ 2 ^ (1 + b) - 2 ^ b = omega (arith, pow-add 2 1 b) in ap (bit_and x) e ∙ and_high x 1 b
