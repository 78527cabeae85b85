-- Two digits, b below c, each shown as the product of both. The signed sums of such values, from those of the values alone, at a label y with
-- neither digit:
--   bridge-halves     the sum of the coefficients that add just one of the digits is twice the bridged one that adds the first
--   bridge-neither, bridge-second, bridge-both    the other three
-- By the stuck-input law (`stuck-sum`) alone. Where both digits are equal nothing changes, so values and bridged values agree with both put to 0
-- and with both put to 1: that fixes the sum of the outer two of four coefficients, and of the inner two. Where one digit is 0 the other shows 0
-- too, so bridged values do not depend on it: that makes two pairs of coefficients cancel.
use mathlib.Core.Path.{◌≡◌, refl, sym, ap, ap₂, ◌∙◌}
use Prim.Native.Nat.{ℕ, zero, suc, ◌+◌, ◌*◌, ◌^◌, ◌<◌}
use native.Mathlib.Nat.{zero-mul, mul-zero}
use native.Mathlib.Omega.{arith}
use lib.IntN.{ℤ, pos, ◌+ℤ◌, ◌-ℤ◌, neg_ℤ, neg_ℤ-neg_ℤ, +ℤ_assoc, +ℤ_comm, +ℤ_idr}
use Rattle.integer.specs.Sum.{signed}
use Rattle.integer.proofs.Group.{outer-plus, outer-minus, same_first, same_second, negative_of}
use Rattle.transform.specs.Spectrum.{signed_sum}
use Rattle.transform.proofs.Halving.{sum-equal}
use Rattle.faults.proofs.Digits.{digit, put, put-shows, put_keeps, put-there, add-below, digit-beyond, digit-above, digit-added}
use Rattle.faults.proofs.Sticking.{stuck-sum, once-zero, once-one}

-- One digit stuck, at a label.

module _ (k b : ℕ) (hb : b < k) (f : ℕ → ℤ) (y : ℕ) (hy : y < 2 ^ k) where
  stuck-without : (v : ℕ) → v < 2 → digit b y ≡ 0 → signed_sum (2 ^ k) (λ x. f (put b v x)) y ≡ signed_sum (2 ^ k) f y +ℤ signed v (signed_sum (2 ^ k) f (y + 2 ^ b))
  stuck-without v hv e = stuck-sum k b v hb hv f y hy ∙ once-zero (signed_sum (2 ^ k) f) b v y e

  stuck-with : (v : ℕ) → v < 2 → digit b y ≡ 1 → signed_sum (2 ^ k) (λ x. f (put b v x)) y ≡ pos 0
  stuck-with v hv e = stuck-sum k b v hb hv f y hy ∙ once-one (signed_sum (2 ^ k) f) b v y (λ z. omega arith)

-- Two digits, b below c, each shown as the product of both.

abbrev pub join_digits : ℕ → ℕ → ℕ → ℕ
join_digits b c x = put c (digit b x * digit c x) (put b (digit b x * digit c x) x)

-- where both digits are v nothing changes
join-equal : (b c v x : ℕ) → v < 2 → digit b x ≡ v → digit c x ≡ v → join_digits b c x ≡ x
join-equal b c v x hv eb ec =
    ap (λ (n : ℕ). put c n (put b n x)) (ap₂ (λ (m n : ℕ). m * n) eb ec ∙ square v hv)
    ∙ ap (put c v) (put-there b v x eb) ∙ put-there c v x ec
  where
    square : (v : ℕ) → v < 2 → v * v ≡ v
    square zero h = refl
    square (suc zero) h = refl
    square (suc (suc v)) h = absurd (omega arith)

module _ (k b c : ℕ) (hb : b < c) (hc : c < k) (y : ℕ) (hy : y < 2 ^ k) (nb : digit b y ≡ 0) (nc : digit c y ≡ 0) (f : ℕ → ℤ) where
  lowb : b < k
  lowb = omega arith

  yb-below : y + 2 ^ b < 2 ^ k
  yb-below = add-below k b y lowb hy nb

  yb-c : digit c (y + 2 ^ b) ≡ 0
  yb-c = digit-beyond b c y hb nb ∙ nc

  ybc-below : y + 2 ^ b + 2 ^ c < 2 ^ k
  ybc-below = add-below k c (y + 2 ^ b) hc yb-below yb-c

  yc-below : y + 2 ^ c < 2 ^ k
  yc-below = add-below k c y hc hy nc

  -- 2 ^ c more leaves digit b alone
  same-b : (z : ℕ) → digit b (z + 2 ^ c) ≡ digit b z
  same-b z = let e : z + 2 ^ c ≡ 2 ^ c + z = omega arith in ap (digit b) e ∙ digit-above c b hb z

  swap : y + 2 ^ c + 2 ^ b ≡ y + 2 ^ b + 2 ^ c
  swap = omega arith

  abbrev S : ℕ → ℤ
  S = signed_sum (2 ^ k) f

  abbrev g : ℕ → ℤ
  g x = f (join_digits b c x)

  abbrev G : ℕ → ℤ
  G = signed_sum (2 ^ k) g

  -- both digits put to v: the four sums, by their signs
  both-put : (h : ℕ → ℤ) (v : ℕ) → v < 2 → signed_sum (2 ^ k) (λ x. h (put c v (put b v x))) y
      ≡ (signed_sum (2 ^ k) h y +ℤ signed v (signed_sum (2 ^ k) h (y + 2 ^ c)))
      +ℤ signed v (signed_sum (2 ^ k) h (y + 2 ^ b) +ℤ signed v (signed_sum (2 ^ k) h (y + 2 ^ b + 2 ^ c)))
  both-put h v hv =
      stuck-without k b lowb (λ x. h (put c v x)) y hy v hv nb
      ∙ ap₂ (λ (m n : ℤ). m +ℤ signed v n) (stuck-without k c hc h y hy v hv nc) (stuck-without k c hc h (y + 2 ^ b) yb-below v hv yb-c)

  -- with both digits equal the bridge changes nothing
  both-same : (v : ℕ) → v < 2 → signed_sum (2 ^ k) (λ x. g (put c v (put b v x))) y ≡ signed_sum (2 ^ k) (λ x. f (put c v (put b v x))) y
  both-same v hv =
      sum-equal (2 ^ k) _ _ y
      (λ x l. ap f (join-equal b c v (put c v (put b v x)) hv
      (put_keeps c v (put b v x) hv b (λ e. omega arith) ∙ put-shows b v x hv) (put-shows c v (put b v x) hv)))

  -- the first digit at 0 makes the second show 0 too
  first-zero : (x : ℕ) → g (put b 0 x) ≡ f (put c 0 (put b 0 x))
  first-zero x =
      let z : digit b (put b 0 x) ≡ 0 = put-shows b 0 x (omega arith) in
      let n : digit b (put b 0 x) * digit c (put b 0 x) ≡ 0 = ap (λ (m : ℕ). m * digit c (put b 0 x)) z ∙ zero-mul (digit c (put b 0 x)) in
      ap (λ (m : ℕ). f (put c m (put b m (put b 0 x)))) n ∙ ap (λ (m : ℕ). f (put c 0 m)) (put-there b 0 (put b 0 x) z)

  second-zero : (x : ℕ) → g (put c 0 x) ≡ f (put c 0 (put b 0 (put c 0 x)))
  second-zero x =
      let z : digit c (put c 0 x) ≡ 0 = put-shows c 0 x (omega arith) in
      let n : digit b (put c 0 x) * digit c (put c 0 x) ≡ 0 = ap (λ (m : ℕ). digit b (put c 0 x) * m) z ∙ mul-zero (digit b (put c 0 x)) in
      ap (λ (m : ℕ). f (put c m (put b m (put c 0 x)))) n

  -- so at labels that name the other digit the two sums cancel
  first-cancels : G (y + 2 ^ c) +ℤ G (y + 2 ^ b + 2 ^ c) ≡ pos 0
  first-cancels =
      ap (λ (n : ℕ). G (y + 2 ^ c) +ℤ G n) (sym swap)
      ∙ sym (stuck-without k b lowb g (y + 2 ^ c) yc-below 0 (omega arith) (same-b y ∙ nb))
      ∙ sum-equal (2 ^ k) _ _ (y + 2 ^ c) (λ x l. first-zero x)
      ∙ stuck-without k b lowb (λ x. f (put c 0 x)) (y + 2 ^ c) yc-below 0 (omega arith) (same-b y ∙ nb)
      ∙ ap₂ (λ (m n : ℤ). m +ℤ n)
      (stuck-with k c hc f (y + 2 ^ c) yc-below 0 (omega arith) (digit-added c y nc))
      (ap (signed_sum (2 ^ k) (λ x. f (put c 0 x))) swap ∙ stuck-with k c hc f (y + 2 ^ b + 2 ^ c) ybc-below 0 (omega arith) (digit-added c (y + 2 ^ b) yb-c))

  second-cancels : G (y + 2 ^ b) +ℤ G (y + 2 ^ b + 2 ^ c) ≡ pos 0
  second-cancels =
      sym (stuck-without k c hc g (y + 2 ^ b) yb-below 0 (omega arith) yb-c)
      ∙ sum-equal (2 ^ k) _ _ (y + 2 ^ b) (λ x l. second-zero x)
      ∙ stuck-without k c hc (λ x. f (put c 0 (put b 0 x))) (y + 2 ^ b) yb-below 0 (omega arith) yb-c
      ∙ ap₂ (λ (m n : ℤ). m +ℤ n)
      (stuck-with k b lowb (λ x. f (put c 0 x)) (y + 2 ^ b) yb-below 0 (omega arith) (digit-added b y nb))
      (stuck-with k b lowb (λ x. f (put c 0 x)) (y + 2 ^ b + 2 ^ c) ybc-below 0 (omega arith) (same-b (y + 2 ^ b) ∙ digit-added b y nb))

  abbrev H : ℤ
  H = G (y + 2 ^ b)

  pub bridge-both : G (y + 2 ^ b + 2 ^ c) ≡ neg_ℤ H
  bridge-both = negative_of H (G (y + 2 ^ b + 2 ^ c)) second-cancels

  pub bridge-second : G (y + 2 ^ c) ≡ H
  bridge-second =
      sym (neg_ℤ-neg_ℤ (G (y + 2 ^ c)))
      ∙ ap neg_ℤ (sym (negative_of (G (y + 2 ^ c)) (G (y + 2 ^ b + 2 ^ c)) first-cancels) ∙ bridge-both)
      ∙ neg_ℤ-neg_ℤ H

  sums_kept : (G y +ℤ G (y + 2 ^ b + 2 ^ c)) +ℤ (G (y + 2 ^ c) +ℤ H) ≡ (S y +ℤ S (y + 2 ^ b + 2 ^ c)) +ℤ (S (y + 2 ^ c) +ℤ S (y + 2 ^ b))
  sums_kept =
      sym (outer-plus (G y) (G (y + 2 ^ c)) H (G (y + 2 ^ b + 2 ^ c)))
      ∙ sym (both-put g 0 (omega arith)) ∙ both-same 0 (omega arith) ∙ both-put f 0 (omega arith)
      ∙ outer-plus (S y) (S (y + 2 ^ c)) (S (y + 2 ^ b)) (S (y + 2 ^ b + 2 ^ c))

  differences-kept : (G y +ℤ G (y + 2 ^ b + 2 ^ c)) -ℤ (G (y + 2 ^ c) +ℤ H) ≡ (S y +ℤ S (y + 2 ^ b + 2 ^ c)) -ℤ (S (y + 2 ^ c) +ℤ S (y + 2 ^ b))
  differences-kept =
      sym (outer-minus (G y) (G (y + 2 ^ c)) H (G (y + 2 ^ b + 2 ^ c)))
      ∙ sym (both-put g 1 (omega arith)) ∙ both-same 1 (omega arith) ∙ both-put f 1 (omega arith)
      ∙ outer-minus (S y) (S (y + 2 ^ c)) (S (y + 2 ^ b)) (S (y + 2 ^ b + 2 ^ c))

  -- the half comes out whole
  pub bridge-halves : S (y + 2 ^ b) +ℤ S (y + 2 ^ c) ≡ H +ℤ H
  bridge-halves =
      +ℤ_comm (S (y + 2 ^ b)) (S (y + 2 ^ c))
      ∙ sym (same_second (G y +ℤ G (y + 2 ^ b + 2 ^ c)) (G (y + 2 ^ c) +ℤ H) (S y +ℤ S (y + 2 ^ b + 2 ^ c)) (S (y + 2 ^ c) +ℤ S (y + 2 ^ b)) sums_kept differences-kept)
      ∙ ap (λ (z : ℤ). z +ℤ H) bridge-second

  pub bridge-neither : G y ≡ (S y +ℤ H) +ℤ S (y + 2 ^ b + 2 ^ c)
  bridge-neither =
      let outer = same_first (G y +ℤ G (y + 2 ^ b + 2 ^ c)) (G (y + 2 ^ c) +ℤ H) (S y +ℤ S (y + 2 ^ b + 2 ^ c)) (S (y + 2 ^ c) +ℤ S (y + 2 ^ b)) sums_kept differences-kept in
      sym (+ℤ_idr (G y)) ∙ ap (λ (z : ℤ). G y +ℤ z) (sym second-cancels ∙ +ℤ_comm H (G (y + 2 ^ b + 2 ^ c)))
      ∙ sym (+ℤ_assoc (G y) (G (y + 2 ^ b + 2 ^ c)) H) ∙ ap (λ (z : ℤ). z +ℤ H) outer
      ∙ +ℤ_assoc (S y) (S (y + 2 ^ b + 2 ^ c)) H ∙ ap (λ (z : ℤ). S y +ℤ z) (+ℤ_comm (S (y + 2 ^ b + 2 ^ c)) H)
      ∙ sym (+ℤ_assoc (S y) H (S (y + 2 ^ b + 2 ^ c)))
