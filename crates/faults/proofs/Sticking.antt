-- Stuck inputs:
--   stuck-sum          the signed sum of values with one digit replaced, from the signed sums of the values alone
--   once-zero, once-one    the sum at a label without the digit, and at one with it
--   stuck-step         the formula over several stuck inputs is the one-input step of the first over the formula of the rest
--   stuck-spectrum     on a spectrum of rows the formula equals the spectrum of the rows with the stuck inputs replaced
--   within-stuck       the formula's numbers are at most 2 ^ k times as large as the coefficients
use mathlib.Core.Path.{◌≡◌, refl, sym, ap, ap₂, ◌∙◌, subst}
use mathlib.Core.Logic.{⊎_elim}
use mathlib.Core.List.{List, [], ◌∷◌}
use mathlib.Core.Bool.{Bool, true, false, not, cond, ◌||◌}
use Prim.Native.Nat.{ℕ, zero, suc, ◌+◌, ◌*◌, ◌-◌, ◌/◌, ◌%◌, ◌^◌, ◌≤◌, ◌<◌, zero-le}
use native.Mathlib.Nat.{lt_of_not-le, le_trans, add-mul, mul-le-mul_right, one-mul, zero-mul, zero-add}
use native.Mathlib.Decide.{dec_le}
use native.Mathlib.Omega.{arith}
use lib.Dec.{eqb}
use lib.IntN.{ℤ, pos, ◌+ℤ◌, ◌-ℤ◌, neg_ℤ, nat_abs, neg_ℤ-+ℤ, +ℤ_invr}
use lib.ListN.{length, get_or-eq_default}
use lib.Pow.{pow_mono}
use borrow.Author.Tests.{eq-eqb, ne_eqb, eqb-true}
use Rattle.integer.specs.Sum.{signed}
use Rattle.integer.specs.Tab.{tab, nth, Within}
use Rattle.integer.proofs.Bounds.{nat_abs-add, nat_abs-signed}
use Rattle.integer.proofs.Group.{interchange, plus-minus, minus_minus}
use Rattle.integer.proofs.Sums.{signed_add}
use Rattle.integer.proofs.Tabs.{length-tab, get_or-tab, tab-ext, tab-nth}
use Rattle.integer.proofs.Halves.{double, which}
use Rattle.transform.specs.Spectrum.{signed_sum, spectrum_of}
use Rattle.transform.proofs.Spectra.{length-spectrum, nth-spectrum, spectrum-rule}
use Rattle.transform.proofs.Halving.{upper, sum-equal, sum_low, sum-high}
use Rattle.faults.specs.Faults.{Stuck, bit_of, names, subset_sum, stuck_coefficient_at, stuck_spectrum_of, replaced, replaced_all, stuck_row, stuck_rows}
use Rattle.faults.specs.Steps.{stuck_once_at, stuck_once}
use Rattle.faults.proofs.Digits.{digit, put, put_low_half, put-high-half, put-above, digit-low-half, digit-high-half, digit-above, put-below, add-below, digit-beyond}

-- One digit replaced.

-- the half of the values that a value of the top digit chooses, from the sums at a label and at 2 ^ k more
pub half-chosen : (k v : ℕ) (f : ℕ → ℤ) (l : ℕ) → v < 2 → l < 2 ^ k
    → signed_sum (2 ^ suc k) f l +ℤ signed v (signed_sum (2 ^ suc k) f (2 ^ k + l)) ≡ signed_sum (2 ^ k) (λ x. f (v * 2 ^ k + x)) l +ℤ signed_sum (2 ^ k) (λ x. f (v * 2 ^ k + x)) l
half-chosen k zero f l hv hl =
    let e = sum-equal (2 ^ k) f (λ x. f (0 * 2 ^ k + x)) l (λ x b. ap f (sym (zero-add x) ∙ ap (λ (n : ℕ). n + x) (sym (zero-mul (2 ^ k))))) in
    ap₂ (λ (a b : ℤ). a +ℤ b) (sum_low k f l hl) (sum-high k f l hl) ∙ plus-minus (signed_sum (2 ^ k) f l) (signed_sum (2 ^ k) (upper k f) l)
    ∙ ap₂ (λ (a b : ℤ). a +ℤ b) e e
half-chosen k (suc zero) f l hv hl =
    let e = sum-equal (2 ^ k) (upper k f) (λ x. f (1 * 2 ^ k + x)) l (λ x b. ap (λ (n : ℕ). f (n + x)) (sym (one-mul (2 ^ k)))) in
    ap₂ (λ (a b : ℤ). a -ℤ b) (sum_low k f l hl) (sum-high k f l hl) ∙ minus_minus (signed_sum (2 ^ k) f l) (signed_sum (2 ^ k) (upper k f) l)
    ∙ ap₂ (λ (a b : ℤ). a +ℤ b) e e
half-chosen k (suc (suc v)) f l hv hl = absurd (omega arith)

-- the sum at a label, by the sums at it and at 2 ^ b more
abbrev pub once_sum : (ℕ → ℤ) → ℕ → ℕ → ℕ → ℤ
once_sum s b v y = cond (eqb (digit b y) 0) (s y +ℤ signed v (s (y + 2 ^ b))) (pos 0)

pub once-zero : (s : ℕ → ℤ) (b v y : ℕ) → digit b y ≡ 0 → once_sum s b v y ≡ s y +ℤ signed v (s (y + 2 ^ b))
once-zero s b v y e = ap (λ (c : Bool). cond c (s y +ℤ signed v (s (y + 2 ^ b))) (pos 0)) (eq-eqb (digit b y) 0 e)

pub once-one : (s : ℕ → ℤ) (b v y : ℕ) → (digit b y ≡ 0 → ⊥) → once_sum s b v y ≡ pos 0
once-one s b v y e = ap (λ (c : Bool). cond c (s y +ℤ signed v (s (y + 2 ^ b))) (pos 0)) (ne_eqb (digit b y) 0 e)

-- the digit is the highest of those below 2 ^ (b + 1)
module _ (b v : ℕ) (hv : v < 2) (f : ℕ → ℤ) where
  abbrev chosen : ℕ → ℤ
  chosen x = f (v * 2 ^ b + x)

  low_part : (l : ℕ) → signed_sum (2 ^ b) (λ x. f (put b v x)) l ≡ signed_sum (2 ^ b) chosen l
  low_part l = sum-equal (2 ^ b) _ _ l (λ x h. ap f (put_low_half b x h v))

  high_part : (l : ℕ) → signed_sum (2 ^ b) (upper b (λ x. f (put b v x))) l ≡ signed_sum (2 ^ b) chosen l
  high_part l = sum-equal (2 ^ b) _ _ l (λ x h. ap f (put-high-half b x h v))

  top-low : (l : ℕ) → l < 2 ^ b → signed_sum (2 ^ suc b) (λ x. f (put b v x)) l ≡ once_sum (signed_sum (2 ^ suc b) f) b v l
  top-low l h =
      let swap : 2 ^ b + l ≡ l + 2 ^ b = omega arith in
      sum_low b (λ x. f (put b v x)) l h ∙ ap₂ (λ (p q : ℤ). p +ℤ q) (low_part l) (high_part l)
      ∙ sym (half-chosen b v f l hv h) ∙ ap (λ (n : ℕ). signed_sum (2 ^ suc b) f l +ℤ signed v (signed_sum (2 ^ suc b) f n)) swap
      ∙ sym (once-zero (signed_sum (2 ^ suc b) f) b v l (digit-low-half b l h))

  top-high : (l : ℕ) → l < 2 ^ b → signed_sum (2 ^ suc b) (λ x. f (put b v x)) (2 ^ b + l) ≡ once_sum (signed_sum (2 ^ suc b) f) b v (2 ^ b + l)
  top-high l h =
      sum-high b (λ x. f (put b v x)) l h ∙ ap₂ (λ (p q : ℤ). p -ℤ q) (low_part l) (high_part l) ∙ +ℤ_invr (signed_sum (2 ^ b) chosen l)
      ∙ sym (once-one (signed_sum (2 ^ suc b) f) b v (2 ^ b + l) (λ e. let one = digit-high-half b l h in absurd (omega arith)))

-- a sum or a difference of two once-sums
once-add : (s t : ℕ → ℤ) (b v y : ℕ) → once_sum s b v y +ℤ once_sum t b v y ≡ once_sum (λ n. s n +ℤ t n) b v y
once-add s t b v y = go (eqb (digit b y) 0)
  where
    go : (c : Bool) → cond c (s y +ℤ signed v (s (y + 2 ^ b))) (pos 0) +ℤ cond c (t y +ℤ signed v (t (y + 2 ^ b))) (pos 0)
        ≡ cond c ((s y +ℤ t y) +ℤ signed v (s (y + 2 ^ b) +ℤ t (y + 2 ^ b))) (pos 0)
    go true =
        interchange (s y) (signed v (s (y + 2 ^ b))) (t y) (signed v (t (y + 2 ^ b)))
        ∙ ap (λ (z : ℤ). (s y +ℤ t y) +ℤ z) (sym (signed_add v (s (y + 2 ^ b)) (t (y + 2 ^ b))))
    go false = refl

once-neg : (s : ℕ → ℤ) (b v y : ℕ) → neg_ℤ (once_sum s b v y) ≡ once_sum (λ n. neg_ℤ (s n)) b v y
once-neg s b v y = go (eqb (digit b y) 0)
  where
    minus-signed : (p : ℕ) (z : ℤ) → neg_ℤ (signed p z) ≡ signed p (neg_ℤ z)
    minus-signed zero z = refl
    minus-signed (suc p) z = refl

    go : (c : Bool) → neg_ℤ (cond c (s y +ℤ signed v (s (y + 2 ^ b))) (pos 0)) ≡ cond c (neg_ℤ (s y) +ℤ signed v (neg_ℤ (s (y + 2 ^ b)))) (pos 0)
    go true = neg_ℤ-+ℤ (s y) (signed v (s (y + 2 ^ b))) ∙ ap (λ (z : ℤ). neg_ℤ (s y) +ℤ z) (minus-signed v (s (y + 2 ^ b)))
    go false = refl

-- equal at the label, and at the one above where that counts
once-equal : (s t : ℕ → ℤ) (b v y : ℕ) → s y ≡ t y → (digit b y ≡ 0 → s (y + 2 ^ b) ≡ t (y + 2 ^ b)) → once_sum s b v y ≡ once_sum t b v y
once-equal s t b v y e g = go (dec_le (digit b y) 0)
  where
    go : Dec (digit b y ≤ 0) → once_sum s b v y ≡ once_sum t b v y
    go (yes h) =
        let z : digit b y ≡ 0 = omega arith in
        once-zero s b v y z ∙ ap₂ (λ (m n : ℤ). m +ℤ signed v n) e (g z) ∙ sym (once-zero t b v y z)
    go (no h) =
        let z : digit b y ≡ 0 → ⊥ = λ w. h (omega arith) in
        once-one s b v y z ∙ sym (once-one t b v y z)

-- a digit below the highest: the same in both halves
module _ (k b v : ℕ) (hb : b < k) (ih : (f : ℕ → ℤ) (y : ℕ) → y < 2 ^ k → signed_sum (2 ^ k) (λ x. f (put b v x)) y ≡ once_sum (signed_sum (2 ^ k) f) b v y) (f : ℕ → ℤ) (l : ℕ) (h : l < 2 ^ k) where
  above-part : signed_sum (2 ^ k) (upper k (λ x. f (put b v x))) l ≡ once_sum (signed_sum (2 ^ k) (upper k f)) b v l
  above-part = sum-equal (2 ^ k) _ _ l (λ x g. ap f (put-above k b hb v x)) ∙ ih (upper k f) l h

  step-low : signed_sum (2 ^ suc k) (λ x. f (put b v x)) l ≡ once_sum (signed_sum (2 ^ suc k) f) b v l
  step-low =
      sum_low k (λ x. f (put b v x)) l h ∙ ap₂ (λ (p q : ℤ). p +ℤ q) (ih f l h) above-part
      ∙ once-add (signed_sum (2 ^ k) f) (signed_sum (2 ^ k) (upper k f)) b v l
      ∙ once-equal (λ n. signed_sum (2 ^ k) f n +ℤ signed_sum (2 ^ k) (upper k f) n) (signed_sum (2 ^ suc k) f) b v l
      (sym (sum_low k f l h)) (λ e. sym (sum_low k f (l + 2 ^ b) (add-below k b l hb h e)))

  shifted : (s t : ℕ → ℤ) → ((y : ℕ) → y < 2 ^ k → t (2 ^ k + y) ≡ s y) → once_sum s b v l ≡ once_sum t b v (2 ^ k + l)
  shifted s t e = go (dec_le (digit b l) 0)
    where
      go : Dec (digit b l ≤ 0) → once_sum s b v l ≡ once_sum t b v (2 ^ k + l)
      go (yes w) =
          let z : digit b l ≡ 0 = omega arith in
          let p : 2 ^ k + (l + 2 ^ b) ≡ 2 ^ k + l + 2 ^ b = omega arith in
          once-zero s b v l z
          ∙ ap₂ (λ (m n : ℤ). m +ℤ signed v n) (sym (e l h)) (sym (e (l + 2 ^ b) (add-below k b l hb h z)) ∙ ap t p)
          ∙ sym (once-zero t b v (2 ^ k + l) (digit-above k b hb l ∙ z))
      go (no w) = once-one s b v l (λ z. w (omega arith)) ∙ sym (once-one t b v (2 ^ k + l) (λ z. let d = digit-above k b hb l in w (omega arith)))

  step-high : signed_sum (2 ^ suc k) (λ x. f (put b v x)) (2 ^ k + l) ≡ once_sum (signed_sum (2 ^ suc k) f) b v (2 ^ k + l)
  step-high =
      sum-high k (λ x. f (put b v x)) l h ∙ ap₂ (λ (p q : ℤ). p -ℤ q) (ih f l h) above-part
      ∙ ap (λ (z : ℤ). once_sum (signed_sum (2 ^ k) f) b v l +ℤ z) (once-neg (signed_sum (2 ^ k) (upper k f)) b v l)
      ∙ once-add (signed_sum (2 ^ k) f) (λ n. neg_ℤ (signed_sum (2 ^ k) (upper k f) n)) b v l
      ∙ shifted (λ n. signed_sum (2 ^ k) f n -ℤ signed_sum (2 ^ k) (upper k f) n) (signed_sum (2 ^ suc k) f) (λ y g. sum-high k f y g)

pub stuck-sum : (k b v : ℕ) → b < k → v < 2 → (f : ℕ → ℤ) (y : ℕ) → y < 2 ^ k → signed_sum (2 ^ k) (λ x. f (put b v x)) y ≡ once_sum (signed_sum (2 ^ k) f) b v y
stuck-sum zero b v hb hv f y h = absurd (omega arith)
stuck-sum (suc k) b v hb hv f y h = pick (λ g. stuck-sum k b v g hv) (dec_le k b)
  where
    goal : ℕ → Type 0
    goal n = signed_sum (2 ^ suc k) (λ x. f (put b v x)) n ≡ once_sum (signed_sum (2 ^ suc k) f) b v n

    pick : (b < k → (g : ℕ → ℤ) (z : ℕ) → z < 2 ^ k → signed_sum (2 ^ k) (λ x. g (put b v x)) z ≡ once_sum (signed_sum (2 ^ k) g) b v z)
        → Dec (k ≤ b) → goal y
    pick ih (yes g) =
        let e : b ≡ k = omega arith in
        subst (λ (n : ℕ). signed_sum (2 ^ suc n) (λ x. f (put b v x)) y ≡ once_sum (signed_sum (2 ^ suc n) f) b v y) e
        (⊎_elim (λ low. top-low b v hv f y low) (λ u. subst (λ (n : ℕ). signed_sum (2 ^ suc b) (λ x. f (put b v x)) n ≡ once_sum (signed_sum (2 ^ suc b) f) b v n) (sym u.2) (top-high b v hv f u.0 u.1))
        (which b y (subst (λ (n : ℕ). y < 2 ^ suc n) (sym e) h)))
    pick ih (no g) =
        let s = lt_of_not-le g in
        ⊎_elim (λ low. step-low k b v s (ih s) f y low) (λ u. subst goal (sym u.2) (step-high k b v s (ih s) f u.0 u.1)) (which k y h)

-- One input of a list.

-- input i is digit i - 1
pub replaced-put : (s : Stuck) → 1 ≤ s.line → (x : ℕ) → replaced s x ≡ put (s.line - 1) s.value x
replaced-put s first x =
    let e : s.line ≡ suc (s.line - 1) = omega arith in
    ap (λ (n : ℕ). x / 2 ^ n * 2 ^ n + s.value * 2 ^ (s.line - 1) + x % 2 ^ (s.line - 1)) e

module _ (s : Stuck) (k : ℕ) (first : 1 ≤ s.line) (last : s.line ≤ k) where
  abbrev b : ℕ
  b = s.line - 1

  pub replaced-below : (x : ℕ) → x < 2 ^ k → s.value < 2 → replaced s x < 2 ^ k
  replaced-below x h hv = subst (λ (n : ℕ). n < 2 ^ k) (sym (replaced-put s first x)) (put-below k b s.value x (omega arith) hv h)

  -- a rule read at a label and at the one above
  once-rule : (a : List ℤ) (f : ℕ → ℤ) → length a ≡ 2 ^ k → ((x : ℕ) → x < 2 ^ k → nth a x ≡ f x)
      → (y : ℕ) → y < 2 ^ k → stuck_once_at s.line s.value a y ≡ once_sum f b s.value y
  unfolding stuck_once_at
  once-rule a f e g y h = once-equal (nth a) f b s.value y (g y h) (λ z. g (y + 2 ^ b) (add-below k b y (omega arith) h z))

  pub stuck-rule : (a : List ℤ) (f : ℕ → ℤ) → length a ≡ 2 ^ k → ((x : ℕ) → x < 2 ^ k → nth a x ≡ f x)
      → stuck_once s.line s.value a ≡ tab (2 ^ k) (once_sum f b s.value)
  unfolding stuck_once
  stuck-rule a f e g = ap (λ (n : ℕ). tab n (stuck_once_at s.line s.value a)) e ∙ tab-ext (2 ^ k) _ _ (once-rule a f e g)

  stuck-once-spectrum : (rows : List ℤ) → length rows ≡ 2 ^ k → s.value < 2
      → stuck_once s.line s.value (spectrum_of rows) ≡ spectrum_of (tab (length rows) (λ x. nth rows (replaced s x)))
  stuck-once-spectrum rows e hv =
      stuck-rule (spectrum_of rows) (signed_sum (2 ^ k) (nth rows)) (length-spectrum rows ∙ e)
      (λ x h. nth-spectrum rows (2 ^ k) x e h)
      ∙ tab-ext (2 ^ k) _ _ (λ y h. sym (stuck-sum k b s.value (omega arith) hv (nth rows) y h)
      ∙ sum-equal (2 ^ k) _ _ y (λ x g. ap (nth rows) (sym (replaced-put s first x))))
      ∙ ap (λ (n : ℕ). tab n (signed_sum n (λ x. nth rows (replaced s x)))) (sym e)
      ∙ sym (spectrum-rule (length rows) (λ x. nth rows (replaced s x)))

-- Several inputs.

-- the lines rise from above `last` to at most n
abbrev pub Rises : ℕ → ℕ → List Stuck → Type 0
Rises last n [] = Unit {0}
Rises last n (s ∷ rest) = (last < s.line) × (s.line ≤ n) × Rises s.line n rest

abbrev pub Values : List Stuck → Type 0
Values [] = Unit {0}
Values (s ∷ rest) = (s.value < 2) × Values rest

-- adding an input whose line is below does not change which inputs a label names
names-add : (rest : List Stuck) (last n c y : ℕ) → Rises last n rest → suc c ≤ last → digit c y ≡ 0 → names rest (y + 2 ^ c) ≡ names rest y
unfolding names
names-add [] last n c y r l e = refl
names-add (t ∷ rest) last n c y r l e =
    let same : bit_of t.line (y + 2 ^ c) ≡ bit_of t.line y = digit-beyond c (t.line - 1) y (let q = r.0 in omega arith) e in
    ap₂ (λ (m : ℕ) (w : Bool). not (eqb m 0) || w) same (names-add rest t.line n c y r.2 (let q = r.0 in omega arith) e)

signed-zero : (p : ℕ) → signed p (pos 0) ≡ pos 0
signed-zero zero = refl
signed-zero (suc p) = refl

stuck-at-step : (s : Stuck) (rest : List Stuck) (n : ℕ) (f : ℕ → ℤ) (y : ℕ) → 1 ≤ s.line → Rises s.line n rest
    → stuck_coefficient_at (s ∷ rest) f y ≡ once_sum (stuck_coefficient_at rest f) (s.line - 1) s.value y
unfolding stuck_coefficient_at names subset_sum
stuck-at-step s rest n f y first r = go (eqb (bit_of s.line y) 0) refl
  where
    c : ℕ
    c = s.line - 1

    yes-case : (m : Bool) → names rest y ≡ m → names rest (y + 2 ^ (s.line - 1)) ≡ m
        → cond m (pos 0) (subset_sum (s ∷ rest) f y)
        ≡ cond m (pos 0) (subset_sum rest f y) +ℤ signed s.value (cond m (pos 0) (subset_sum rest f (y + 2 ^ (s.line - 1))))
    yes-case true e g = sym (ap (λ (z : ℤ). pos 0 +ℤ z) (signed-zero s.value))
    yes-case false e g = refl

    go : (w : Bool) → eqb (bit_of s.line y) 0 ≡ w
        → cond (not w || names rest y) (pos 0) (subset_sum (s ∷ rest) f y)
        ≡ cond w (stuck_coefficient_at rest f y +ℤ signed s.value (stuck_coefficient_at rest f (y + 2 ^ (s.line - 1)))) (pos 0)
    go true e =
        let same = names-add rest s.line n (s.line - 1) y r (omega arith) (eqb-true (bit_of s.line y) 0 e) in
        yes-case (names rest y) refl same
        ∙ ap (λ (m : Bool). stuck_coefficient_at rest f y +ℤ signed s.value (cond m (pos 0) (subset_sum rest f (y + 2 ^ (s.line - 1))))) (sym same)
    go false e = refl

pub length-stuck : (lines : List Stuck) (a : List ℤ) → length (stuck_spectrum_of lines a) ≡ length a
unfolding stuck_spectrum_of
length-stuck lines a = length-tab (length a) (stuck_coefficient_at lines (nth a))

pub stuck-none : (a : List ℤ) → stuck_spectrum_of [] a ≡ a
unfolding stuck_spectrum_of stuck_coefficient_at names subset_sum
stuck-none a = tab-nth a

pub stuck-step : (s : Stuck) (rest : List Stuck) (k : ℕ) (a : List ℤ) → length a ≡ 2 ^ k → Rises 0 k (s ∷ rest)
    → stuck_spectrum_of (s ∷ rest) a ≡ stuck_once s.line s.value (stuck_spectrum_of rest a)
unfolding stuck_spectrum_of
stuck-step s rest k a e r =
    let first = r.0 in
    ap (λ (n : ℕ). tab n (stuck_coefficient_at (s ∷ rest) (nth a))) e
    ∙ tab-ext (2 ^ k) _ _ (λ y h. stuck-at-step s rest k (nth a) y first r.2)
    ∙ sym (stuck-rule s k first r.1 (stuck_spectrum_of rest a) (stuck_coefficient_at rest (nth a)) (length-stuck rest a ∙ e)
    (λ x h. get_or-tab (length a) (stuck_coefficient_at rest (nth a)) (pos 0) x (omega arith)))

lower : (rest : List Stuck) (last n : ℕ) → Rises last n rest → Rises 0 n rest
lower [] last n r = tt
lower (s ∷ rest) last n r = let q = r.0 in (omega arith, r.1, r.2)

pub stuck-spectrum : (lines : List Stuck) (rows : List ℤ) (k : ℕ) → length rows ≡ 2 ^ k → Rises 0 k lines → Values lines
    → stuck_spectrum_of lines (spectrum_of rows) ≡ spectrum_of (stuck_rows lines rows)
unfolding stuck_rows stuck_row replaced_all
stuck-spectrum [] rows k e r v = stuck-none (spectrum_of rows) ∙ ap spectrum_of (sym (tab-nth rows))
stuck-spectrum (s ∷ rest) rows k e r v =
    let n : length (stuck_rows rest rows) ≡ 2 ^ k = length-tab (length rows) (stuck_row rest rows) ∙ e in
    stuck-step s rest k (spectrum_of rows) (length-spectrum rows ∙ e) r
    ∙ ap (stuck_once s.line s.value) (stuck-spectrum rest rows k e (lower rest s.line k r.2) v.1)
    ∙ stuck-once-spectrum s k r.0 r.1 (stuck_rows rest rows) n v.0
    ∙ ap (λ (m : ℕ). spectrum_of (tab m (λ x. nth (stuck_rows rest rows) (replaced s x)))) (length-tab (length rows) (stuck_row rest rows))
    ∙ ap spectrum_of (tab-ext (length rows) _ _ (λ x h. get_or-tab (length rows) (stuck_row rest rows) (pos 0) (replaced s x)
    (let q = replaced-below s k r.0 r.1 x (omega arith) v.0 in omega arith)))

-- Sizes.

pub within_all : (B : ℕ) (a : List ℤ) → Within B a → (x : ℕ) → nat_abs (nth a x) ≤ B
within_all B a w x = pick (dec_le (length a) x)
  where
    pick : Dec (length a ≤ x) → nat_abs (nth a x) ≤ B
    pick (yes h) = subst (λ (z : ℤ). nat_abs z ≤ B) (sym (get_or-eq_default a (pos 0) h)) zero-le
    pick (no h) = w x (lt_of_not-le h)

pub subset-size : (lines : List Stuck) (f : ℕ → ℤ) (B y : ℕ) → ((x : ℕ) → nat_abs (f x) ≤ B) → nat_abs (subset_sum lines f y) ≤ 2 ^ length lines * B
unfolding subset_sum
subset-size [] f B y h = le_trans (h y) (omega (arith, one-mul B))
subset-size (s ∷ rest) f B y h =
    let m = nat_abs-add (subset_sum rest f y) (signed s.value (subset_sum rest f (y + 2 ^ (s.line - 1)))) in
    let p = nat_abs-signed s.value (subset_sum rest f (y + 2 ^ (s.line - 1))) in
    let q = subset-size rest f B y h in
    let w = subset-size rest f B (y + 2 ^ (s.line - 1)) h in
    let d = ap (λ (n : ℕ). n * B) (double (length rest)) ∙ add-mul (2 ^ length rest) (2 ^ length rest) B in
    omega arith

pub within-stuck : (lines : List Stuck) (B : ℕ) (a : List ℤ) → length lines ≤ 3 → Within B a → Within (8 * B) (stuck_spectrum_of lines a)
unfolding stuck_spectrum_of stuck_coefficient_at
within-stuck lines B a few w x l =
    let n = length-tab (length a) (stuck_coefficient_at lines (nth a)) in
    subst (λ (z : ℤ). nat_abs z ≤ 8 * B) (sym (get_or-tab (length a) (stuck_coefficient_at lines (nth a)) (pos 0) x (omega arith))) (go (names lines x))
  where
    go : (m : Bool) → nat_abs (cond m (pos 0) (subset_sum lines (nth a) x)) ≤ 8 * B
    go true = zero-le
    go false = le_trans (subset-size lines (nth a) B x (within_all B a w)) (mul-le-mul_right B (pow_mono {j = 3} few))
