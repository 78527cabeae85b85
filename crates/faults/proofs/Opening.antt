-- Opened lines:
--   opened-sum        on the signed sums of n + k inputs the sum over the opened lines is 2 ^ k times the sum with the lines set
--   opened-spectrum   on a spectrum of rows the formula equals the spectrum of the rows with the opened lines set
--   opened-divides    and every sum divides
--   opened-sums       the first 2 ^ n numbers of the stuck-input formula for the opened lines are the sums over the opened lines
--   sums-answer, sums-quotients    divided by 2 ^ k they give the call's answer and its numbers
use mathlib.Core.Path.{◌≡◌, refl, sym, ap, ap₂, ◌∙◌, subst}
use mathlib.Core.List.{List, [], ◌∷◌}
use mathlib.Core.Bool.{Bool, false, not, cond, ◌||◌, or-false}
use Prim.Native.Nat.{ℕ, suc, ◌+◌, ◌*◌, ◌-◌, ◌%◌, ◌^◌, ◌≤◌, ◌<◌}
use native.Mathlib.Nat.{le_trans, div-eq_of_lt, div-le_of_le-mul}
use native.Mathlib.Omega.{arith}
use lib.Dec.{ltb}
use lib.IntN.{ℤ, pos, ◌+ℤ◌, ◌*ℤ◌, nat_abs}
use lib.ListN.{length, take}
use lib.Pow.{pow_mono, pow_pos}
use lib.Signed.{quot_z}
use borrow.Author.Tests.{eq-eqb}
use Rattle.integer.specs.First.{first_where}
use Rattle.integer.specs.Sum.{signed}
use Rattle.integer.specs.Tab.{tab, nth, Within}
use Rattle.integer.proofs.Division.{quot-multiple, multiple-mod, nat_abs-quot}
use Rattle.integer.proofs.Firsts.{first-ext}
use Rattle.integer.proofs.Group.{mul-plus, mul-double, mul-one}
use Rattle.integer.proofs.Sums.{signed-scale}
use Rattle.integer.proofs.Tabs.{length-tab, get_or-tab, tab-ext, take-tab}
use Rattle.integer.proofs.Halves.{double}
use Rattle.transform.specs.Spectrum.{signed_sum, spectrum_of}
use Rattle.screen.specs.Answers.{Answer, Done, refuse_if, minus, inputs_of, outside}
use Rattle.results.specs.Quotients.{quotient_of, quotient_at, quotients_of, unfit, unfit_at, first_unfit, divided_answer}
use Rattle.screen.proofs.Screens.{small-outside}
use Rattle.transform.proofs.Spectra.{length-spectrum, nth-spectrum, spectrum-rule}
use Rattle.faults.specs.Faults.{names, subset_sum, stuck_coefficient_at, stuck_spectrum_of, bit_of, kept_inputs, lines_after, opened_sum_at, opened_at, opened_spectrum_of, undivided_at, first_undivided, undivided_answer, opened_row_number, opened_row, opened_rows}
use Rattle.faults.proofs.Sticking.{half-chosen, subset-size, within_all}

-- each value is 0 or 1
abbrev pub Bits : List ℕ → Type 0
Bits [] = Unit {0}
Bits (v ∷ rest) = (v < 2) × Bits rest

-- line n + 1 is digit n
shift : (n : ℕ) → 2 ^ (suc n - 1) ≡ 2 ^ n
shift n = let e : suc n - 1 ≡ n = omega arith in ap (λ (m : ℕ). 2 ^ m) e

-- only coefficients below 2 ^ m are read
pub after_equal : (values : List ℕ) (n m : ℕ) → m ≡ n + length values → (f g : ℕ → ℤ) → ((x : ℕ) → x < 2 ^ m → f x ≡ g x)
    → (l : ℕ) → l < 2 ^ n → subset_sum (lines_after n values) f l ≡ subset_sum (lines_after n values) g l
unfolding subset_sum lines_after
after_equal [] n m e f g h l b = let w : m ≡ n = omega arith in h l (subst (λ (k : ℕ). l < 2 ^ k) (sym w) b)
after_equal (v ∷ rest) n m e f g h l b =
    let w : m ≡ suc n + length rest = omega arith in
    let ih = after_equal rest (suc n) m w f g h in
    ap₂ (λ (p q : ℤ). p +ℤ signed v q) (ih l (omega (arith, double n))) (ih (l + 2 ^ (suc n - 1)) (omega (arith, double n, shift n)))

pub opened-sum : (values : List ℕ) (n m : ℕ) → m ≡ n + length values → Bits values → (f : ℕ → ℤ) (l : ℕ) → l < 2 ^ n
    → subset_sum (lines_after n values) (signed_sum (2 ^ m) f) l ≡ pos (2 ^ length values) *ℤ signed_sum (2 ^ n) (λ x. f (opened_row_number n values x)) l
unfolding subset_sum lines_after opened_row_number
opened-sum [] n m e v f l b =
    let w : m ≡ n = omega arith in
    ap (λ (k : ℕ). signed_sum (2 ^ k) f l) w ∙ sym (mul-one (signed_sum (2 ^ n) f l))
opened-sum (v ∷ rest) n m e bits f l b =
    let w : m ≡ suc n + length rest = omega arith in
    let ih = opened-sum rest (suc n) m w bits.1 f in
    let p : l + 2 ^ (suc n - 1) ≡ 2 ^ n + l = omega (arith, shift n) in
    let g : ℕ → ℤ = λ x. f (opened_row_number (suc n) rest x) in
    let scale = 2 ^ length rest in
    ap₂ (λ (y z : ℤ). y +ℤ signed v z) (ih l (omega (arith, double n)))
    (ap (subset_sum (lines_after (suc n) rest) (signed_sum (2 ^ m) f)) p ∙ ih (2 ^ n + l) (omega (arith, double n)))
    ∙ ap (λ (z : ℤ). pos scale *ℤ signed_sum (2 ^ suc n) g l +ℤ z) (signed-scale scale v (signed_sum (2 ^ suc n) g (2 ^ n + l)))
    ∙ sym (mul-plus scale (signed_sum (2 ^ suc n) g l) (signed v (signed_sum (2 ^ suc n) g (2 ^ n + l))))
    ∙ ap (λ (z : ℤ). pos scale *ℤ z) (half-chosen n v g l bits.0 b)
    ∙ mul-double scale (signed_sum (2 ^ n) (λ x. g (v * 2 ^ n + x)) l)
    ∙ ap (λ (k : ℕ). pos k *ℤ signed_sum (2 ^ n) (λ x. g (v * 2 ^ n + x)) l) (sym (double (length rest)))

-- rows of m inputs, of which the last are opened
module _ (rows : List ℤ) (values : List ℕ) (n m : ℕ) (size : length rows ≡ 2 ^ m) (inputs : inputs_of (length rows) ≡ m) (parts : m ≡ n + length values) (bits : Bits values) where
  kept : kept_inputs (spectrum_of rows) values ≡ n
  kept = let e : inputs_of (length (spectrum_of rows)) ≡ m = ap inputs_of (length-spectrum rows) ∙ inputs in omega arith

  sum_is : (l : ℕ) → l < 2 ^ n → opened_sum_at (spectrum_of rows) values l ≡ pos (2 ^ length values) *ℤ signed_sum (2 ^ n) (opened_row n values rows) l
  unfolding opened_sum_at opened_row
  sum_is l h =
      ap (λ (k : ℕ). subset_sum (lines_after k values) (nth (spectrum_of rows)) l) kept
      ∙ after_equal values n m parts (nth (spectrum_of rows)) (signed_sum (2 ^ m) (nth rows))
      (λ x b. nth-spectrum rows (2 ^ m) x size b) l h
      ∙ opened-sum values n m parts bits (nth rows) l h

  pub opened-spectrum : opened_spectrum_of (spectrum_of rows) values ≡ spectrum_of (opened_rows n values rows)
  unfolding opened_spectrum_of opened_at opened_rows
  opened-spectrum =
      ap (λ (k : ℕ). tab (2 ^ k) (opened_at (spectrum_of rows) values)) kept
      ∙ tab-ext (2 ^ n) _ _ (λ l h. ap (λ (z : ℤ). quot_z z (pos (2 ^ length values))) (sum_is l h) ∙ quot-multiple (2 ^ length values) (signed_sum (2 ^ n) (opened_row n values rows) l) (pow_pos (length values)))
      ∙ sym (spectrum-rule (2 ^ n) (opened_row n values rows))

  pub opened-divides : (l : ℕ) → l < 2 ^ kept_inputs (spectrum_of rows) values → undivided_at (spectrum_of rows) values l ≡ false
  unfolding undivided_at
  opened-divides l h =
      ap not
      (eq-eqb _ 0 (ap (λ (z : ℤ). nat_abs z % 2 ^ length values) (sum_is l (subst (λ (k : ℕ). l < 2 ^ k) kept h)) ∙ multiple-mod (2 ^ length values) (signed_sum (2 ^ n) (opened_row n values rows) l)))

-- no label of the n inputs names a line after them
names-none : (values : List ℕ) (n c l : ℕ) → l < 2 ^ n → n ≤ c → names (lines_after c values) l ≡ false
unfolding names lines_after
names-none [] n c l h g = refl
names-none (v ∷ rest) n c l h g =
    let small : l < 2 ^ (suc c - 1) = le_trans h (subst (λ (k : ℕ). 2 ^ n ≤ k) (sym (shift c)) (pow_mono g)) in
    let none : bit_of (suc c) l ≡ 0 = ap (λ (k : ℕ). k % 2) (div-eq_of_lt small) in
    ap₂ (λ (v w : Bool). not v || w) (eq-eqb (bit_of (suc c) l) 0 none) (names-none rest n (suc c) l h (omega arith))

stuck-after : (values : List ℕ) (n : ℕ) (f : ℕ → ℤ) (l : ℕ) → l < 2 ^ n → stuck_coefficient_at (lines_after n values) f l ≡ subset_sum (lines_after n values) f l
unfolding stuck_coefficient_at
stuck-after values n f l h = ap (λ (w : Bool). cond w (pos 0) (subset_sum (lines_after n values) f l)) (names-none values n n l h (omega arith))

-- What the call computes from any coefficients.

length-after : (n : ℕ) (values : List ℕ) → length (lines_after n values) ≡ length values
unfolding lines_after
length-after n [] = refl
length-after n (v ∷ rest) = ap suc (length-after (suc n) rest)

-- 11 where the first sum that does not divide is before the end
abbrev answer : ℕ → ℕ → Answer
answer first n = refuse_if (ltb first n) 11 first Done

-- the sums at the labels of n inputs
abbrev pub opened_sums : List ℤ → List ℕ → ℕ → List ℤ
opened_sums c values n = tab (2 ^ n) (opened_sum_at c values)

module _ (c : List ℤ) (values : List ℕ) (n : ℕ) (kept-is : kept_inputs c values ≡ n) where
  pub opened-sums : 2 ^ n ≤ length c → take (2 ^ n) (stuck_spectrum_of (lines_after n values) c) ≡ opened_sums c values n
  unfolding stuck_spectrum_of opened_sum_at
  opened-sums h =
      take-tab (2 ^ n) (length c) (stuck_coefficient_at (lines_after n values) (nth c)) h
      ∙ tab-ext (2 ^ n) _ _ (λ l b. stuck-after values n (nth c) l b ∙ ap (λ (k : ℕ). subset_sum (lines_after k values) (nth c) l) (sym kept-is))

  module _ (small : Within 2048000 c) where
    quotient-inside : (l : ℕ) → outside (minus 2048000) (pos 2048000) (quotient_of (2 ^ length values) (opened_sum_at c values l)) ≡ false
    unfolding opened_sum_at
    quotient-inside l =
        let size = subset-size (lines_after (kept_inputs c values) values) (nth c) 2048000 l (within_all 2048000 c small) in
        small-outside 2048000 _ (subst (λ (m : ℕ). m ≤ 2048000) (sym (nat_abs-quot (2 ^ length values) (opened_sum_at c values l)))
        (div-le_of_le-mul (2 ^ length values) (subst (λ (m : ℕ). nat_abs (opened_sum_at c values l) ≤ 2 ^ m * 2048000) (length-after (kept_inputs c values) values) size)))

    unfit-is : (l : ℕ) → unfit (2 ^ length values) (minus 2048000) (pos 2048000) (opened_sum_at c values l) ≡ undivided_at c values l
    unfolding unfit undivided_at
    unfit-is l = rw (quotient-inside l, or-false)

    pub sums-answer : divided_answer (2 ^ length values) (minus 2048000) (pos 2048000) (opened_sums c values n) ≡ undivided_answer c values
    unfolding divided_answer undivided_answer first_unfit first_undivided unfit_at
    sums-answer =
        let size = length-tab (2 ^ n) (opened_sum_at c values) in
        let first : first_where (unfit_at (2 ^ length values) (minus 2048000) (pos 2048000) (opened_sums c values n)) (2 ^ n) ≡ first_where (undivided_at c values) (2 ^ n) =
        first-ext _ _ (2 ^ n) (λ l b. ap (unfit (2 ^ length values) (minus 2048000) (pos 2048000)) (get_or-tab (2 ^ n) (opened_sum_at c values) (pos 0) l b) ∙ unfit-is l) in
        ap (λ (m : ℕ). answer (first_where (unfit_at (2 ^ length values) (minus 2048000) (pos 2048000) (opened_sums c values n)) m) m) size
        ∙ ap (λ (r : ℕ). answer r (2 ^ n)) first ∙ ap (λ (m : ℕ). answer (first_where (undivided_at c values) (2 ^ m)) (2 ^ m)) (sym kept-is)

  pub sums-quotients : quotients_of (2 ^ length values) (opened_sums c values n) ≡ opened_spectrum_of c values
  unfolding quotients_of quotient_at opened_spectrum_of opened_at
  sums-quotients =
      ap (λ (m : ℕ). tab m (quotient_at (2 ^ length values) (opened_sums c values n))) (length-tab (2 ^ n) (opened_sum_at c values))
      ∙ tab-ext (2 ^ n) _ _ (λ l b. ap (quotient_of (2 ^ length values)) (get_or-tab (2 ^ n) (opened_sum_at c values) (pos 0) l b))
      ∙ ap (λ (m : ℕ). tab (2 ^ m) (opened_at c values)) (sym kept-is)
