-- The way back:
--   rows_back          the rows of a spectrum of rows are those rows
--   spectrum-back      where every sum divides, the rows have the spectrum
--   undo, redo         the list call and the way back undo each other, refusals included
--   refused-exactly    where the earlier tests pass, 11 is given exactly when no rows in range have the spectrum
use mathlib.Core.Path.{◌≡◌, refl, sym, ap, ap₂, ◌∙◌, subst}
use mathlib.Core.List.{List}
use mathlib.Core.Logic.{◌↔◌, ◌⊎◌, inl, inr, ⊎_elim}
use mathlib.Core.Bool.{Bool, true, false}
use Prim.Native.Nat.{ℕ, zero, suc, ◌*◌, ◌^◌, ◌≤◌, ◌<◌}
use native.Mathlib.Omega.{arith}
use lib.Dec.{ltb}
use lib.IntN.{ℤ, pos, ◌*ℤ◌, nat_abs}
use lib.ListN.{length}
use lib.Pow.{pow_mono, pow_pos}
use Rattle.integer.specs.Tab.{tab, nth, Within}
use Rattle.integer.proofs.Bounds.{within_more}
use Rattle.integer.proofs.Division.{quot-exact, quot-multiple, multiple-mod}
use Rattle.integer.proofs.Group.{mul-cancel}
use Rattle.integer.proofs.Tabs.{length-tab, get_or-tab, tab-ext, tab-nth}
use Rattle.transform.specs.Spectrum.{signed_sum, spectrum_of}
use Rattle.screen.specs.Answers.{Answer, Done, answer_number, and_then, refuse_if, minus, outside, inputs_of, screen_of}
use Rattle.transform.proofs.Halving.{sum-equal, signed-sum-scale, twice}
use Rattle.screen.proofs.Screens.{Screened, first-passed, screen-done, done-screen, screened-within, within-screened, inputs-power, inputs-most, outside-small, small-outside}
use Rattle.transform.proofs.Spectra.{length-spectrum, nth-spectrum, spectrum-rule, within-spectrum}
use Rattle.results.specs.Quotients.{unfit, unfit_at, first_unfit, divided_answer, quotient_of, quotient_at, quotients_of}
use Rattle.results.proofs.Quotients.{unfit-whole, unfit-divides, unfit-inside, divided-done, done-divided}
use Rattle.walsh.specs.Lists.{spectrum_answer, inverse_rows, rows_answer}

-- The sums of a spectrum's coefficients are 2 ^ k times the rows.

module _ (rows : List ℤ) (k : ℕ) (size : length rows ≡ 2 ^ k) where
  sums-back : (x : ℕ) → x < 2 ^ k → nth (spectrum_of (spectrum_of rows)) x ≡ pos (2 ^ k) *ℤ nth rows x
  sums-back x h =
      nth-spectrum (spectrum_of rows) (2 ^ k) x (length-spectrum rows ∙ size) h
      ∙ sum-equal (2 ^ k) (nth (spectrum_of rows)) (signed_sum (2 ^ k) (nth rows)) x (λ l b. nth-spectrum rows (2 ^ k) l size b)
      ∙ twice k (nth rows) x h

  pub rows_back : inverse_rows (spectrum_of rows) ≡ rows
  unfolding inverse_rows quotients_of quotient_at
  rows_back =
      let n : length (spectrum_of (spectrum_of rows)) ≡ length rows = length-spectrum (spectrum_of rows) ∙ length-spectrum rows in
      let m : length (spectrum_of rows) ≡ 2 ^ k = length-spectrum rows ∙ size in
      ap₂ (λ (c d : ℕ). tab c (quotient_at d (spectrum_of (spectrum_of rows)))) n m
      ∙ tab-ext (length rows) _ _ (λ x h. ap (quotient_of (2 ^ k)) (sums-back x (omega arith)) ∙ quot-multiple (2 ^ k) (nth rows x) (pow_pos k))
      ∙ tab-nth rows

  -- every sum of the spectrum of rows in range fits
  sums-fit : Within 1000 rows → (x : ℕ) → x < 2 ^ k → unfit_at (2 ^ k) (minus 1000) (pos 1000) (spectrum_of (spectrum_of rows)) x ≡ false
  unfolding unfit_at
  sums-fit w x h =
      ap (unfit (2 ^ k) (minus 1000) (pos 1000)) (sums-back x h)
      ∙ unfit-whole (2 ^ k) (minus 1000) (pos 1000) (pos (2 ^ k) *ℤ nth rows x) (multiple-mod (2 ^ k) (nth rows x))
      ∙ ap (outside (minus 1000) (pos 1000)) (quot-multiple (2 ^ k) (nth rows x) (pow_pos k))
      ∙ small-outside 1000 (nth rows x) (w x (omega arith))

-- Where every sum fits, the rows have the spectrum.

above : (n : ℕ) → 0 < n → (m : ℕ) × (n ≡ suc m)
above zero h = absurd (omega arith)
above (suc n) h = (n, refl)

module _ (c : List ℤ) (k : ℕ) (size : length c ≡ 2 ^ k) (fits : (x : ℕ) → x < 2 ^ k → unfit_at (2 ^ k) (minus 1000) (pos 1000) (spectrum_of c) x ≡ false) where
  abbrev row : ℕ → ℤ
  row = quotient_at (2 ^ k) (spectrum_of c)

  rows_are : inverse_rows c ≡ tab (2 ^ k) row
  unfolding inverse_rows quotients_of
  rows_are = ap₂ (λ (n d : ℕ). tab n (quotient_at d (spectrum_of c))) (length-spectrum c ∙ size) size

  times-row : (x : ℕ) → x < 2 ^ k → pos (2 ^ k) *ℤ row x ≡ signed_sum (2 ^ k) (nth c) x
  unfolding quotient_at unfit_at
  times-row x h = quot-exact (2 ^ k) (nth (spectrum_of c) x) (unfit-divides (2 ^ k) (minus 1000) (pos 1000) (nth (spectrum_of c) x) (fits x h)) ∙ nth-spectrum c (2 ^ k) x size h

  sum_row : (l : ℕ) → l < 2 ^ k → signed_sum (2 ^ k) row l ≡ nth c l
  sum_row l h =
      let p = above (2 ^ k) (pow_pos k) in
      mul-cancel p.0 (signed_sum (2 ^ k) row l) (nth c l)
      (subst (λ (n : ℕ). pos n *ℤ signed_sum (2 ^ k) row l ≡ pos n *ℤ nth c l) p.1
      (sym (signed-sum-scale (2 ^ k) (2 ^ k) row l) ∙ sum-equal (2 ^ k) _ _ l times-row ∙ twice k (nth c) l h))

  pub spectrum-back : spectrum_of (inverse_rows c) ≡ c
  spectrum-back = ap spectrum_of rows_are ∙ spectrum-rule (2 ^ k) row ∙ tab-ext (2 ^ k) _ _ sum_row ∙ ap (λ (n : ℕ). tab n (nth c)) (sym size) ∙ tab-nth c

  pub length-inverse : length (inverse_rows c) ≡ length c
  length-inverse = ap length rows_are ∙ length-tab (2 ^ k) row ∙ sym size

  pub inverse-within : Within 1000 (inverse_rows c)
  unfolding quotient_at unfit_at
  inverse-within x h =
      let n = length-inverse in
      let b : x < 2 ^ k = omega arith in
      subst (λ (z : ℤ). nat_abs z ≤ 1000) (sym (ap (λ (l : List ℤ). nth l x) rows_are ∙ get_or-tab (2 ^ k) row (pos 0) x b))
      (outside-small 1000 (row x) (unfit-inside (2 ^ k) (minus 1000) (pos 1000) (nth (spectrum_of c) x) (fits x b)))

-- The calls.

abbrev rows_screen : List ℤ → ℕ → Answer
rows_screen c room = screen_of (minus 2048000) (pos 2048000) true c room (length c)

-- what the tests before 11 tell
module _ (c : List ℤ) (room : ℕ) (passed : rows_screen c room ≡ Done) where
  tests : Screened (minus 2048000) (pos 2048000) true c room (length c)
  tests = screen-done (minus 2048000) (pos 2048000) true c room (length c) passed

  inputs : ℕ
  inputs = inputs_of (length c)

  size : length c ≡ 2 ^ inputs
  unfolding inputs
  size = inputs-power (length c) tests.sized

  abbrev divided : Answer
  divided = divided_answer (length c) (minus 1000) (pos 1000) (spectrum_of c)

  answer-is : rows_answer c room ≡ divided
  unfolding rows_answer
  answer-is = ap (λ (a : Answer). and_then a divided) passed

  abbrev Fits : Type 0
  Fits = (x : ℕ) → x < 2 ^ inputs → unfit_at (2 ^ inputs) (minus 1000) (pos 1000) (spectrum_of c) x ≡ false

  sums-done : divided ≡ Done → Fits
  sums-done e =
      subst (λ (d : ℕ). (x : ℕ) → x < d → unfit_at d (minus 1000) (pos 1000) (spectrum_of c) x ≡ false) size
      (λ x h. divided-done (length c) (minus 1000) (pos 1000) (spectrum_of c) e x (omega (arith, length-spectrum c)))

  -- some rows in range have the spectrum: then every sum fits
  rows-done : (rows : List ℤ) → Within 1000 rows → spectrum_of rows ≡ c → divided ≡ Done
  rows-done rows w e =
      let n : length rows ≡ 2 ^ inputs = sym (length-spectrum rows) ∙ ap length e ∙ size in
      done-divided (length c) (minus 1000) (pos 1000) (spectrum_of c)
      (λ x h. ap₂ (λ (d : ℕ) (s : List ℤ). unfit_at d (minus 1000) (pos 1000) (spectrum_of s) x) size (sym e)
      ∙ sums-fit rows inputs n w x (omega (arith, length-spectrum c, size)))

  -- 11 is the only refusal that is left
  done-or-11 : (divided ≡ Done) ⊎ (answer_number divided ≡ 11)
  unfolding divided_answer
  done-or-11 = go (ltb (first_unfit (length c) (minus 1000) (pos 1000) (spectrum_of c)) (length (spectrum_of c)))
    where
      go : (b : Bool) → (refuse_if b 11 (first_unfit (length c) (minus 1000) (pos 1000) (spectrum_of c)) Done ≡ Done)
          ⊎ (answer_number (refuse_if b 11 (first_unfit (length c) (minus 1000) (pos 1000) (spectrum_of c)) Done) ≡ 11)
      go true = inr refl
      go false = inl refl

  pub refused-exactly : (answer_number (rows_answer c room) ≡ 11) ↔ ((rows : List ℤ) → Within 1000 rows → spectrum_of rows ≡ c → ⊥)
  refused-exactly = (to, from)
    where
      to : answer_number (rows_answer c room) ≡ 11 → (rows : List ℤ) → Within 1000 rows → spectrum_of rows ≡ c → ⊥
      to e rows w s = let z : ◌≡◌ {A = ℕ} 0 11 = sym (ap answer_number (answer-is ∙ rows-done rows w s)) ∙ e in omega arith

      from : ((rows : List ℤ) → Within 1000 rows → spectrum_of rows ≡ c → ⊥) → answer_number (rows_answer c room) ≡ 11
      from none =
          ap answer_number answer-is
          ∙ ⊎_elim (λ d. absurd (none (inverse_rows c) (inverse-within c inputs size (sums-done d)) (spectrum-back c inputs size (sums-done d)))) (λ e. e) done-or-11

  -- a result: rows in range with that spectrum
  pub rows-met : rows_answer c room ≡ Done → Within 1000 (inverse_rows c) × (spectrum_of (inverse_rows c) ≡ c) × (length (inverse_rows c) ≡ length c)
  rows-met e =
      let fits = sums-done (sym answer-is ∙ e) in
      (inverse-within c inputs size fits, spectrum-back c inputs size fits, length-inverse c inputs size fits)

-- the way back takes every spectrum that the list call gives, and gives the rows again
pub undo : (rows : List ℤ) (room : ℕ) → spectrum_answer rows room ≡ Done → (rows_answer (spectrum_of rows) room ≡ Done) × (inverse_rows (spectrum_of rows) ≡ rows)
unfolding spectrum_answer
undo rows room e = (answer-is (spectrum_of rows) room passed ∙ rows-done (spectrum_of rows) room passed rows within refl, rows_back rows (inputs_of (length rows)) size_of)
  where
    known : Screened (minus 1000) (pos 1000) true rows room (length rows)
    known = screen-done (minus 1000) (pos 1000) true rows room (length rows) e

    size_of : length rows ≡ 2 ^ inputs_of (length rows)
    size_of = inputs-power (length rows) known.sized

    within : Within 1000 rows
    within = screened-within 1000 rows known.inside

    few : length rows * 1000 ≤ 2048000
    few = let m : 2 ^ inputs_of (length rows) ≤ 2 ^ 11 = pow_mono {j = 11} (inputs-most (length rows)) in omega (arith, size_of)

    passed : rows_screen (spectrum_of rows) room ≡ Done
    passed =
        let n = length-spectrum rows in
        done-screen (minus 2048000) (pos 2048000) true (spectrum_of rows) room (length (spectrum_of rows)) (record {
          sized = subst (λ (m : ℕ). 0 < inputs_of m) (sym n) known.sized;
          right = refl;
          inside = within-screened 2048000 (spectrum_of rows) (within_more (spectrum_of rows) few (within-spectrum 1000 rows within));
          fits = let r = known.fits in omega arith;
        })

-- the list call takes the rows that the way back gives, and gives the coefficients again
pub redo : (c : List ℤ) (room : ℕ) → rows_answer c room ≡ Done → (spectrum_answer (inverse_rows c) room ≡ Done) × (spectrum_of (inverse_rows c) ≡ c)
unfolding spectrum_answer rows_answer
redo c room e = (taken, met.1)
  where
    passed : rows_screen c room ≡ Done
    passed = first-passed (rows_screen c room) (divided_answer (length c) (minus 1000) (pos 1000) (spectrum_of c)) e

    known : Screened (minus 2048000) (pos 2048000) true c room (length c)
    known = tests c room passed

    met : Within 1000 (inverse_rows c) × (spectrum_of (inverse_rows c) ≡ c) × (length (inverse_rows c) ≡ length c)
    met = rows-met c room passed e

    taken : screen_of (minus 1000) (pos 1000) true (inverse_rows c) room (length (inverse_rows c)) ≡ Done
    taken =
        let n = met.2 in
        done-screen (minus 1000) (pos 1000) true (inverse_rows c) room (length (inverse_rows c)) (record {
          sized = subst (λ (m : ℕ). 0 < inputs_of m) (sym n) known.sized;
          right = refl;
          inside = within-screened 1000 (inverse_rows c) met.0;
          fits = let r = known.fits in omega arith;
        })
