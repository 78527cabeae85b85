-- The spectrum of a list is made of its halves' spectra:
--   single, merge          one number is its own spectrum; two halves' spectra are merged by the butterfly
--   low-small, high-small  the halves are no larger than a transform takes
--   spectra-long, spectra-small, spectra-merged    their spectra are what the butterfly takes, and it merges them
use mathlib.Core.Path.{◌≡◌, sym, ap, ap₂, ◌∙◌, subst⁻¹}
use mathlib.Core.List.{List, [], ◌∷◌, ◌++◌}
use Prim.Native.Nat.{ℕ, suc, ◌+◌, ◌/◌, ◌^◌, ◌≤◌, ◌<◌}
use native.Mathlib.Numerals.{add-one}
use native.Mathlib.Omega.{arith}
use lib.Pow.{pow_mono}
use lib.IntN.{ℤ, pos, ◌+ℤ◌, ◌-ℤ◌, +ℤ_idl}
use lib.ListN.{length, take, drop, length-append, length-drop, get_or-append}
use lib.Seq.{length-take-le, get_or-take, get_or-drop, get_or-append-add}
use lib.Count.{ones}
use Rattle.integer.specs.Sum.{sum_to}
use Rattle.integer.specs.Tab.{tab, nth, Within}
use Rattle.integer.proofs.Bounds.{within-take, within-drop, within-append, within_more}
use Rattle.integer.proofs.Tabs.{tab-ext, tab-split}
use Rattle.integer.proofs.Halves.{double}
use Rattle.transform.specs.Spectrum.{Transformable, term_of, signed_sum, coefficient_of, spectrum_of}
use Rattle.transform.specs.Steps.{halves_mixed}
use Rattle.transform.proofs.Halving.{sum_low, sum-high, sum-equal, upper}
use Rattle.transform.proofs.Spectra.{length-spectrum, nth-spectrum, spectrum-tab, within-spectrum}

-- one number is its own spectrum
pub single : (a : List ℤ) → length a ≡ 1 → a ≡ spectrum_of a
unfolding spectrum_of coefficient_of signed_sum term_of tab sum_to ones
single [] e = absurd (omega arith)
single (x ∷ []) e = ap (λ (z : ℤ). z ∷ []) (sym (+ℤ_idl x))
single (x ∷ y ∷ r) e = absurd (omega arith)

module _ (a : List ℤ) (j : ℕ) (e : length a ≡ 2 ^ j + 2 ^ j) where
  abbrev both : List ℤ
  both = spectrum_of (take (2 ^ j) a) ++ spectrum_of (drop (2 ^ j) a)

  low : length (take (2 ^ j) a) ≡ 2 ^ j
  low = length-take-le (2 ^ j) a (omega arith)

  low-spectrum : length (spectrum_of (take (2 ^ j) a)) ≡ 2 ^ j
  low-spectrum = length-spectrum (take (2 ^ j) a) ∙ low

  at_low : (x : ℕ) → x < 2 ^ j → nth both x ≡ signed_sum (2 ^ j) (nth a) x
  at_low x l =
      get_or-append (spectrum_of (take (2 ^ j) a)) _ (pos 0) x (omega (arith, low-spectrum))
      ∙ nth-spectrum (take (2 ^ j) a) (2 ^ j) x low l ∙ sum-equal (2 ^ j) _ _ x (λ i b. get_or-take (2 ^ j) a i (pos 0) b)

  at_high : (x : ℕ) → x < 2 ^ j → nth both (2 ^ j + x) ≡ signed_sum (2 ^ j) (upper j (nth a)) x
  at_high x l =
      ap (λ (n : ℕ). nth both (n + x)) (sym low-spectrum)
      ∙ get_or-append-add (spectrum_of (take (2 ^ j) a)) (spectrum_of (drop (2 ^ j) a)) x (pos 0)
      ∙ nth-spectrum (drop (2 ^ j) a) (2 ^ j) x (omega (arith, length-drop (2 ^ j) a)) l
      ∙ sum-equal (2 ^ j) _ _ x (λ i b. get_or-drop (2 ^ j) a i (pos 0))

  pub merge : halves_mixed both (2 ^ j) ≡ spectrum_of a
  unfolding halves_mixed
  merge =
      ap₂ (λ (p q : List ℤ). p ++ q)
      (tab-ext (2 ^ j) _ _ (λ x l. ap₂ (λ (u v : ℤ). u +ℤ v) (at_low x l) (at_high x l) ∙ sym (sum_low j (nth a) x l)))
      (tab-ext (2 ^ j) _ _ (λ x l. ap₂ (λ (u v : ℤ). u -ℤ v) (at_low x l) (at_high x l) ∙ sym (sum-high j (nth a) x l)))
      ∙ sym (tab-split (2 ^ j) (2 ^ j) (signed_sum (2 ^ suc j) (nth a)))
      ∙ ap (λ (n : ℕ). tab n (signed_sum (2 ^ suc j) (nth a))) (sym (double j))
      ∙ sym (spectrum-tab a (2 ^ suc j) (e ∙ sym (double j)))

-- Two calls on the halves of a slice of h + h numbers, h = 2 ^ j: the first leaves L in the lower half, the second R in the upper half.

-- A slice of two halves, between the calls on them.
module _ (k n : ℕ) (a : List ℤ) (up : n ≡ k + 1) (small : Transformable n a) where
  whole : length a ≡ 2 ^ k + 2 ^ k
  whole = small.long ∙ ap (λ (m : ℕ). 2 ^ m) (up ∙ add-one k) ∙ double k

  half : length a / 2 ≡ 2 ^ k
  half = omega (arith, whole)

  two-halves : length a ≡ length a / 2 + length a / 2
  two-halves = omega (arith, whole)

  few : length a / 2 ≤ 2048
  few = let m : 2 ^ k ≤ 2 ^ 11 = pow_mono {j = 11} (omega arith) in omega (arith, half)

  module _ (x y : List ℤ) (ex : x ≡ take (length a / 2) a) (ey : y ≡ drop (length a / 2) a) where
    low-long : length x ≡ length a / 2
    low-long = ap length ex ∙ length-take-le (length a / 2) a (omega (arith, two-halves))

    high-long : length y ≡ length a / 2
    high-long = ap length ey ∙ omega (arith, length-drop (length a / 2) a, two-halves)

    pub low-small : Transformable k x
    low-small = record {
      inputs = omega arith;
      long = low-long ∙ half;
      within = subst⁻¹ (Within 2048000) ex (within-take 2048000 (length a / 2) a (omega (arith, two-halves)) small.within);
    }

    pub high-small : Transformable k y
    high-small = record {
      inputs = omega arith;
      long = high-long ∙ half;
      within = subst⁻¹ (Within 2048000) ey (within-drop 2048000 (length a / 2) a small.within);
    }

    module _ (p q : List ℤ) (ep : p ≡ spectrum_of x) (eq : q ≡ spectrum_of y) where
      pub spectra-long : length (p ++ q) ≡ length a / 2 + length a / 2
      spectra-long =
          length-append p q
          ∙ ap₂ (λ (m n : ℕ). m + n) (ap length ep ∙ length-spectrum x ∙ low-long) (ap length eq ∙ length-spectrum y ∙ high-long)

      pub spectra-small : Within 4194304000 (p ++ q)
      spectra-small =
          within-append 4194304000 p q
          (subst⁻¹ (Within 4194304000) ep (within_more (spectrum_of x) (omega (arith, low-long, few)) (within-spectrum 2048000 x low-small.within)))
          (subst⁻¹ (Within 4194304000) eq (within_more (spectrum_of y) (omega (arith, high-long, few)) (within-spectrum 2048000 y high-small.within)))

      pub spectra-merged : halves_mixed (p ++ q) (length a / 2) ≡ spectrum_of a
      spectra-merged =
          ap₂ (λ (u v : List ℤ). halves_mixed (u ++ v) (length a / 2)) (ep ∙ ap spectrum_of ex) (eq ∙ ap spectrum_of ey)
          ∙ ap (λ (n : ℕ). halves_mixed (spectrum_of (take n a) ++ spectrum_of (drop n a)) n) half
          ∙ merge a k whole
