-- The bridge formula on a spectrum of 2 ^ k rows, for inputs 1 ≤ i, i below j, j ≤ k:
--   bridged-spectrum    it equals the spectrum of the rows with the inputs bridged
--   bridged-halves      every half comes out whole
use mathlib.Core.Path.{◌≡◌, refl, sym, ap, ap₂, ◌∙◌}
use mathlib.Core.Bool.{false, not}
use mathlib.Core.List.{List}
use Prim.Native.Nat.{ℕ, zero, suc, ◌+◌, ◌-◌, ◌%◌, ◌^◌, ◌≤◌, ◌<◌}
use native.Mathlib.Omega.{arith}
use lib.IntN.{ℤ, nat_abs, ◌+ℤ◌, neg_ℤ}
use lib.ListN.{length}
use borrow.Author.Tests.{eq-eqb}
use Rattle.integer.specs.Tab.{tab, nth}
use Rattle.integer.proofs.Division.{half-double, double-even}
use Rattle.integer.proofs.Tabs.{tab-ext}
use Rattle.results.specs.Quotients.{quotient_of}
use Rattle.transform.specs.Spectrum.{signed_sum, spectrum_of}
use Rattle.transform.proofs.Halving.{sum-equal}
use Rattle.transform.proofs.Spectra.{length-spectrum, nth-spectrum, spectrum-rule}
use Rattle.faults.specs.Faults.{bit_of, bridged_row, bridged_rows}
use Rattle.faults.proofs.BridgedRows.{bridged-put}
use Rattle.faults.proofs.Digits.{digit-small}
use Rattle.bridges.specs.Bridges.{without_both, pair_sum, half_at, with_neither, bridged_by, bridged_at, bridged_spectrum_of, unhalved_at}
use Rattle.bridges.proofs.BridgeLabels.{without-first, without-second, label-by, without-below, first_below, second_below, both_below}
use Rattle.bridges.proofs.Bridging.{join_digits, bridge-halves, bridge-neither, bridge-second, bridge-both}

module _ (rows : List ℤ) (k i j : ℕ) (size : length rows ≡ 2 ^ k) (low : 1 ≤ i) (rise : i < j) (high : j ≤ k) where
  abbrev b : ℕ
  b = i - 1

  abbrev c : ℕ
  c = j - 1

  abbrev S : ℕ → ℤ
  S = signed_sum (2 ^ k) (nth rows)

  abbrev G : ℕ → ℤ
  G = signed_sum (2 ^ k) (λ x. nth rows (join_digits b c x))

  -- the coefficients
  abbrev F : ℕ → ℤ
  F = nth (spectrum_of rows)

  read : (l : ℕ) → l < 2 ^ k → F l ≡ S l
  read l h = nth-spectrum rows (2 ^ k) l size h

  module _ (y : ℕ) (hy : y < 2 ^ k) where
    abbrev y0 : ℕ
    y0 = without_both i j y

    hy0 : y0 < 2 ^ k
    hy0 = without-below i j low rise k high y hy

    abbrev H : ℤ
    H = G (y0 + 2 ^ b)

    pair_is : pair_sum i j F y ≡ H +ℤ H
    unfolding pair_sum
    pair_is =
        ap₂ (λ (m n : ℤ). m +ℤ n) (read (y0 + 2 ^ b) (first_below i j low rise k high y hy)) (read (y0 + 2 ^ c) (second_below i j low rise k high y hy))
        ∙ bridge-halves k b c (omega arith) (omega arith) y0 hy0 (without-first i j low rise y) (without-second i j low rise y) (nth rows)

    pub bridged-halves : unhalved_at i j (spectrum_of rows) y ≡ false
    unfolding unhalved_at
    bridged-halves = ap not (eq-eqb _ 0 (ap (λ (z : ℤ). nat_abs z % 2) pair_is ∙ double-even H))

    half : half_at i j F y ≡ H
    unfolding half_at
    half = ap (quotient_of 2) pair_is ∙ half-double H

    neither : y0 ≡ y → with_neither i j F y ≡ G y
    unfolding with_neither
    neither same =
        ap₂ (λ (m n : ℤ). (m +ℤ half_at i j F y) +ℤ n) (read y hy ∙ ap S (sym same))
        (ap (λ (n : ℕ). F (n + 2 ^ b + 2 ^ c)) (sym same) ∙ read (y0 + 2 ^ b + 2 ^ c) (both_below i j low rise k high y hy))
        ∙ ap (λ (z : ℤ). (S y0 +ℤ z) +ℤ S (y0 + 2 ^ b + 2 ^ c)) half
        ∙ sym (bridge-neither k b c (omega arith) (omega arith) y0 hy0 (without-first i j low rise y) (without-second i j low rise y) (nth rows))
        ∙ ap G same

    at_label : bridged_at i j F y ≡ G y
    unfolding bridged_at bridged_by
    at_label = go (bit_of i y) refl (digit-small b y) (bit_of j y) refl (digit-small c y)
      where
        go : (d : ℕ) → bit_of i y ≡ d → d < 2 → (e : ℕ) → bit_of j y ≡ e → e < 2 → bridged_by i j F y (d + e) ≡ G y
        go zero hd l zero he m = neither (let w = label-by i j low rise y 0 0 hd he in omega arith)
        go zero hd l (suc zero) he m =
            let w = label-by i j low rise y 0 1 hd he in
            half ∙ sym (bridge-second k b c (omega arith) (omega arith) y0 hy0 (without-first i j low rise y) (without-second i j low rise y) (nth rows)) ∙ ap G (omega arith)
        go (suc zero) hd l zero he m = let w = label-by i j low rise y 1 0 hd he in half ∙ ap G (omega arith)
        go (suc zero) hd l (suc zero) he m =
            let w = label-by i j low rise y 1 1 hd he in
            ap neg_ℤ half ∙ sym (bridge-both k b c (omega arith) (omega arith) y0 hy0 (without-first i j low rise y) (without-second i j low rise y) (nth rows)) ∙ ap G (omega arith)
        go (suc (suc d)) hd l e he m = absurd (omega arith)
        go zero hd l (suc (suc e)) he m = absurd (omega arith)
        go (suc zero) hd l (suc (suc e)) he m = absurd (omega arith)

  pub bridged-spectrum : bridged_spectrum_of i j (spectrum_of rows) ≡ spectrum_of (bridged_rows i j rows)
  unfolding bridged_spectrum_of bridged_rows
  bridged-spectrum =
      ap (λ (n : ℕ). tab n (bridged_at i j F)) (length-spectrum rows ∙ size)
      ∙ tab-ext (2 ^ k) _ _ (λ y h. at_label y h ∙ sum-equal (2 ^ k) _ _ y (λ x l. ap (nth rows) (sym (bridged-put i j low rise x))))
      ∙ ap (λ (n : ℕ). tab n (signed_sum n (λ x. nth rows (bridged_row i j x)))) (sym size)
      ∙ sym (spectrum-rule (length rows) (λ x. nth rows (bridged_row i j x)))
