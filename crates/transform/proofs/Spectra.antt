-- The spectrum of a list as a list:
--   length-spectrum, nth-spectrum    its length and its numbers
--   spectrum-tab, spectrum-rule      its rule, and the spectrum of a list that is made by a rule
--   within-spectrum                  its numbers are at most the length times as large as the rows
use mathlib.Core.Path.{◌≡◌, refl, sym, ap, ◌∙◌, subst}
use mathlib.Core.List.{List}
use Prim.Native.Nat.{ℕ, ◌*◌, ◌≤◌, ◌<◌}
use native.Mathlib.Omega.{arith}
use lib.IntN.{ℤ, pos, nat_abs}
use lib.ListN.{length}
use Rattle.integer.specs.Tab.{tab, nth, Within}
use Rattle.integer.proofs.Tabs.{length-tab, get_or-tab, tab-ext}
use Rattle.transform.specs.Spectrum.{signed_sum, coefficient_of, spectrum_of}
use Rattle.transform.proofs.Halving.{sum-equal}
use Rattle.transform.proofs.Terms.{sum-le}

pub length-spectrum : (a : List ℤ) → length (spectrum_of a) ≡ length a
unfolding spectrum_of
length-spectrum a = length-tab (length a) (coefficient_of a)

pub spectrum-tab : (a : List ℤ) (n : ℕ) → length a ≡ n → spectrum_of a ≡ tab n (signed_sum n (nth a))
unfolding spectrum_of coefficient_of
spectrum-tab a n e = ap (λ (m : ℕ). tab m (λ x. signed_sum m (nth a) x)) e

pub nth-spectrum : (a : List ℤ) (n x : ℕ) → length a ≡ n → x < n → nth (spectrum_of a) x ≡ signed_sum n (nth a) x
nth-spectrum a n x e h = ap (λ (l : List ℤ). nth l x) (spectrum-tab a n e) ∙ get_or-tab n (signed_sum n (nth a)) (pos 0) x h

pub spectrum-rule : (n : ℕ) (f : ℕ → ℤ) → spectrum_of (tab n f) ≡ tab n (signed_sum n f)
spectrum-rule n f =
    spectrum-tab (tab n f) n (length-tab n f) ∙ tab-ext n _ _ (λ y h. sum-equal n (nth (tab n f)) f y (λ x b. get_or-tab n f (pos 0) x b))

pub within-spectrum : (B : ℕ) (a : List ℤ) → Within B a → Within (length a * B) (spectrum_of a)
within-spectrum B a w x l =
    subst (λ (z : ℤ). nat_abs z ≤ length a * B) (sym (nth-spectrum a (length a) x refl (omega (arith, length-spectrum a)))) (sum-le a x B (length a) (omega arith) w)
