-- Sizes of the fast transform's lists:
--   small_few         it takes at most 2,048 numbers
--   spectrum_small    the spectrum of rows fits 32 bits
use Rattle.std.proofs.Common.{◌*◌, ◌^◌, ◌≤◌, ℕ, List, length, ℤ, arith}
use lib.Pow.{pow_mono}
use Rattle.integer.specs.Tab.{Within}
use Rattle.integer.proofs.Bounds.{within_more}
use Rattle.transform.specs.Spectrum.{Transformable, spectrum_of}
use Rattle.transform.proofs.Spectra.{length-spectrum, within-spectrum}

pub small_few : (k : ℕ) (a : List ℤ) → Transformable k a → length a ≤ 2048
small_few k a small = let m : 2 ^ k ≤ 2 ^ 11 = pow_mono {j = 11} small.inputs in omega (arith, small.long)

pub spectrum_small : (rows : List ℤ) → length rows ≤ 2048 → Within 1000 rows → Within 2147483647 (spectrum_of rows)
spectrum_small rows few w =
    let h : length rows * 1000 ≤ 2147483647 = omega arith in
    within_more (spectrum_of rows) h (within-spectrum 1000 rows w)

pub ruleset spectra = (length-spectrum, spectrum_small)
