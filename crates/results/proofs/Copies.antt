-- Lists copied number by number:
--   copied     what a loop that copies a list has written at its end
use mathlib.Core.Path.{◌≡◌, ap, ◌∙◌}
use mathlib.Core.List.{List, ◌++◌}
use Prim.Native.Nat.{ℕ}
use lib.IntN.{ℤ}
use lib.ListN.{length, drop}
use Rattle.integer.specs.Tab.{tab, nth}
use Rattle.integer.proofs.Tabs.{tab-nth}
use Rattle.results.specs.Results.{written}

pub copied : (l d : List ℤ) (i : ℕ) → i ≡ length l → tab i (nth l) ++ drop i d ≡ written l d
copied l d i e = ap (λ (k : ℕ). tab k (nth l) ++ drop k d) e ∙ ap (λ (m : List ℤ). m ++ drop (length l) d) (tab-nth l)
