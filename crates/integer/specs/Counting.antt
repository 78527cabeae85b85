-- Numbers one after the other:
--   count from n     the n numbers from `from` on
--   up_to n           the numbers below n
--   all_below p q     every number below q passes
use Rattle.std.specs.Prelude.{Bool, true, ◌&&◌, List, [], ◌∷◌, ℕ, zero, suc}

unfoldable pub count : ℕ → ℕ → List ℕ
count from zero = []
count from (suc n) = from ∷ count (suc from) n

unfoldable pub up_to : ℕ → List ℕ
up_to n = count 0 n

unfoldable pub all_below : (ℕ → Bool) → ℕ → Bool
all_below p zero = true
all_below p (suc q) = all_below p q && p q
