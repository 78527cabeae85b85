-- What the steps of the fast transform leave: definitions that only contracts of private functions cite.
use Rattle.std.specs.Prelude.{ℕ, ◌+◌, List, ◌++◌, ℤ, ◌+ℤ◌, ◌-ℤ◌}
use Rattle.integer.specs.Tab.{tab, nth}

-- sums of the two halves of a list of h + h numbers, then their differences
abbrev pub sum_at : List ℤ → ℕ → ℕ → ℤ
sum_at a h x = nth a x +ℤ nth a (h + x)

abbrev pub difference_at : List ℤ → ℕ → ℕ → ℤ
difference_at a h x = nth a x -ℤ nth a (h + x)

unfoldable pub halves_mixed : List ℤ → ℕ → List ℤ
halves_mixed a h = tab h (sum_at a h) ++ tab h (difference_at a h)
