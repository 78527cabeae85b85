-- An array of fixed size, in use from the front:
--   padded size spare xs    xs, and then `spare` up to that size
use Rattle.std.specs.Prelude.{ℕ, ◌-◌, List, ◌++◌, length, replicate}

abbrev pub padded : {A : Type 0} → ℕ → A → List A → List A
padded size spare xs = xs ++ replicate (size - length xs) spare
