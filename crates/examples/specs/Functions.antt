-- The switching functions of document 01's examples and of note 8's, as lists of rows: input i is bit i - 1 of the row.
use Rattle.std.specs.Prelude.{ℕ, ◌*◌, ◌-◌, ◌^◌, max, List, [], ◌∷◌, cond, eqb, ℤ, pos}
use Rattle.integer.specs.Tab.{tab}
use Rattle.faults.specs.Faults.{bit_of}

-- truth values: a product, a sum and a complement
abbrev pub and_of : ℕ → ℕ → ℕ
and_of a b = a * b

abbrev pub or_of : ℕ → ℕ → ℕ
or_of a b = max a b

abbrev pub not_of : ℕ → ℕ
not_of a = 1 - a

-- the rows of a function of n inputs
abbrev pub rows_by : ℕ → (ℕ → ℕ) → List ℤ
rows_by n f = tab (2 ^ n) (λ x. pos (f x))

unfoldable pub is_one_of : List ℕ → ℕ → ℕ
is_one_of [] x = 0
is_one_of (r ∷ rest) x = cond (eqb x r) 1 (is_one_of rest x)

-- "Ones at rows 5, 7, 8, 9, 10, 14, 15 of 16"
unfoldable pub figure : List ℤ
figure = rows_by 4 (is_one_of (5 ∷ 7 ∷ 8 ∷ 9 ∷ 10 ∷ 14 ∷ 15 ∷ []))

-- x1x2 + x3
unfoldable pub product_or_input : List ℤ
product_or_input = rows_by 3 (λ x. or_of (and_of (bit_of 1 x) (bit_of 2 x)) (bit_of 3 x))

-- x1x2 + x3·not x2
unfoldable pub selected : List ℤ
selected = rows_by 3 (λ x. or_of (and_of (bit_of 1 x) (bit_of 2 x)) (and_of (bit_of 3 x) (not_of (bit_of 2 x))))

-- x1x2x3 + x4·not(x2x3)
unfoldable pub gated : List ℤ
gated = rows_by 4 (λ x. or_of (and_of (bit_of 1 x) (and_of (bit_of 2 x) (bit_of 3 x))) (and_of (bit_of 4 x) (not_of (and_of (bit_of 2 x) (bit_of 3 x)))))

-- the same with x2x3 of the first product opened: it is line 5
unfoldable pub gated_opened : List ℤ
gated_opened = rows_by 5 (λ x. or_of (and_of (bit_of 1 x) (bit_of 5 x)) (and_of (bit_of 4 x) (not_of (and_of (bit_of 2 x) (bit_of 3 x)))))

-- source document 004, example 6.2: "Ones at rows 0, 3, 4, 5, 6, 9, 12 of 16"
unfoldable pub bridged_figure : List ℤ
bridged_figure = rows_by 4 (is_one_of (0 ∷ 3 ∷ 4 ∷ 5 ∷ 6 ∷ 9 ∷ 12 ∷ []))
