-- What is written into a lent text, and how numbers are written (document 01, "Plan"):
--   "Otherwise it returns how many bytes it wrote, and later bytes are untouched." "Each line ends in one byte 0A. Negative numbers have `-`."
use Rattle.std.specs.Prelude.{ℕ, zero, suc, ◌+◌, ◌/◌, ◌%◌, ◌<◌, cond, List, [], ◌∷◌, ◌++◌, ltb, ℤ, pos, nat_abs, length, take, drop}
use Rattle.std.specs.Int.Signed.{lt_z}
use Rattle.integer.specs.Tab.{nth}
use Rattle.text.specs.Text.{comma, line_end, minus_sign}

-- `new` from index `at` on, everything else as it was
unfoldable pub placed : ℕ → List ℕ → List ℕ → List ℕ
placed at new out = take at out ++ (new ++ drop (at + length new) out)

abbrev pub decimal_digit : ℕ → ℕ
decimal_digit n = 48 + n % 10

-- the last digit stands after those of a tenth; `most` is a number of digits that is enough
unfoldable pub decimal_to : ℕ → ℕ → List ℕ
decimal_to zero n = []
decimal_to (suc most) n = cond (ltb n 10) (decimal_digit n ∷ []) (decimal_to most (n / 10) ++ (decimal_digit n ∷ []))

unfoldable pub decimal_of : ℕ → List ℕ
decimal_of n = decimal_to (suc n) n

unfoldable pub integer_of : ℤ → List ℕ
integer_of z = cond (lt_z z (pos 0)) (minus_sign ∷ decimal_of (nat_abs z)) (decimal_of (nat_abs z))

-- n texts one after the other
unfoldable pub gather : (ℕ → List ℕ) → ℕ → List ℕ
gather f zero = []
gather f (suc n) = gather f n ++ f n

-- the field of number i, with the comma before it
unfoldable pub number_field : List ℤ → ℕ → List ℕ
number_field numbers i = comma ∷ integer_of (nth numbers i)

unfoldable pub numbers_of : List ℤ → List ℕ
numbers_of numbers = gather (number_field numbers) (length numbers)

-- a word, then numbers, separated by commas
unfoldable pub line_of : List ℕ → List ℤ → List ℕ
line_of word numbers = word ++ (numbers_of numbers ++ (line_end ∷ []))

-- "A number is 1 to 4 decimal digits": each number is below 10,000
abbrev pub Small : List ℕ → Type 0
Small [] = Unit
Small (n ∷ ns) = (n < 10000) × Small ns
