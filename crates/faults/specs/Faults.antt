-- The spectrum under a fault, from coefficients alone (document 01, "Spectrum under a fault, from coefficients alone"), and what the same
-- fault does to rows. Input i is bit i - 1 of a row or a label.
use Rattle.std.specs.Prelude.{ℕ, suc, ◌+◌, ◌*◌, ◌-◌, ◌/◌, ◌%◌, ◌^◌, List, [], ◌∷◌, Bool, true, false, not, cond, ◌&&◌, ◌||◌, ℤ, pos, nat_abs, ◌+ℤ◌, eqb, leb, ltb, length}
use Rattle.integer.specs.First.{first_where}
use Rattle.integer.specs.Sum.{signed}
use Rattle.integer.specs.Tab.{tab, nth}
use Rattle.screen.specs.Answers.{Answer, Done, and_then, refuse_if, minus, screen_of, inputs_of}
use Rattle.results.specs.Quotients.{quotient_of}

-- a line and the value at which it is stuck
pub record Stuck : Type 0 where
  pub line : ℕ
  pub value : ℕ

-- the lines with their values, as long as both lists last
unfoldable pub stuck_of : List ℕ → List ℕ → List Stuck
stuck_of [] values = []
stuck_of (line ∷ lines) [] = []
stuck_of (line ∷ lines) (value ∷ values) = record { line = line; value = value } ∷ stuck_of lines values

-- input i in row x; in a label, 1 where it names input i
abbrev pub bit_of : ℕ → ℕ → ℕ
bit_of i x = x / 2 ^ (i - 1) % 2

-- the label names a stuck input
unfoldable pub names : List Stuck → ℕ → Bool
names [] label = false
names (s ∷ rest) label = not (eqb (bit_of s.line label) 0) || names rest label

-- "the sum over each subset of the stuck inputs of the coefficient at (label plus subset), negated once for each member stuck at 1":
-- the subsets without the first input, and those with it
unfoldable pub subset_sum : List Stuck → (ℕ → ℤ) → ℕ → ℤ
subset_sum [] f label = f label
subset_sum (s ∷ rest) f label = subset_sum rest f label +ℤ signed s.value (subset_sum rest f (label + 2 ^ (s.line - 1)))

-- "At a label that names a stuck input the result is 0."
unfoldable pub stuck_coefficient_at : List Stuck → (ℕ → ℤ) → ℕ → ℤ
stuck_coefficient_at lines f label = cond (names lines label) (pos 0) (subset_sum lines f label)

unfoldable pub stuck_spectrum_of : List Stuck → List ℤ → List ℤ
stuck_spectrum_of lines coefficients = tab (length coefficients) (stuck_coefficient_at lines (nth coefficients))

-- rising from above `last`, none above n
unfoldable pub rising_inputs : ℕ → ℕ → List ℕ → Bool
rising_inputs last n [] = true
rising_inputs last n (i ∷ rest) = ltb last i && (leb i n && rising_inputs i n rest)

-- each 0 or 1
unfoldable pub binary : List ℕ → Bool
binary [] = true
binary (v ∷ rest) = leb v 1 && binary rest

-- "one to three"
unfoldable pub few_of : ℕ → Bool
few_of k = ltb 0 k && leb k 3

-- "one to three rising inputs in 1 to n with values 0 or 1"
unfoldable pub stuck_right : ℕ → List ℕ → List ℕ → Bool
stuck_right n inputs values = few_of (length inputs) && (eqb (length values) (length inputs) && (binary values && rising_inputs 0 n inputs))

unfoldable pub stuck_answer : List ℤ → List ℕ → List ℕ → ℕ → Answer
stuck_answer coefficients inputs values room =
    screen_of (minus 2048000) (pos 2048000) (stuck_right (inputs_of (length coefficients)) inputs values) coefficients room (length coefficients)

-- "coefficients of n+k inputs, of which the last k (1 to 3, n at least 1) are the opened lines, and k values"
unfoldable pub opened_right : ℕ → List ℕ → Bool
opened_right inputs values = few_of (length values) && (ltb (length values) inputs && binary values)

-- the n of n + k inputs
abbrev pub kept_inputs : List ℤ → List ℕ → ℕ
kept_inputs coefficients values = inputs_of (length coefficients) - length values

-- the lines after line n, with their values
unfoldable pub lines_after : ℕ → List ℕ → List Stuck
lines_after n [] = []
lines_after n (v ∷ rest) = record { line = suc n; value = v } ∷ lines_after (suc n) rest

-- the sum over the opened lines at a label of the n inputs
unfoldable pub opened_sum_at : List ℤ → List ℕ → ℕ → ℤ
opened_sum_at coefficients values label = subset_sum (lines_after (kept_inputs coefficients values) values) (nth coefficients) label

-- "The result, 2^n numbers, is the same sum over the opened lines divided by 2^k."
unfoldable pub opened_at : List ℤ → List ℕ → ℕ → ℤ
opened_at coefficients values label = quotient_of (2 ^ length values) (opened_sum_at coefficients values label)

unfoldable pub opened_spectrum_of : List ℤ → List ℕ → List ℤ
opened_spectrum_of coefficients values = tab (2 ^ kept_inputs coefficients values) (opened_at coefficients values)

unfoldable pub undivided_at : List ℤ → List ℕ → ℕ → Bool
undivided_at coefficients values label = not (eqb (nat_abs (opened_sum_at coefficients values label) % 2 ^ length values) 0)

unfoldable pub first_undivided : List ℤ → List ℕ → ℕ
first_undivided coefficients values = first_where (undivided_at coefficients values) (2 ^ kept_inputs coefficients values)

-- "11 is given exactly when a sum does not divide."
unfoldable pub undivided_answer : List ℤ → List ℕ → Answer
undivided_answer coefficients values =
    refuse_if (ltb (first_undivided coefficients values) (2 ^ kept_inputs coefficients values)) 11 (first_undivided coefficients values) Done

unfoldable pub opened_answer : List ℤ → List ℕ → ℕ → Answer
opened_answer coefficients values room =
    and_then (screen_of (minus 2048000) (pos 2048000) (opened_right (inputs_of (length coefficients)) values) coefficients room (2 ^ kept_inputs coefficients values))
    (undivided_answer coefficients values)

-- What the faults do to rows.

-- row x with input `line` replaced by the value: the inputs above, the value, the inputs below
abbrev pub replaced : Stuck → ℕ → ℕ
replaced s x = x / 2 ^ s.line * 2 ^ s.line + s.value * 2 ^ (s.line - 1) + x % 2 ^ (s.line - 1)

unfoldable pub replaced_all : List Stuck → ℕ → ℕ
replaced_all [] x = x
replaced_all (s ∷ rest) x = replaced_all rest (replaced s x)

unfoldable pub stuck_row : List Stuck → List ℤ → ℕ → ℤ
stuck_row lines rows x = nth rows (replaced_all lines x)

-- the rows with the stuck inputs replaced
unfoldable pub stuck_rows : List Stuck → List ℤ → List ℤ
stuck_rows lines rows = tab (length rows) (stuck_row lines rows)

-- the row of n + k inputs whose last k are the values
unfoldable pub opened_row_number : ℕ → List ℕ → ℕ → ℕ
opened_row_number n [] x = x
opened_row_number n (v ∷ rest) x = opened_row_number (suc n) rest (v * 2 ^ n + x)

unfoldable pub opened_row : ℕ → List ℕ → List ℤ → ℕ → ℤ
opened_row n values rows x = nth rows (opened_row_number n values x)

-- the rows of n inputs with the opened lines set to their values
unfoldable pub opened_rows : ℕ → List ℕ → List ℤ → List ℤ
opened_rows n values rows = tab (2 ^ n) (opened_row n values rows)

-- "Both inputs then show the AND of what is applied." (document 02, note 8): the product of the two bits
abbrev pub both_of : ℕ → ℕ → ℕ → ℕ
both_of i j x = bit_of i x * bit_of j x

-- row x with inputs i and j each replaced by what both show
abbrev pub bridged_row : ℕ → ℕ → ℕ → ℕ
bridged_row i j x = replaced (record { line = j; value = both_of i j x }) (replaced (record { line = i; value = both_of i j x }) x)

-- the rows with the two inputs bridged
unfoldable pub bridged_rows : ℕ → ℕ → List ℤ → List ℤ
bridged_rows i j rows = tab (length rows) (λ x. nth rows (bridged_row i j x))
