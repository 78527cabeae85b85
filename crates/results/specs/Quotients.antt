-- Sums divided, with refusal 11 (document 01, "What is returned"): "a sum that does not divide, or gives a row out of range; the first".
use Rattle.std.specs.Prelude.{ℕ, ◌%◌, List, Bool, not, ◌||◌, ℤ, pos, nat_abs, eqb, ltb, length}
use Rattle.std.specs.Int.Signed.{quot_z}
use Rattle.integer.specs.First.{first_where}
use Rattle.integer.specs.Tab.{tab, nth}
use Rattle.screen.specs.Answers.{Answer, Done, refuse_if, outside}

-- the sum divided by d, rounded toward zero where it does not divide
abbrev pub quotient_of : ℕ → ℤ → ℤ
quotient_of d sum = quot_z sum (pos d)

-- the sum does not divide by d, or its quotient is not from low to high
unfoldable pub unfit : ℕ → ℤ → ℤ → ℤ → Bool
unfit d low high sum = not (eqb (nat_abs sum % d) 0) || outside low high (quotient_of d sum)

unfoldable pub unfit_at : ℕ → ℤ → ℤ → List ℤ → ℕ → Bool
unfit_at d low high sums x = unfit d low high (nth sums x)

unfoldable pub first_unfit : ℕ → ℤ → ℤ → List ℤ → ℕ
first_unfit d low high sums = first_where (unfit_at d low high sums) (length sums)

-- 11 at the first unfit sum
unfoldable pub divided_answer : ℕ → ℤ → ℤ → List ℤ → Answer
divided_answer d low high sums = refuse_if (ltb (first_unfit d low high sums) (length sums)) 11 (first_unfit d low high sums) Done

unfoldable pub quotient_at : ℕ → List ℤ → ℕ → ℤ
quotient_at d sums x = quotient_of d (nth sums x)

unfoldable pub quotients_of : ℕ → List ℤ → List ℤ
quotients_of d sums = tab (length sums) (quotient_at d sums)
