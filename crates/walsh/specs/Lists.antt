-- The two list calls (document 01, "Spectrum"):
--   "The list call takes row values from -1,000 to 1,000. The way back takes coefficients from -2,048,000 to 2,048,000; the row is the same
--   signed sum divided by the length."
use Rattle.std.specs.Prelude.{ℕ, List, true, ℤ, pos, length}
use Rattle.screen.specs.Answers.{Answer, and_then, minus, screen_of}
use Rattle.transform.specs.Spectrum.{spectrum_of}
use Rattle.results.specs.Quotients.{divided_answer, quotients_of}

unfoldable pub spectrum_answer : List ℤ → ℕ → Answer
spectrum_answer rows room = screen_of (minus 1000) (pos 1000) true rows room (length rows)

-- the rows of a spectrum: the signed sums of the coefficients, divided by the length
unfoldable pub inverse_rows : List ℤ → List ℤ
inverse_rows coefficients = quotients_of (length coefficients) (spectrum_of coefficients)

unfoldable pub rows_answer : List ℤ → ℕ → Answer
rows_answer coefficients room =
    and_then (screen_of (minus 2048000) (pos 2048000) true coefficients room (length coefficients))
    (divided_answer (length coefficients) (minus 1000) (pos 1000) (spectrum_of coefficients))
