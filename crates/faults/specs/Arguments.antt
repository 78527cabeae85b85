-- The arguments of the fault calls, in the paper's words (document 01, "Spectrum under a fault, from coefficients alone"):
--   "one to three rising inputs in 1 to n with values 0 or 1" "the last k (1 to 3, n at least 1) are the opened lines, and k values"
-- `stuck_right` and `opened_right` hold of these and of no others (proofs/ArgumentsMean).
use Rattle.std.specs.Prelude.{ℕ, suc, ◌<◌, ◌≤◌, List, ◌≡◌, length, get_or}

abbrev pub ZeroOrOne : List ℕ → Type 0
ZeroOrOne values = (i : ℕ) → i < length values → get_or values i 0 ≤ 1

pub record StuckArguments (n : ℕ) (inputs values : List ℕ) : Type 0 where
  pub some : 1 ≤ length inputs
  pub few : length inputs ≤ 3
  pub low : (i : ℕ) → i < length inputs → 1 ≤ get_or inputs i 0
  pub high : (i : ℕ) → i < length inputs → get_or inputs i 0 ≤ n
  pub rise : (i : ℕ) → suc i < length inputs → get_or inputs i 0 < get_or inputs (suc i) 0
  pub even : length values ≡ length inputs
  pub binary-values : ZeroOrOne values

pub record OpenedArguments (inputs : ℕ) (values : List ℕ) : Type 0 where
  pub some : 1 ≤ length values
  pub few : length values ≤ 3
  pub left : length values < inputs
  pub binary-values : ZeroOrOne values
