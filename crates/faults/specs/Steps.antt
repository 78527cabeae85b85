-- What the steps of the fault formulas leave: definitions that only contracts of private functions cite.
use Rattle.std.specs.Prelude.{◌≡◌, ◌≤◌, not, true, ℕ, ◌+◌, ◌-◌, ◌^◌, List, cond, ℤ, pos, ◌+ℤ◌, eqb, length}
use Rattle.integer.specs.Sum.{signed}
use Rattle.integer.specs.Tab.{tab, nth}
use Rattle.screen.specs.Answers.{Answer, Done, refuse_if}
use Rattle.faults.specs.Faults.{bit_of, opened_right}

-- one input stuck: 0 where the label names it, else the coefficient and the one that adds the input, negated where the value is not 0
unfoldable pub stuck_once_at : ℕ → ℕ → List ℤ → ℕ → ℤ
stuck_once_at input value a label =
    cond (eqb (bit_of input label) 0) (nth a label +ℤ signed value (nth a (label + 2 ^ (input - 1)))) (pos 0)

unfoldable pub stuck_once : ℕ → ℕ → List ℤ → List ℤ
stuck_once input value a = tab (length a) (stuck_once_at input value a)

-- the tests of the values for opened lines
abbrev pub kept_answer : ℕ → List ℕ → Answer
kept_answer inputs values = refuse_if (eqb inputs 0) 9 0 (refuse_if (not (opened_right inputs values)) 12 0 Done)

-- right values for opened lines: the n of n + k inputs that are kept
pub record Kept (inputs : ℕ) (values : List ℕ) (kept : ℕ) : Type 0 where
  pub right : opened_right inputs values ≡ true
  pub parts : kept + length values ≡ inputs
  pub few : kept ≤ 10
