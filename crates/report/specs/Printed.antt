-- What the line of a fault in a report owes its user, in the words of planner/specs/Demand (document 01, "Plan"):
--   "for each fault `fault,NUMBER,LABEL,VALUE` with the plan's first covering label and the faulted coefficient"
use Rattle.std.specs.Prelude.{ℕ, ◌<◌, ◌≡◌, length, get_or}
use mathlib.Core.List.{List, Memᴰ}
use Rattle.devices.specs.Problems.{Problem, rows_at}
use Rattle.transform.specs.Spectrum.{coefficient_of}

-- the label printed for the fault of a number, from 1, is one of the plan's; its coefficients, sound and faulted, differ, and those of every label
-- before it in the plan do not
pub record PrintedFor (p : Problem) (labels : List ℕ) (f label : ℕ) : Type 0 where
  pub listed : Memᴰ label labels
  pub shown : coefficient_of (rows_at p 0) label ≡ coefficient_of (rows_at p f) label → ⊥
  pub at : ℕ
  pub at_low : at < length labels
  pub at_label : get_or labels at 0 ≡ label
  pub first : (i : ℕ) → i < at → coefficient_of (rows_at p 0) (get_or labels i 0) ≡ coefficient_of (rows_at p f) (get_or labels i 0)
