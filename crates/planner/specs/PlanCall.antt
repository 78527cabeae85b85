-- The plan call (document 01, "Plan"):
--   "The call gets the text and 4,608 lent 32-bit numbers. It .. returns the first set that covers every fault .. The number of labels returned is
--   the set's size, and label places past it hold 0 .. What the 4,608 numbers hold afterwards is free; later ones are untouched."
--   "Calls on text then test 12, 8, 13, 14." "A refusal writes nothing, except that 13 and 14 may have used the working numbers." "Sizes, labels
--   and readings returned with a refusal are 0."
-- and document 02, note 1: "the circuit, plan and report calls take tables"; a table is planned over its doubled rows; note 5: "Turned away: 16 with
-- the first hidden fault, after 13 and before 14, the working numbers free as with these."
use Rattle.std.specs.Prelude.{ℕ, suc, Bool, false, not, cond, ◌&&◌, ◌||◌, List, [], ◌≡◌, eqb, ltb, length, drop, Result}
use Rattle.std.proofs.Math.Option.{Option, none, some}
use Rattle.integer.specs.First.{first_where}
use Rattle.cover.specs.Cover.{unchanged_at, signature_of}
use Rattle.search.specs.Sets.{four_of}
use Rattle.devices.specs.Describing.{on_description, description_of}
use Rattle.devices.specs.Problems.{Problem}
use Rattle.refusals.specs.Refusals.{told}
use Rattle.refusals.specs.declared.Refusal.{Refusal}
use Rattle.search.specs.declared.LabelSet.{LabelSet}

-- a refusal's number and place, or the plan's labels
pub data Verdict : Type 0 where
  refused : ℕ → ℕ → Verdict
  planned : List ℕ → Verdict

-- 14 where no set within the cap covers every fault
abbrev pub searched : Option (List ℕ) → Verdict
searched none = refused 14 0
searched (some labels) = planned labels

-- Of a fault, from 0: "silent exactly when no output changes on any row"
unfoldable pub is_silent : Problem → ℕ → Bool
is_silent p f = unchanged_at p.sound_outputs p.faulted_outputs f

-- "A fault that changes some output but no row's weighted sum is hidden."
unfoldable pub is_hidden : Problem → ℕ → Bool
is_hidden p f = not (is_silent p f) && unchanged_at p.sound p.faulted f

-- the first of either kind, and the number of faults where there is none
unfoldable pub silent_first : Problem → ℕ
silent_first p = first_where (is_silent p) (length p.faulted)

unfoldable pub hidden_first : Problem → ℕ
hidden_first p = first_where (is_hidden p) (length p.faulted)

-- the refusal for the first fault of a kind, which is numbered from 1; where there is none, what is next
abbrev pub unless_fault : ℕ → ℕ → ℕ → Verdict → Verdict
unless_fault number first count next = cond (ltb first count) (refused number (suc first)) next

-- "16 with the first hidden fault, after 13 and before 14"
unfoldable pub verdict_of : Problem → Verdict
verdict_of p =
    unless_fault 13 (silent_first p) (length p.faulted)
    (unless_fault 16 (hidden_first p) (length p.faulted)
    (searched (signature_of p.sound p.faulted p.cap)))

abbrev pub working_numbers : ℕ
working_numbers = 4608

-- 8 unless there are enough working numbers
abbrev pub problem_verdict : ℕ → Problem → Verdict
problem_verdict work p = cond (ltb work working_numbers) (refused 8 0) (verdict_of p)

-- the text's own refusals go first
unfoldable pub plan_verdict : List ℕ → ℕ → Verdict
plan_verdict text work = on_description (problem_verdict work) refused (description_of text)

-- "How many labels": number 0 with a plan of `size` labels; label places past the size hold 0, and with a refusal size and labels are 0
pub record Planned : Type 0 where
  pub number : ℕ
  pub place : ℕ
  pub size : ℕ
  pub labels : List ℕ

-- document 01's numbers of a verdict
abbrev pub plan_numbers : Verdict → Planned
plan_numbers (refused number place) = record { number = number; place = place; size = 0; labels = four_of [] }
plan_numbers (planned labels) = record { number = 0; place = 0; size = length labels; labels = four_of labels }

-- and of what the code answers
abbrev pub planned_as : Result LabelSet Refusal → Planned
planned_as result = told (λ labels. plan_numbers (planned labels)) (λ number place. plan_numbers (refused number place)) result

unfoldable pub plan_answer : List ℕ → ℕ → Planned
plan_answer text work = plan_numbers (plan_verdict text work)

abbrev pub verdict_number : Verdict → ℕ
verdict_number (refused number place) = number
verdict_number (planned labels) = 0

-- a plan, 13, 16 and 14 may have used the working numbers
unfoldable pub may_use : Verdict → Bool
may_use v = eqb (verdict_number v) 0 || (eqb (verdict_number v) 13 || (eqb (verdict_number v) 16 || eqb (verdict_number v) 14))

-- what holds of the working numbers afterwards
pub record WorkKept (v : Verdict) (before after : List ℕ) : Type 0 where
  pub later-kept : drop working_numbers after ≡ drop working_numbers before
  pub all-kept : may_use v ≡ false → after ≡ before
