-- The number and the place of a refusal (document 01, "What is returned"):
--   "Place is a line of the text (from 1), an index in the list (from 0, its own label or row) or a fault (from 1), and 0 where none is named."
-- 15 is of a table's marks (document 02, note 1), 16 of a hidden fault (note 5) and 19 of a bridge (note 8).
use Rattle.std.specs.Prelude.{◌≡◌, ℕ, Result, Ok, Err, MatchResult}
use Rattle.refusals.specs.declared.Flaw.{Flaw}
use Rattle.refusals.specs.declared.Flaw.TheVariants.{Malformed, OutOfRange as ValueOutOfRange, ReadsAhead, NoSuchLine, NotRising, NotAMark, NotInputs}
use Rattle.refusals.specs.declared.Refusal.{Refusal}
use Rattle.refusals.specs.declared.Refusal.TheVariants.{TextTooLong, Line, TextGoesOn, ShortBuffer, WrongLength, OutOfRange, Indivisible, WrongArgument, Silent, Hidden, NoSet}

abbrev pub flaw_number : Flaw → ℕ
flaw_number Malformed = 2
flaw_number ValueOutOfRange = 3
flaw_number ReadsAhead = 4
flaw_number NoSuchLine = 5
flaw_number NotRising = 6
flaw_number NotAMark = 15
flaw_number NotInputs = 19

abbrev pub refusal_number : Refusal → ℕ
refusal_number TextTooLong = 1
refusal_number (Line flaw line) = flaw_number flaw
refusal_number (TextGoesOn line) = 7
refusal_number ShortBuffer = 8
refusal_number WrongLength = 9
refusal_number (OutOfRange index) = 10
refusal_number (Indivisible index) = 11
refusal_number WrongArgument = 12
refusal_number (Silent fault) = 13
refusal_number (Hidden fault) = 16
refusal_number NoSet = 14

abbrev pub refusal_place : Refusal → ℕ
refusal_place TextTooLong = 0
refusal_place (Line flaw line) = line
refusal_place (TextGoesOn line) = line
refusal_place ShortBuffer = 0
refusal_place WrongLength = 0
refusal_place (OutOfRange index) = index
refusal_place (Indivisible index) = index
refusal_place WrongArgument = 0
refusal_place (Silent fault) = fault
refusal_place (Hidden fault) = fault
refusal_place NoSet = 0

-- what a call answers, as document 01 has it: of its value, or of a refusal's number and place
abbrev pub told : {A B : Type 0} → (A → B) → (ℕ → ℕ → B) → Result A Refusal → B
told value refused (Ok a) = value a
told value refused (Err r) = refused (refusal_number r) (refusal_place r)

-- what a line says: its item where its number is 0, else the flaw of that number
abbrev pub Says : {A : Type 0} → Result A Flaw → ℕ → A → Type 0
Says r number due = MatchResult r (λ item. (number ≡ 0) × (item ≡ due)) (λ flaw. flaw_number flaw ≡ number)
