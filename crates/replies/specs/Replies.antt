-- What it means that a struct of the C functions gives an answer: it has document 01's number and values of it.
use Rattle.std.specs.Prelude.{◌≡◌, ℕ, ◌+◌}
use Rattle.fixture.specs.ReadingCall.{Compared}
use Rattle.planner.specs.PlanCall.{Planned}
use Rattle.reading.specs.Readings.{ReadingAnswer, Syndrome, Weighted, Constrained, Unreadable, reading_number, reading_place, reading_of, fixed_of}
use Rattle.report.specs.ReportCall.{Reported}
use Rattle.text.specs.declared.Span.{Span}
use Rattle.screen.specs.Answers.{Answer, answer_number, answer_place}
use Rattle.walsh.specs.Coefficients.{Found, found_number, found_place, found_value}
use Rattle.replies.specs.declared.Comparison.{Comparison}
use Rattle.replies.specs.declared.Measured.{Measured}
use Rattle.replies.specs.declared.Part.{Part}
use Rattle.replies.specs.declared.Reply.{Reply}
use Rattle.replies.specs.declared.Signature.{Signature}
use Rattle.replies.specs.declared.Sum.{Sum}
use Rattle.replies.specs.declared.Written.{Written}

pub record Gives (r : Reply) (a : Answer) : Type 0 where
  pub number : r.number ≡ answer_number a
  pub place : r.place ≡ answer_place a

pub record GivesFound (r : Sum) (f : Found) : Type 0 where
  pub number : r.number ≡ found_number f
  pub value : r.value ≡ found_value f
  pub place : r.place ≡ found_place f

pub record GivesPlan (r : Signature) (a : Planned) : Type 0 where
  pub number : r.number ≡ a.number
  pub place : r.place ≡ a.place
  pub size : r.size ≡ a.size
  pub labels : r.labels ≡ a.labels

pub record GivesReport (r : Written) (a : Reported) : Type 0 where
  pub number : r.number ≡ a.number
  pub bytes : r.bytes ≡ a.bytes

-- the case of a reading, 0 for a refusal
abbrev pub reading_kind : ReadingAnswer → ℕ
reading_kind (Syndrome x) = 1
reading_kind (Weighted x) = 2
reading_kind (Constrained x fixed) = 3
reading_kind (Unreadable number place) = 0

pub record GivesReading (r : Measured) (a : ReadingAnswer) : Type 0 where
  pub number : r.number ≡ reading_number a
  pub kind : r.kind ≡ reading_kind a
  pub fixed : r.fixed ≡ fixed_of a
  pub place : r.place ≡ reading_place a
  pub value : r.value ≡ reading_of a

pub record GivesPair (r : Comparison) (a : Compared) : Type 0 where
  pub number : r.number ≡ a.number
  pub place : r.place ≡ a.place
  pub sound : r.sound ≡ a.readings.sound
  pub faulty : r.faulty ≡ a.readings.faulty
  pub difference : r.difference ≡ a.readings.difference

pub record GivesSpan (r : Part) (s : Span) : Type 0 where
  pub start : r.start ≡ s.start
  pub end : r.start + r.length ≡ s.end
