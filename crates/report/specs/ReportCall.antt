-- The report call (document 01, "Plan"):
--   "That call gets the text, 1,024 bytes and 4,608 working numbers; if either is short it returns 8 before all else and writes nothing. Otherwise
--   it returns how many bytes it wrote, and later bytes are untouched .. A refusal is one line `refused,NUMBER,PLACE`."
-- and document 02, note 1: "the circuit, plan and report calls take tables", and coefficients of a table are "printed doubled".
use Rattle.std.specs.Prelude.{ℕ, Bool, cond, ◌||◌, List, ◌++◌, ltb, length, drop, Result}
use Rattle.devices.specs.Describing.{on_description, description_of}
use Rattle.devices.specs.Problems.{Problem}
use Rattle.planner.specs.PlanCall.{Verdict, refused, planned, working_numbers, verdict_of, plan_verdict}
use Rattle.report_lines.specs.ReportLines.{plan_lines, refused_line, report_bytes}
use Rattle.refusals.specs.Refusals.{told}
use Rattle.refusals.specs.declared.Refusal.{Refusal}

abbrev pub verdict_lines : Problem → Verdict → List ℕ
verdict_lines p (refused number place) = refused_line number place
verdict_lines p (planned labels) = plan_lines p.sound p.faulted labels

abbrev pub problem_report : Problem → List ℕ
problem_report p = verdict_lines p (verdict_of p)

unfoldable pub report_of : List ℕ → List ℕ
report_of text = on_description problem_report refused_line (description_of text)

-- either lent buffer is short
unfoldable pub short : ℕ → ℕ → Bool
short room work = ltb room report_bytes || ltb work working_numbers

-- number 0 and how many bytes the report has, or number 8
pub record Reported : Type 0 where
  pub number : ℕ
  pub bytes : ℕ

abbrev pub reported_as : Result ℕ Refusal → Reported
reported_as result = told (λ bytes. record { number = 0; bytes = bytes }) (λ number place. record { number = number; bytes = 0 }) result

unfoldable pub report_answer : List ℕ → ℕ → ℕ → Reported
report_answer text room work = cond (short room work) (record { number = 8; bytes = 0 }) (record { number = 0; bytes = length (report_of text) })

unfoldable pub report_left : List ℕ → ℕ → List ℕ → List ℕ
report_left text work out = cond (short (length out) work) out (report_of text ++ drop (length (report_of text)) out)

-- by which verdict the working numbers were used
unfoldable pub report_verdict : List ℕ → ℕ → ℕ → Verdict
report_verdict text room work = cond (short room work) (refused 8 0) (plan_verdict text work)
