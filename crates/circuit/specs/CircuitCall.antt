-- The circuit call (document 01, "Spectrum"):
--   "The circuit call gets a text and a fault number (0 for the sound circuit, else 1 to Q, otherwise 12) and writes the 2^N coefficients of those
--   rows, no more." "Calls on text then test 12, 8, 13, 14."
-- and document 02, note 1: "the circuit, plan and report calls take tables"
use Rattle.std.specs.Prelude.{ℕ, ◌^◌, List, [], ltb, ℤ, length}
use Rattle.devices.specs.Describing.{on_description, description_of}
use Rattle.devices.specs.Problems.{Problem, rows_at}
use Rattle.transform.specs.Spectrum.{spectrum_of}
use Rattle.screen.specs.Answers.{Answer, Done, Refused, refuse_if}

-- 8 unless there is room for 2^N coefficients
unfoldable pub room_answer : ℕ → ℕ → Answer
room_answer inputs room = refuse_if (ltb room (2 ^ inputs)) 8 0 Done

unfoldable pub fault_answer : ℕ → ℕ → Problem → Answer
fault_answer fault room p = refuse_if (ltb (length p.faulted) fault) 12 0 (room_answer p.inputs room)

-- a text that is not accepted is refused by its own number and place, before the call's tests
unfoldable pub circuit_answer : List ℕ → ℕ → ℕ → Answer
circuit_answer text fault room = on_description (fault_answer fault room) Refused (description_of text)

-- the coefficients of the rows under fault `fault`, sound for 0
unfoldable pub fault_spectrum : Problem → ℕ → List ℤ
fault_spectrum p fault = spectrum_of (rows_at p fault)

unfoldable pub circuit_spectrum : List ℕ → ℕ → List ℤ
circuit_spectrum text fault = on_description (λ p. fault_spectrum p fault) (λ number place. []) (description_of text)
