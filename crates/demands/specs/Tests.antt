-- The tests of a call in the paper's order, over the number and the place that it answers (document 01, "What is returned"):
--   "Calls on text then test 12, 8, 13, 14. Calls on lists test 9, 12, 10, 8, 11."
-- A test is the places at which it fails. The first test that fails gives its number and the place; where none does both are 0.
use Rattle.std.specs.Prelude.{ℕ, List, ◌⊎◌, ◌≡◌}
use Rattle.netlist.specs.Circuits.{Netlist}
use Rattle.netlist.specs.Parsing.{accepted, rejected, parse_of}
use Rattle.devices.specs.Describing.{described, refused_at, description_of}
use Rattle.devices.specs.Problems.{Problem}

-- no test is left
abbrev pub NoRefusal : ℕ → ℕ → Type 0
NoRefusal number place = (number ≡ 0) × (place ≡ 0)

-- the test fails, and its number is given with the place; or it fails at no place, and the tests after it decide
pub data RefusedIf (refusal : ℕ) (fails : ℕ → Type 0) (next : ℕ → ℕ → Type 0) (number place : ℕ) : Type 0 where
  by-this : fails place → number ≡ refusal → RefusedIf refusal fails next number place
  by-later : ((p : ℕ) → fails p → ⊥) → next number place → RefusedIf refusal fails next number place

-- a test that names no place
abbrev pub AtNone : Type 0 → ℕ → Type 0
AtNone fails place = fails × (place ≡ 0)

-- a call on texts of every kind: the text's own refusal goes first, then the tests on the problem that it states
abbrev pub OnDevice : List ℕ → (Problem → ℕ → ℕ → Type 0) → ℕ → ℕ → Type 0
OnDevice text tests number place = (description_of text ≡ refused_at number place) ⊎ ((p : Problem) × (description_of text ≡ described p) × tests p number place)

-- a call on circuit texts: the text's own refusal goes first, then the tests on the circuit that it states
abbrev pub OnText : List ℕ → (Netlist → ℕ → ℕ → Type 0) → ℕ → ℕ → Type 0
OnText text tests number place = (parse_of text ≡ rejected number place) ⊎ ((n : Netlist) × (parse_of text ≡ accepted n) × tests n number place)
