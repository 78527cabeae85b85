-- What a call leaves in the lent result (document 01, "What is returned", "Spectrum"):
--   "A refusal writes nothing." "Both write the list's length of 32-bit numbers into the lent result and no more."
use Rattle.std.specs.Prelude.{List, ◌++◌, ℤ, length, drop}
use Rattle.screen.specs.Answers.{Answer, Done, Refused}

-- the new numbers, and after them what was lent
abbrev pub written : List ℤ → List ℤ → List ℤ
written new out = new ++ drop (length new) out

abbrev pub leaves : Answer → List ℤ → List ℤ → List ℤ
leaves Done new out = written new out
leaves (Refused number place) new out = out
