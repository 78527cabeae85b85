-- A line that may be there, in the code, and its number, which is 0 where it is not.
use Rattle.std.specs.Prelude.{ℕ, zero, suc, ◌≡◌, Option, Some, None}
use mathlib.Core.Path.{refl}

abbrev pub line_or_none : Option ℕ → ℕ
line_or_none (Some line) = line
line_or_none None = 0

-- no line is 0
abbrev pub IsLine : Option ℕ → Type 0
IsLine (Some line) = line ≡ 0 → ⊥
IsLine None = Unit {0}

abbrev pub line_there : ℕ → Option ℕ
line_there zero = None
line_there (suc line) = Some (suc line)

pub line_back : (line : Option ℕ) → IsLine line → line_there (line_or_none line) ≡ line
line_back (Some zero) is = absurd (is refl)
line_back (Some (suc line)) is = refl
line_back None is = refl
