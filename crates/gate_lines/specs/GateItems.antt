-- A gate as data: which lines it reads, which are written, what holds of one that a circuit may have (document 01, "The circuit text"; document 02, note 2):
--   "A gate line may carry two, three or four line fields; `not` keeps just A and its `0`." "Added fields have the range and the checks of B."
-- A line that is not there is 0, and so is B of `not`.
use Rattle.std.specs.Prelude.{ℕ, zero, suc, ◌<◌, ◌≤◌, List, [], ◌∷◌, ◌≡◌}
use Rattle.kinds.specs.declared.Kind.{Kind}
use Rattle.kinds.specs.declared.Kind.TheVariants.{And, Or, Nand, Nor, Xor, Xnor, Not}

pub record Gate : Type 0 where
  pub kind : Kind
  pub a : ℕ
  pub b : ℕ
  pub c : ℕ
  pub d : ℕ

-- what is read past the last gate
abbrev pub no_gate : Gate
no_gate = record { kind = And; a = 0; b = 0; c = 0; d = 0 }

-- the numbers before the first 0
unfoldable pub up_to_none : List ℕ → List ℕ
up_to_none [] = []
up_to_none (zero ∷ lines) = []
up_to_none (suc line ∷ lines) = suc line ∷ up_to_none lines

-- the lines that a gate reads: A, then B, C and D up to the first that is not there
unfoldable pub lines_read : Gate → List ℕ
lines_read g = g.a ∷ up_to_none (g.b ∷ g.c ∷ g.d ∷ [])

-- the fields that its line carries: A and B, then C and D where they are there
unfoldable pub line_fields : Gate → List ℕ
line_fields g = g.a ∷ g.b ∷ up_to_none (g.c ∷ g.d ∷ [])

-- "B is 1 to 56, and 0 for `not`"
abbrev pub SecondRight : Kind → ℕ → Type 0
SecondRight And b = 1 ≤ b
SecondRight Or b = 1 ≤ b
SecondRight Nand b = 1 ≤ b
SecondRight Nor b = 1 ≤ b
SecondRight Xor b = 1 ≤ b
SecondRight Xnor b = 1 ≤ b
SecondRight Not b = b ≡ 0

-- of the gate that drives line `own`: there is no D without a C, and neither with `not`
pub record GateRight (own : ℕ) (g : Gate) : Type 0 where
  pub first : 1 ≤ g.a
  pub second : SecondRight g.kind g.b
  pub no_gap : g.c ≡ 0 → g.d ≡ 0
  pub not_narrow : g.kind ≡ Not → g.c ≡ 0
  pub first_below : g.a < own
  pub second_below : g.b < own
  pub third-below : g.c < own
  pub fourth-below : g.d < own
