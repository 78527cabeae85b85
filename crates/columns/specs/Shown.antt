-- What a line shows under a fault, and what is applied to an input, alone and under a bridge (document 01, "Rows"; document 02, note 8).
use Rattle.std.specs.Prelude.{ℕ, ◌+◌, ◌-◌, ◌/◌, ◌%◌, ◌^◌, Bool, cond, ◌&&◌, ◌||◌, eqb}
use Rattle.statements.specs.declared.Bridge.{Bridge}
use Rattle.statements.specs.Items.{Fault}
use Rattle.statements.specs.declared.Pair.{Pair}

-- "each stuck line shows its VALUE to all readers and to the outputs, whatever was applied or computed; all pairs of a fault hold together"
unfoldable pub stuck_or : Pair → ℕ → Bool → Bool
stuck_or s line v = cond (eqb s.line line) s.value v

unfoldable pub shown : Fault → ℕ → Bool → Bool
shown f line v = stuck_or f.first line (stuck_or f.second line (stuck_or f.third line v))

-- "bit i−1 (bit 0 is worth 1) is the value applied to input i"
abbrev pub applied : ℕ → ℕ → Bool
applied x i = eqb (x / 2 ^ i % 2) 1

-- the bridge joins input i, from 0
abbrev pub joins : Bridge → ℕ → Bool
joins b i = eqb b.first (i + 1) || eqb b.second (i + 1)

-- what input i, from 0, gets on row x: "Both inputs then show the AND of what is applied." (document 02, note 8)
unfoldable pub applied_under : Bridge → ℕ → ℕ → Bool
applied_under b x i = cond (joins b i) (applied x (b.first - 1) && applied x (b.second - 1)) (applied x i)
