-- The rule of a gate's column: its kind's value of the lines that it reads, as they are shown on a row, seen through the fault.
use Rattle.std.specs.Prelude.{ℕ, ◌≤◌, Bool, List, map, ◌≡◌}
use Rattle.kinds.specs.declared.Kind.{Kind}
use Rattle.kinds.specs.declared.Kind.TheVariants.{Not}
use Rattle.gates.specs.Gates.{gate_value}
use Rattle.columns.specs.Steps.{shown_at, seen_as}
use Rattle.columns.specs.declared.Seen.{Seen}

-- what the lines show on row x, in their order
abbrev pub shown_on : List Bool → List ℕ → ℕ → List Bool
shown_on values lines x = map (λ line. shown_at values line x) lines

abbrev pub gate_rule : List Bool → Seen → Kind → List ℕ → ℕ → Bool
gate_rule values s kind lines x = seen_as s (gate_value kind (shown_on values lines x))

-- so many lines are read by a gate of the kind: one by a `not`, two to four by any other
pub record FitsKind (kind : Kind) (count : ℕ) : Type 0 where
  pub low : 1 ≤ count
  pub high : count ≤ 4
  pub one : kind ≡ Not → count ≡ 1
  pub more : (kind ≡ Not → ⊥) → 2 ≤ count
