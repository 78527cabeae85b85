-- What private functions and leaves leave of one column: 256 values for each of 58 lines, one value a row.
--   shown_at              what a line shows on a row
--   seen_as               a value seen through a fault, by what is shown of 1 and of 0
--   Columned             one column made by a rule, and everything else as it was
--   input_rule            the rule of an input's column
use Rattle.std.specs.Prelude.{ℕ, ◌+◌, ◌*◌, ◌≤◌, ◌<◌, Bool, false, cond, ◌&&◌, List, ◌≡◌, get_or}
use Rattle.columns.specs.Shown.{applied}
use Rattle.columns.specs.declared.Seen.{Seen}

abbrev pub shown_at : List Bool → ℕ → ℕ → Bool
shown_at values line x = get_or values (line * 256 + x) false

abbrev pub seen_as : Seen → Bool → Bool
seen_as s v = cond v s.one s.zero

-- the first n values of the line's column are new
pub record Columned (before after : List Bool) (line n : ℕ) (rule : ℕ → Bool) : Type 0 where
  pub made : (x : ℕ) → x < n → shown_at after line x ≡ rule x
  pub kept : (i : ℕ) → (line * 256 ≤ i → i < line * 256 + n → ⊥) → get_or after i false ≡ get_or before i false

-- of an input that gets the AND of what is applied to p and to q, from 0
abbrev pub input_rule : Seen → ℕ → ℕ → ℕ → Bool
input_rule s p q x = seen_as s (applied x p && applied x q)
