-- What one pair of a fault does to a row: a definition that only contracts of private functions cite.
use Rattle.std.specs.Prelude.{ℕ, cond, eqb}
use Rattle.faults.specs.Faults.{replaced}
use Rattle.statements.specs.declared.Pair.{Pair}
use Rattle.lookup.specs.StuckPairs.{pair_value}

-- row x with the pair's input replaced by its VALUE, and x itself for a pair that names no line
unfoldable pub pair_row : Pair → ℕ → ℕ
pair_row s x = cond (eqb s.line 0) x (replaced (record { line = s.line; value = pair_value s }) x)
