-- The counts of equations (11) and (12) of source document 004, of a table sound or under a fault (document 02, note 1: "A free row counts one half"):
--   "The spectral coefficients for incompletely specified Boolean function, having n variables, can be defined in the following way:
--   r_I = a_I + e_I / 2, I = 0, (11) and r_I = c_I - a_I + (f_I - e_I) / 2, I ≠ 0. (12)"
-- For I ≠ 0 a and c are the true minterms, e and f the don't care minterms, where the standard trivial function u_I has the value 1 (a, e) and 0 (c, f):
-- label AND row has an odd number of ones where u_I is 1. For I = 0 "the appropriate standard function is the universe u_0, i.e. the logical function that
-- is true for all its minterms", so a and e count them all.
use Rattle.std.specs.Prelude.{ℕ, ◌^◌, Bool, ◌&&◌, eqb, length, get_or}
use Rattle.integer.specs.Counting.{up_to}
use Rattle.integer.specs.ListTests.{keep}
use Rattle.transform.specs.Spectrum.{sign}
use Rattle.statements.specs.Items.{Fault}
use Rattle.tables.specs.Tables.{TruthTable}
use Rattle.lookup.specs.TableRows.{fault_row}

-- row x has the doubled mark m under the fault: 2 for a one, 1 for a free row
abbrev pub mark_is : TruthTable → Fault → ℕ → ℕ → Bool
mark_is t f m x = eqb (get_or t.marks (fault_row f x) 0) m

-- and its sign at the label is p: 0 where label AND row has an even number of ones, 1 where it has an odd number
abbrev pub mark_with : TruthTable → Fault → ℕ → ℕ → ℕ → ℕ → Bool
mark_with t f m p label x = mark_is t f m x && eqb (sign label x) p

-- how many of the rows pass a test
abbrev pub rows_passing : TruthTable → (ℕ → Bool) → ℕ
rows_passing t p = length (keep p (up_to (2 ^ t.inputs)))

-- how many ones, and how many free rows: c and f of (12) for p = 0, a and e for p = 1
unfoldable pub ones_with : TruthTable → Fault → ℕ → ℕ → ℕ
ones_with t f p label = rows_passing t (mark_with t f 2 p label)

unfoldable pub free_with : TruthTable → Fault → ℕ → ℕ → ℕ
free_with t f p label = rows_passing t (mark_with t f 1 p label)

-- of all rows: a and e of (11)
unfoldable pub ones_of : TruthTable → Fault → ℕ
ones_of t f = rows_passing t (mark_is t f 2)

unfoldable pub free_of : TruthTable → Fault → ℕ
free_of t f = rows_passing t (mark_is t f 1)
