-- A pair that names no line, which has line 0:
--   free_keeps    it leaves what a line shows
--   free_none     line 0, which is none, shows 0
use mathlib.Core.Path.{◌≡◌, sym}
use mathlib.Core.Bool.{Bool, false}
use Prim.Native.Nat.{ℕ}
use borrow.Author.Tests.{eq-eqb, ne_eqb}
use Rattle.statements.specs.Items.{free}
use Rattle.columns.specs.Shown.{stuck_or}

pub free_keeps : (line : ℕ) (v : Bool) → (line ≡ 0 → ⊥) → stuck_or free line v ≡ v
unfolding stuck_or
free_keeps line v some = rw (ne_eqb 0 line (λ e. some (sym e)))

pub free_none : (line : ℕ) (v : Bool) → line ≡ 0 → stuck_or free line v ≡ false
unfolding stuck_or
free_none line v none = rw (eq-eqb 0 line (sym none))
