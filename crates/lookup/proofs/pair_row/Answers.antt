-- The input is taken away from the row, and its power of two added where the VALUE is 1.
use Rattle.std.proofs.Common.{arith, ◌≡◌, ℕ, ◌≤◌, ◌<◌, sym, subst}
use Rattle.statements.specs.declared.Pair.{Pair}
use Rattle.lookup.specs.Steps.{pair_row}
use Rattle.lookup.proofs.PairRows.{pair-row-below, off-row, on_row}
use Rattle.lookup.proofs.pair_row.Goals as goal

-- a row below 256 stays below 256
both : (s : Pair) (x r : ℕ) → s.line ≤ 8 → x < 256 → r ≡ pair_row s x → (r ≡ pair_row s x) × (r < 256)
both s x r last small e = (e, subst (λ (n : ℕ). n < 256) (sym e) (pair-row-below 8 s x last small))

pub returns-then-s : goal.returns-then-s
returns-then-s c =
    let (first, last, small) = c.requires in
    both c.args.s c.args.x _ last small (on_row c.args.s c.args.x (omega (arith, first)) last small c.if-s.true)

pub returns-else-s : goal.returns-else-s
returns-else-s c =
    let (first, last, small) = c.requires in
    both c.args.s c.args.x _ last small (off-row c.args.s c.args.x (omega (arith, first)) last small c.if-s.false)
