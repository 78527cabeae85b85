-- What the pairs of a fault show on the lines of a circuit:
--   bit-back          VALUE as a number, and back
--   shown-by-pairs    what a line shows is decided by the pairs that are there
use mathlib.Core.Path.{◌≡◌, refl, ap, ◌∙◌}
use mathlib.Core.Bool.{Bool, true, false, cond}
use mathlib.Core.List.{List, [], ◌∷◌}
use Prim.Native.Nat.{ℕ, ◌≤◌}
use native.Mathlib.Omega.{arith}
use lib.Dec.{eqb}
use borrow.Author.Tests.{ne_eqb, eqb-true}
use Rattle.columns.specs.Shown.{stuck_or, shown}
use Rattle.lookup.specs.StuckPairs.{with_pair, present_pairs, bit_for}
use Rattle.statements.specs.Items.{Fault}
use Rattle.statements.specs.declared.Pair.{Pair}

pub bit-back : (v : Bool) → eqb (bit_for v) 1 ≡ v
bit-back true = refl
bit-back false = refl

-- what a line shows, the pairs taken one after the other
abbrev pub shown_by : List Pair → ℕ → Bool → Bool
shown_by [] line v = v
shown_by (s ∷ rest) line v = stuck_or s line (shown_by rest line v)

with-shows : (s : Pair) (rest : List Pair) (line : ℕ) (v : Bool) → 1 ≤ line → stuck_or s line (shown_by rest line v) ≡ shown_by (with_pair s rest) line v
unfolding with_pair stuck_or
with-shows s rest line v h = go (eqb s.line 0) refl
  where
    go : (b : Bool) → eqb s.line 0 ≡ b → stuck_or s line (shown_by rest line v) ≡ shown_by (cond b rest (s ∷ rest)) line v
    go true e = let z = eqb-true s.line 0 e in rw (ne_eqb s.line line (λ g. absurd (omega arith)))
    go false e = refl

pub shown-by-pairs : (f : Fault) (line : ℕ) (v : Bool) → 1 ≤ line → shown f line v ≡ shown_by (present_pairs f) line v
unfolding shown present_pairs
shown-by-pairs f line v h =
    let last = with-shows f.third [] line v h in
    let next = ap (stuck_or f.second line) last ∙ with-shows f.second (with_pair f.third []) line v h in
    ap (stuck_or f.first line) next ∙ with-shows f.first (with_pair f.second (with_pair f.third [])) line v h
