-- A loop that makes one column of line values, one value a row:
--   column-start, column-turn, column_whole    its start, one turn, its end
--   column-ahead                               what it has not reached
use mathlib.Core.Path.{◌≡◌, refl, ◌∙◌, subst}
use mathlib.Core.Bool.{Bool, false}
use mathlib.Core.List.{List}
use Prim.Native.Nat.{ℕ, ◌+◌, ◌*◌, ◌<◌}
use native.Mathlib.Decide.{ℕ_discrete}
use native.Mathlib.Omega.{arith}
use lib.Arith.{lt_of_le-ne}
use lib.ListN.{length, set}
use lib.Seq.{get_or-set_same, get_or-set_other}
use Rattle.columns.specs.Steps.{shown_at, Columned}

module _ (before : List Bool) (line : ℕ) (rule : ℕ → Bool) where
  pub column-start : Columned before before line 0 rule
  column-start = record { made = λ x h. absurd (omega arith); kept = λ i h. refl }

  pub column_whole : {now : List Bool} {x n : ℕ} → x ≡ n → Columned before now line x rule → Columned before now line n rule
  column_whole {now} e = subst (λ (k : ℕ). Columned before now line k rule) e

  module _ (x : ℕ) {now : List Bool} (inv : Columned before now line x rule) where
    pub column-turn : (z : Bool) → line * 256 + x < length now → z ≡ rule x → Columned before (set now (line * 256 + x) z) line (x + 1) rule
    column-turn z room is =
        record {
          made = λ y h. pick y h (ℕ_discrete y x);
          kept = λ i out. get_or-set_other now (line * 256 + x) i z false (λ e. out (omega arith) (omega arith)) ∙ inv.kept i (λ low high. out low (omega arith));
        }
      where
        pick : (y : ℕ) → y < x + 1 → Dec (y ≡ x) → shown_at (set now (line * 256 + x) z) line y ≡ rule y
        pick y h (yes e) = rw e (get_or-set_same now (line * 256 + x) z false room ∙ is)
        pick y h (no n) = get_or-set_other now (line * 256 + x) (line * 256 + y) z false (λ e. n (omega arith)) ∙ inv.made y (lt_of_le-ne (omega arith) n)

    pub column-ahead : (a : ℕ) → x < 256 → shown_at now a x ≡ shown_at before a x
    column-ahead a h = inv.kept (a * 256 + x) (λ low high. absurd (omega arith))
