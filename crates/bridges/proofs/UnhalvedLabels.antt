-- A half that is not whole, and refusal 11 for it:
--   unhalved-left, unhalved-whole     of `unhalved_at`: where something is left over, and where nothing is
--   found-unhalved, none-unhalved     what a loop that tests one label after the other has found
--   unhalved-refused, halved-done     of `unhalved_answer`: 11, and Done
use mathlib.Core.Path.{◌≡◌, refl, ◌∙◌}
use mathlib.Core.List.{List}
use mathlib.Core.Bool.{Bool, true, false, ◌&&◌}
use Prim.Native.Nat.{ℕ, ◌%◌, ◌≤◌, ◌<◌}
use native.Mathlib.Omega.{arith}
use lib.IntN.{ℤ, nat_abs}
use lib.ListN.{length}
use lib.Dec.{leb, ltb}
use borrow.Author.Tests.{ltb-true, leb-true, eq-eqb, ne_eqb, lt-ltb, le-ltb}
use Rattle.screen.specs.Answers.{Done, Refused}
use Rattle.integer.specs.Tab.{nth}
use Rattle.integer.proofs.Firsts.{first-hit, first-none}
use Rattle.std.proofs.lemmas.Bool.Decides.{nat_tests}
use Rattle.bridges.specs.BridgeArguments.{BridgeArguments}
use Rattle.bridges.proofs.BridgeArgumentsMean.{bridge-arguments}
use Rattle.bridges.specs.Bridges.{bridge_right, pair_sum, unhalved_at, first_unhalved, unhalved_answer}

module _ (i j : ℕ) (a : List ℤ) where
  module _ (label : ℕ) where
    pub unhalved-left : (nat_abs (pair_sum i j (nth a) label) % 2 ≡ 0 → ⊥) → unhalved_at i j a label ≡ true
    unfolding unhalved_at
    unhalved-left f = rw (ne_eqb (nat_abs (pair_sum i j (nth a) label) % 2) 0 f)

    pub unhalved-whole : nat_abs (pair_sum i j (nth a) label) % 2 ≡ 0 → unhalved_at i j a label ≡ false
    unfolding unhalved_at
    unhalved-whole e = rw (eq-eqb (nat_abs (pair_sum i j (nth a) label) % 2) 0 e)

    pub found-unhalved : label < length a → ((x : ℕ) → x < label → unhalved_at i j a x ≡ false) → unhalved_at i j a label ≡ true → first_unhalved i j a ≡ label
    unfolding first_unhalved
    found-unhalved h f e = first-hit (unhalved_at i j a) (length a) label h f e

    pub none-unhalved : label ≤ length a → length a ≤ label → ((x : ℕ) → x < label → unhalved_at i j a x ≡ false) → first_unhalved i j a ≡ label
    unfolding first_unhalved
    none-unhalved h k f = first-none (unhalved_at i j a) (length a) (λ x b. f x (omega arith)) ∙ omega arith

  pub unhalved-refused : first_unhalved i j a < length a → unhalved_answer i j a ≡ Refused 11 (first_unhalved i j a)
  unfolding unhalved_answer
  unhalved-refused h = rw (lt-ltb (first_unhalved i j a) (length a) h)

  pub halved-done : length a ≤ first_unhalved i j a → unhalved_answer i j a ≡ Done
  unfolding unhalved_answer
  halved-done h = rw (le-ltb (first_unhalved i j a) (length a) h)

-- no two inputs of a list that has none
pub right_unsized : (i j : ℕ) → bridge_right 0 i j ≡ false
unfolding bridge_right
right_unsized i j = go (ltb 0 i) (ltb i j) refl (leb j 0) refl
  where
    go : (a b : Bool) → ltb i j ≡ b → (c : Bool) → leb j 0 ≡ c → (a && (b && c)) ≡ false
    go false b e c f = refl
    go true false e c f = refl
    go true true e false f = refl
    go true true e true f = absurd (omega (arith, ltb-true i j e, leb-true j 0 f))

pub right_assoc : (a b c : Bool) → ((a && b) && c) ≡ (a && (b && c))
right_assoc true b c = refl
right_assoc false b c = refl

pub ruleset right_is = (right_unsized, right_assoc)

pub right_means : (n i j : ℕ) → bridge_right n i j ≡ true → BridgeArguments n i j
right_means n i j e = (bridge-arguments n i j).0 e

pub ruleset bridged_is = (right_means, nat_tests)
