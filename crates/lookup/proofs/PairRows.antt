-- One replaced input after the other:
--   pair_none, pair-some             a pair that names no line leaves the row, another replaces its input
--   stuck_row_steps                  the row with its stuck inputs replaced, pair by pair
--   bridge-none, bridge-some         where there is no bridge the row is left, else both inputs are replaced
--   bridge_row_steps                 as two pairs with the AND as their VALUE would
--   pair-row-below, stuck-row-below, bridge-row-below, fault-row-below    rows of k inputs stay rows of k inputs
--   own-digit                        a row is the inputs above one, that input and the inputs below
--   off-row, on_row                  so to replace it the code takes the input away, and adds its power of two where the VALUE is 1
use mathlib.Core.Path.{◌≡◌, refl, sym, ap, ◌∙◌, subst}
use mathlib.Core.Bool.{Bool, true, false, cond}
use mathlib.Core.List.{List, [], ◌∷◌, map}
use Prim.Native.Nat.{ℕ, zero, suc, ◌+◌, ◌*◌, ◌-◌, ◌/◌, ◌%◌, ◌^◌, ◌≤◌, ◌<◌}
use native.Mathlib.Nat.{zero-mul, one-mul, add-mul, mul_assoc, mul_comm, pow-suc}
use native.Mathlib.Numerals.{add-one}
use native.Mathlib.Omega.{arith}
use lib.Dec.{eqb}
use lib.Pow.{shr-shr, split}
use borrow.Author.Tests.{eq-eqb, ne_eqb, eqb-true, eqb-false}
use Rattle.integer.proofs.Machine.{bit_is}
use Rattle.faults.specs.Faults.{Stuck, stuck_of, replaced, replaced_all, both_of, bridged_row}
use Rattle.faults.proofs.BridgedRows.{both_small}
use Rattle.faults.proofs.Digits.{digit, put}
use Rattle.faults.proofs.Sticking.{replaced-put, replaced-below}
use Rattle.statements.specs.declared.Bridge.{Bridge}
use Rattle.statements.specs.Items.{Fault}
use Rattle.statements.specs.declared.Pair.{Pair}
use Rattle.lookup.specs.StuckPairs.{with_pair, present_pairs, pair_line, bit_for, pair_value, stuck_lines, stuck_values, pairs_of, OfInputs}
use Rattle.lookup.specs.TableRows.{stuck_row_number, bridge_row, fault_row}
use Rattle.lookup.specs.Steps.{pair_row}
use Rattle.lookup.proofs.StuckPairs.{bit-small}

abbrev stuck_by : Pair → Stuck
stuck_by s = record { line = s.line; value = pair_value s }

pub pair_none : (s : Pair) (x : ℕ) → s.line ≡ 0 → pair_row s x ≡ x
unfolding pair_row
pair_none s x e = rw (eq-eqb s.line 0 e)

pub pair-some : (s : Pair) (x : ℕ) → (s.line ≡ 0 → ⊥) → pair_row s x ≡ replaced (stuck_by s) x
unfolding pair_row
pair-some s x e = rw (ne_eqb s.line 0 e)

-- Pair by pair.

abbrev replaced_by : List Pair → ℕ → ℕ
replaced_by pairs x = replaced_all (stuck_of (map pair_line pairs) (map pair_value pairs)) x

with_row : (s : Pair) (rest : List Pair) (x : ℕ) → replaced_by (with_pair s rest) x ≡ replaced_by rest (pair_row s x)
unfolding with_pair pair_row stuck_of replaced_all
with_row s rest x = go (eqb s.line 0)
  where
    go : (b : Bool) → replaced_by (cond b rest (s ∷ rest)) x ≡ replaced_by rest (cond b x (replaced (stuck_by s) x))
    go true = refl
    go false = refl

pub stuck_row_steps : (f : Fault) (x : ℕ) → stuck_row_number f x ≡ pair_row f.third (pair_row f.second (pair_row f.first x))
unfolding pairs_of stuck_lines stuck_values present_pairs stuck_of replaced_all
stuck_row_steps f x =
    let y = pair_row f.first x in
    with_row f.first (with_pair f.second (with_pair f.third [])) x
    ∙ with_row f.second (with_pair f.third []) y
    ∙ with_row f.third [] (pair_row f.second y)

pub pair-row-below : (k : ℕ) (s : Pair) (x : ℕ) → s.line ≤ k → x < 2 ^ k → pair_row s x < 2 ^ k
pair-row-below k s x last h = go (eqb s.line 0) refl
  where
    go : (b : Bool) → eqb s.line 0 ≡ b → pair_row s x < 2 ^ k
    go true e = subst (λ (n : ℕ). n < 2 ^ k) (sym (pair_none s x (eqb-true s.line 0 e))) h
    go false e =
        let some = eqb-false s.line 0 e in
        let low : 1 ≤ s.line = omega (arith, some) in
        subst (λ (n : ℕ). n < 2 ^ k) (sym (pair-some s x some)) (replaced-below (stuck_by s) k low last x h (bit-small s.value))

pub stuck-row-below : (k : ℕ) (f : Fault) (x : ℕ) → OfInputs k f → x < 2 ^ k → stuck_row_number f x < 2 ^ k
stuck-row-below k f x o h =
    let first = pair-row-below k f.first x o.first h in
    let second = pair-row-below k f.second (pair_row f.first x) o.second first in
    subst (λ (n : ℕ). n < 2 ^ k) (sym (stuck_row_steps f x)) (pair-row-below k f.third (pair_row f.second (pair_row f.first x)) o.third second)

-- A bridge.

module _ (b : Bridge) (x : ℕ) where
  pub bridge-none : b.first ≡ 0 → bridge_row b x ≡ x
  unfolding bridge_row
  bridge-none e = rw (eq-eqb b.first 0 e)

  pub bridge-some : (b.first ≡ 0 → ⊥) → bridge_row b x ≡ bridged_row b.first b.second x
  unfolding bridge_row
  bridge-some e = rw (ne_eqb b.first 0 e)

  -- an input stuck at the AND
  abbrev pub stuck_at_both : ℕ → Pair
  stuck_at_both line = record { line = line; value = eqb (both_of b.first b.second x) 1 }

  both-back : bit_for (eqb (both_of b.first b.second x) 1) ≡ both_of b.first b.second x
  both-back = go (both_of b.first b.second x) (both_small b.first b.second x)
    where
      go : (n : ℕ) → n < 2 → bit_for (eqb n 1) ≡ n
      go zero h = refl
      go (suc zero) h = refl
      go (suc (suc n)) h = absurd (omega arith)

  at_both : (line y : ℕ) → (line ≡ 0 → ⊥) → pair_row (stuck_at_both line) y ≡ replaced (record { line = line; value = both_of b.first b.second x }) y
  at_both line y some = pair-some (stuck_at_both line) y some ∙ ap (λ (v : ℕ). replaced (record { line = line; value = v }) y) both-back

  pub bridge_row_steps : (b.first ≡ 0 → ⊥) → b.first ≤ b.second → bridge_row b x ≡ pair_row (stuck_at_both b.second) (pair_row (stuck_at_both b.first) x)
  bridge_row_steps some rises =
      bridge-some some
      ∙ sym (at_both b.second (replaced (record { line = b.first; value = both_of b.first b.second x }) x) (λ e. some (omega arith)))
      ∙ ap (pair_row (stuck_at_both b.second)) (sym (at_both b.first x some))

  pub bridge-row-below : (k : ℕ) → b.first ≤ b.second → b.second ≤ k → x < 2 ^ k → bridge_row b x < 2 ^ k
  bridge-row-below k rises last h = go (eqb b.first 0) refl
    where
      go : (t : Bool) → eqb b.first 0 ≡ t → bridge_row b x < 2 ^ k
      go true e = subst (λ (n : ℕ). n < 2 ^ k) (sym (bridge-none (eqb-true b.first 0 e))) h
      go false e =
          let once = pair-row-below k (stuck_at_both b.first) x (omega arith) h in
          subst (λ (n : ℕ). n < 2 ^ k) (sym (bridge_row_steps (eqb-false b.first 0 e) rises))
          (pair-row-below k (stuck_at_both b.second) (pair_row (stuck_at_both b.first) x) last once)

pub fault-row-below : (k : ℕ) (f : Fault) (x : ℕ) → OfInputs k f → x < 2 ^ k → fault_row f x < 2 ^ k
unfolding fault_row
fault-row-below k f x o h = stuck-row-below k f (bridge_row f.bridge x) o (bridge-row-below f.bridge x k o.bridge-rises o.bridge-high h)

-- The work of one pair.

-- the digits above digit b, that digit, the digits below
pub own-digit : (b x : ℕ) → x ≡ x / 2 ^ suc b * 2 ^ suc b + digit b x * 2 ^ b + x % 2 ^ b
own-digit b x =
    let q = x / 2 ^ b in
    let above : x / 2 ^ suc b ≡ q / 2 = ap (λ (n : ℕ). x / 2 ^ n) (sym (add-one b)) ∙ sym (shr-shr x b 1) in
    let halves : q / 2 * 2 + q % 2 ≡ q = omega arith in
    sym (split x b)
    ∙ ap (λ (n : ℕ). n * 2 ^ b + x % 2 ^ b) (sym halves)
    ∙ ap (λ (n : ℕ). n + x % 2 ^ b) (add-mul (q / 2 * 2) (q % 2) (2 ^ b))
    ∙ ap (λ (n : ℕ). n + q % 2 * 2 ^ b + x % 2 ^ b) (mul_assoc (q / 2) 2 (2 ^ b) ∙ ap (λ (n : ℕ). q / 2 * n) (mul_comm 2 (2 ^ b) ∙ sym (pow-suc 2 b)) ∙ ap (λ (n : ℕ). n * 2 ^ suc b) (sym above))

-- the input taken away, and the VALUE added
module _ (s : Pair) (x : ℕ) (some : s.line ≡ 0 → ⊥) (last : s.line ≤ 8) (small : x < 256) where
  -- the input's power of two, as the machine shifts it
  abbrev unit : ℕ
  unit = (1 * 2 ^ (s.line - 1)) % 2 ^ 64

  unit-is : unit ≡ 2 ^ (s.line - 1)
  unit-is = bit_is 64 (s.line - 1) (omega arith)

  parts : x ≡ x / 2 ^ suc (s.line - 1) * 2 ^ suc (s.line - 1) + digit (s.line - 1) x * unit + x % 2 ^ (s.line - 1)
  parts = own-digit (s.line - 1) x ∙ ap (λ (n : ℕ). x / 2 ^ suc (s.line - 1) * 2 ^ suc (s.line - 1) + digit (s.line - 1) x * n + x % 2 ^ (s.line - 1)) (sym unit-is)

  by_value : (v : ℕ) → pair_value s ≡ v → pair_row s x ≡ put (s.line - 1) v x
  by_value v e =
      let first : 1 ≤ s.line = omega (arith, some) in
      pair-some s x some ∙ replaced-put (stuck_by s) first x ∙ ap (λ (n : ℕ). put (s.line - 1) n x) e

  without-input : (high own low : ℕ) → x ≡ high + own + low → x - own ≡ high + 0 + low
  without-input high own low e = omega arith

  pub off-row : s.value ≡ false → x - digit (s.line - 1) x * unit ≡ pair_row s x
  off-row e =
      without-input _ _ _ parts
      ∙ ap (λ (n : ℕ). x / 2 ^ suc (s.line - 1) * 2 ^ suc (s.line - 1) + n + x % 2 ^ (s.line - 1)) (sym (zero-mul (2 ^ (s.line - 1))))
      ∙ sym (by_value 0 (ap bit_for e))

  pub on_row : s.value ≡ true → x - digit (s.line - 1) x * unit + unit ≡ pair_row s x
  on_row e =
      ap (λ (n : ℕ). n + unit) (without-input _ _ _ parts)
      ∙ swap (x / 2 ^ suc (s.line - 1) * 2 ^ suc (s.line - 1)) (x % 2 ^ (s.line - 1)) unit
      ∙ ap (λ (n : ℕ). x / 2 ^ suc (s.line - 1) * 2 ^ suc (s.line - 1) + n + x % 2 ^ (s.line - 1)) (unit-is ∙ sym (one-mul (2 ^ (s.line - 1))))
      ∙ sym (by_value 1 (ap bit_for e))
    where
      swap : (high low u : ℕ) → high + 0 + low + u ≡ high + u + low
      swap high low u = omega arith
