-- The tests on the arguments of the fault calls hold exactly of the paper's arguments:
--   stuck-arguments     one to three rising inputs in 1 to n, and as many values 0 or 1
--   opened-arguments    one to three values 0 or 1, fewer than the inputs
use mathlib.Core.Path.{◌≡◌, refl}
use mathlib.Core.Bool.{true}
use mathlib.Core.List.{List, [], ◌∷◌}
use mathlib.Core.Logic.{◌↔◌}
use Prim.Native.Nat.{ℕ, zero, suc, ◌<◌, ◌≤◌}
use native.Mathlib.Omega.{arith}
use lib.Dec.{leb}
use lib.ListN.{length, get_or}
use borrow.Author.Tests.{leb-true, le-leb}
use Rattle.integer.proofs.Bools.{both}
use Rattle.faults.specs.Faults.{rising_inputs, binary, stuck_right, opened_right}
use Rattle.faults.specs.Arguments.{ZeroOrOne, StuckArguments, OpenedArguments}
use Rattle.faults.proofs.Arguments.{rising-parts, rising-cons, few-is, stuck-binary, stuck-right-means, opened-binary, opened-right-means}

binary-each : (values : List ℕ) → binary values ≡ true → ZeroOrOne values
unfolding binary
binary-each [] e i h = absurd (omega arith)
binary-each (v ∷ values) e zero h = leb-true v 1 (both (leb v 1) (binary values) e).0
binary-each (v ∷ values) e (suc i) h = binary-each values (both (leb v 1) (binary values) e).1 i (omega arith)

each-binary : (values : List ℕ) → ZeroOrOne values → binary values ≡ true
unfolding binary
each-binary [] b = refl
each-binary (v ∷ values) b = rw (le-leb v 1 (b zero (omega arith))) (each-binary values (λ i h. b (suc i) (omega arith)))

-- inputs that rise from above `last` to at most n
rising-each : (last n : ℕ) (inputs : List ℕ) → rising_inputs last n inputs ≡ true → (i : ℕ) → i < length inputs → (last < get_or inputs i 0) × (get_or inputs i 0 ≤ n)
rising-each last n [] e i h = absurd (omega arith)
rising-each last n (x ∷ inputs) e zero h = let p = rising-parts last n x inputs e in (p.0, p.1)
rising-each last n (x ∷ inputs) e (suc i) h =
    let p = rising-parts last n x inputs e in
    let q = rising-each x n inputs p.2 i (omega arith) in
    (omega (arith, p.0, q.0), q.1)

rising-next-each : (last n : ℕ) (inputs : List ℕ) → rising_inputs last n inputs ≡ true → (i : ℕ) → suc i < length inputs → get_or inputs i 0 < get_or inputs (suc i) 0
rising-next-each last n [] e i h = absurd (omega arith)
rising-next-each last n (x ∷ inputs) e zero h = (rising-each x n inputs (rising-parts last n x inputs e).2 zero (omega arith)).0
rising-next-each last n (x ∷ inputs) e (suc i) h = rising-next-each x n inputs (rising-parts last n x inputs e).2 i (omega arith)

each-rising : (last n : ℕ) (inputs : List ℕ) → (0 < length inputs → last < get_or inputs 0 0) → ((i : ℕ) → i < length inputs → get_or inputs i 0 ≤ n)
    → ((i : ℕ) → suc i < length inputs → get_or inputs i 0 < get_or inputs (suc i) 0) → rising_inputs last n inputs ≡ true
unfolding rising_inputs
each-rising last n [] first high rise = refl
each-rising last n (x ∷ inputs) first high rise =
    rising-cons last n x inputs (first (omega arith)) (high zero (omega arith))
    (each-rising x n inputs (λ h. rise zero (omega arith)) (λ i h. high (suc i) (omega arith)) (λ i h. rise (suc i) (omega arith)))

pub stuck-arguments : (n : ℕ) (inputs values : List ℕ) → (stuck_right n inputs values ≡ true) ↔ StuckArguments n inputs values
stuck-arguments n inputs values = (there, back)
  where
    there : stuck_right n inputs values ≡ true → StuckArguments n inputs values
    there e =
        let r = stuck-right-means n inputs values e in
        record {
          some = r.some;
          few = r.few;
          low = λ i h. (rising-each 0 n inputs r.rise i h).0;
          high = λ i h. (rising-each 0 n inputs r.rise i h).1;
          rise = rising-next-each 0 n inputs r.rise;
          even = r.even;
          binary-values = binary-each values r.bits;
        }

    back : StuckArguments n inputs values → stuck_right n inputs values ≡ true
    back a =
        rw (stuck-binary n inputs values (few-is (length inputs) a.some a.few) a.even, each-binary values a.binary-values)
        (each-rising 0 n inputs (λ h. a.low 0 h) a.high a.rise)

pub opened-arguments : (inputs : ℕ) (values : List ℕ) → (opened_right inputs values ≡ true) ↔ OpenedArguments inputs values
opened-arguments inputs values = (there, back)
  where
    there : opened_right inputs values ≡ true → OpenedArguments inputs values
    there e =
        let r = opened-right-means inputs values e in
        record { some = r.some; few = r.few; left = r.fewer; binary-values = binary-each values r.bits }

    back : OpenedArguments inputs values → opened_right inputs values ≡ true
    back a = rw (opened-binary inputs values (few-is (length values) a.some a.few) a.left) (each-binary values a.binary-values)
