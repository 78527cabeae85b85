-- The pairs of a fault:
--   bit-small                                  VALUE as a number
--   with_none, with-some                       a pair is there where it names a line
--   pairs-few, pairs-some, values-even         there are one to three, with as many values as lines
--   values-binary, values-bits, lines-rise     the values are 0 or 1, and the lines rise
--   pairs-right                                so the stuck-input call finds them right, for lines from 1 to top
--   pairs-rise                                 and so do the formulas over stuck inputs
--   fault-of-inputs, sound-of-inputs           a fault of stuck lines or a bridge that is right for n inputs names inputs only, and so does the one that names no line
use mathlib.Core.Path.{◌≡◌, refl, sym, ap, ◌∙◌}
use mathlib.Core.Bool.{Bool, true, false, cond}
use mathlib.Core.List.{List, [], ◌∷◌, map}
use mathlib.Core.Logic.{◌⊎◌, inl, inr}
use Prim.Native.Nat.{ℕ, suc, ◌≤◌, ◌<◌, zero-le}
use native.Mathlib.Omega.{arith}
use lib.Dec.{eqb}
use lib.ListN.{length, length-map}
use borrow.Author.Tests.{eq-eqb, ne_eqb}
use Rattle.sections.specs.FaultLines.{Above, StuckFault, BridgeFault}
use Rattle.sections.proofs.FaultsRight.{free-line}
use Rattle.faults.specs.Faults.{rising_inputs, binary, stuck_right}
use Rattle.faults.proofs.Arguments.{rising-cons, rising-rises, few-is, stuck-binary, binary-bits}
use Rattle.faults.proofs.Opening.{Bits}
use Rattle.faults.proofs.Sticking.{Rises}
use Rattle.statements.specs.Items.{sound}
use Rattle.statements.specs.declared.Bridge.{Bridge}
use Rattle.statements.specs.Items.{Fault}
use Rattle.statements.specs.declared.Pair.{Pair}
use Rattle.lookup.specs.StuckPairs.{with_pair, present_pairs, pair_line, bit_for, pair_value, stuck_lines, stuck_values, pairs_of, OfInputs}

-- One pair.

pub bit-small : (v : Bool) → bit_for v < 2
bit-small true = omega arith
bit-small false = omega arith

pub with_none : (s : Pair) (rest : List Pair) → s.line ≡ 0 → with_pair s rest ≡ rest
unfolding with_pair
with_none s rest e = rw (eq-eqb s.line 0 e)

pub with-some : (s : Pair) (rest : List Pair) → 1 ≤ s.line → with_pair s rest ≡ s ∷ rest
unfolding with_pair
with-some s rest h = rw (ne_eqb s.line 0 (λ e. absurd (omega arith)))

-- How many there are.

with-length : (s : Pair) (rest : List Pair) → length (with_pair s rest) ≤ suc (length rest)
unfolding with_pair
with-length s rest = go (eqb s.line 0)
  where
    go : (b : Bool) → length (cond b rest (s ∷ rest)) ≤ suc (length rest)
    go true = omega arith
    go false = omega arith

pub pairs-few : (f : Fault) → length (stuck_values f) ≤ 3
unfolding stuck_values present_pairs
pairs-few f =
    let third = with-length f.third [] in
    let second = with-length f.second (with_pair f.third []) in
    let first = with-length f.first (with_pair f.second (with_pair f.third [])) in
    omega (arith, length-map (present_pairs f) pair_value)

pub pairs-some : (f : Fault) → 1 ≤ f.first.line → 1 ≤ length (stuck_values f)
unfolding stuck_values present_pairs
pairs-some f h =
    let more = with_pair f.second (with_pair f.third []) in
    omega (arith, length-map (present_pairs f) pair_value, ap length (with-some f.first more h))

pub values-even : (f : Fault) → length (stuck_values f) ≡ length (stuck_lines f)
unfolding stuck_values stuck_lines
values-even f = length-map (present_pairs f) pair_value ∙ sym (length-map (present_pairs f) pair_line)

-- Their values.

bits-binary : (pairs : List Pair) → binary (map pair_value pairs) ≡ true
unfolding binary
bits-binary [] = refl
bits-binary (s ∷ rest) = go s.value (bits-binary rest)
  where
    go : (v : Bool) → binary (map pair_value rest) ≡ true → binary (bit_for v ∷ map pair_value rest) ≡ true
    go true ih = ih
    go false ih = ih

pub values-binary : (f : Fault) → binary (stuck_values f) ≡ true
unfolding stuck_values
values-binary f = bits-binary (present_pairs f)

pub values-bits : (f : Fault) → Bits (stuck_values f)
values-bits f = binary-bits (stuck_values f) (values-binary f)

-- Their lines.

with-rises : (last top : ℕ) (s : Pair) (rest : List Pair) → Above last top s → (s.line ≡ 0 → rest ≡ []) → rising_inputs s.line top (map pair_line rest) ≡ true
    → rising_inputs last top (map pair_line (with_pair s rest)) ≡ true
unfolding rising_inputs
with-rises last top s rest (inl none) stop e =
    let z = free-line none in
    ap (λ (l : List Pair). rising_inputs last top (map pair_line l)) (with_none s rest z ∙ stop z)
with-rises last top s rest (inr some) stop e =
    let low = some.0 in
    ap (λ (l : List Pair). rising_inputs last top (map pair_line l)) (with-some s rest (omega arith))
    ∙ rising-cons last top s.line (map pair_line rest) low some.1 e

pub lines-rise : (top : ℕ) (f : Fault) → StuckFault top f → rising_inputs 0 top (stuck_lines f) ≡ true
unfolding stuck_lines present_pairs rising_inputs
lines-rise top f r =
    let third = with-rises f.second.line top f.third [] r.third (λ e. refl) refl in
    let second =
    with-rises f.first.line top f.second (with_pair f.third []) r.second (λ e. with_none f.third [] (r.no_gap e)) third in
    let low = r.first-low in
    with-rises 0 top f.first (with_pair f.second (with_pair f.third [])) (inr (low, r.first-high)) (λ e. absurd (omega arith)) second

pub pairs-right : (top : ℕ) (f : Fault) → StuckFault top f → stuck_right top (stuck_lines f) (stuck_values f) ≡ true
pairs-right top f r =
    let even = values-even f in
    let some = pairs-some f r.first-low in
    let few = pairs-few f in
    stuck-binary top (stuck_lines f) (stuck_values f) (few-is (length (stuck_lines f)) (omega arith) (omega arith)) even ∙ rw (values-binary f) (lines-rise top f r)

-- Faults of inputs.

pub sound-of-inputs : (n : ℕ) → OfInputs n sound
sound-of-inputs n = record { first = zero-le; second = zero-le; third = zero-le; bridge-rises = zero-le; bridge-high = zero-le }

pub right-of-inputs : (n : ℕ) (f : Fault) → StuckFault n f → OfInputs n f
right-of-inputs n f r =
    let high = r.first-high in
    let first-none : f.bridge.first ≡ 0 = ap (λ (b : Bridge). b.first) r.unbridged in
    let second_none : f.bridge.second ≡ 0 = ap (λ (b : Bridge). b.second) r.unbridged in
    record {
      first = omega arith;
      second = most f.first.line f.second r.second;
      third = most f.second.line f.third r.third;
      bridge-rises = omega arith;
      bridge-high = omega arith;
    }
  where
    most : (last : ℕ) (s : Pair) → Above last n s → s.line ≤ n
    most last s (inl none) = let z = free-line none in omega arith
    most last s (inr some) = some.1

pub bridge-of-inputs : (n : ℕ) (f : Fault) → BridgeFault n f → OfInputs n f
bridge-of-inputs n f b =
    let first = free-line b.no-first in
    let second = free-line b.no_second in
    let third = free-line b.no_third in
    let rise = b.rise in
    let high = b.second-high in
    record { first = omega arith; second = omega arith; third = omega arith; bridge-rises = omega arith; bridge-high = omega arith }

pub fault-of-inputs : (n : ℕ) (f : Fault) → StuckFault n f ⊎ BridgeFault n f → OfInputs n f
fault-of-inputs n f (inl r) = right-of-inputs n f r
fault-of-inputs n f (inr b) = bridge-of-inputs n f b

-- What the formulas over stuck inputs ask of them.
pub pairs-rise : (top : ℕ) (f : Fault) → StuckFault top f → Rises 0 top (pairs_of f)
unfolding pairs_of
pairs-rise top f r = rising-rises 0 top (stuck_lines f) (stuck_values f) (lines-rise top f r)
