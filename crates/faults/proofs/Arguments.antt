-- The lines and values that a fault call is given:
--   binary_all                                          `binary` as the code tests it
--   rising_turn, rising_end                             `rising_inputs`, one line after the other
--   rising-parts, rising-rises, binary-values, binary-bits    what the two mean
--   rising-cons, rising-suffix, length-stuck-of         one line more, and a part of the lines
--   few-is                                              one to three
--   stuck-binary, stuck_unsized, StuckRight, stuck-right-means    `stuck_right`, by its parts, of a list with no inputs, and what it means
--   OpenedRight, opened-binary, opened-right-means      `opened_right` likewise
--   lines-after, rising-after                           the lines after line n
--   kept_few                                            fewer lines are kept than the list has inputs
--   OpenedCall, opened-call                             what a call with right arguments knows
use mathlib.Core.Path.{◌≡◌, refl, sym, ap, subst}
use mathlib.Core.List.{List, [], ◌∷◌}
use mathlib.Core.Bool.{Bool, true, false, ◌&&◌}
use Prim.Native.Nat.{ℕ, zero, suc, ◌+◌, ◌-◌, ◌^◌, ◌≤◌, ◌<◌}
use native.Mathlib.Numerals.{add-one}
use native.Mathlib.Omega.{arith}
use lib.Dec.{eqb, leb, ltb}
use lib.IntN.{ℤ}
use lib.ListN.{length, get_or, take, drop, drop_of_length-le}
use lib.Pow.{pow_mono}
use lib.Seq.{drop-cons}
use borrow.Author.Tests.{ltb-true, leb-true, eqb-true, lt-ltb, le-leb, lt-leb, eq-eqb}
use Rattle.std.specs.List.{list_all}
use Rattle.std.proofs.lemmas.Bool.Decides.{nat_tests}
use Rattle.integer.proofs.Bools.{both}
use Rattle.screen.specs.Answers.{inputs_of}
use Rattle.screen.proofs.Screens.{inputs-most, inputs-power}
use Rattle.faults.specs.Faults.{kept_inputs, stuck_of, rising_inputs, binary, few_of, stuck_right, opened_right, lines_after}
use Rattle.faults.specs.Steps.{Kept}
use Rattle.faults.proofs.Sticking.{Rises, Values}
use Rattle.faults.proofs.Opening.{Bits}

-- One value, one line after the other.

pub binary_all : (values : List ℕ) → binary values ≡ list_all (λ v. leb v 1) values
unfolding binary
binary_all [] = refl
binary_all (v ∷ rest) = ap (λ (b : Bool). leb v 1 && b) (binary_all rest)

pub rising_turn : (last n : ℕ) (lines : List ℕ) (i : ℕ) → i < length lines
    → rising_inputs last n (drop i lines) ≡ (ltb last (get_or lines i 0) && (leb (get_or lines i 0) n && rising_inputs (get_or lines i 0) n (drop (i + 1) lines)))
unfolding rising_inputs
rising_turn last n lines i h = rw (drop-cons lines i 0 h, add-one i)

pub rising_end : (last n : ℕ) (lines : List ℕ) (i : ℕ) → length lines ≤ i → rising_inputs last n (drop i lines) ≡ true
unfolding rising_inputs
rising_end last n lines i h = rw (drop_of_length-le lines h)

pub ruleset rising_turns = (rising_turn, rising_end, nat_tests)

pub rising-parts : (last n i : ℕ) (rest : List ℕ) → rising_inputs last n (i ∷ rest) ≡ true → (last < i) × (i ≤ n) × (rising_inputs i n rest ≡ true)
unfolding rising_inputs
rising-parts last n i rest e =
    let p = both (ltb last i) (leb i n && rising_inputs i n rest) e in
    let q = both (leb i n) (rising_inputs i n rest) p.1 in
    (ltb-true last i p.0, leb-true i n q.0, q.1)

pub rising-rises : (last n : ℕ) (lines values : List ℕ) → rising_inputs last n lines ≡ true → Rises last n (stuck_of lines values)
unfolding stuck_of
rising-rises last n [] values e = tt
rising-rises last n (i ∷ rest) [] e = tt
rising-rises last n (i ∷ rest) (v ∷ values) e = let p = rising-parts last n i rest e in (p.0, p.1, rising-rises i n rest values p.2)

pub rising-cons : (last n i : ℕ) (rest : List ℕ) → last < i → i ≤ n → rising_inputs i n rest ≡ true → rising_inputs last n (i ∷ rest) ≡ true
unfolding rising_inputs
rising-cons last n i rest h l e = rw (lt-ltb last i h, le-leb i n l) e

pub rising-suffix : (last n : ℕ) (lines : List ℕ) (i : ℕ) → rising_inputs last n lines ≡ true → rising_inputs 0 n (drop i lines) ≡ true
unfolding rising_inputs
rising-suffix last n [] zero e = refl
rising-suffix last n [] (suc i) e = refl
rising-suffix last n (line ∷ rest) zero e =
    let p = rising-parts last n line rest e in
    let h = p.0 in
    rising-cons 0 n line rest (omega arith) p.1 p.2
rising-suffix last n (line ∷ rest) (suc i) e = rising-suffix line n rest i (rising-parts last n line rest e).2

pub length-stuck-of : (lines values : List ℕ) → length (stuck_of lines values) ≤ length lines
unfolding stuck_of
length-stuck-of [] values = omega arith
length-stuck-of (line ∷ lines) [] = omega arith
length-stuck-of (line ∷ lines) (value ∷ values) = let h = length-stuck-of lines values in omega arith

pub binary-values : (lines values : List ℕ) → binary values ≡ true → Values (stuck_of lines values)
unfolding binary stuck_of
binary-values [] values e = tt
binary-values (i ∷ lines) [] e = tt
binary-values (i ∷ lines) (v ∷ values) e =
    let p = both (leb v 1) (binary values) e in
    let h = leb-true v 1 p.0 in
    (omega arith, binary-values lines values p.1)

pub binary-bits : (values : List ℕ) → binary values ≡ true → Bits values
unfolding binary
binary-bits [] e = tt
binary-bits (v ∷ values) e =
    let p = both (leb v 1) (binary values) e in
    let h = leb-true v 1 p.0 in
    (omega arith, binary-bits values p.1)

-- Right arguments.

few-means : (k : ℕ) → few_of k ≡ true → (1 ≤ k) × (k ≤ 3)
unfolding few_of
few-means k e = let p = both (ltb 0 k) (leb k 3) e in (ltb-true 0 k p.0, leb-true k 3 p.1)

pub few-is : (k : ℕ) → 1 ≤ k → k ≤ 3 → few_of k ≡ true
unfolding few_of
few-is k h l = rw (lt-ltb 0 k h, le-leb k 3 l)

module _ (n : ℕ) (inputs values : List ℕ) where
  pub stuck-binary : few_of (length inputs) ≡ true → length values ≡ length inputs → stuck_right n inputs values ≡ (binary values && rising_inputs 0 n inputs)
  unfolding stuck_right
  stuck-binary e f = rw (e, eq-eqb (length values) (length inputs) f)

-- no input of a list that has none
pub stuck_unsized : (inputs values : List ℕ) → stuck_right 0 inputs values ≡ false
unfolding stuck_right few_of rising_inputs
stuck_unsized [] values = refl
stuck_unsized (i ∷ rest) values = none (few_of (length (i ∷ rest))) (eqb (length values) (length (i ∷ rest))) (binary values) (low i)
  where
    low : (i : ℕ) → (ltb 0 i && (leb i 0 && rising_inputs i 0 rest)) ≡ false
    low zero = refl
    low (suc i) = rw (lt-ltb 0 (suc i) (omega arith), lt-leb (suc i) 0 (omega arith))

    none : (a b c : Bool) {d : Bool} → d ≡ false → (a && (b && (c && d))) ≡ false
    none true true true e = e
    none true true false e = refl
    none true false c e = refl
    none false b c e = refl

pub record StuckRight (n : ℕ) (inputs values : List ℕ) : Type 0 where
  pub few : length inputs ≤ 3
  pub some : 1 ≤ length inputs
  pub even : length values ≡ length inputs
  pub bits : binary values ≡ true
  pub rise : rising_inputs 0 n inputs ≡ true

pub stuck-right-means : (n : ℕ) (inputs values : List ℕ) → stuck_right n inputs values ≡ true → StuckRight n inputs values
unfolding stuck_right
stuck-right-means n inputs values e =
    let p = both (few_of (length inputs)) _ e in
    let q = both (eqb (length values) (length inputs)) _ p.1 in
    let r = both (binary values) (rising_inputs 0 n inputs) q.1 in
    let k = few-means (length inputs) p.0 in
    record { few = k.1; some = k.0; even = eqb-true (length values) (length inputs) q.0; bits = r.0; rise = r.1 }

pub record OpenedRight (inputs : ℕ) (values : List ℕ) : Type 0 where
  pub few : length values ≤ 3
  pub some : 1 ≤ length values
  pub fewer : length values < inputs
  pub bits : binary values ≡ true

module _ (inputs : ℕ) (values : List ℕ) where
  pub opened-binary : few_of (length values) ≡ true → length values < inputs → opened_right inputs values ≡ binary values
  unfolding opened_right
  opened-binary e h = rw (e, lt-ltb (length values) inputs h)

  pub opened-right-means : opened_right inputs values ≡ true → OpenedRight inputs values
  unfolding opened_right
  opened-right-means e =
      let p = both (few_of (length values)) _ e in
      let q = both (ltb (length values) inputs) (binary values) p.1 in
      let k = few-means (length values) p.0 in
      record { few = k.1; some = k.0; fewer = ltb-true (length values) inputs q.0; bits = q.1 }

-- The lines after line n.

pub lines-after : (n : ℕ) (values : List ℕ) → length values ≤ 3 → stuck_of (take (length values) ((n + 1) ∷ (n + 2) ∷ (n + 3) ∷ [])) values ≡ lines_after n values
unfolding stuck_of lines_after
lines-after n [] h = refl
lines-after n (u ∷ []) h = rw add-one
lines-after n (u ∷ v ∷ []) h = let e : n + 2 ≡ suc (suc n) = omega arith in rw (add-one, e)
lines-after n (u ∷ v ∷ w ∷ []) h =
    let e : n + 2 ≡ suc (suc n) = omega arith in
    let g : n + 3 ≡ suc (suc (suc n)) = omega arith in
    rw (add-one, e, g)
lines-after n (u ∷ v ∷ w ∷ x ∷ values) h = absurd (omega arith)

pub rising-after : (n m k : ℕ) → k ≤ 3 → n + k ≤ m → rising_inputs 0 m (take k ((n + 1) ∷ (n + 2) ∷ (n + 3) ∷ [])) ≡ true
unfolding rising_inputs
rising-after n m zero h l = refl
rising-after n m (suc zero) h l = rising-cons 0 m (n + 1) [] (omega arith) (omega arith) refl
rising-after n m (suc (suc zero)) h l =
    rising-cons 0 m (n + 1) ((n + 2) ∷ []) (omega arith) (omega arith) (rising-cons (n + 1) m (n + 2) [] (omega arith) (omega arith) refl)
rising-after n m (suc (suc (suc zero))) h l =
    rising-cons 0 m (n + 1) ((n + 2) ∷ (n + 3) ∷ []) (omega arith) (omega arith)
    (rising-cons (n + 1) m (n + 2) ((n + 3) ∷ []) (omega arith) (omega arith) (rising-cons (n + 2) m (n + 3) [] (omega arith) (omega arith) refl))
rising-after n m (suc (suc (suc (suc k)))) h l = absurd (omega arith)

-- at least one line is opened
pub kept_few : (n k : ℕ) → 1 ≤ k → inputs_of n - k ≤ 10
kept_few n k h = omega (arith, inputs-most n)

pub ruleset stuck_tests = (stuck_unsized, binary_all)

pub ruleset opened_tests = (kept_few, binary_all)

-- What a call with opened lines knows: kept is the n of n + k inputs.
pub record OpenedCall (c : List ℤ) (values : List ℕ) (kept : ℕ) : Type 0 where
  pub few : length values ≤ 3
  pub bits : binary values ≡ true
  pub parts : inputs_of (length c) ≡ kept + length values
  pub kept-inputs : kept_inputs c values ≡ kept
  pub most : kept ≤ 10
  pub inside : 2 ^ kept ≤ length c

pub opened-call : (c : List ℤ) (values : List ℕ) (kept : ℕ) → Kept (inputs_of (length c)) values kept → OpenedCall c values kept
opened-call c values kept k =
    let o = opened-right-means (inputs_of (length c)) values k.right in
    let e = k.parts in
    let few = o.few in
    let some = o.some in
    let fewer = o.fewer in
    let most = inputs-most (length c) in
    let power = inputs-power (length c) (omega arith) in
    record {
      few = few;
      bits = o.bits;
      parts = omega arith;
      kept-inputs = omega arith;
      most = omega arith;
      inside = subst (λ (n : ℕ). 2 ^ kept ≤ n) (sym power) (pow_mono (omega arith));
    }
