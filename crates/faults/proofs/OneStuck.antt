-- One stuck input, as a loop that counts up writes it in place, and all of them, by a loop that counts down:
--   stuck-to, stuck-start, stuck-end    the list when i numbers are new, at the start and at the end
--   read-ahead, stick-turn              a turn reads numbers that are as they came, and writes one
--   once-joined, once-named             the number that a turn writes
--   partner-below                       the label that adds the input
--   stuck-from, from-none               the list when the lines from i on are stuck, at the start
--   from-within                         its bound
--   from-line, from_step                one line more
use mathlib.Core.Path.{◌≡◌, refl, sym, ap, ap₂, ◌∙◌, subst}
use mathlib.Core.List.{List, ◌∷◌, ◌++◌, append-nil}
use mathlib.Core.Bool.{Bool, true, cond}
use Prim.Native.Nat.{ℕ, suc, ◌+◌, ◌-◌, ◌^◌, ◌≤◌, ◌<◌, ◌*◌, ◌%◌}
use native.Mathlib.Omega.{arith}
use lib.IntN.{ℤ, pos, ◌+ℤ◌}
use lib.ListN.{length, get_or, drop, set, length-drop}
use lib.Seq.{drop-length, drop-cons}
use borrow.Author.Tests.{eq-eqb, ne_eqb}
use Rattle.integer.specs.Sum.{signed}
use Rattle.integer.specs.Tab.{tab, nth, Within}
use Rattle.integer.proofs.Machine.{bit_is}
use Rattle.integer.proofs.Tabs.{tab-step, tab-ahead}
use Rattle.screen.specs.Answers.{inputs_of}
use Rattle.screen.proofs.Screens.{inputs-most, inputs-power}
use Rattle.faults.specs.Faults.{Stuck, bit_of, stuck_of, stuck_spectrum_of, rising_inputs}
use Rattle.faults.specs.Steps.{stuck_once_at, stuck_once}
use Rattle.faults.proofs.Arguments.{rising-rises, rising-suffix, length-stuck-of}
use Rattle.faults.proofs.Digits.{add-below}
use Rattle.faults.proofs.Sticking.{Rises, stuck-none, stuck-step, within-stuck}

pub partner-below : (input n i : ℕ) → 1 ≤ input → input ≤ inputs_of n → i < n → bit_of input i ≡ 0 → i + 2 ^ (input - 1) < n
partner-below input n i first last h e =
    let size = inputs-power n (omega arith) in
    subst (λ (m : ℕ). i + 2 ^ (input - 1) < m) (sym size) (add-below (inputs_of n) (input - 1) i (omega arith) (subst (λ (m : ℕ). i < m) size h) e)

-- the same with the bit as the machine has it
pub partner-in : (input n i : ℕ) → (1 ≤ input) × (input ≤ inputs_of n) → i < n → bit_of input i ≡ 0 → i + (1 * 2 ^ (input - 1)) % 2 ^ 64 < n
partner-in input n i r h e = rw (bit_is 64 (input - 1) (omega (arith, r.0, r.1, inputs-most n))) (partner-below input n i r.0 r.1 h e)

module _ (input value : ℕ) (a : List ℤ) where
  abbrev pub stuck-to : ℕ → List ℤ
  stuck-to i = tab i (stuck_once_at input value a) ++ drop i a

  pub stuck-start : a ≡ stuck-to 0
  unfolding tab
  stuck-start = refl

  pub stuck-end : stuck-to (length a) ≡ stuck_once input value a
  unfolding stuck_once
  stuck-end = ap (λ (l : List ℤ). tab (length a) (stuck_once_at input value a) ++ l) (drop-length a) ∙ append-nil (tab (length a) (stuck_once_at input value a))

  module _ (i : ℕ) where
    pub read-ahead : (l : List ℤ) → l ≡ stuck-to i → (j : ℕ) → i ≤ j → nth l j ≡ nth a j
    read-ahead l e j h = ap (λ (k : List ℤ). nth k j) e ∙ tab-ahead a (stuck_once_at input value a) (pos 0) i j h

    -- the number that adds the input, as the machine reads it
    pub partner-ahead : (l : List ℤ) → l ≡ stuck-to i → (1 ≤ input) × (input ≤ inputs_of (length a)) → nth l (i + (1 * 2 ^ (input - 1)) % 2 ^ 64) ≡ nth a (i + 2 ^ (input - 1))
    partner-ahead l e r = rw (bit_is 64 (input - 1) (omega (arith, r.0, r.1, inputs-most (length a)))) (read-ahead l e (i + 2 ^ (input - 1)) (omega arith))

    pub stick-turn : (l : List ℤ) (z : ℤ) → l ≡ stuck-to i → z ≡ stuck_once_at input value a i → i < length a → set l i z ≡ stuck-to (i + 1)
    stick-turn l z e g h = ap₂ (λ (k : List ℤ) (y : ℤ). set k i y) e g ∙ tab-step a (stuck_once_at input value a) (pos 0) i h

    pub once-joined : bit_of input i ≡ 0 → stuck_once_at input value a i ≡ nth a i +ℤ signed value (nth a (i + 2 ^ (input - 1)))
    unfolding stuck_once_at
    once-joined e = ap (λ (b : Bool). cond b (nth a i +ℤ signed value (nth a (i + 2 ^ (input - 1)))) (pos 0)) (eq-eqb (bit_of input i) 0 e)

    pub once-named : (bit_of input i ≡ 0 → ⊥) → stuck_once_at input value a i ≡ pos 0
    unfolding stuck_once_at
    once-named f = ap (λ (b : Bool). cond b (nth a i +ℤ signed value (nth a (i + 2 ^ (input - 1)))) (pos 0)) (ne_eqb (bit_of input i) 0 f)

module _ (a : List ℤ) (lines values : List ℕ) where
  abbrev pub stuck-from : ℕ → List ℤ
  stuck-from i = stuck_spectrum_of (stuck_of (drop i lines) (drop i values)) a

  pub from-none : a ≡ stuck-from (length lines)
  unfolding stuck_of
  from-none = sym (ap (λ (l : List ℕ). stuck_spectrum_of (stuck_of l (drop (length lines) values)) a) (drop-length lines) ∙ stuck-none a)

  pub from-within : (i : ℕ) → length lines ≤ 3 → Within 2048000 a → Within 16384000 (stuck-from i)
  from-within i few w =
      within-stuck (stuck_of (drop i lines) (drop i values)) 2048000 a (omega (arith, length-stuck-of (drop i lines) (drop i values), length-drop i lines)) w

  module _ (even : length values ≡ length lines) (rise : rising_inputs 0 (inputs_of (length a)) lines ≡ true) (i : ℕ) (h : i < length lines) where
    abbrev here : Stuck
    here = record { line = get_or lines i 0; value = get_or values i 0 }

    abbrev rest : List Stuck
    rest = stuck_of (drop (suc i) lines) (drop (suc i) values)

    here-rest : stuck_of (drop i lines) (drop i values) ≡ here ∷ rest
    unfolding stuck_of
    here-rest = ap₂ stuck_of (drop-cons lines i 0 h) (drop-cons values i 0 (omega arith))

    suffix-rises : Rises 0 (inputs_of (length a)) (here ∷ rest)
    suffix-rises =
        subst (λ (l : List Stuck). Rises 0 (inputs_of (length a)) l) here-rest
        (rising-rises 0 (inputs_of (length a)) (drop i lines) (drop i values) (rising-suffix 0 (inputs_of (length a)) lines i rise))

    pub from-line : (1 ≤ get_or lines i 0) × (get_or lines i 0 ≤ inputs_of (length a))
    from-line = let r = suffix-rises in (r.0, r.1)

    pub from_step : stuck_once (get_or lines i 0) (get_or values i 0) (stuck-from (suc i)) ≡ stuck-from i
    from_step =
        let r = suffix-rises in
        let size = inputs-power (length a) (omega (arith, r.0, r.1)) in
        sym (ap (λ (l : List Stuck). stuck_spectrum_of l a) here-rest ∙ stuck-step here rest (inputs_of (length a)) a size r)
