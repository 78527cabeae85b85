-- The calls on lists refuse by the paper's tests, in their order:
--   refused-if                                                     one test of a chain
--   coefficient-tested, spectrum-tested, rows-tested, stuck-tested, opened-tested, bridged-tested    each call
--   writes-of                                                      a refusal writes nothing, where number 0 is given only if the call is done
--   spectrum-zero, rows-zero, stuck-zero, opened-zero, bridged-zero    as it is for each call; coefficient-zero: a refused coefficient is 0
use mathlib.Core.Path.{◌≡◌, refl, sym, ap, ◌∙◌, subst}
use mathlib.Core.Bool.{Bool, true, false, not, true≢false}
use mathlib.Core.List.{List}
use mathlib.Core.Logic.{◌↔◌, ◌⊎◌, inl, inr}
use Prim.Native.Nat.{ℕ, ◌*◌, ◌%◌, ◌^◌, ◌<◌, ◌≤◌}
use native.Mathlib.Nat.{lt_of_not-le, div-add-mod, mul-le-mul, le_refl}
use native.Mathlib.Decide.{dec_le}
use native.Mathlib.Omega.{arith}
use lib.Dec.{eqb, ltb, lit≤}
use lib.IntN.{ℤ, pos, nat_abs}
use lib.ListN.{length}
use lib.Pow.{pow_pos}
use borrow.Author.Tests.{eqb-true, eqb-false, ltb-true, ltb-false, lt-ltb, not-true, not-false}
use Rattle.integer.specs.First.{first_where}
use Rattle.integer.specs.Tab.{nth}
use Rattle.integer.proofs.Bools.{clash}
use Rattle.integer.proofs.Division.{nat_abs-quot}
use Rattle.integer.proofs.Firsts.{first-before, first-at, first-all}
use Rattle.screen.specs.Answers.{Answer, Done, Refused, answer_number, answer_place, and_then, refuse_if, minus, inputs_of, outside_at, outside, first_outside, screen_of}
use Rattle.screen.proofs.Screens.{above_zero, inputs-power, inputs-most, inputs-is, outside-small, small-outside, ready, then-done}
use Rattle.transform.specs.Spectrum.{coefficient_of, spectrum_of}
use Rattle.transform.proofs.Spectra.{length-spectrum, nth-spectrum}
use Rattle.results.specs.Results.{leaves}
use Rattle.results.specs.Quotients.{quotient_of, unfit, unfit_at, first_unfit, divided_answer}
use Rattle.results.proofs.Quotients.{unfit-left, unfit-whole}
use Rattle.walsh.specs.Coefficients.{found, found_of, found_number, found_place, found_value}
use Rattle.walsh.specs.Lists.{spectrum_answer, rows_answer}
use Rattle.faults.specs.Faults.{stuck_right, stuck_answer, opened_right, kept_inputs, undivided_at, first_undivided, undivided_answer, opened_answer}
use Rattle.faults.proofs.Faulted.{undivided-means, means-undivided}
use Rattle.faults.proofs.ArgumentsMean.{stuck-arguments, opened-arguments}
use Rattle.bridges.specs.Bridges.{bridge_right, unhalved_at, first_unhalved, unhalved_answer, bridged_answer}
use Rattle.bridges.proofs.BridgeArgumentsMean.{bridge-arguments}
use Rattle.bridges.proofs.BridgedCall.{bridged_screen, unhalved-means, means-unhalved}
use Rattle.demands.specs.Tests.{NoRefusal, RefusedIf, by-this, by-later}
use Rattle.demands.specs.Refusals.{PowerLength, FirstOf, BeyondAt, NoRowAt, UndividedAt, UnhalvedAt, ListTests, CoefficientTests, SpectrumTests, RowsTests, StuckTests, OpenedTests, BridgedTests}
use Rattle.demands.specs.DemandOne.{Writes}

-- one test: N and P are the number and the place that are answered, by whether it fails
pub refused-if : {refusal : ℕ} {fails : ℕ → Type 0} {next : ℕ → ℕ → Type 0} (test : Bool) (N P : Bool → ℕ)
    → (test ≡ true → fails (P true) × (N true ≡ refusal)) → (test ≡ false → ((p : ℕ) → fails p → ⊥) × next (N false) (P false)) → RefusedIf refusal fails next (N test) (P test)
refused-if true N P f g = by-this (f refl).0 (f refl).1
refused-if false N P f g = by-later (g refl).0 (g refl).1

-- the first index below n that passes a test p, which says Bad
module _ (p : ℕ → Bool) (n : ℕ) (Bad : ℕ → Type 0) (there : (x : ℕ) → x < n → p x ≡ true → Bad x) (back : (x : ℕ) → x < n → Bad x → p x ≡ true) where
  first-bad : ltb (first_where p n) n ≡ true → FirstOf n Bad (first_where p n)
  first-bad t =
      let l = ltb-true (first_where p n) n t in
      record { below = l; here = there (first_where p n) l (first-at p n l); none-earlier = λ q h b. clash (sym (back q (omega arith) b) ∙ first-before p n q h) }

  no-bad : ltb (first_where p n) n ≡ false → (q : ℕ) → FirstOf n Bad q → ⊥
  no-bad t q f = clash (sym (back q f.below f.here) ∙ first-all p n (ltb-false (first_where p n) n t) q f.below)

-- 9
sized-not : (l : List ℤ) → inputs_of (length l) ≡ 0 → PowerLength l → ⊥
sized-not l e s = let i : inputs_of (length l) ≡ s.0 = ap inputs_of s.3 ∙ inputs-is s.0 s.1 s.2 in omega (arith, s.1)

sized : (l : List ℤ) → (inputs_of (length l) ≡ 0 → ⊥) → PowerLength l
sized l f = let h = above_zero (inputs_of (length l)) f in (inputs_of (length l), h, inputs-most (length l), inputs-power (length l) h)

-- outside -B .. B is a size above B
module _ (B : ℕ) (z : ℤ) where
  outside-large : outside (minus B) (pos B) z ≡ true → B < nat_abs z
  outside-large t = go (dec_le (nat_abs z) B)
    where
      go : Dec (nat_abs z ≤ B) → B < nat_abs z
      go (yes h) = clash (sym t ∙ small-outside B z h)
      go (no h) = lt_of_not-le h

  large-outside : B < nat_abs z → outside (minus B) (pos B) z ≡ true
  large-outside h = go (outside (minus B) (pos B) z) refl
    where
      go : (t : Bool) → outside (minus B) (pos B) z ≡ t → t ≡ true
      go true e = refl
      go false e = absurd (omega (arith, outside-small B z e))

-- 10
module _ (B : ℕ) (l : List ℤ) (x : ℕ) where
  beyond-there : outside_at (minus B) (pos B) l x ≡ true → BeyondAt B l x
  unfolding outside_at
  beyond-there t = outside-large B (nth l x) t

  beyond-back : BeyondAt B l x → outside_at (minus B) (pos B) l x ≡ true
  unfolding outside_at
  beyond-back h = large-outside B (nth l x) h

-- the screen, and what is tested after it
module _ (B : ℕ) (right : Bool) (Right : Type 0) (means : (right ≡ true) ↔ Right) (l : List ℤ) (room due : ℕ) (rest : Answer) (next : ℕ → ℕ → Type 0)
    (later-tests : screen_of (minus B) (pos B) right l room due ≡ Done → next (answer_number rest) (answer_place rest)) where
  abbrev first : ℕ
  first = first_outside (minus B) (pos B) l

  -- the answer, by what each test says
  abbrev tests : Bool → Bool → Bool → Bool → Answer
  tests a b c d = refuse_if a 9 0 (refuse_if b 12 0 (refuse_if c 10 first (refuse_if d 8 0 Done)))

  abbrev N : Bool → Bool → Bool → Bool → ℕ
  N a b c d = answer_number (and_then (tests a b c d) rest)

  abbrev P : Bool → Bool → Bool → Bool → ℕ
  P a b c d = answer_place (and_then (tests a b c d) rest)

  abbrev unsized : Bool
  unsized = eqb (inputs_of (length l)) 0

  abbrev past : Bool
  past = ltb first (length l)

  screen-tested : ListTests B Right l room due next (answer_number (and_then (screen_of (minus B) (pos B) right l room due) rest)) (answer_place (and_then (screen_of (minus B) (pos B) right l room due) rest))
  unfolding screen_of first_outside
  screen-tested =
      refused-if unsized (λ a. N a (not right) past (ltb room due)) (λ a. P a (not right) past (ltb room due))
      (λ a. ((sized-not l (eqb-true (inputs_of (length l)) 0 a), refl), refl))
      (λ a. (
        λ p f. f.0 (sized l (eqb-false (inputs_of (length l)) 0 a)),
        refused-if (not right) (λ b. N false b past (ltb room due)) (λ b. P false b past (ltb room due))
            (λ b. (((λ r. true≢false (sym (means.1 r) ∙ not-true right b)), refl), refl))
            (λ b. (
              λ p f. f.0 (means.0 (not-false right b)),
              refused-if past (λ c. N false false c (ltb room due)) (λ c. P false false c (ltb room due))
                  (λ c. (first-bad (outside_at (minus B) (pos B) l) (length l) (BeyondAt B l) (λ x h. beyond-there B l x) (λ x h. beyond-back B l x) c, refl))
                  (λ c. (
                    no-bad (outside_at (minus B) (pos B) l) (length l) (BeyondAt B l) (λ x h. beyond-there B l x) (λ x h. beyond-back B l x) c,
                    refused-if (ltb room due) (λ d. N false false false d) (λ d. P false false false d)
                        (λ d. ((ltb-true room due d, refl), refl))
                        (λ d. (λ p f. absurd (omega (arith, f.0, ltb-false room due d)), later-tests (rw (a, b, c, d)))),
                  )),
            )),
      ))

-- 11, on the way back: a sum z of d numbers
module _ (d : ℕ) (some : 0 < d) (z : ℤ) where
  abbrev NoRow : Type 0
  NoRow = (nat_abs z % d ≡ 0 → ⊥) ⊎ (1000 * d < nat_abs z)

  times : nat_abs z % d ≡ 0 → d * nat_abs (quotient_of d z) ≡ nat_abs z
  times e = ap (λ (q : ℕ). d * q) (nat_abs-quot d z) ∙ omega (arith, div-add-mod (nat_abs z) d)

  unfit-there : unfit d (minus 1000) (pos 1000) z ≡ true → NoRow
  unfit-there t = go (dec_le (nat_abs z % d) 0)
    where
      go : Dec (nat_abs z % d ≤ 0) → NoRow
      go (no n) = inl (λ e. n (omega arith))
      go (yes l) =
          let e : nat_abs z % d ≡ 0 = omega arith in
          let h = outside-large 1000 (quotient_of d z) (sym (unfit-whole d (minus 1000) (pos 1000) z e) ∙ t) in
          let m : d * 1001 ≤ d * nat_abs (quotient_of d z) = mul-le-mul (le_refl d) h in
          inr (omega (arith, times e))

  unfit-back : NoRow → unfit d (minus 1000) (pos 1000) z ≡ true
  unfit-back (inl n) = unfit-left d (minus 1000) (pos 1000) z n
  unfit-back (inr h) = go (dec_le (nat_abs z % d) 0)
    where
      go : Dec (nat_abs z % d ≤ 0) → unfit d (minus 1000) (pos 1000) z ≡ true
      go (no n) = unfit-left d (minus 1000) (pos 1000) z (λ e. n (omega arith))
      go (yes l) = unfit-whole d (minus 1000) (pos 1000) z e ∙ large-outside 1000 (quotient_of d z) (size (dec_le (nat_abs (quotient_of d z)) 1000))
        where
          e : nat_abs z % d ≡ 0
          e = omega (arith, l)

          size : Dec (nat_abs (quotient_of d z) ≤ 1000) → 1000 < nat_abs (quotient_of d z)
          size (yes q) = let m : d * nat_abs (quotient_of d z) ≤ d * 1000 = mul-le-mul (le_refl d) q in absurd (omega (arith, times e))
          size (no q) = lt_of_not-le q

always : ◌↔◌ {0, 0} (true ≡ true) Unit
always = (λ e. tt, λ u. refl)

pub spectrum-tested : (rows : List ℤ) (room : ℕ) → SpectrumTests rows room (answer_number (spectrum_answer rows room)) (answer_place (spectrum_answer rows room))
unfolding spectrum_answer
spectrum-tested rows room =
    let s = screen_of (minus 1000) (pos 1000) true rows room (length rows) in
    subst (λ a. SpectrumTests rows room (answer_number a) (answer_place a)) (then-done s)
    (screen-tested 1000 true Unit always rows room (length rows) Done NoRefusal (λ e. (refl, refl)))

pub coefficient-tested : (rows : List ℤ) (label : ℕ) → CoefficientTests rows label (found_number (found_of rows label)) (found_place (found_of rows label))
unfolding found_of
coefficient-tested rows label = go (screen_of (minus 1000) (pos 1000) (ltb label (length rows)) rows 0 0)
    (screen-tested 1000 (ltb label (length rows)) (label < length rows) (ltb-true label (length rows), lt-ltb label (length rows)) rows 0 0 Done NoRefusal (λ e. (refl, refl)))
  where
    go : (a : Answer) → CoefficientTests rows label (answer_number (and_then a Done)) (answer_place (and_then a Done))
        → CoefficientTests rows label (found_number (found a (coefficient_of rows label))) (found_place (found a (coefficient_of rows label)))
    go Done t = t
    go (Refused number place) t = t

pub stuck-tested : (c : List ℤ) (inputs values : List ℕ) (room : ℕ)
    → StuckTests c inputs values room (answer_number (stuck_answer c inputs values room)) (answer_place (stuck_answer c inputs values room))
unfolding stuck_answer
stuck-tested c inputs values room =
    let n = inputs_of (length c) in
    let s = screen_of (minus 2048000) (pos 2048000) (stuck_right n inputs values) c room (length c) in
    subst (λ a. StuckTests c inputs values room (answer_number a) (answer_place a)) (then-done s)
    (screen-tested 2048000 (stuck_right n inputs values) _ (stuck-arguments n inputs values) c room (length c) Done NoRefusal (λ e. (refl, refl)))

pub rows-tested : (c : List ℤ) (room : ℕ) → RowsTests c room (answer_number (rows_answer c room)) (answer_place (rows_answer c room))
unfolding rows_answer coefficient_of unfit_at first_unfit divided_answer
rows-tested c room = screen-tested 2048000 true Unit always c room (length c) (divided_answer (length c) (minus 1000) (pos 1000) (spectrum_of c)) _ later-tests
  where
    sums : List ℤ
    sums = spectrum_of c

    bad : ℕ → Bool
    bad = unfit_at (length c) (minus 1000) (pos 1000) sums

    at : (x : ℕ) → x < length c → nth sums x ≡ coefficient_of c x
    at x h = nth-spectrum c (length c) x refl h

    later-tests : screen_of (minus 2048000) (pos 2048000) true c room (length c) ≡ Done
        → RefusedIf 11 (FirstOf (length c) (NoRowAt c)) NoRefusal (answer_number (divided_answer (length c) (minus 1000) (pos 1000) sums)) (answer_place (divided_answer (length c) (minus 1000) (pos 1000) sums))
    later-tests e =
        refused-if (ltb (first_unfit (length c) (minus 1000) (pos 1000) sums) (length sums))
        (λ t. answer_number (refuse_if t 11 (first_unfit (length c) (minus 1000) (pos 1000) sums) Done))
        (λ t. answer_place (refuse_if t 11 (first_unfit (length c) (minus 1000) (pos 1000) sums) Done))
        (λ t. (subst (λ (n : ℕ). FirstOf n (NoRowAt c) (first_unfit (length c) (minus 1000) (pos 1000) sums)) long (first-bad bad (length sums) (NoRowAt c) there back t), refl))
        (λ t. (λ p f. no-bad bad (length sums) (NoRowAt c) there back t p (subst (λ (n : ℕ). FirstOf n (NoRowAt c) p) (sym long) f), (refl, refl)))
      where
        long : length sums ≡ length c
        long = length-spectrum c

        some : 0 < length c
        some = let k = ready 2048000 true c room (length c) e in subst (λ (n : ℕ). 0 < n) (sym k.power) (pow_pos (inputs_of (length c)))

        there : (x : ℕ) → x < length sums → bad x ≡ true → NoRowAt c x
        there x h t = subst (λ (z : ℤ). (nat_abs z % length c ≡ 0 → ⊥) ⊎ (1000 * length c < nat_abs z)) (at x (omega (arith, long, h))) (unfit-there (length c) some (nth sums x) t)

        back : (x : ℕ) → x < length sums → NoRowAt c x → bad x ≡ true
        back x h b = unfit-back (length c) some (nth sums x) (subst (λ (z : ℤ). (nat_abs z % length c ≡ 0 → ⊥) ⊎ (1000 * length c < nat_abs z)) (sym (at x (omega (arith, long, h)))) b)

pub opened-tested : (c : List ℤ) (values : List ℕ) (room : ℕ) → OpenedTests c values room (answer_number (opened_answer c values room)) (answer_place (opened_answer c values room))
unfolding opened_answer undivided_answer first_undivided
opened-tested c values room = screen-tested 2048000 (opened_right (inputs_of (length c)) values) _ (opened-arguments (inputs_of (length c)) values) c room due (undivided_answer c values) _ later-tests
  where
    due : ℕ
    due = 2 ^ kept_inputs c values

    later-tests : screen_of (minus 2048000) (pos 2048000) (opened_right (inputs_of (length c)) values) c room due ≡ Done
        → RefusedIf 11 (FirstOf due (UndividedAt c values)) NoRefusal (answer_number (undivided_answer c values)) (answer_place (undivided_answer c values))
    later-tests e =
        refused-if (ltb (first_undivided c values) due) (λ t. answer_number (refuse_if t 11 (first_undivided c values) Done)) (λ t. answer_place (refuse_if t 11 (first_undivided c values) Done))
        (λ t. (first-bad (undivided_at c values) due (UndividedAt c values) (λ x h. undivided-means c values x) (λ x h. means-undivided c values x) t, refl))
        (λ t. (no-bad (undivided_at c values) due (UndividedAt c values) (λ x h. undivided-means c values x) (λ x h. means-undivided c values x) t, (refl, refl)))

pub bridged-tested : (c : List ℤ) (i j room : ℕ) → BridgedTests c i j room (answer_number (bridged_answer c i j room)) (answer_place (bridged_answer c i j room))
unfolding bridged_answer unhalved_answer first_unhalved
bridged-tested c i j room = screen-tested 2048000 (bridge_right n i j) _ (bridge-arguments n i j) c room (length c) (unhalved_answer i j c) _ later-tests
  where
    n : ℕ
    n = inputs_of (length c)

    later-tests : bridged_screen c i j room ≡ Done
        → RefusedIf 11 (FirstOf (length c) (UnhalvedAt c i j)) NoRefusal (answer_number (unhalved_answer i j c)) (answer_place (unhalved_answer i j c))
    later-tests e =
        refused-if (ltb (first_unhalved i j c) (length c)) (λ t. answer_number (refuse_if t 11 (first_unhalved i j c) Done)) (λ t. answer_place (refuse_if t 11 (first_unhalved i j c) Done))
        (λ t. (first-bad (unhalved_at i j c) (length c) (UnhalvedAt c i j) (λ x h. unhalved-means c i j x) (λ x h. means-unhalved c i j x) t, refl))
        (λ t. (no-bad (unhalved_at i j c) (length c) (UnhalvedAt c i j) (λ x h. unhalved-means c i j x) (λ x h. means-unhalved c i j x) t, (refl, refl)))

-- ---- a refusal writes nothing

-- number 0 is given only where the call is done
abbrev pub ZeroDone : Answer → Type 0
ZeroDone a = answer_number a ≡ 0 → a ≡ Done

pub writes-of : (a : Answer) → ZeroDone a → (new out : List ℤ) → Writes a new out
writes-of a d new out = record { refused = nothing a; done = λ z. ap (λ (b : Answer). leaves b new out) (d z) }
  where
    nothing : (a : Answer) → (answer_number a ≡ 0 → ⊥) → leaves a new out ≡ out
    nothing Done f = absurd (f refl)
    nothing (Refused number place) f = refl

refuse-zero : (test : Bool) (number place : ℕ) (next : Answer) → 1 ≤ number → ZeroDone next → ZeroDone (refuse_if test number place next)
refuse-zero true number place next h d z = absurd (omega arith)
refuse-zero false number place next h d z = d z

then-zero : (a next : Answer) → ZeroDone a → ZeroDone next → ZeroDone (and_then a next)
then-zero Done next d e z = e z
then-zero (Refused number place) next d e z = d z

pub screen-zero : (low high : ℤ) (right : Bool) (l : List ℤ) (room due : ℕ) → ZeroDone (screen_of low high right l room due)
unfolding screen_of
screen-zero low high right l room due =
    refuse-zero (eqb (inputs_of (length l)) 0) 9 0 _ (lit≤ tt)
    (refuse-zero (not right) 12 0 _ (lit≤ tt)
    (refuse-zero (ltb (first_outside low high l) (length l)) 10 (first_outside low high l) _ (lit≤ tt) (refuse-zero (ltb room due) 8 0 Done (lit≤ tt) (λ z. refl))))

pub spectrum-zero : (rows : List ℤ) (room : ℕ) → ZeroDone (spectrum_answer rows room)
unfolding spectrum_answer
spectrum-zero rows room = screen-zero (minus 1000) (pos 1000) true rows room (length rows)

pub rows-zero : (c : List ℤ) (room : ℕ) → ZeroDone (rows_answer c room)
unfolding rows_answer divided_answer
rows-zero c room =
    then-zero (screen_of (minus 2048000) (pos 2048000) true c room (length c)) _ (screen-zero (minus 2048000) (pos 2048000) true c room (length c))
    (refuse-zero (ltb (first_unfit (length c) (minus 1000) (pos 1000) (spectrum_of c)) (length (spectrum_of c))) 11 _ Done (lit≤ tt) (λ z. refl))

pub stuck-zero : (c : List ℤ) (inputs values : List ℕ) (room : ℕ) → ZeroDone (stuck_answer c inputs values room)
unfolding stuck_answer
stuck-zero c inputs values room = screen-zero (minus 2048000) (pos 2048000) (stuck_right (inputs_of (length c)) inputs values) c room (length c)

pub opened-zero : (c : List ℤ) (values : List ℕ) (room : ℕ) → ZeroDone (opened_answer c values room)
unfolding opened_answer undivided_answer
opened-zero c values room =
    then-zero (screen_of (minus 2048000) (pos 2048000) (opened_right (inputs_of (length c)) values) c room (2 ^ kept_inputs c values)) _
    (screen-zero (minus 2048000) (pos 2048000) (opened_right (inputs_of (length c)) values) c room (2 ^ kept_inputs c values))
    (refuse-zero (ltb (first_undivided c values) (2 ^ kept_inputs c values)) 11 _ Done (lit≤ tt) (λ z. refl))

pub bridged-zero : (c : List ℤ) (i j room : ℕ) → ZeroDone (bridged_answer c i j room)
unfolding bridged_answer unhalved_answer
bridged-zero c i j room =
    let right = bridge_right (inputs_of (length c)) i j in
    then-zero (bridged_screen c i j room) _ (screen-zero (minus 2048000) (pos 2048000) right c room (length c))
    (refuse-zero (ltb (first_unhalved i j c) (length c)) 11 _ Done (lit≤ tt) (λ z. refl))

-- "Sizes, labels and readings returned with a refusal are 0": so is the coefficient
pub coefficient-zero : (rows : List ℤ) (label : ℕ) → (found_number (found_of rows label) ≡ 0 → ⊥) → found_value (found_of rows label) ≡ pos 0
unfolding found_of
coefficient-zero rows label = go (screen_of (minus 1000) (pos 1000) (ltb label (length rows)) rows 0 0)
  where
    go : (a : Answer) → (found_number (found a (coefficient_of rows label)) ≡ 0 → ⊥) → found_value (found a (coefficient_of rows label)) ≡ pos 0
    go Done f = absurd (f refl)
    go (Refused number place) f = refl
