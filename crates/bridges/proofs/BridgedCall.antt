-- The call with a bridge (document 02, note 8: "On a spectrum of rows this must equal the sums over bridged rows; a list in which a half does not
-- come out whole gets 11 at the first such label"):
--   bridged-faulted      where the call gives a result on a spectrum of rows, it is the spectrum of the rows with the inputs bridged
--   none-unhalved-rows, bridged-never-11    every half of a spectrum of rows is whole, so the call never refuses it by 11
--   unhalved-means, means-unhalved     the test at a label says whether its half is whole
--   unhalved-exactly     where the earlier tests pass, 11 is given exactly when the half at some label is not whole
--   unhalved-first       its place is the first such label, and that label has neither input
use mathlib.Core.Path.{◌≡◌, refl, sym, ap, ◌∙◌, subst}
use mathlib.Core.List.{List}
use mathlib.Core.Bool.{Bool, true, false}
use mathlib.Core.Logic.{◌↔◌}
use Prim.Native.Nat.{ℕ, ◌%◌, ◌^◌, ◌≤◌, ◌<◌}
use native.Mathlib.Nat.{lt_of_not-le}
use native.Mathlib.Decide.{dec_le}
use native.Mathlib.Omega.{arith}
use lib.Dec.{ltb}
use lib.IntN.{ℤ, pos, nat_abs}
use lib.ListN.{length}
use borrow.Author.Tests.{ltb-true, eqb-true, not-false}
use Rattle.integer.specs.Tab.{nth}
use Rattle.integer.proofs.Bools.{clash}
use Rattle.integer.proofs.Firsts.{first-none, first-all, first-at, first-before}
use Rattle.screen.specs.Answers.{Ready, Answer, Done, Refused, answer_number, answer_place, and_then, refuse_if, minus, inputs_of, screen_of}
use Rattle.screen.proofs.Screens.{ready, screen-not-11, first-passed}
use Rattle.transform.specs.Spectrum.{spectrum_of}
use Rattle.transform.proofs.Spectra.{length-spectrum}
use Rattle.faults.specs.Faults.{bit_of, bridged_rows}
use Rattle.bridges.specs.BridgeArguments.{BridgeArguments}
use Rattle.bridges.specs.Bridges.{without_both, pair_sum, bridged_spectrum_of, unhalved_at, first_unhalved, unhalved_answer, bridge_right, bridged_answer}
use Rattle.bridges.proofs.BridgeArgumentsMean.{bridge-arguments}
use Rattle.bridges.proofs.BridgeLabels.{without-first, without-second, without-le, without-again}
use Rattle.bridges.proofs.BridgedSpectra.{bridged-spectrum, bridged-halves}
use Rattle.bridges.proofs.UnhalvedLabels.{unhalved-left, unhalved-whole, unhalved-refused, halved-done}

-- the tests before 11
abbrev pub bridged_screen : List ℤ → ℕ → ℕ → ℕ → Answer
bridged_screen c i j room = screen_of (minus 2048000) (pos 2048000) (bridge_right (inputs_of (length c)) i j) c room (length c)

module _ (c : List ℤ) (i j : ℕ) where
  -- the half at a label is not whole
  abbrev pub Unhalved : ℕ → Type 0
  Unhalved label = nat_abs (pair_sum i j (nth c) label) % 2 ≡ 0 → ⊥

  pub unhalved-means : (label : ℕ) → unhalved_at i j c label ≡ true → Unhalved label
  unhalved-means label t e = clash (sym t ∙ unhalved-whole i j c label e)

  pub means-unhalved : (label : ℕ) → Unhalved label → unhalved_at i j c label ≡ true
  means-unhalved label n = unhalved-left i j c label n

  -- and where the test fails it is
  whole-means : (label : ℕ) → unhalved_at i j c label ≡ false → nat_abs (pair_sum i j (nth c) label) % 2 ≡ 0
  unfolding unhalved_at
  whole-means label t = eqb-true (nat_abs (pair_sum i j (nth c) label) % 2) 0 (not-false _ t)

  first-in : (label : ℕ) → label < length c → Unhalved label → first_unhalved i j c < length c
  unfolding first_unhalved
  first-in label l u = pick (dec_le (length c) (first_unhalved i j c))
    where
      pick : Dec (length c ≤ first_unhalved i j c) → first_unhalved i j c < length c
      pick (yes h) = clash (sym (means-unhalved label u) ∙ first-all (unhalved_at i j c) (length c) h label l)
      pick (no h) = lt_of_not-le h

  at-first : first_unhalved i j c < length c → unhalved_at i j c (first_unhalved i j c) ≡ true
  unfolding first_unhalved
  at-first h = first-at (unhalved_at i j c) (length c) h

  -- the number of what follows the tests before 11
  number-11 : answer_number (unhalved_answer i j c) ≡ 11 → first_unhalved i j c < length c
  unfolding unhalved_answer
  number-11 = go (ltb (first_unhalved i j c) (length c)) refl
    where
      go : (b : Bool) → ltb (first_unhalved i j c) (length c) ≡ b → answer_number (refuse_if b 11 (first_unhalved i j c) Done) ≡ 11 → first_unhalved i j c < length c
      go true t n = ltb-true (first_unhalved i j c) (length c) t
      go false t n = absurd (omega arith)

  passed : (room : ℕ) → bridged_screen c i j room ≡ Done → bridged_answer c i j room ≡ unhalved_answer i j c
  unfolding bridged_answer
  passed room e = ap (λ (a : Answer). and_then a (unhalved_answer i j c)) e

  pub unhalved-exactly : (room : ℕ) → bridged_screen c i j room ≡ Done
      → (answer_number (bridged_answer c i j room) ≡ 11) ↔ ((label : ℕ) × (label < length c) × Unhalved label)
  unhalved-exactly room e = (there, back)
    where
      there : answer_number (bridged_answer c i j room) ≡ 11 → (label : ℕ) × (label < length c) × Unhalved label
      there n =
          let l = number-11 (sym (ap answer_number (passed room e)) ∙ n) in
          (first_unhalved i j c, l, unhalved-means (first_unhalved i j c) (at-first l))

      back : (label : ℕ) × (label < length c) × Unhalved label → answer_number (bridged_answer c i j room) ≡ 11
      back s = ap answer_number (passed room e ∙ unhalved-refused i j c (first-in s.0 s.1 s.2))

  -- where 11 is given the tests before it passed
  screen-passed : (room : ℕ) → answer_number (bridged_answer c i j room) ≡ 11 → bridged_screen c i j room ≡ Done
  unfolding bridged_answer
  screen-passed room n = go (bridged_screen c i j room) refl n
    where
      go : (a : Answer) → bridged_screen c i j room ≡ a → answer_number (and_then a (unhalved_answer i j c)) ≡ 11 → a ≡ Done
      go Done e m = refl
      go (Refused number place) e m =
          absurd (screen-not-11 (minus 2048000) (pos 2048000) (bridge_right (inputs_of (length c)) i j) c room (length c) (ap answer_number e ∙ m))

  arguments : (room : ℕ) → bridged_screen c i j room ≡ Done → BridgeArguments (inputs_of (length c)) i j
  arguments room e = (bridge-arguments (inputs_of (length c)) i j).0 (ready 2048000 _ c room (length c) e).right

  -- the four labels that differ only in the two inputs share their half
  shared : BridgeArguments (inputs_of (length c)) i j → (label : ℕ) → unhalved_at i j c (without_both i j label) ≡ unhalved_at i j c label
  unfolding unhalved_at pair_sum
  shared g label = rw (without-again i j g.low g.rise label)

-- what is known of the place of 11
pub record UnhalvedPlace (c : List ℤ) (i j place : ℕ) : Type 0 where
  pub is-first : place ≡ first_unhalved i j c
  pub inside : place < length c
  pub here : Unhalved c i j place
  pub before : (label : ℕ) → label < place → nat_abs (pair_sum i j (nth c) label) % 2 ≡ 0
  pub no-first : bit_of i place ≡ 0
  pub no_second : bit_of j place ≡ 0

module _ (c : List ℤ) (i j : ℕ) where
  -- were it another label, the one without both would be a smaller one
  first_plain : BridgeArguments (inputs_of (length c)) i j → first_unhalved i j c < length c → without_both i j (first_unhalved i j c) ≡ first_unhalved i j c
  unfolding first_unhalved
  first_plain g l = pick (dec_le (first_unhalved i j c) (without_both i j (first_unhalved i j c)))
    where
      pick : Dec (first_unhalved i j c ≤ without_both i j (first_unhalved i j c)) → without_both i j (first_unhalved i j c) ≡ first_unhalved i j c
      pick (yes h) = omega (arith, without-le i j g.low g.rise (first_unhalved i j c))
      pick (no h) =
          clash
          (sym (shared c i j g (first_unhalved i j c) ∙ at-first c i j l)
          ∙ first-before (unhalved_at i j c) (length c) (without_both i j (first_unhalved i j c)) (lt_of_not-le h))

  place-known : BridgeArguments (inputs_of (length c)) i j → first_unhalved i j c < length c → UnhalvedPlace c i j (first_unhalved i j c)
  unfolding first_unhalved
  place-known g l = record {
    is-first = refl;
    inside = l;
    here = unhalved-means c i j (first_unhalved i j c) (at-first c i j l);
    before = λ label h. whole-means c i j label (first-before (unhalved_at i j c) (length c) label h);
    no-first = ap (bit_of i) (sym (first_plain g l)) ∙ without-first i j g.low g.rise (first_unhalved i j c);
    no_second = ap (bit_of j) (sym (first_plain g l)) ∙ without-second i j g.low g.rise (first_unhalved i j c);
  }

  pub unhalved-first : (room : ℕ) → answer_number (bridged_answer c i j room) ≡ 11 → UnhalvedPlace c i j (answer_place (bridged_answer c i j room))
  unhalved-first room n =
      let e = screen-passed c i j room n in
      let l = number-11 c i j (sym (ap answer_number (passed c i j room e)) ∙ n) in
      subst (UnhalvedPlace c i j) (sym (ap answer_place (passed c i j room e ∙ unhalved-refused i j c l))) (place-known (arguments c i j room e) l)

-- On a spectrum of rows.

module _ (rows : List ℤ) (i j room : ℕ) (e : bridged_screen (spectrum_of rows) i j room ≡ Done) where
  abbrev n : ℕ
  n = inputs_of (length (spectrum_of rows))

  known : Ready 2048000 (bridge_right n i j) (spectrum_of rows) room (length (spectrum_of rows))
  known = ready 2048000 (bridge_right n i j) (spectrum_of rows) room (length (spectrum_of rows)) e

  right : BridgeArguments n i j
  right = arguments (spectrum_of rows) i j room e

  size : length rows ≡ 2 ^ n
  size = sym (length-spectrum rows) ∙ known.power

  bridged-is : bridged_spectrum_of i j (spectrum_of rows) ≡ spectrum_of (bridged_rows i j rows)
  bridged-is = bridged-spectrum rows n i j size right.low right.rise right.high

  pub none-unhalved-rows : unhalved_answer i j (spectrum_of rows) ≡ Done
  unfolding first_unhalved
  none-unhalved-rows =
      let all = first-none (unhalved_at i j (spectrum_of rows)) (length (spectrum_of rows))
      (λ y h. bridged-halves rows n i j size right.low right.rise right.high y (subst (λ (m : ℕ). y < m) known.power h)) in
      halved-done i j (spectrum_of rows) (omega (arith, all))

pub bridged-never-11 : (rows : List ℤ) (i j room : ℕ) → answer_number (bridged_answer (spectrum_of rows) i j room) ≡ 11 → ⊥
bridged-never-11 rows i j room n =
    let e = screen-passed (spectrum_of rows) i j room n in
    let z : ◌≡◌ {A = ℕ} 0 11 = sym (ap answer_number (passed (spectrum_of rows) i j room e ∙ none-unhalved-rows rows i j room e)) ∙ n in
    omega arith

pub bridged-faulted : (rows : List ℤ) (i j room : ℕ) → bridged_answer (spectrum_of rows) i j room ≡ Done
    → bridged_spectrum_of i j (spectrum_of rows) ≡ spectrum_of (bridged_rows i j rows)
unfolding bridged_answer
bridged-faulted rows i j room e = bridged-is rows i j room (first-passed (bridged_screen (spectrum_of rows) i j room) _ e)
