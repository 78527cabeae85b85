-- The opened-line call's refusal 11 (document 01: "11 is given exactly when a sum does not divide"):
--   undivided-means, means-undivided    the test at a label says whether its sum divides
--   undivided-exactly     where the earlier tests pass, 11 is given exactly when the sum over the opened lines at some label does not divide
-- The fault calls on spectra of rows (document 01: "On a spectrum of rows both equal the sums of the faulted rows"):
--   stuck-faulted         where the stuck-input call gives a result, it is the spectrum of the rows with the stuck inputs replaced
--   none-undivided, opened-never-11    every sum of a spectrum of rows divides, so the opened-line call never refuses it by 11
--   opened-faulted        where it gives a result, it is the spectrum of the rows with the opened lines set
--   replaced-shows, replaced-keeps    a replaced input has its value in the row, and every other input what it had
use mathlib.Core.Path.{◌≡◌, refl, sym, ap, ◌∙◌}
use mathlib.Core.List.{List}
use mathlib.Core.Bool.{Bool, true, false}
use mathlib.Core.Logic.{◌↔◌}
use Prim.Native.Nat.{ℕ, ◌+◌, ◌-◌, ◌%◌, ◌^◌, ◌≤◌, ◌<◌}
use native.Mathlib.Nat.{lt_of_not-le}
use native.Mathlib.Decide.{dec_le}
use native.Mathlib.Omega.{arith}
use lib.Dec.{ltb}
use lib.IntN.{ℤ, pos, nat_abs}
use lib.ListN.{length}
use borrow.Author.Tests.{le-ltb, lt-ltb, ltb-true, eq-eqb, ne_eqb}
use Rattle.integer.proofs.Bools.{clash}
use Rattle.integer.proofs.Firsts.{first-none, first-all, first-at}
use Rattle.screen.specs.Answers.{Answer, Done, Refused, answer_number, and_then, refuse_if, minus, inputs_of, screen_of}
use Rattle.transform.specs.Spectrum.{spectrum_of}
use Rattle.screen.proofs.Screens.{ready, inputs-power, screen-not-11, first-passed}
use Rattle.transform.proofs.Spectra.{length-spectrum}
use Rattle.faults.specs.Faults.{Stuck, bit_of, stuck_of, stuck_answer, stuck_spectrum_of, stuck_rows, replaced, kept_inputs, opened_right, opened_answer, opened_spectrum_of, opened_rows, opened_sum_at, undivided_answer, first_undivided, undivided_at}
use Rattle.faults.proofs.Arguments.{stuck-right-means, opened-right-means, rising-rises, binary-values, binary-bits}
use Rattle.faults.proofs.Digits.{put-shows, put_keeps}
use Rattle.faults.proofs.Opening.{opened-spectrum, opened-divides}
use Rattle.faults.proofs.Sticking.{stuck-spectrum, replaced-put}

-- a spectrum is as long as its rows
rows-inputs : (rows : List ℤ) → inputs_of (length (spectrum_of rows)) ≡ inputs_of (length rows)
rows-inputs rows = ap inputs_of (length-spectrum rows)

pub stuck-faulted : (rows : List ℤ) (inputs values : List ℕ) (room : ℕ) → stuck_answer (spectrum_of rows) inputs values room ≡ Done
    → stuck_spectrum_of (stuck_of inputs values) (spectrum_of rows) ≡ spectrum_of (stuck_rows (stuck_of inputs values) rows)
unfolding stuck_answer
stuck-faulted rows inputs values room e =
    let k = ready 2048000 _ (spectrum_of rows) room (length (spectrum_of rows)) e in
    let a = stuck-right-means (inputs_of (length (spectrum_of rows))) inputs values k.right in
    stuck-spectrum (stuck_of inputs values) rows (inputs_of (length (spectrum_of rows))) (sym (length-spectrum rows) ∙ k.power)
    (rising-rises 0 (inputs_of (length (spectrum_of rows))) inputs values a.rise) (binary-values inputs values a.bits)

-- right arguments for the rows' inputs
module _ (rows : List ℤ) (values : List ℕ) (right : opened_right (inputs_of (length rows)) values ≡ true) where
  some-inputs : 0 < inputs_of (length rows)
  some-inputs = let o = opened-right-means (inputs_of (length rows)) values right in let f = o.fewer in omega arith

  parts : inputs_of (length rows) ≡ kept_inputs rows values + length values
  parts = let o = opened-right-means (inputs_of (length rows)) values right in let f = o.fewer in omega arith

  opened-is : opened_spectrum_of (spectrum_of rows) values ≡ spectrum_of (opened_rows (kept_inputs rows values) values rows)
  opened-is =
      opened-spectrum rows values (kept_inputs rows values) (inputs_of (length rows)) (inputs-power (length rows) some-inputs) refl parts
      (binary-bits values (opened-right-means (inputs_of (length rows)) values right).bits)

  pub none-undivided : undivided_answer (spectrum_of rows) values ≡ Done
  unfolding undivided_answer first_undivided
  none-undivided =
      let all = first-none (undivided_at (spectrum_of rows) values) (2 ^ kept_inputs (spectrum_of rows) values)
      (opened-divides rows values (kept_inputs rows values) (inputs_of (length rows)) (inputs-power (length rows) some-inputs) refl parts
      (binary-bits values (opened-right-means (inputs_of (length rows)) values right).bits)) in
      rw (le-ltb (first_undivided (spectrum_of rows) values) (2 ^ kept_inputs (spectrum_of rows) values) (omega arith))

-- the tests before 11
abbrev pub opened_screen : List ℤ → List ℕ → ℕ → Answer
opened_screen c values room = screen_of (minus 2048000) (pos 2048000) (opened_right (inputs_of (length c)) values) c room (2 ^ kept_inputs c values)

module _ (c : List ℤ) (values : List ℕ) where
  -- the sum at a label does not divide
  abbrev pub Undivided : ℕ → Type 0
  Undivided label = nat_abs (opened_sum_at c values label) % 2 ^ length values ≡ 0 → ⊥

  pub undivided-means : (label : ℕ) → undivided_at c values label ≡ true → Undivided label
  unfolding undivided_at
  undivided-means label t e = clash (sym t ∙ rw (eq-eqb _ 0 e))

  pub means-undivided : (label : ℕ) → Undivided label → undivided_at c values label ≡ true
  unfolding undivided_at
  means-undivided label n = rw (ne_eqb (nat_abs (opened_sum_at c values label) % 2 ^ length values) 0 n)

  first-in : (label : ℕ) → label < 2 ^ kept_inputs c values → Undivided label → first_undivided c values < 2 ^ kept_inputs c values
  unfolding first_undivided
  first-in label l u = pick (dec_le (2 ^ kept_inputs c values) (first_undivided c values))
    where
      pick : Dec (2 ^ kept_inputs c values ≤ first_undivided c values) → first_undivided c values < 2 ^ kept_inputs c values
      pick (yes h) = clash (sym (means-undivided label u) ∙ first-all (undivided_at c values) (2 ^ kept_inputs c values) h label l)
      pick (no h) = lt_of_not-le h

  at-first : first_undivided c values < 2 ^ kept_inputs c values → Undivided (first_undivided c values)
  unfolding first_undivided
  at-first h = undivided-means (first_undivided c values) (first-at (undivided_at c values) (2 ^ kept_inputs c values) h)

  pub undivided-exactly : (room : ℕ) → opened_screen c values room ≡ Done
      → (answer_number (opened_answer c values room) ≡ 11) ↔ ((label : ℕ) × (label < 2 ^ kept_inputs c values) × Undivided label)
  unfolding opened_answer undivided_answer
  undivided-exactly room e = (λ n. to (ltb (first_undivided c values) (2 ^ kept_inputs c values)) refl (sym (ap answer_number passed) ∙ n), λ s. ap answer_number passed ∙ from s)
    where
      passed : opened_answer c values room ≡ undivided_answer c values
      passed = ap (λ (a : Answer). and_then a (undivided_answer c values)) e

      to : (b : Bool) → ltb (first_undivided c values) (2 ^ kept_inputs c values) ≡ b → answer_number (refuse_if b 11 (first_undivided c values) Done) ≡ 11
          → (label : ℕ) × (label < 2 ^ kept_inputs c values) × Undivided label
      to true t n = let l = ltb-true (first_undivided c values) (2 ^ kept_inputs c values) t in (first_undivided c values, l, at-first l)
      to false t n = absurd (omega arith)

      from : (label : ℕ) × (label < 2 ^ kept_inputs c values) × Undivided label → answer_number (undivided_answer c values) ≡ 11
      from s = rw (lt-ltb (first_undivided c values) (2 ^ kept_inputs c values) (first-in s.0 s.1 s.2))

-- the tests before 11 passed
right_of : (rows : List ℤ) (values : List ℕ) (room : ℕ) → opened_screen (spectrum_of rows) values room ≡ Done → opened_right (inputs_of (length rows)) values ≡ true
right_of rows values room e =
    let k = ready 2048000 _ (spectrum_of rows) room (2 ^ kept_inputs (spectrum_of rows) values) e in
    ap (λ (n : ℕ). opened_right n values) (sym (rows-inputs rows)) ∙ k.right

pub opened-never-11 : (rows : List ℤ) (values : List ℕ) (room : ℕ) → answer_number (opened_answer (spectrum_of rows) values room) ≡ 11 → ⊥
unfolding opened_answer
opened-never-11 rows values room = go (opened_screen (spectrum_of rows) values room) refl
  where
    go : (a : Answer) → opened_screen (spectrum_of rows) values room ≡ a → answer_number (and_then a (undivided_answer (spectrum_of rows) values)) ≡ 11 → ⊥
    go Done e n = let z : ◌≡◌ {A = ℕ} 0 11 = sym (ap answer_number (none-undivided rows values (right_of rows values room e))) ∙ n in omega arith
    go (Refused number place) e n =
        screen-not-11 (minus 2048000) (pos 2048000) (opened_right (inputs_of (length (spectrum_of rows))) values) (spectrum_of rows) room (2 ^ kept_inputs (spectrum_of rows) values)
        (ap answer_number e ∙ n)

pub opened-faulted : (rows : List ℤ) (values : List ℕ) (room : ℕ) → opened_answer (spectrum_of rows) values room ≡ Done
    → opened_spectrum_of (spectrum_of rows) values ≡ spectrum_of (opened_rows (kept_inputs rows values) values rows)
unfolding opened_answer
opened-faulted rows values room e = opened-is rows values (right_of rows values room (first-passed (opened_screen (spectrum_of rows) values room) _ e))

-- What replacing an input does to a row.

module _ (s : Stuck) (first : 1 ≤ s.line) where
  pub replaced-shows : (x : ℕ) → s.value < 2 → bit_of s.line (replaced s x) ≡ s.value
  replaced-shows x h = ap (bit_of s.line) (replaced-put s first x) ∙ put-shows (s.line - 1) s.value x h

  pub replaced-keeps : (i x : ℕ) → 1 ≤ i → (i ≡ s.line → ⊥) → s.value < 2 → bit_of i (replaced s x) ≡ bit_of i x
  replaced-keeps i x l other h = ap (bit_of i) (replaced-put s first x) ∙ put_keeps (s.line - 1) s.value x h (i - 1) (λ e. other (omega arith))
