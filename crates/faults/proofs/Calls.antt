-- What the call with opened lines works on, in the shifts of the machine.
use Rattle.std.proofs.Common.{◌≡◌, ◌+◌, ◌*◌, ◌%◌, ◌^◌, ◌≤◌, ◌∙◌, ℕ, List, [], ◌∷◌, ℤ, pos, Bool, true, false, not, eqb, length, take, sym, ap, ap₂, arith}
use lib.Pow.{pow_mono, pow_pos}
use lib.Seq.{length-take-le}
use Rattle.integer.specs.Tab.{Within}
use Rattle.integer.proofs.Machine.{bit_is}
use Rattle.screen.specs.Answers.{Answer, Done, Refused, refuse_if, minus, inputs_of, screen_of}
use Rattle.results.specs.Quotients.{divided_answer, quotients_of}
use Rattle.faults.specs.Faults.{stuck_of, stuck_spectrum_of, lines_after, kept_inputs, undivided_answer, opened_spectrum_of, opened_right}
use Rattle.faults.specs.Steps.{Kept, kept_answer}
use Rattle.faults.proofs.Sticking.{length-stuck}
use Rattle.faults.proofs.Arguments.{OpenedCall, opened-call, lines-after}
use Rattle.faults.proofs.Opening.{opened_sums, opened-sums, sums-answer, sums-quotients}

module _ (c : List ℤ) (values : List ℕ) (n : ℕ) (right : Kept (inputs_of (length c)) values n) where
  known : OpenedCall c values n
  known = opened-call c values n right

  abbrev pub Lines : List ℕ
  Lines = take (length values) ((n + 1) ∷ (n + 2) ∷ (n + 3) ∷ [])

  pub as_many : length values ≡ length Lines
  as_many = sym (length-take-le (length values) ((n + 1) ∷ (n + 2) ∷ (n + 3) ∷ []) known.few)

  pub opened-due-is : (1 * 2 ^ n) % 2 ^ 64 ≡ 2 ^ n
  opened-due-is = bit_is 64 n (let f = known.most in omega arith)

  pub due-kept : (1 * 2 ^ n) % 2 ^ 64 ≡ 2 ^ kept_inputs c values
  due-kept = opened-due-is ∙ ap (λ (m : ℕ). 2 ^ m) (sym known.kept-inputs)

  pub divisor-is : (1 * 2 ^ length values) % 2 ^ 64 ≡ 2 ^ length values
  divisor-is = bit_is 64 (length values) (let f = known.few in omega arith)

  pub divisor-few : (1 ≤ (1 * 2 ^ length values) % 2 ^ 64) × ((1 * 2 ^ length values) % 2 ^ 64 ≤ 2048)
  divisor-few =
      let power : 2 ^ length values ≤ 2 ^ 3 = pow_mono {j = 3} known.few in
      (omega (arith, divisor-is, pow_pos (length values)), omega (arith, divisor-is))

  -- l is what `stick_all` leaves of the list m of `widen`
  module _ (l : List ℤ) {m : List ℤ} (left : l ≡ stuck_spectrum_of (stuck_of Lines values) m) (same : m ≡ c) where
    stuck_after : l ≡ stuck_spectrum_of (lines_after n values) c
    stuck_after = left ∙ ap₂ (λ lines a. stuck_spectrum_of lines a) (lines-after n values known.few) same

    pub inside : (1 * 2 ^ n) % 2 ^ 64 ≤ length l
    inside = let i = known.inside in omega (arith, opened-due-is, ap length stuck_after, length-stuck (lines_after n values) c)

    sums : take ((1 * 2 ^ n) % 2 ^ 64) l ≡ opened_sums c values n
    sums = ap₂ (λ (k : ℕ) (m : List ℤ). take k m) opened-due-is stuck_after ∙ opened-sums c values n known.kept-inputs known.inside

    pub call-answer-is : Within 2048000 c → divided_answer ((1 * 2 ^ length values) % 2 ^ 64) (minus 2048000) (pos 2048000) (take ((1 * 2 ^ n) % 2 ^ 64) l) ≡ undivided_answer c values
    call-answer-is w = ap₂ (λ (d : ℕ) (m : List ℤ). divided_answer d (minus 2048000) (pos 2048000) m) divisor-is sums ∙ sums-answer c values n known.kept-inputs w

    pub quotients-are : quotients_of ((1 * 2 ^ length values) % 2 ^ 64) (take ((1 * 2 ^ n) % 2 ^ 64) l) ≡ opened_spectrum_of c values
    quotients-are = ap₂ quotients_of divisor-is sums ∙ sums-quotients c values n known.kept-inputs

  pub screened-is : (room : ℕ) {a : Answer} → a ≡ screen_of (minus 2048000) (pos 2048000) true c room ((1 * 2 ^ n) % 2 ^ 64)
      → a ≡ screen_of (minus 2048000) (pos 2048000) (opened_right (inputs_of (length c)) values) c room (2 ^ kept_inputs c values)
  screened-is room e = e ∙ ap₂ (λ b d. screen_of (minus 2048000) (pos 2048000) b c room d) (sym right.right) due-kept

-- the tests that come first refuse as the screen does
pub kept-screened : (c : List ℤ) (values : List ℕ) (room number place : ℕ) → Refused number place ≡ kept_answer (inputs_of (length c)) values
    → Refused number place ≡ screen_of (minus 2048000) (pos 2048000) (opened_right (inputs_of (length c)) values) c room (2 ^ kept_inputs c values)
unfolding screen_of
kept-screened c values room number place = go (eqb (inputs_of (length c)) 0) (opened_right (inputs_of (length c)) values) _
  where
    go : (a b : Bool) (next : Answer) → Refused number place ≡ refuse_if a 9 0 (refuse_if (not b) 12 0 Done) → Refused number place ≡ refuse_if a 9 0 (refuse_if (not b) 12 0 next)
    go true b next e = e
    go false false next e = e
    go false true next e = cc
