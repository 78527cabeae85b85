-- Lines read one after the other by a loop, over any kind of item:
--   flaw-some, refusal-numbered      the number of a flaw or a refusal is not 0
--   ReadSoFar                    the invariant: what all lines say is what the lines from here on say, after those read so far
--   begun, turned                it holds at first, and after a line that is accepted
--   missing, declined, finished  what the loop answers at its three ends
--   lines-told, lines-stored     what a call of `read_lines` on the front of an array answers, and leaves there
use mathlib.Core.Path.{◌≡◌, refl, sym, ap, ap₂, ◌∙◌}
use mathlib.Core.List.{List, [], ◌∷◌, ◌++◌}
use Prim.Native.Nat.{ℕ, suc, ◌+◌, ◌-◌, ◌<◌, ◌≤◌, zero-le}
use native.Mathlib.Nat.{sub-zero, add-zero}
use native.Mathlib.Numerals.{add-one}
use native.Mathlib.Omega.{arith}
use lib.ListN.{length, take, set, length-set}
use lib.Seq.{take-suc-set, length-take-le, take-append_seam}
use Rattle.std.proofs.lemmas.List.{take_all}
use borrow.Author.Tests.{ne_eqb}
use Rattle.refusals.specs.Refusals.{flaw_number, refusal_number, refusal_place}
use Rattle.refusals.specs.declared.Flaw.{Flaw}
use Rattle.refusals.specs.declared.Flaw.TheVariants.{Malformed, OutOfRange as ValueOutOfRange, ReadsAhead, NoSuchLine, NotRising, NotAMark, NotInputs}
use Rattle.refusals.specs.declared.Refusal.{Refusal}
use Rattle.refusals.specs.declared.Refusal.TheVariants.{TextTooLong, Line, TextGoesOn, ShortBuffer, WrongLength, OutOfRange, Indivisible, WrongArgument, Silent, Hidden, NoSet}
use Rattle.text.specs.Text.{before, after, line_end}
use Rattle.fields.specs.Fields.{unless}
use Rattle.sections.specs.Sections.{Read, items, line_refused, line_refusal, lines_of, FirstLine, NoLine}

pub flaw-some : (f : Flaw) → flaw_number f ≡ 0 → ⊥
flaw-some Malformed e = omega arith
flaw-some ValueOutOfRange e = omega arith
flaw-some ReadsAhead e = omega arith
flaw-some NoSuchLine e = omega arith
flaw-some NotRising e = omega arith
flaw-some NotAMark e = omega arith
flaw-some NotInputs e = omega arith

pub refusal-numbered : (r : Refusal) → refusal_number r ≡ 0 → ⊥
refusal-numbered TextTooLong e = omega arith
refusal-numbered (Line flaw line) e = flaw-some flaw e
refusal-numbered (TextGoesOn line) e = omega arith
refusal-numbered ShortBuffer e = omega arith
refusal-numbered WrongLength e = omega arith
refusal-numbered (OutOfRange index) e = omega arith
refusal-numbered (Indivisible index) e = omega arith
refusal-numbered WrongArgument e = omega arith
refusal-numbered (Silent fault) e = omega arith
refusal-numbered (Hidden fault) e = omega arith
refusal-numbered NoSet e = omega arith

-- the number of a line by its own tests, and of one that is missing
module _ (refusal : List ℕ → ℕ) (text : List ℕ) where
  pub line-number : (line rest : List ℕ) → FirstLine text line rest → line_refusal refusal text ≡ refusal line
  unfolding unless
  line-number line rest h = rw (h.0, h.1)

  pub missing-number : (place : ℕ) (r : Refusal) → NoLine text place r → line_refusal refusal text ≡ refusal_number r
  unfolding unless
  missing-number place r h = rw (h.0, h.1)

module _ {A : Type 0} (refusal : ℕ → List ℕ → ℕ) (item : List ℕ → A) where
  -- one line, by the number that it is refused by
  module _ (left place : ℕ) (rest : List ℕ) (read : List A) where
    line-refused : (number : ℕ) → line_refusal (refusal (length read)) rest ≡ number → (number ≡ 0 → ⊥) → lines_of refusal item (suc left) place rest read ≡ line_refused number place
    unfolding lines_of
    line-refused number by n = rw (by, ne_eqb number 0 n)

    line_read : line_refusal (refusal (length read)) rest ≡ 0 → lines_of refusal item (suc left) place rest read ≡ lines_of refusal item left (suc place) (after line_end rest) (read ++ (item (before line_end rest) ∷ []))
    unfolding lines_of
    line_read e = rw e

  no_lines : (left place : ℕ) (rest : List ℕ) (read : List A) → left ≡ 0 → lines_of refusal item left place rest read ≡ items read rest
  unfolding lines_of
  no_lines left place rest read e = rw e

  -- j lines of `count` are read, and `rest` stands after them
  pub record ReadSoFar (text : List ℕ) (first count : ℕ) (l : List A) (j : ℕ) (rest : List ℕ) : Type 0 where
    pub within : j ≤ count
    pub size : length l ≡ count
    pub same : lines_of refusal item count first text [] ≡ lines_of refusal item (count - j) (first + j) rest (take j l)

  pub begun : (text : List ℕ) (first : ℕ) (l : List A) → ReadSoFar text first (length l) l 0 text
  begun text first l = record { within = zero-le; size = refl; same = rw (sub-zero, add-zero) }

module _ {A : Type 0} {refusal : ℕ → List ℕ → ℕ} {item : List ℕ → A} {text : List ℕ} {first count : ℕ} {l : List A} {j : ℕ} {rest : List ℕ} (inv : ReadSoFar refusal item text first count l j rest) where
  pub finished : count ≤ j → items l rest ≡ lines_of refusal item count first text []
  finished h =
      let e : j ≡ length l = omega (arith, inv.within, inv.size) in
      let z : count - j ≡ 0 = omega arith in
      sym (inv.same ∙ no_lines refusal item (count - j) (first + j) rest (take j l) z ∙ ap (λ (m : List A). items m rest) (ap (λ (n : ℕ). take n l) e ∙ take_all (length l) l (omega arith)))

  module _ (more : j < count) where
    got : length (take j l) ≡ j
    got = let h : j ≤ length l = omega (arith, inv.size) in length-take-le j l h

    left : count - j ≡ suc (count - (j + 1))
    left = omega arith

    stop : (number : ℕ) → line_refusal (refusal j) rest ≡ number → (number ≡ 0 → ⊥) → line_refused number (first + j) ≡ lines_of refusal item count first text []
    stop number by n =
        sym (
        inv.same
        ∙ ap (λ (k : ℕ). lines_of refusal item k (first + j) rest (take j l)) left
        ∙ line-refused refusal item (count - (j + 1)) (first + j) rest (take j l) number (ap (λ (k : ℕ). line_refusal (refusal k) rest) got ∙ by) n
        )

    pub missing : (r : Refusal) → NoLine rest (first + j) r → line_refused (refusal_number r) (refusal_place r) ≡ lines_of refusal item count first text []
    missing r h = ap (line_refused (refusal_number r)) h.2 ∙ stop (refusal_number r) (missing-number (refusal j) rest (first + j) r h) (λ z. omega (arith, h.1))

    module _ {line after-line : List ℕ} (here : FirstLine rest line after-line) where
      pub declined : (r : Refusal) → refusal_number r ≡ refusal j line → refusal_place r ≡ first + j → line_refused (refusal_number r) (refusal_place r) ≡ lines_of refusal item count first text []
      declined r e p = ap (line_refused (refusal_number r)) p ∙ stop (refusal_number r) (line-number (refusal j) rest line after-line here ∙ sym e) (refusal-numbered r)

      pub turned : {x : A} → refusal j line ≡ 0 → x ≡ item line → ReadSoFar refusal item text first count (set l j x) (j + 1) after-line
      turned {x} z is =
          let h : j < length l = omega (arith, inv.size) in
          let taken : take j l ++ (item (before line_end rest) ∷ []) ≡ take (j + 1) (set l j x)
          = ap (λ (y : A). take j l ++ (y ∷ [])) (ap item (sym here.1) ∙ sym is) ∙ sym (take-suc-set l j x h) ∙ ap (λ (k : ℕ). take k (set l j x)) (sym (add-one j)) in
          let p : suc (first + j) ≡ first + (j + 1) = omega arith in
          let passes : line_refusal (refusal (length (take j l))) rest ≡ 0 = ap (λ (k : ℕ). line_refusal (refusal k) rest) got ∙ line-number (refusal j) rest line after-line here ∙ z in
          record {
            within = omega arith;
            size = length-set l j x ∙ inv.size;
            same =
                inv.same
                ∙ ap (λ (k : ℕ). lines_of refusal item k (first + j) rest (take j l)) left
                ∙ line_read refusal item (count - (j + 1)) (first + j) rest (take j l) passes
                ∙ ap₂ (λ (k : ℕ) (t : List ℕ). lines_of refusal item (count - (j + 1)) k t (take j l ++ (item (before line_end rest) ∷ []))) p (sym here.2)
                ∙ ap (lines_of refusal item (count - (j + 1)) (first + (j + 1)) after-line) taken;
          }

-- a call on the first `count` of an array
pub lines-told : {A : Type 0} (refusal : ℕ → List ℕ → ℕ) (item : List ℕ → A) (count first : ℕ) (rest : List ℕ) (l : List A) {r : Read A} → count ≤ length l
    → r ≡ lines_of refusal item (length (take count l)) first rest [] → r ≡ lines_of refusal item count first rest []
lines-told refusal item count first rest l fit e = e ∙ ap (λ (k : ℕ). lines_of refusal item k first rest []) (length-take-le count l fit)

pub lines-stored : {A : Type 0} (count : ℕ) (l rest : List A) → length l ≡ count → take count (l ++ rest) ≡ l
lines-stored count l rest e = ap (λ (k : ℕ). take k (l ++ rest)) (sym e) ∙ take-append_seam l rest
