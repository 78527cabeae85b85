-- Lines of one kind, one after the other: what they say with the text that follows them, or the first refusal with its place (document 01, "What is
-- returned"): "Text: 1 first, then line by line" "Place is a line of the text (from 1)".
use Rattle.std.specs.Prelude.{◌≡◌, ℕ, zero, suc, true, false, cond, List, [], ◌∷◌, ◌++◌, eqb, length, get_or}
use Rattle.refusals.specs.Refusals.{refusal_number, refusal_place}
use Rattle.refusals.specs.declared.Refusal.{Refusal}
use Rattle.text.specs.Text.{before, after, has_byte, line_end}
use Rattle.fields.specs.Fields.{unless}
use Rattle.writing.specs.Writing.{gather}

-- the next line is refused by 2 where it has no end, else by its own tests
abbrev pub line_refusal : (List ℕ → ℕ) → List ℕ → ℕ
line_refusal refusal rest = unless (has_byte line_end rest) 2 (refusal (before line_end rest))

-- the first line, and what stands after it
abbrev pub FirstLine : List ℕ → List ℕ → List ℕ → Type 0
FirstLine text line rest = (has_byte line_end text ≡ true) × (line ≡ before line_end text) × (rest ≡ after line_end text)

-- there is none
abbrev pub NoLine : List ℕ → ℕ → Refusal → Type 0
NoLine text place r = (has_byte line_end text ≡ false) × (refusal_number r ≡ 2) × (refusal_place r ≡ place)

-- what lines say, with the text that follows them; or a refusal's number and place
pub data Read (A : Type 0) : Type 0 where
  items : List A → List ℕ → Read A
  line_refused : ℕ → ℕ → Read A

-- `left` lines at the front of `rest`, after those that were read. The first of them is line `place` of the text, and `refusal` gives the
-- number for a line from how many were read before it.
unfoldable pub lines_of : {A : Type 0} → (ℕ → List ℕ → ℕ) → (List ℕ → A) → ℕ → ℕ → List ℕ → List A → Read A
lines_of refusal item zero place rest read = items read rest
lines_of refusal item (suc left) place rest read =
    cond (eqb (line_refusal (refusal (length read)) rest) 0)
    (lines_of refusal item left (suc place) (after line_end rest) (read ++ (item (before line_end rest) ∷ [])))
    (line_refused (line_refusal (refusal (length read)) rest) place)

-- the text after its first k lines
unfoldable pub lines_from : ℕ → List ℕ → List ℕ
lines_from zero text = text
lines_from (suc k) text = lines_from k (after line_end text)

-- as they are written: a line for each item; `none` is what is read past the last
unfoldable pub each_line : {A : Type 0} → (A → List ℕ) → A → List A → List ℕ
each_line line none l = gather (λ i. line (get_or l i none)) (length l)
