-- Lines that are read are the written ones of their items:
--   line_taken    a line that is not refused stands with its end in front of the rest
--   lines-only    lines one after the other, where each line that is accepted is the written one of its item
use mathlib.Core.Path.{◌≡◌, refl, sym, ap, ap₂, ◌∙◌}
use mathlib.Core.Bool.{Bool, true, false, cond, false≢true}
use mathlib.Core.List.{List, [], ◌∷◌, ◌++◌, append_assoc, append-nil}
use Prim.Native.Nat.{ℕ, zero, suc}
use lib.Dec.{eqb, lit≤}
use lib.ListN.{length}
use borrow.Author.Tests.{eqb-true, ltb-true}
use Rattle.text.specs.Text.{index_of, before, after, has_byte, line_end}
use Rattle.text.proofs.Parts.{split-first}
use Rattle.fields.proofs.Chains.{unless-passed}
use Rattle.writing.specs.Writing.{gather}
use Rattle.sections.specs.Sections.{items, line_refused, line_refusal, lines_of, each_line}
use Rattle.sections.proofs.LinesRead.{is_read}
use Rattle.sections.proofs.LinesWritten.{each-cons}

pub line_taken : (refusal : List ℕ → ℕ) (rest : List ℕ) → line_refusal refusal rest ≡ 0
    → (rest ≡ (before line_end rest ++ (line_end ∷ [])) ++ after line_end rest) × (refusal (before line_end rest) ≡ 0)
line_taken refusal rest e =
    let t = unless-passed (has_byte line_end rest) 2 (refusal (before line_end rest)) (lit≤ tt) e in
    (split-first line_end rest (ltb-true (index_of line_end rest) (length rest) t.0) ∙ sym (append_assoc (before line_end rest) (line_end ∷ []) (after line_end rest)), t.1)

module _ {A : Type 0} (refusal : ℕ → List ℕ → ℕ) (item : List ℕ → A) (line : A → List ℕ) (none : A)
    (each : (j : ℕ) (l : List ℕ) → refusal j l ≡ 0 → l ++ (line_end ∷ []) ≡ line (item l)) where
  -- after those that were read
  only-more : (left place : ℕ) (rest : List ℕ) (read l : List A) (end : List ℕ) → lines_of refusal item left place rest read ≡ items l end
      → (m : List A) × (l ≡ read ++ m) × (length m ≡ left) × (rest ≡ each_line line none m ++ end)
  unfolding lines_of each_line gather
  only-more zero place rest read l end e = let k : read ≡ l = cc in let z : rest ≡ end = cc in ([], sym k ∙ sym (append-nil read), refl, z)
  only-more (suc left) place rest read l end e = go (eqb number 0) refl (only-more left (suc place) (after line_end rest) (read ++ (item (before line_end rest) ∷ [])) l end) e
    where
      number : ℕ
      number = line_refusal (refusal (length read)) rest

      more : List A
      more = read ++ (item (before line_end rest) ∷ [])

      go : (t : Bool) → eqb number 0 ≡ t
          → (lines_of refusal item left (suc place) (after line_end rest) more ≡ items l end → (m : List A) × (l ≡ more ++ m) × (length m ≡ left) × (after line_end rest ≡ each_line line none m ++ end))
          → cond t (lines_of refusal item left (suc place) (after line_end rest) more) (line_refused number place) ≡ items l end
          → (m : List A) × (l ≡ read ++ m) × (length m ≡ suc left) × (rest ≡ each_line line none m ++ end)
      go true z ih q =
          let r = ih q in
          let x = item (before line_end rest) in
          let t = line_taken (refusal (length read)) rest (eqb-true number 0 z) in (
            x ∷ r.0,
            r.1 ∙ append_assoc read (x ∷ []) r.0,
            ap suc r.2,
            t.0 ∙ ap₂ ◌++◌ (each (length read) (before line_end rest) t.1) r.3 ∙ sym (append_assoc (line x) (each_line line none r.0) end) ∙ ap (λ (m : List ℕ). m ++ end) (sym (each-cons line none x r.0)),
          )
      go false z ih q = absurd (false≢true (ap is_read q))

  pub lines-only : (left place : ℕ) (rest : List ℕ) (l : List A) (end : List ℕ) → lines_of refusal item left place rest [] ≡ items l end
      → (length l ≡ left) × (rest ≡ each_line line none l ++ end)
  lines-only left place rest l end e =
      let r = only-more left place rest [] l end e in
      (ap length r.1 ∙ r.2, r.3 ∙ ap (λ (m : List A). each_line line none m ++ end) (sym r.1))
