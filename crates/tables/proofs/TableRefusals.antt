-- How a table's text is answered, by its lines:
--   table-one-exactly, table-line-exactly, table-seven-exactly    refused by 1, by a line's number and by 7, each exactly where it holds, at that place
--   table-none-exactly                                            accepted exactly where none of them applies
--   table-refused                                                 by 1 at place 0, or by 2, 3, 5, 6, 7, 15 or 19 at a line from 1 to 35
use mathlib.Core.Path.{◌≡◌, refl, sym, ap, ap₂, ◌∙◌, subst}
use mathlib.Core.Bool.{Bool, true, false, cond}
use mathlib.Core.List.{List, [], ◌∷◌}
use mathlib.Core.Logic.{◌↔◌, ◌⊎◌, inl, inr}
use Prim.Native.Nat.{ℕ, suc, ◌+◌, ◌-◌, ◌<◌, ◌≤◌}
use native.Mathlib.Decide.{dec_le}
use native.Mathlib.Nat.{lt_of_not-le}
use native.Mathlib.Omega.{arith}
use lib.Dec.{eqb, lit≤}
use lib.ListN.{length}
use borrow.Author.Tests.{eqb-true, lt-ltb, ne_eqb}
use Rattle.text.specs.Text.{text_bytes, before, after, has_byte, line_end}
use Rattle.fields.specs.Fields.{Fails}
use Rattle.fields.proofs.Chains.{unless-passed}
use Rattle.statements.specs.Lines.{fault_tests, fault_refusal, bridge_tests, bridge_refusal, names_bridge, fault_line_refusal, fault_line_of}
use Rattle.statements.specs.Items.{Fault}
use Rattle.statements.proofs.LineNumbers.{fault-least, bridge-least}
use Rattle.sections.specs.Sections.{line_refusal, lines_from}
use Rattle.sections.specs.FaultLines.{nth_fault_refusal}
use Rattle.sections.proofs.LinesDue.{due_at, DuePassing, FirstRefused, due-own, refused-next, due-read, refused-pass, refused-once, line-answered, text-answered}
use Rattle.tables.specs.Tables.{TruthTable}
use Rattle.tables.specs.TableLines.{table_head_refusal, table_head_tests, mark_refusal, mark_tests, marks_of}
use Rattle.tables.specs.TableParsing.{TableParse, accepted_table, rejected_table, table_faults_in, on_faults, table_end, table_body, table_of}
use Rattle.tables.specs.TablePlaces.{table_head_in, table_lines_due, table_due_refusal, table_refusal_at, TableLineNumber, TableLineFails, TableDuePass, after_table, TableBytesFollow, TableNoneApplies}
use Rattle.tables.specs.declared.TableHead.{TableHead}
use Rattle.tables.proofs.TableAcceptance.{table-head-fits}
use Rattle.tables.proofs.TableNumbers.{table-head-least, marks-least}

-- ---- the numbers of a line

-- a line's number where it is refused at this place
abbrev Numbered : ℕ → ℕ → Type 0
Numbered number place = (number ≡ 0) ⊎ TableLineNumber number place

not-passed : (number place : ℕ) → Numbered number place → (number ≡ 0 → ⊥) → TableLineNumber number place
not-passed number place (inl z) some = absurd (some z)
not-passed number place (inr n) some = n

-- neither 0 nor 1, and not 7
line_low : (number place : ℕ) → TableLineNumber number place → 2 ≤ number
line_low number place (inl e) = omega arith
line_low number place (inr (inl e)) = omega arith
line_low number place (inr (inr (inl e))) = omega arith
line_low number place (inr (inr (inr (inl e)))) = omega arith
line_low number place (inr (inr (inr (inr (inl e))))) = omega (arith, e.0)
line_low number place (inr (inr (inr (inr (inr e))))) = omega arith

line-not-seven : {X : Type 0} (number place : ℕ) → TableLineNumber number place → number ≡ 7 → X
line-not-seven number place (inl e) s = absurd (omega arith)
line-not-seven number place (inr (inl e)) s = absurd (omega arith)
line-not-seven number place (inr (inr (inl e))) s = absurd (omega arith)
line-not-seven number place (inr (inr (inr (inl e)))) s = absurd (omega arith)
line-not-seven number place (inr (inr (inr (inr (inl e))))) s = absurd (omega (arith, e.0))
line-not-seven number place (inr (inr (inr (inr (inr e))))) s = absurd (omega arith)

module _ (l : List ℕ) where
  head-numbered : (place : ℕ) → Numbered (table_head_refusal l) place
  head-numbered place = go (table_head_refusal l) (table-head-least l).given
    where
      go : (n : ℕ) → (n ≡ 0) ⊎ Fails (table_head_tests l) n → Numbered n place
      go n (inl z) = inl z
      go n (inr (inl f)) = inr (inl (sym f.0))
      go n (inr (inr (inl f))) = inr (inr (inl (sym f.0)))
      go n (inr (inr (inr none))) = absurd none

  marks-numbered : (inputs : ℕ) → Numbered (mark_refusal inputs l) 2
  marks-numbered inputs = go (mark_refusal inputs l) (marks-least inputs l).given
    where
      go : (n : ℕ) → (n ≡ 0) ⊎ Fails (mark_tests inputs l) n → Numbered n 2
      go n (inl z) = inl z
      go n (inr (inl f)) = inr (inl (sym f.0))
      go n (inr (inr (inl f))) = inr (inr (inr (inr (inr (inl (sym f.0, refl))))))
      go n (inr (inr (inr none))) = absurd none

  stuck-numbered : (top place : ℕ) → Numbered (fault_refusal top l) place
  stuck-numbered top place = go (fault_refusal top l) (fault-least top l).given
    where
      go : (n : ℕ) → (n ≡ 0) ⊎ Fails (fault_tests top l) n → Numbered n place
      go n (inl z) = inl z
      go n (inr (inl f)) = inr (inl (sym f.0))
      go n (inr (inr (inl f))) = inr (inr (inl (sym f.0)))
      go n (inr (inr (inr (inl f)))) = inr (inr (inr (inl (sym f.0))))
      go n (inr (inr (inr (inr (inl f))))) = inr (inr (inr (inr (inl (sym f.0)))))
      go n (inr (inr (inr (inr (inr none))))) = absurd none

  bridge-numbered : (inputs place : ℕ) → Numbered (bridge_refusal inputs l) place
  bridge-numbered inputs place = go (bridge_refusal inputs l) (bridge-least inputs l).given
    where
      go : (n : ℕ) → (n ≡ 0) ⊎ Fails (bridge_tests inputs l) n → Numbered n place
      go n (inl z) = inl z
      go n (inr (inl f)) = inr (inl (sym f.0))
      go n (inr (inr (inl f))) = inr (inr (inl (sym f.0)))
      go n (inr (inr (inr (inl f)))) = inr (inr (inr (inr (inr (inr (sym f.0))))))
      go n (inr (inr (inr (inr none)))) = absurd none

  fault-numbered : (inputs top place : ℕ) → Numbered (fault_line_refusal inputs top l) place
  unfolding fault_line_refusal
  fault-numbered inputs top place = go (names_bridge l)
    where
      go : (b : Bool) → Numbered (cond b (bridge_refusal inputs l) (fault_refusal top l)) place
      go true = bridge-numbered inputs place
      go false = stuck-numbered top place

due-numbered : (h : TableHead) (k : ℕ) (l : List ℕ) → Numbered (table_due_refusal h k l) (suc k)
unfolding table_due_refusal
due-numbered h k l = go (eqb k 0) (eqb k 1) refl
  where
    go : (a b : Bool) → eqb k 1 ≡ b → Numbered (cond a (table_head_refusal l) (cond b (mark_refusal h.inputs l) (fault_line_refusal h.inputs h.inputs l))) (suc k)
    go true b e = head-numbered l (suc k)
    go false true e = let second : 2 ≡ suc k = omega (arith, eqb-true k 1 e) in subst (Numbered (mark_refusal h.inputs l)) second (marks-numbered l h.inputs)
    go false false e = fault-numbered l h.inputs h.inputs (suc k)

-- the number of the text's line with k lines before it
abbrev at : List ℕ → ℕ → ℕ
at text = due_at (table_due_refusal (table_head_in text)) text

number_at : (text : List ℕ) (k : ℕ) → Numbered (at text k) (suc k)
number_at text k = due-own (table_due_refusal (table_head_in text)) text (λ (n : ℕ). Numbered n (suc k)) k (inr (inl refl)) (due-numbered (table_head_in text) k)

fault-due : (h : TableHead) (j : ℕ) (l : List ℕ) → table_due_refusal h (2 + j) l ≡ nth_fault_refusal h.inputs h.inputs j l
unfolding table_due_refusal
fault-due h j l = rw (ne_eqb (2 + j) 0 (λ z. omega arith), ne_eqb (2 + j) 1 (λ z. omega arith))

-- ---- the whole text

-- what each answer of the parser means
abbrev Means : List ℕ → TableParse → Type 0
Means text (accepted_table t) = TableNoneApplies text
Means text (rejected_table number place) = ((number ≡ 1) × (place ≡ 0) × (text_bytes < length text)) ⊎ (TableLineFails text number place ⊎ ((number ≡ 7) × TableBytesFollow text place))

-- the first `count` lines pass
abbrev Passing : List ℕ → ℕ → Type 0
Passing text = DuePassing (table_due_refusal (table_head_in text)) text

abbrev Refused : List ℕ → ℕ → ℕ → Type 0
Refused text = FirstRefused (table_due_refusal (table_head_in text)) text (table_lines_due (table_head_in text))

-- the first refused line, as `TablePlaces` says it
module _ {text : List ℕ} {number place : ℕ} where
  line-fails : length text ≤ text_bytes → Refused text number place → TableLineFails text number place
  unfolding table_refusal_at
  line-fails few f =
      let i : suc (place - 1) ≡ place = omega (arith, f.place-low) in
      let n = subst (λ (m : ℕ). Numbered m (suc (place - 1))) f.refused (number_at text (place - 1)) in
      record {
        few = few;
        number_is = not-passed number place (subst (Numbered number) i n) f.some;
        place-low = f.place-low;
        place-due = f.place-due;
        refused = f.refused;
        earlier-pass = f.earlier-pass;
      }

  fails-line : TableLineFails text number place → Refused text number place
  unfolding table_refusal_at
  fails-line f =
      record { place-low = f.place-low; place-due = f.place-due; refused = f.refused; some = λ z. omega (arith, line_low number place f.number_is, z); earlier-pass = f.earlier-pass }

module _ (text : List ℕ) (few : length text ≤ text_bytes) where
  abbrev h : TableHead
  h = table_head_in text

  -- a line that does not pass, after `lines` others that do
  next-fails : (lines number place : ℕ) → place ≡ lines + 1 → lines < table_lines_due h → at text lines ≡ number → (number ≡ 0 → ⊥) → Passing text lines → Means text (rejected_table number place)
  next-fails lines number place p due is some passing = inr (inl (line-fails few (refused-next (table_due_refusal h) text lines number place p due is some passing)))

  ended : (marks : List ℕ) (faults : List Fault) (rest : List ℕ) → rest ≡ after_table text → Passing text (table_lines_due h) → Means text (table_end h marks faults rest)
  unfolding table_end table_refusal_at
  ended marks faults [] e p = record { pass = record { few = few; each = p }; all = sym e }
  ended marks faults (x ∷ rest) e p =
      rw (lt-ltb 0 (length (x ∷ rest)) (omega arith))
      (inr (inr (refl, record { pass = record { few = few; each = p }; bytes = subst (λ (l : List ℕ). 0 < length l) e (omega arith); place_is = omega arith })))

  marks-at : at text 1 ≡ line_refusal (mark_refusal h.inputs) (after line_end text)
  unfolding table_due_refusal lines_from
  marks-at = refl

  two-lines : after line_end (after line_end text) ≡ lines_from 2 text
  unfolding lines_from
  two-lines = refl

  -- the fault lines: a refusal among them, or what comes after them
  in-faults : (marks : List ℕ) → Passing text 2 → Means text (on_faults (table_faults_in h (after line_end (after line_end text))) (λ faults end. table_end h marks faults end))
  unfolding table_faults_in
  in-faults marks passing =
      due-read (table_due_refusal h) text (nth_fault_refusal h.inputs h.inputs) fault_line_of 2 h.faults 3 (omega arith) (omega arith) (λ j l k. fault-due h j l) (after line_end (after line_end text)) two-lines passing
      (λ r. Means text (on_faults r (λ faults end. table_end h marks faults end)))
      (λ number place f. inr (inl (line-fails few f)))
      (ended marks)

  in_body : at text 0 ≡ 0 → Means text (table_body h (after line_end text))
  unfolding table_body
  in_body first = line-answered (Means text) line (λ z. in-faults (marks_of (before line_end rest)) (two z)) (λ s. next-fails 1 line 2 (omega arith) (omega arith) marks-at s one)
    where
      rest : List ℕ
      rest = after line_end text

      line : ℕ
      line = line_refusal (mark_refusal h.inputs) rest

      one : Passing text 1
      one k b = let e : k ≡ 0 = omega arith in ap (at text) e ∙ first

      two : line ≡ 0 → Passing text 2
      two z k b = by (dec_le 1 k)
        where
          by : Dec (1 ≤ k) → at text k ≡ 0
          by (yes a) = let e : k ≡ 1 = omega arith in ap (at text) e ∙ marks-at ∙ z
          by (no a) = one k (lt_of_not-le a)

head_at : (text : List ℕ) → at text 0 ≡ line_refusal table_head_refusal text
unfolding table_due_refusal lines_from
head_at text = refl

table-means : (text : List ℕ) → Means text (table_of text)
unfolding table_of
table-means text =
    text-answered (Means text) (line_refusal table_head_refusal text) text (λ b. inl (refl, refl, b)) (λ few z. in_body text few (head_at text ∙ z))
    (λ few s. next-fails text few 0 (line_refusal table_head_refusal text) 1 (omega arith) (omega arith) (head_at text) s (λ k b. absurd (omega arith)))

-- no text has two of these answers

module _ (text : List ℕ) where
  fails-pass : {X : Type 0} (number place : ℕ) → TableLineFails text number place → TableDuePass text → X
  unfolding table_refusal_at
  fails-pass number place f p = refused-pass (table_due_refusal (table_head_in text)) text (fails-line f) p.each

  fails-once : (number place other later : ℕ) → TableLineFails text number place → TableLineFails text other later → rejected_table other later ≡ rejected_table number place
  fails-once number place other later f g =
      let e = refused-once (table_due_refusal (table_head_in text)) text (fails-line f) (fails-line g) in
      ap₂ rejected_table e.0 e.1

  pub table-one-exactly : (table_of text ≡ rejected_table 1 0) ↔ (text_bytes < length text)
  unfolding table_of
  table-one-exactly = (λ e. there (subst (Means text) e (table-means text)), λ h. rw (lt-ltb text_bytes (length text) h))
    where
      there : Means text (rejected_table 1 0) → text_bytes < length text
      there (inl s) = s.2
      there (inr (inl f)) = absurd (omega (arith, f.place-low))
      there (inr (inr b)) = absurd (omega (arith, b.0))

  pub table-line-exactly : (number place : ℕ) → ((table_of text ≡ rejected_table number place) × TableLineNumber number place) ↔ TableLineFails text number place
  table-line-exactly number place = (λ e. there e.1 (subst (Means text) e.0 (table-means text)), λ f. (back f (table_of text) (table-means text), f.number_is))
    where
      there : TableLineNumber number place → Means text (rejected_table number place) → TableLineFails text number place
      there n (inl s) = absurd (omega (arith, line_low number place n, s.0))
      there n (inr (inl f)) = f
      there n (inr (inr b)) = line-not-seven number place n b.0

      back : TableLineFails text number place → (r : TableParse) → Means text r → r ≡ rejected_table number place
      back f (accepted_table t) m = fails-pass number place f m.pass
      back f (rejected_table other later) (inl s) = absurd (omega (arith, f.few, s.2))
      back f (rejected_table other later) (inr (inl g)) = fails-once number place other later f g
      back f (rejected_table other later) (inr (inr b)) = fails-pass number place f b.1.pass

  pub table-seven-exactly : (place : ℕ) → (table_of text ≡ rejected_table 7 place) ↔ TableBytesFollow text place
  table-seven-exactly place = (λ e. there (subst (Means text) e (table-means text)), λ b. back b (table_of text) (table-means text))
    where
      there : Means text (rejected_table 7 place) → TableBytesFollow text place
      there (inl s) = absurd (omega (arith, s.0))
      there (inr (inl f)) = line-not-seven 7 place f.number_is refl
      there (inr (inr b)) = b.1

      back : TableBytesFollow text place → (r : TableParse) → Means text r → r ≡ rejected_table 7 place
      back b (accepted_table t) m = absurd (omega (arith, b.bytes, ap length m.all))
      back b (rejected_table other later) (inl s) = absurd (omega (arith, b.pass.few, s.2))
      back b (rejected_table other later) (inr (inl f)) = fails-pass other later f b.pass
      back b (rejected_table other later) (inr (inr c)) = ap₂ rejected_table c.0 (c.1.place_is ∙ sym b.place_is)

  pub table-none-exactly : ((t : TruthTable) × (table_of text ≡ accepted_table t)) ↔ TableNoneApplies text
  table-none-exactly = (λ e. subst (Means text) e.1 (table-means text), λ a. back a (table_of text) refl (table-means text))
    where
      back : TableNoneApplies text → (r : TableParse) → table_of text ≡ r → Means text r → (t : TruthTable) × (table_of text ≡ accepted_table t)
      back a (accepted_table t) e m = (t, e)
      back a (rejected_table other later) e (inl s) = absurd (omega (arith, a.pass.few, s.2))
      back a (rejected_table other later) e (inr (inl f)) = fails-pass other later f a.pass
      back a (rejected_table other later) e (inr (inr b)) = absurd (omega (arith, b.1.bytes, ap length a.all))

-- ---- the least that callers need of a refusal

few-due : (text : List ℕ) → table_refusal_at text 0 ≡ 0 → table_lines_due (table_head_in text) ≤ 34
unfolding table_refusal_at
few-due text e = omega (arith, (table-head-fits (before line_end text) (unless-passed (has_byte line_end text) 2 (table_head_refusal (before line_end text)) (lit≤ tt) (sym (head_at text) ∙ e)).1).faults-high)

pub table-refused : (text : List ℕ) (number place : ℕ) → table_of text ≡ rejected_table number place
    → ((number ≡ 1) × (place ≡ 0)) ⊎ ((1 ≤ place) × (place ≤ 35) × ((number ≡ 7) ⊎ TableLineNumber number place))
table-refused text number place e = go (subst (Means text) e (table-means text))
  where
    high : (f : TableLineFails text number place) → Dec (place ≤ 1) → place ≤ 35
    high f (yes one) = omega arith
    high f (no more) = omega (arith, lt_of_not-le more, f.place-due, few-due text (f.earlier-pass 0 (omega (arith, lt_of_not-le more))))

    go : Means text (rejected_table number place) → ((number ≡ 1) × (place ≡ 0)) ⊎ ((1 ≤ place) × (place ≤ 35) × ((number ≡ 7) ⊎ TableLineNumber number place))
    go (inl s) = inl (s.0, s.1)
    go (inr (inl f)) = inr (f.place-low, high f (dec_le place 1), inr f.number_is)
    go (inr (inr b)) =
        let d = few-due text (b.1.pass.each 0 (omega arith)) in
        inr (omega (arith, b.1.place_is), omega (arith, b.1.place_is, d), inl b.0)
