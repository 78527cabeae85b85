-- How a text is answered, by its lines:
--   one-exactly, line-exactly, seven-exactly    refused by 1, by 2 to 6 or 19, and by 7, each exactly where it holds, at that place
--   none-exactly                                accepted exactly where none of them applies
--   text-refused                                by 1 at place 0, or by 2 to 7 or 19 at a line from 1 to 86; number-some: never by 0
use mathlib.Core.Path.{◌≡◌, refl, sym, ap, ap₂, ◌∙◌, subst}
use mathlib.Core.Bool.{Bool, true, false, cond}
use mathlib.Core.List.{List, [], ◌∷◌}
use mathlib.Core.Logic.{◌↔◌, ◌⊎◌, inl, inr, ⊎_elim}
use Prim.Native.Nat.{ℕ, ◌+◌, ◌-◌, ◌<◌, ◌≤◌}
use native.Mathlib.Decide.{dec_le}
use native.Mathlib.Nat.{lt_of_not-le}
use native.Mathlib.Omega.{arith}
use lib.Dec.{eqb, lit≤, leb}
use lib.ListN.{length}
use borrow.Author.Tests.{lt-ltb, ne_eqb, le-leb, lt-leb}
use Rattle.text.specs.Text.{text_bytes, before, after, has_byte, line_end}
use Rattle.fields.specs.Fields.{unless, Fails}
use Rattle.statements.specs.Lines.{head_refusal, output_refusal, output_of, fault_line_of, bridge_tests, bridge_refusal, fault_refusal, names_bridge, fault_line_refusal}
use Rattle.gate_lines.specs.GateLines.{gate_refusal, gate_of}
use Rattle.statements.specs.Items.{Fault}
use Rattle.gate_lines.specs.GateItems.{Gate}
use Rattle.statements.specs.declared.Head.{Head}
use Rattle.statements.specs.declared.Output.{Output}
use Rattle.sections.specs.Sections.{line_refusal, lines_from, lines_of}
use Rattle.sections.specs.FaultLines.{nth_fault_refusal}
use Rattle.fields.proofs.Chains.{LineNumber}
use Rattle.statements.proofs.LineNumbers.{head-number, output-number, fault-number, bridge-least}
use Rattle.gate_lines.proofs.GateNumbers.{gate-number}
use Rattle.sections.proofs.LinesDue.{due_at, DuePassing, FirstRefused, due-own, refused-next, due-read, refused-pass, refused-once, text-answered}
use Rattle.netlist.specs.Circuits.{Netlist}
use Rattle.netlist.specs.Parsing.{gates_in, outputs_in, faults_in, Parse, accepted, rejected, on_read, end_of, body_of, parse_of, nth_gate_refusal, nth_output_refusal}
use Rattle.netlist.specs.Places.{text_head, lines_due, due_refusal, refusal_at, CircuitLineNumber, LineFails, DuePass, after_due, BytesFollow, NoneApplies}
use Rattle.netlist.proofs.Acceptance.{head-fits}
use Rattle.netlist.proofs.Assembling.{too_long}

-- the numbers of a line

abbrev Numbered : ℕ → Type 0
Numbered n = (n ≡ 0) ⊎ CircuitLineNumber n

plain-number : (n : ℕ) → LineNumber n → Numbered n
plain-number n (inl z) = inl z
plain-number n (inr s) = inr (inl s)

not-passed : (n : ℕ) → Numbered n → (n ≡ 0 → ⊥) → CircuitLineNumber n
not-passed n (inl z) some = absurd (some z)
not-passed n (inr s) some = s

-- not 0 or 1, and not 7
line_low : (n : ℕ) → CircuitLineNumber n → 2 ≤ n
line_low n (inl s) = s.0
line_low n (inr e) = omega arith

line-not-seven : {X : Type 0} (n : ℕ) → CircuitLineNumber n → n ≡ 7 → X
line-not-seven n (inl s) e = absurd (omega (arith, s.1))
line-not-seven n (inr b) e = absurd (omega arith)

fault-line-number : (inputs top : ℕ) (l : List ℕ) → Numbered (fault_line_refusal inputs top l)
unfolding fault_line_refusal
fault-line-number inputs top l = go (names_bridge l)
  where
    of-bridge : (n : ℕ) → (n ≡ 0) ⊎ Fails (bridge_tests inputs l) n → Numbered n
    of-bridge n (inl z) = inl z
    of-bridge n (inr (inl f)) = inr (inl (omega (arith, f.0), omega (arith, f.0)))
    of-bridge n (inr (inr (inl f))) = inr (inl (omega (arith, f.0), omega (arith, f.0)))
    of-bridge n (inr (inr (inr (inl f)))) = inr (inr (sym f.0))
    of-bridge n (inr (inr (inr (inr none)))) = absurd none

    go : (b : Bool) → Numbered (cond b (bridge_refusal inputs l) (fault_refusal top l))
    go true = of-bridge (bridge_refusal inputs l) (bridge-least inputs l).given
    go false = plain-number (fault_refusal top l) (fault-number top l)

-- the line that is due after so many others

due-number : (h : Head) (k : ℕ) (l : List ℕ) → Numbered (due_refusal h k l)
unfolding due_refusal
due-number h k l = go (eqb k 0) (leb k h.gates) (leb k (h.gates + h.outputs))
  where
    go : (a b c : Bool)
        → Numbered (cond a (head_refusal l) (cond b (gate_refusal (h.inputs + k) l) (cond c (output_refusal (h.inputs + h.gates) l) (fault_line_refusal h.inputs (h.inputs + h.gates) l))))
    go true b c = plain-number (head_refusal l) (head-number l)
    go false true c = plain-number (gate_refusal (h.inputs + k) l) (gate-number (h.inputs + k) l)
    go false false true = plain-number (output_refusal (h.inputs + h.gates) l) (output-number (h.inputs + h.gates) l)
    go false false false = fault-line-number h.inputs (h.inputs + h.gates) l

-- the number of the text's line with k lines before it
abbrev at : List ℕ → ℕ → ℕ
at text = due_at (due_refusal (text_head text)) text

number_at : (text : List ℕ) (k : ℕ) → Numbered (at text k)
number_at text k = due-own (due_refusal (text_head text)) text Numbered k (inr (inl (lit≤ tt, lit≤ tt))) (due-number (text_head text) k)

module _ (h : Head) (j : ℕ) (l : List ℕ) where
  gate-due : j < h.gates → due_refusal h (1 + j) l ≡ nth_gate_refusal h.inputs j l
  unfolding due_refusal
  gate-due k =
      let e : h.inputs + (1 + j) ≡ h.inputs + j + 1 = omega arith in
      rw (ne_eqb (1 + j) 0 (λ z. omega arith), le-leb (1 + j) h.gates (omega arith), e)

  output-due : j < h.outputs → due_refusal h (1 + h.gates + j) l ≡ nth_output_refusal (h.inputs + h.gates) j l
  unfolding due_refusal
  output-due k = rw (ne_eqb (1 + h.gates + j) 0 (λ z. omega arith), lt-leb (1 + h.gates + j) h.gates (omega arith), le-leb (1 + h.gates + j) (h.gates + h.outputs) (omega arith))

  fault-due : due_refusal h (1 + h.gates + h.outputs + j) l ≡ nth_fault_refusal h.inputs (h.inputs + h.gates) j l
  unfolding due_refusal
  fault-due =
      rw (
        ne_eqb (1 + h.gates + h.outputs + j) 0 (λ z. omega arith),
        lt-leb (1 + h.gates + h.outputs + j) h.gates (omega arith),
        lt-leb (1 + h.gates + h.outputs + j) (h.gates + h.outputs) (omega arith),
      )

-- the whole text

-- what each answer of the parser means
abbrev Means : List ℕ → Parse → Type 0
Means text (accepted n) = NoneApplies text
Means text (rejected number place) = ((number ≡ 1) × (place ≡ 0) × (text_bytes < length text)) ⊎ (LineFails text number place ⊎ ((number ≡ 7) × BytesFollow text place))

-- the first `count` lines pass
abbrev Passing : List ℕ → ℕ → Type 0
Passing text = DuePassing (due_refusal (text_head text)) text

abbrev Refused : List ℕ → ℕ → ℕ → Type 0
Refused text = FirstRefused (due_refusal (text_head text)) text (lines_due (text_head text))

-- the first refused line, as `Places` says it
module _ {text : List ℕ} {number place : ℕ} where
  line-fails : length text ≤ text_bytes → Refused text number place → LineFails text number place
  unfolding refusal_at
  line-fails few f =
      let n = subst Numbered f.refused (number_at text (place - 1)) in
      record { few = few; number_is = not-passed number n f.some; place-low = f.place-low; place-due = f.place-due; refused = f.refused; earlier-pass = f.earlier-pass }

  fails-line : LineFails text number place → Refused text number place
  unfolding refusal_at
  fails-line f =
      record { place-low = f.place-low; place-due = f.place-due; refused = f.refused; some = λ z. omega (arith, line_low number f.number_is, z); earlier-pass = f.earlier-pass }

module _ (text : List ℕ) (few : length text ≤ text_bytes) where
  abbrev h : Head
  h = text_head text

  -- `count` lines of one kind after m lines that pass: a refusal among them, or what comes after them
  stage : {A : Type 0} (refusal : ℕ → List ℕ → ℕ) (item : List ℕ → A) (m count low : ℕ) → m + count ≤ lines_due h → low ≡ m + 1
      → ((j : ℕ) (l : List ℕ) → j < count → due_refusal h (m + j) l ≡ refusal j l) → (rest : List ℕ) → rest ≡ lines_from m text → Passing text m → (next : List A → List ℕ → Parse)
      → ((l : List A) (end : List ℕ) → end ≡ lines_from (m + count) text → Passing text (m + count) → Means text (next l end)) → Means text (on_read (lines_of refusal item count low rest []) next)
  stage refusal item m count low within low-is same rest rest-is passing next =
      due-read (due_refusal h) text refusal item m count low within low-is same rest rest-is passing (λ r. Means text (on_read r next)) (λ number place f. inr (inl (line-fails few f)))

  ended : (gates : List Gate) (outputs : List Output) (faults : List Fault) (rest : List ℕ) → rest ≡ after_due text → Passing text (lines_due h) → Means text (end_of h gates outputs faults rest)
  unfolding end_of refusal_at
  ended gates outputs faults [] e p = record { pass = record { few = few; each = p }; all = sym e }
  ended gates outputs faults (x ∷ rest) e p =
      rw (lt-ltb 0 (length (x ∷ rest)) (omega arith))
      (inr (inr (refl, record { pass = record { few = few; each = p }; bytes = subst (λ (l : List ℕ). 0 < length l) e (omega arith); place_is = omega arith })))

  in_body : at text 0 ≡ 0 → Means text (body_of h (after line_end text))
  unfolding body_of gates_in outputs_in faults_in lines_from
  in_body first =
      stage (nth_gate_refusal h.inputs) gate_of 1 h.gates 2 (omega arith) (lit≡) (λ j l. gate-due h j l) (after line_end text) refl (λ k b. ap (at text) (none k b) ∙ first)
      (λ gates r. on_read (outputs_in h r) (λ outputs r. on_read (faults_in h r) (end_of h gates outputs)))
      (λ gates r e p.
      stage (nth_output_refusal (h.inputs + h.gates)) output_of (1 + h.gates) h.outputs _ (omega arith) (omega arith) (λ j l. output-due h j l) r e p
      (λ outputs r. on_read (faults_in h r) (end_of h gates outputs))
      (λ outputs r e p.
      stage (nth_fault_refusal h.inputs (h.inputs + h.gates)) fault_line_of (1 + h.gates + h.outputs) h.faults (h.gates + h.outputs + 2) (omega arith) (omega arith) (λ j l k. fault-due h j l) r e p
      (end_of h gates outputs)
      (ended gates outputs)))
    where
      none : (k : ℕ) → k < 1 → k ≡ 0
      none k b = omega arith

      lit≡ : 2 ≡ 1 + 1
      lit≡ = omega arith

head_at : (text : List ℕ) → at text 0 ≡ line_refusal head_refusal text
unfolding due_refusal lines_from
head_at text = refl

parse-means : (text : List ℕ) → Means text (parse_of text)
unfolding parse_of
parse-means text =
    text-answered (Means text) (line_refusal head_refusal text) text (λ b. inl (refl, refl, b)) (λ few z. in_body text few (head_at text ∙ z))
    (λ few s. inr (inl (line-fails few (refused-next (due_refusal (text_head text)) text 0 (line_refusal head_refusal text) 1 (omega arith) (omega arith) (head_at text) s (λ k b. absurd (omega arith))))))

-- no text has two of these answers

module _ (text : List ℕ) where
  fails-pass : {X : Type 0} (number place : ℕ) → LineFails text number place → DuePass text → X
  unfolding refusal_at
  fails-pass number place f p = refused-pass (due_refusal (text_head text)) text (fails-line f) p.each

  fails-once : (number place other later : ℕ) → LineFails text number place → LineFails text other later → rejected other later ≡ rejected number place
  fails-once number place other later f g = let e = refused-once (due_refusal (text_head text)) text (fails-line f) (fails-line g) in ap₂ rejected e.0 e.1

  pub one-exactly : (parse_of text ≡ rejected 1 0) ↔ (text_bytes < length text)
  one-exactly = (there, too_long text)
    where
      there : parse_of text ≡ rejected 1 0 → text_bytes < length text
      there e = go (subst (Means text) e (parse-means text))
        where
          go : Means text (rejected 1 0) → text_bytes < length text
          go (inl s) = s.2
          go (inr (inl f)) = absurd (omega (arith, line_low 1 f.number_is))
          go (inr (inr b)) = absurd (omega (arith, b.0))

  pub line-exactly : (number place : ℕ) → ((parse_of text ≡ rejected number place) × CircuitLineNumber number) ↔ LineFails text number place
  line-exactly number place = (there, λ f. (back f (parse_of text) (parse-means text), f.number_is))
    where
      there : (parse_of text ≡ rejected number place) × CircuitLineNumber number → LineFails text number place
      there e = go (subst (Means text) e.0 (parse-means text))
        where
          go : Means text (rejected number place) → LineFails text number place
          go (inl s) = absurd (omega (arith, line_low number e.1, s.0))
          go (inr (inl f)) = f
          go (inr (inr b)) = line-not-seven number e.1 b.0

      back : LineFails text number place → (r : Parse) → Means text r → r ≡ rejected number place
      back f (accepted n) m = fails-pass number place f m.pass
      back f (rejected other later) (inl s) = absurd (omega (arith, f.few, s.2))
      back f (rejected other later) (inr (inl g)) = fails-once number place other later f g
      back f (rejected other later) (inr (inr b)) = fails-pass number place f b.1.pass

  pub seven-exactly : (place : ℕ) → (parse_of text ≡ rejected 7 place) ↔ BytesFollow text place
  seven-exactly place = (there, λ b. back b (parse_of text) (parse-means text))
    where
      there : parse_of text ≡ rejected 7 place → BytesFollow text place
      there e = go (subst (Means text) e (parse-means text))
        where
          go : Means text (rejected 7 place) → BytesFollow text place
          go (inl s) = absurd (omega (arith, s.0))
          go (inr (inl f)) = line-not-seven 7 f.number_is refl
          go (inr (inr b)) = b.1

      back : BytesFollow text place → (r : Parse) → Means text r → r ≡ rejected 7 place
      back b (accepted n) m = absurd (omega (arith, b.bytes, ap length m.all))
      back b (rejected other later) (inl s) = absurd (omega (arith, b.pass.few, s.2))
      back b (rejected other later) (inr (inl f)) = fails-pass other later f b.pass
      back b (rejected other later) (inr (inr c)) = ap₂ rejected c.0 (c.1.place_is ∙ sym b.place_is)

  pub none-exactly : ((n : Netlist) × (parse_of text ≡ accepted n)) ↔ NoneApplies text
  none-exactly = (λ e. subst (Means text) e.1 (parse-means text), λ a. back a (parse_of text) refl (parse-means text))
    where
      back : NoneApplies text → (r : Parse) → parse_of text ≡ r → Means text r → (n : Netlist) × (parse_of text ≡ accepted n)
      back a (accepted n) e m = (n, e)
      back a (rejected other later) e (inl s) = absurd (omega (arith, a.pass.few, s.2))
      back a (rejected other later) e (inr (inl f)) = fails-pass other later f a.pass
      back a (rejected other later) e (inr (inr b)) = absurd (omega (arith, b.1.bytes, ap length a.all))

-- the least that callers need of a refusal

pub record OfLine (number place : ℕ) : Type 0 where
  pub number_is : (number ≡ 7) ⊎ CircuitLineNumber number
  pub place-low : 1 ≤ place
  pub place-high : place ≤ 86

few-due : (text : List ℕ) → refusal_at text 0 ≡ 0 → lines_due (text_head text) ≤ 85
unfolding unless refusal_at
few-due text e = go (has_byte line_end text) (sym (head_at text) ∙ e)
  where
    go : (b : Bool) → unless b 2 (head_refusal (before line_end text)) ≡ 0 → lines_due (text_head text) ≤ 85
    go true z = let h = head-fits (before line_end text) z in omega (arith, h.gates-high, h.outputs-high, h.faults-high)
    go false z = absurd (omega arith)

pub text-refused : (text : List ℕ) (number place : ℕ) → parse_of text ≡ rejected number place → ((number ≡ 1) × (place ≡ 0)) ⊎ OfLine number place
text-refused text number place e = go (subst (Means text) e (parse-means text))
  where
    high : (f : LineFails text number place) → Dec (place ≤ 1) → place ≤ 86
    high f (yes one) = omega arith
    high f (no more) = omega (arith, lt_of_not-le more, f.place-due, few-due text (f.earlier-pass 0 (omega (arith, lt_of_not-le more))))

    go : Means text (rejected number place) → ((number ≡ 1) × (place ≡ 0)) ⊎ OfLine number place
    go (inl s) = inl (s.0, s.1)
    go (inr (inl f)) = inr record { number_is = inr f.number_is; place-low = f.place-low; place-high = high f (dec_le place 1) }
    go (inr (inr b)) =
        let d = few-due text (b.1.pass.each 0 (omega arith)) in
        inr record { number_is = inl b.0; place-low = omega (arith, b.1.place_is); place-high = omega (arith, b.1.place_is, d) }

pub number-some : (text : List ℕ) (number place : ℕ) → parse_of text ≡ rejected number place → number ≡ 0 → ⊥
number-some text number place e z =
    ⊎_elim (λ one. omega (arith, one.0, z)) (λ line. ⊎_elim (λ seven. omega (arith, seven, z)) (λ n. omega (arith, line_low number n, z)) line.number_is) (text-refused text number place e)
