-- Which kind a text is, by its first word:
--   circuits-as-before     a text whose first word is not `table` has the answers of document 01, in every call
--   table-unparsed         to document 01's parser a table that is not too long is 2 at line 1
--   circuit-described, table-described    what an accepted text describes
--   described-from         and every text that describes something is one of these
use mathlib.Core.Path.{◌≡◌, refl, sym, ap, ◌∙◌}
use mathlib.Core.Bool.{Bool, true, false, cond, false≢true}
use mathlib.Core.List.{List}
use mathlib.Core.Logic.{◌⊎◌, inl, inr}
use Prim.Native.Nat.{ℕ, ◌≤◌}
use lib.Dec.{eqb, lit≤}
use lib.ListN.{length}
use borrow.Author.Tests.{le-ltb}
use Rattle.text.specs.Text.{text_bytes, before, after, has_byte, line_end, field_of, same_bytes}
use Rattle.text.proofs.Words.{same-equal, same_self}
use Rattle.integer.proofs.Bools.{clash}
use Rattle.fields.specs.Fields.{unless}
use Rattle.fields.proofs.JoinedLines.{word-is}
use Rattle.fields.proofs.Chains.{unless-passed}
use Rattle.statements.specs.Lines.{circuit_word, is_head, head_refusal, head_of}
use Rattle.netlist.specs.Circuits.{Netlist}
use Rattle.netlist.specs.Parsing.{Parse, accepted, rejected, body_of, parse_of, on_parse}
use Rattle.netlist.proofs.Acceptance.{text-read-through}
use Rattle.tables.specs.TableLines.{table_word, is_table, is_table_head, table_head_refusal}
use Rattle.tables.specs.TableParsing.{TableParse, accepted_table, rejected_table, table_of}
use Rattle.tables.specs.Tables.{TruthTable}
use Rattle.tables.proofs.TableAcceptance.{table-read-through}
use Rattle.devices.specs.Describing.{described, refused_at, on_description, of_circuit, of_table, description_of}
use Rattle.devices.specs.Devices.{circuit_problem, table_problem}
use Rattle.devices.specs.Problems.{Problem}
use Rattle.devices.proofs.Descriptions.{table-text, circuit-text}

pub circuits-as-before : {A : Type 0} (found : Problem → A) (refuse : ℕ → ℕ → A) (text : List ℕ) → is_table text ≡ false
    → on_description found refuse (description_of text) ≡ on_parse (λ n. found (circuit_problem n)) refuse (parse_of text)
circuits-as-before {A} found refuse text e = ap (on_description found refuse) (circuit-text text e) ∙ go (parse_of text)
  where
    go : (p : Parse) → on_description found refuse (of_circuit p) ≡ on_parse (λ n. found (circuit_problem n)) refuse p
    go (accepted n) = refl
    go (rejected number place) = refl

-- the two words differ, so a table's first line is no head of a circuit
no-head : (text : List ℕ) → is_table text ≡ true → is_head (before line_end text) ≡ false
unfolding is_table is_head same_bytes
no-head text e = go (is_head (before line_end text)) refl
  where
    go : (b : Bool) → is_head (before line_end text) ≡ b → is_head (before line_end text) ≡ false
    go false h = h
    go true h =
        let word = sym (same-equal (field_of (before line_end text) 0) table_word e) ∙ word-is (before line_end text) circuit_word 1 6 h in
        absurd (false≢true (ap (λ (w : List ℕ). same_bytes w table_word) (sym word)))

pub table-unparsed : (text : List ℕ) → is_table text ≡ true → length text ≤ text_bytes → parse_of text ≡ rejected 2 1
unfolding parse_of head_refusal unless
table-unparsed text e few =
    rw (le-ltb text_bytes (length text) few, no-head text e) (go (has_byte line_end text))
  where
    go : (b : Bool) → cond (eqb (unless b 2 2) 0) (body_of (head_of (before line_end text)) (after line_end text)) (rejected (unless b 2 2) 1) ≡ rejected 2 1
    go true = refl
    go false = refl

-- What accepted texts describe.

-- an accepted table has its word
told : (text : List ℕ) (t : TruthTable) → table_of text ≡ accepted_table t → is_table text ≡ true
unfolding table_head_refusal is_table_head is_table
told text t e =
    let l = before line_end text in
    let passes = (unless-passed (is_table_head l) 2 _ (lit≤ tt) (unless-passed (has_byte line_end text) 2 _ (lit≤ tt) (table-read-through text t e).0).1).0 in
    ap (λ (w : List ℕ). same_bytes w table_word) (word-is l table_word 1 4 passes) ∙ same_self table_word

pub circuit-described : (text : List ℕ) (n : Netlist) → parse_of text ≡ accepted n → description_of text ≡ described (circuit_problem n)
unfolding head_refusal
circuit-described text n e = go (is_table text) refl
  where
    passes : is_head (before line_end text) ≡ true
    passes = (unless-passed (is_head (before line_end text)) 2 _ (lit≤ tt) (unless-passed (has_byte line_end text) 2 _ (lit≤ tt) (text-read-through text n e).0).1).0

    go : (b : Bool) → is_table text ≡ b → description_of text ≡ described (circuit_problem n)
    go true t = clash (sym passes ∙ no-head text t)
    go false t = circuit-text text t ∙ ap of_circuit e

pub table-described : (text : List ℕ) (t : TruthTable) → table_of text ≡ accepted_table t → description_of text ≡ described (table_problem t)
table-described text t e = table-text text (told text t e) ∙ ap of_table e

-- every text that describes something is accepted as a circuit or as a table
pub described-from : (text : List ℕ) (p : Problem) → description_of text ≡ described p
    → ((n : Netlist) × (parse_of text ≡ accepted n) × (circuit_problem n ≡ p)) ⊎ ((t : TruthTable) × (table_of text ≡ accepted_table t) × (table_problem t ≡ p))
described-from text p e = go (is_table text) refl
  where
    same : {a : Problem} → described a ≡ described p → a ≡ p
    same {a} q = ap (on_description (λ x. x) (λ number place. p)) q

    never : {X : Type 0} {number place : ℕ} → refused_at number place ≡ described p → X
    never q = absurd (false≢true (ap (on_description (λ x. true) (λ number place. false)) q))

    of-circuit : (q : Parse) → parse_of text ≡ q → of_circuit q ≡ described p → (n : Netlist) × (parse_of text ≡ accepted n) × (circuit_problem n ≡ p)
    of-circuit (accepted n) q d = (n, q, same d)
    of-circuit (rejected number place) q d = never d

    of-table : (q : TableParse) → table_of text ≡ q → of_table q ≡ described p → (t : TruthTable) × (table_of text ≡ accepted_table t) × (table_problem t ≡ p)
    of-table (accepted_table t) q d = (t, q, same d)
    of-table (rejected_table number place) q d = never d

    go : (b : Bool) → is_table text ≡ b
        → ((n : Netlist) × (parse_of text ≡ accepted n) × (circuit_problem n ≡ p)) ⊎ ((t : TruthTable) × (table_of text ≡ accepted_table t) × (table_problem t ≡ p))
    go true t = inr (of-table (table_of text) refl (sym (table-text text t) ∙ e))
    go false t = inl (of-circuit (parse_of text) refl (sym (circuit-text text t) ∙ e))
