-- The parser's stages put together, in the words of their answers:
--   gates-stop, outputs-stop, faults-stop    a stage that refuses a line refuses the text
--   bytes_left, all_read                     what is left after the last line refuses it, else it is accepted
--   too_long, no-head, head-stop, head_passed    the same for the text's length and first line
use mathlib.Core.Path.{◌≡◌, sym, ◌∙◌}
use mathlib.Core.List.{List}
use Prim.Native.Nat.{ℕ, ◌+◌, ◌<◌, ◌≤◌}
use native.Mathlib.Omega.{arith}
use lib.ListN.{length, take}
use borrow.Author.Tests.{lt-ltb, le-ltb, ne_eqb}
use Rattle.refusals.specs.Refusals.{refusal_number, refusal_place}
use Rattle.refusals.specs.declared.Refusal.{Refusal}
use Rattle.text.specs.Text.{text_bytes}
use Rattle.statements.specs.Lines.{head_refusal, head_of}
use Rattle.statements.specs.Items.{Fault}
use Rattle.statements.specs.declared.Head.{Head}
use Rattle.statements.specs.declared.Output.{Output}
use Rattle.sections.specs.Sections.{items, line_refused, FirstLine, NoLine}
use Rattle.gate_lines.specs.GateItems.{Gate}
use Rattle.sections.proofs.LineLoops.{line-number, missing-number, refusal-numbered}
use Rattle.netlist.specs.CircuitArrays.{netlist_of}
use Rattle.netlist.specs.Parsing.{gates_in, outputs_in, faults_in, accepted, rejected, end_of, body_of, parse_of}
use Rattle.netlist.specs.declared.Circuit.TheInside.{Inside}

-- the three stages, each after the one before: `text` stands after the first line, and each stage leaves what stands after its lines
module _ (h : Head) (text : List ℕ) where
  pub gates-stop : {number place : ℕ} → line_refused number place ≡ gates_in h text → rejected number place ≡ body_of h text
  unfolding body_of
  gates-stop e = rw (← e)

  module _ {gates : List Gate} (after-gates : List ℕ) (gates-read : items gates after-gates ≡ gates_in h text) where
    pub outputs-stop : {number place : ℕ} → line_refused number place ≡ outputs_in h after-gates → rejected number place ≡ body_of h text
    unfolding body_of
    outputs-stop e = rw (← gates-read, ← e)

    module _ {outputs : List Output} (after-outputs : List ℕ) (outputs-read : items outputs after-outputs ≡ outputs_in h after-gates) where
      pub faults-stop : {number place : ℕ} → line_refused number place ≡ faults_in h after-outputs → rejected number place ≡ body_of h text
      unfolding body_of
      faults-stop e = rw (← gates-read, ← outputs-read, ← e)

      module _ {faults : List Fault} (rest : List ℕ) (faults-read : items faults rest ≡ faults_in h after-outputs) where
        through : body_of h text ≡ end_of h gates outputs faults rest
        unfolding body_of
        through = rw (← gates-read, ← outputs-read, ← faults-read)

        pub bytes_left : (length rest ≡ 0 → ⊥) → rejected 7 (h.gates + h.outputs + h.faults + 2) ≡ body_of h text
        unfolding end_of
        bytes_left k = sym (through ∙ rw (lt-ltb 0 (length rest) (omega (arith, k))))

        pub all_read : length rest ≡ 0 → (c : Inside) → c.head ≡ h → take h.gates c.gates ≡ gates → take h.outputs c.outputs ≡ outputs → take h.faults c.faults ≡ faults
            → accepted (netlist_of c) ≡ body_of h text
        unfolding end_of
        all_read k c e g o f = rw (e, g, o, f) (sym (through ∙ rw (le-ltb 0 (length rest) (omega (arith, k)))))

module _ (text : List ℕ) where
  pub too_long : text_bytes < length text → parse_of text ≡ rejected 1 0
  unfolding parse_of
  too_long k = rw (lt-ltb text_bytes (length text) k)

  module _ (few : length text ≤ text_bytes) where
    pub no-head : (r : Refusal) → NoLine text 1 r → rejected (refusal_number r) (refusal_place r) ≡ parse_of text
    unfolding parse_of
    no-head r none =
        rw (le-ltb text_bytes (length text) few, missing-number head_refusal text 1 r none, none.2, ne_eqb (refusal_number r) 0 (refusal-numbered r))

    module _ {line : List ℕ} (rest : List ℕ) (at : FirstLine text line rest) where
      pub head-stop : (r : Refusal) → refusal_number r ≡ head_refusal line → refusal_place r ≡ 1 → rejected (refusal_number r) (refusal_place r) ≡ parse_of text
      unfolding parse_of
      head-stop r e place =
          rw (le-ltb text_bytes (length text) few, line-number head_refusal text line rest at, ← e, place, ne_eqb (refusal_number r) 0 (refusal-numbered r))

      pub head_passed : head_refusal line ≡ 0 → body_of (head_of line) rest ≡ parse_of text
      unfolding parse_of
      head_passed z =
          rw (le-ltb text_bytes (length text) few, line-number head_refusal text line rest at, z, at.1, at.2)
