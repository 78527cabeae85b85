-- The first line, and that of a gate or an output, is accepted as what it was written from, and no other line is:
--   head-told, gate-told, output-told    where the item is within its ranges
--   head-only, gate-only, output-only    a line that is accepted is the line of what it says
use mathlib.Core.Path.{◌≡◌, refl, ap, ap₂, ◌∙◌, subst}
use mathlib.Core.Bool.{true}
use mathlib.Core.List.{List, [], ◌∷◌, ◌++◌, map}
use Prim.Native.Nat.{ℕ, suc, ◌-◌, ◌<◌, ◌≤◌}
use native.Mathlib.Omega.{arith}
use lib.Dec.{lit≤}
use lib.IntN.{pos, nat_abs}
use lib.ListN.{length, get_or}
use Rattle.std.proofs.lemmas.Int.{ints}
use Rattle.integer.specs.ListTests.{any}
use Rattle.text.specs.Text.{comma, line_end, index_of, field_of, field_count}
use Rattle.writing.specs.Writing.{Small, decimal_to, decimal_of, integer_of, gather, number_field, numbers_of, line_of}
use Rattle.writing.proofs.LineFields.{AtMost, most-small, line-longest, lacks-append}
use Rattle.writing.proofs.Writings.{line-long, line-two, natural-length, integer-length}
use Rattle.fields.specs.Fields.{value_at, signed_value_at, is_line, unless, line_from}
use Rattle.statements.specs.Lines.{circuit_word, output_word, is_head, head_refusal, head_of, is_output, output_refusal, output_of}
use Rattle.gate_lines.specs.GateLines.{gate_word, is_gate, gate_refusal, gate_of}
use Rattle.gate_lines.specs.GateItems.{Gate, line_fields, GateRight}
use Rattle.statements.specs.LineForms.{output_from}
use Rattle.statements.proofs.FormsMeant.{head-form, output-form, output-joined, line-value, weight-value}
use Rattle.gate_lines.proofs.GateFormsMeant.{gate-formed}
use Rattle.gate_lines.proofs.GatesWritten.{fields-most, gate-passes, gate-says, fields-kept}
use Rattle.kinds.specs.Kinds.{kind_word}
use Rattle.statements.specs.declared.Head.{Head}
use Rattle.statements.specs.declared.Output.{Output}
use Rattle.kinds.proofs.KindWords.{kind-written, kind-only}
use Rattle.sections.proofs.LinesWritten.{Told}
use Rattle.fields.proofs.Chains.{unless-passed}
use Rattle.fields.proofs.JoinedLines.{end-added, two-words-ended, line-ended}
use Rattle.fields.proofs.PlainLines.{plain_value}
use Rattle.netlist.specs.CircuitText.{head_line, gate_line, output_line}
use Rattle.netlist.specs.Circuits.{Netlist}
use Rattle.netlist.specs.WellFormed.{OutputRight, WellFormed}

-- ---- the first line

abbrev pub head_written : Netlist → Head
head_written n = record { inputs = n.inputs; gates = length n.gates; outputs = length n.outputs; faults = length n.faults; cap = n.cap }

pub head-told : (n : Netlist) → WellFormed n → Told 20 head_refusal head_of (head_line n) (head_written n)
unfolding head_line head_refusal head_of unless index_of any line_of numbers_of gather number_field integer_of decimal_of decimal_to
head-told n w =
    record {
      word = circuit_word;
      numbers = map pos ns;
      is = refl;
      one_line = refl;
      passes = rw (
        (head-form.form (line_from circuit_word ns)).1 (ns, small, refl, refl),
        (head-form.range n.inputs (length n.gates) (length n.outputs) (length n.faults) n.cap small).1 (
          w.inputs-low,
          w.inputs-high,
          w.gates-high,
          w.outputs-low,
          w.outputs-high,
          w.faults-low,
          w.faults-high,
          w.cap-low,
          w.cap-high,
        ),
      );
      says = rw (at 0, at 1, at 2, at 3, at 4);
      short = line-longest circuit_word longest ns high;
    }
  where
    ns : List ℕ
    ns = n.inputs ∷ length n.gates ∷ length n.outputs ∷ length n.faults ∷ n.cap ∷ []

    -- their line has 20 bytes
    longest : List ℕ
    longest = 8 ∷ 48 ∷ 4 ∷ 32 ∷ 4 ∷ []

    high : AtMost longest ns
    high = (w.inputs-high, (w.gates-high, (w.outputs-high, (w.faults-high, (w.cap-high, tt)))))

    small : Small ns
    small = most-small longest ns refl high

    at : (k : ℕ) → value_at (line_from circuit_word ns) (suc k) ≡ get_or ns k 0
    at k = plain_value circuit_word ns small refl k

pub head-only : (l : List ℕ) (n : Netlist) → head_refusal l ≡ 0 → head_of l ≡ head_written n → l ++ (line_end ∷ []) ≡ head_line n
unfolding head_refusal is_head head_of head_line
head-only l n e is =
    line-ended l circuit_word 5 (unless-passed (is_line l circuit_word 1 6) 2 _ (lit≤ tt) e).0
    ∙ ap (λ (h : Head). line_of circuit_word (pos h.inputs ∷ pos h.gates ∷ pos h.outputs ∷ pos h.faults ∷ pos h.cap ∷ [])) is

-- ---- gates

pub gate-told : (own : ℕ) (g : Gate) → own ≤ 56 → GateRight own g → Told 22 (gate_refusal own) gate_of (gate_line g) g
unfolding gate_line index_of line_of numbers_of gather number_field integer_of decimal_of decimal_to
gate-told own g h r =
    record {
      word = word;
      numbers = map pos (line_fields g);
      is = refl;
      one_line = lacks-append line_end (gate_word ++ (comma ∷ [])) (kind_word g.kind) refl (kind-written g.kind).one_line;
      passes = gate-passes own g h r;
      says = gate-says own g h r;
      short = omega (arith, line-longest word longest (line_fields g) (fields-most own g h r), line-long word (map pos longest), (kind-written g.kind).short);
    }
  where
    word : List ℕ
    word = gate_word ++ (comma ∷ kind_word g.kind)

    -- their line has 22 bytes after a kind of four
    longest : List ℕ
    longest = 56 ∷ 56 ∷ 56 ∷ 56 ∷ []

pub gate-only : (own : ℕ) (l : List ℕ) → gate_refusal own l ≡ 0 → l ++ (line_end ∷ []) ≡ gate_line (gate_of l)
unfolding gate_refusal gate_of gate_line
gate-only own l e =
    let f = gate-formed l (unless-passed (is_gate l) 2 _ (lit≤ tt) e).0 in
    let all : field_count l ≡ suc (suc (field_count l - 2)) = omega (arith, f.some) in
    two-words-ended l gate_word (field_count l - 2) (subst (λ (n : ℕ). is_line l gate_word 2 n ≡ true) all f.numbers)
    ∙ ap₂ (λ (w ns : List ℕ). line_of (gate_word ++ (comma ∷ w)) (map pos ns)) (kind-only (field_of l 1) f.known) (fields-kept own l e)

-- ---- outputs

pub output-told : (top : ℕ) (o : Output) → top ≤ 56 → OutputRight top o → Told 14 (output_refusal top) output_of (output_line o) o
unfolding output_line output_refusal output_of unless index_of
output-told top o h r =
    record {
      word = output_word;
      numbers = pos o.line ∷ o.weight ∷ [];
      is = refl;
      one_line = refl;
      passes = rw (
        (output-form.form (output_from o.line o.weight)).1 (o.line, o.weight, small, near, refl),
        (output-form.range o.line o.weight small near).1 (r.line_low, omega (arith, r.line-high), omega (arith, ints, r.weight-high), omega (arith, ints, r.weight-high), λ z. omega (arith, ints, r.weight-low, z)),
        (output-form.exists top o.line o.weight small).1 r.line-high,
      );
      says = rw (line-value o.line o.weight small, weight-value o.line o.weight small near);
      short = omega (arith, line-two output_word (pos o.line) o.weight, natural-length 1 o.line (omega (arith, r.line-high)), integer-length 1 o.weight (omega (arith, r.weight-high)));
    }
  where
    small : o.line < 10000
    small = omega (arith, r.line-high)

    near : nat_abs o.weight < 10000
    near = omega (arith, r.weight-high)

pub output-only : (top : ℕ) (l : List ℕ) → output_refusal top l ≡ 0 → l ++ (line_end ∷ []) ≡ output_line (output_of l)
unfolding output_refusal output_of output_line
output-only top l e =
    let formed = unless-passed (is_output l) 2 _ (lit≤ tt) e in
    end-added l output_word (pos (value_at l 1) ∷ signed_value_at l 2 ∷ []) (output-joined l formed.0).0
