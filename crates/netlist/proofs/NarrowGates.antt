-- Gates as before there were any of more than two line fields:
--   gates-as-before    gate lines of other than five or six fields are refused by the same numbers, and say the same gates
use mathlib.Core.List.{List, []}
use mathlib.Core.Path.{◌≡◌}
use Prim.Native.Nat.{ℕ, ◌+◌, ◌<◌}
use Rattle.text.specs.Text.{before, line_end, field_count}
use Rattle.gate_lines.specs.GateLines.{gate_of, narrow_of}
use Rattle.gate_lines.proofs.FourFields.{other-fields}
use Rattle.sections.specs.Sections.{lines_from, lines_of}
use Rattle.sections.proofs.LinesRead.{lines-alike}
use Rattle.netlist.specs.Parsing.{nth_gate_refusal, nth_narrow_refusal}

pub gates-as-before : (inputs count place : ℕ) (rest : List ℕ)
    → ((k : ℕ) → k < count → (field_count (before line_end (lines_from k rest)) ≡ 5 → ⊥) × (field_count (before line_end (lines_from k rest)) ≡ 6 → ⊥))
    → lines_of (nth_gate_refusal inputs) gate_of count place rest [] ≡ lines_of (nth_narrow_refusal inputs) narrow_of count place rest []
gates-as-before inputs count place rest narrow =
    lines-alike (nth_gate_refusal inputs) (nth_narrow_refusal inputs) gate_of narrow_of count place rest []
    (λ k h j. other-fields (inputs + j + 1) (before line_end (lines_from k rest)) (narrow k h).0 (narrow k h).1)
