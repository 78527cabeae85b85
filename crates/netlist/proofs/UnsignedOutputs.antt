-- Outputs as before weights had a sign:
--   outputs-as-before    output lines of which no WEIGHT begins with `-` are refused by the same numbers, and say the same outputs
use mathlib.Core.List.{List, []}
use mathlib.Core.Logic.{◌≢◌}
use mathlib.Core.Path.{◌≡◌}
use Prim.Native.Nat.{ℕ, ◌<◌}
use lib.ListN.{get_or}
use Rattle.text.specs.Text.{before, line_end, field_of, minus_sign}
use Rattle.statements.specs.Lines.{output_of, unsigned_of}
use Rattle.statements.proofs.UnsignedWeights.{unsigned-line}
use Rattle.sections.specs.Sections.{lines_from, lines_of}
use Rattle.sections.proofs.LinesRead.{lines-alike}
use Rattle.netlist.specs.Parsing.{nth_output_refusal, nth_unsigned_refusal}

pub outputs-as-before : (top count place : ℕ) (rest : List ℕ) → ((k : ℕ) → k < count → get_or (field_of (before line_end (lines_from k rest)) 2) 0 0 ≢ minus_sign)
    → lines_of (nth_output_refusal top) output_of count place rest [] ≡ lines_of (nth_unsigned_refusal top) unsigned_of count place rest []
outputs-as-before top count place rest no_sign =
    lines-alike (nth_output_refusal top) (nth_unsigned_refusal top) output_of unsigned_of count place rest []
    (λ k h j. let same = unsigned-line (before line_end (lines_from k rest)) (no_sign k h) top in (same.0, λ passes. same.1))
