-- The fault lines of a text: how they are refused and written, and what a right fault is (document 01, "The circuit text"; document 02, note 8):
--   "Q lines `fault,LINE,VALUE`, with one to three LINE,VALUE pairs: LINE 1 to 56 and rising, VALUE 0 or 1."
--   "A fault line may read `bridge,I,J` with inputs I below J" "Plans of circuits and tables may mix bridges and stuck lines, one bridge to a line."
use Rattle.std.specs.Prelude.{ℕ, zero, suc, ◌<◌, ◌≤◌, cond, List, [], ◌∷◌, ◌++◌, eqb, get_or, ℤ, pos, ◌⊎◌, ◌≡◌}
use Rattle.writing.specs.Writing.{line_of}
use Rattle.statements.specs.Lines.{fault_word, bridge_word, fault_refusal, fault_line_refusal}
use Rattle.statements.specs.Items.{Fault}
use Rattle.statements.specs.declared.Pair.{Pair}
use Rattle.statements.specs.Items.{free, no_bridge, sound}

-- the j-th of them, from 0, in a text of so many inputs; the last line that may be stuck is `top`
abbrev pub nth_fault_refusal : ℕ → ℕ → ℕ → List ℕ → ℕ
nth_fault_refusal inputs top j l = fault_line_refusal inputs top l

-- as it was before there were bridges: every fault line is of stuck lines
abbrev pub nth_stuck_refusal : ℕ → ℕ → List ℕ → ℕ
nth_stuck_refusal top j l = fault_refusal top l

-- a pair that is not there is `free`; one that is there has a line above `last`
abbrev pub Above : ℕ → ℕ → Pair → Type 0
Above last top s = (s ≡ free) ⊎ ((last < s.line) × (s.line ≤ top))

-- a fault of stuck lines
pub record StuckFault (top : ℕ) (f : Fault) : Type 0 where
  pub first-low : 1 ≤ f.first.line
  pub first-high : f.first.line ≤ top
  pub second : Above f.first.line top f.second
  pub third : Above f.second.line top f.third
  pub no_gap : f.second.line ≡ 0 → f.third.line ≡ 0
  pub unbridged : f.bridge ≡ no_bridge

-- a fault that bridges two inputs
pub record BridgeFault (inputs : ℕ) (f : Fault) : Type 0 where
  pub first-low : 1 ≤ f.bridge.first
  pub rise : f.bridge.first < f.bridge.second
  pub second-high : f.bridge.second ≤ inputs
  pub no-first : f.first ≡ free
  pub no_second : f.second ≡ free
  pub no_third : f.third ≡ free

abbrev pub FaultRight : ℕ → ℕ → Fault → Type 0
FaultRight inputs top f = StuckFault top f ⊎ BridgeFault inputs f

-- LINE and VALUE; nothing for a pair that is not there, which names line 0
unfoldable pub pair_written : Pair → List ℤ
pair_written s = cond (eqb s.line 0) [] (pos s.line ∷ pos (cond s.value 1 0) ∷ [])

unfoldable pub stuck_line : Fault → List ℕ
stuck_line f = line_of fault_word (pair_written f.first ++ (pair_written f.second ++ pair_written f.third))

unfoldable pub bridge_line : Fault → List ℕ
bridge_line f = line_of bridge_word (pos f.bridge.first ∷ pos f.bridge.second ∷ [])

-- a fault without a bridge names input 0 there
unfoldable pub fault_line : Fault → List ℕ
fault_line f = cond (eqb f.bridge.first 0) (stuck_line f) (bridge_line f)

-- "0 for the sound circuit, else 1 to Q"
abbrev pub fault_numbered : List Fault → ℕ → Fault
fault_numbered faults zero = sound
fault_numbered faults (suc k) = get_or faults k sound
