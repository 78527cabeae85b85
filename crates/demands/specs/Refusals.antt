-- When each call refuses, by the paper's table (document 01, "What is returned") and document 02's notes 5 and 8, in their words.
use Rattle.std.specs.Prelude.{ℕ, ◌*◌, ◌%◌, ◌^◌, ◌<◌, ◌≤◌, List, ◌⊎◌, ◌≡◌, ℤ, nat_abs, length}
use Rattle.std.specs.Int.Bits.{bit_and}
use Rattle.integer.specs.Tab.{nth}
use Rattle.screen.specs.Answers.{inputs_of}
use Rattle.transform.specs.Spectrum.{coefficient_of}
use Rattle.faults.specs.Arguments.{StuckArguments, OpenedArguments}
use Rattle.faults.specs.Faults.{kept_inputs, opened_sum_at}
use Rattle.bridges.specs.BridgeArguments.{BridgeArguments}
use Rattle.bridges.specs.Bridges.{pair_sum}
use Rattle.netlist.specs.Circuits.{Netlist}
use Rattle.tables.specs.Tables.{TruthTable}
use Rattle.devices.specs.Problems.{Problem}
use Rattle.planner.specs.Demand.{Possible, Silent, Hidden, FirstFault}
use Rattle.demands.specs.Tests.{NoRefusal, RefusedIf, AtNone}

-- Lists

-- 9: "list length is not 2, 4, 8 .. 2,048"
abbrev pub PowerLength : List ℤ → Type 0
PowerLength l = (k : ℕ) × (1 ≤ k) × (k ≤ 11) × (length l ≡ 2 ^ k)

-- "the first" place below n of a kind
pub record FirstOf (n : ℕ) (Bad : ℕ → Type 0) (place : ℕ) : Type 0 where
  pub below : place < n
  pub here : Bad place
  pub none-earlier : (p : ℕ) → p < place → Bad p → ⊥

-- 10: "a row or coefficient out of range; the first", where the range is from -B to B
abbrev pub BeyondAt : ℕ → List ℤ → ℕ → Type 0
BeyondAt B l p = B < nat_abs (nth l p)

-- 11, on the way back: "a sum that does not divide, or gives a row out of range; the first"
abbrev pub NoRowAt : List ℤ → ℕ → Type 0
NoRowAt c p = (nat_abs (coefficient_of c p) % length c ≡ 0 → ⊥) ⊎ (1000 * length c < nat_abs (coefficient_of c p))

-- 11, for opened lines: "exactly when a sum does not divide"
abbrev pub UndividedAt : List ℤ → List ℕ → ℕ → Type 0
UndividedAt c values p = nat_abs (opened_sum_at c values p) % 2 ^ length values ≡ 0 → ⊥

-- 11, for a bridge: "a list in which a half does not come out whole gets 11 at the first such label"
abbrev pub UnhalvedAt : List ℤ → ℕ → ℕ → ℕ → Type 0
UnhalvedAt c i j p = nat_abs (pair_sum i j (nth c) p) % 2 ≡ 0 → ⊥

-- 9, 12, 10, 8: a list of numbers from -B to B, right arguments, and room for what is due
abbrev pub ListTests : ℕ → Type 0 → List ℤ → ℕ → ℕ → (ℕ → ℕ → Type 0) → ℕ → ℕ → Type 0
ListTests B Right l room due next =
    RefusedIf 9 (AtNone (PowerLength l → ⊥))
    (RefusedIf 12 (AtNone (Right → ⊥))
    (RefusedIf 10 (FirstOf (length l) (BeyondAt B l))
    (RefusedIf 8 (AtNone (room < due)) next)))

abbrev pub CoefficientTests : List ℤ → ℕ → ℕ → ℕ → Type 0
CoefficientTests rows label = ListTests 1000 (label < length rows) rows 0 0 NoRefusal

abbrev pub SpectrumTests : List ℤ → ℕ → ℕ → ℕ → Type 0
SpectrumTests rows room = ListTests 1000 Unit rows room (length rows) NoRefusal

abbrev pub RowsTests : List ℤ → ℕ → ℕ → ℕ → Type 0
RowsTests c room = ListTests 2048000 Unit c room (length c) (RefusedIf 11 (FirstOf (length c) (NoRowAt c)) NoRefusal)

abbrev pub StuckTests : List ℤ → List ℕ → List ℕ → ℕ → ℕ → ℕ → Type 0
StuckTests c inputs values room = ListTests 2048000 (StuckArguments (inputs_of (length c)) inputs values) c room (length c) NoRefusal

abbrev pub OpenedTests : List ℤ → List ℕ → ℕ → ℕ → ℕ → Type 0
OpenedTests c values room =
    ListTests 2048000 (OpenedArguments (inputs_of (length c)) values) c room (2 ^ kept_inputs c values)
    (RefusedIf 11 (FirstOf (2 ^ kept_inputs c values) (UndividedAt c values)) NoRefusal)

-- "12 is given unless I is below J and both are inputs of the list"
abbrev pub BridgedTests : List ℤ → ℕ → ℕ → ℕ → ℕ → ℕ → Type 0
BridgedTests c i j room =
    ListTests 2048000 (BridgeArguments (inputs_of (length c)) i j) c room (length c) (RefusedIf 11 (FirstOf (length c) (UnhalvedAt c i j)) NoRefusal)

-- Texts: the tests on what an accepted text states

-- "0 for the sound circuit, else 1 to Q, otherwise 12"
abbrev pub CircuitTests : ℕ → ℕ → Problem → ℕ → ℕ → Type 0
CircuitTests fault room p = RefusedIf 12 (AtNone (length p.faulted < fault)) (RefusedIf 8 (AtNone (room < 2 ^ p.inputs)) NoRefusal)

-- 13: "the first silent fault"; 16: "the first hidden fault, after 13 and before 14" (document 02, note 5)
abbrev pub FaultTests : Problem → (ℕ → ℕ → Type 0) → ℕ → ℕ → Type 0
FaultTests p next = RefusedIf 13 (FirstFault p (Silent p)) (RefusedIf 16 (FirstFault p (Hidden p)) next)

abbrev pub PlanTests : ℕ → Problem → ℕ → ℕ → Type 0
PlanTests work p = RefusedIf 8 (AtNone (work < 4608)) (FaultTests p (RefusedIf 14 (AtNone (Possible p → ⊥)) NoRefusal))

-- "12 unless the mask is below 2^N and values lie within it"
abbrev pub FixesInputs : Netlist → ℕ → ℕ → Type 0
FixesInputs n mask values = (mask < 2 ^ n.inputs) × (bit_and values mask ≡ values)

abbrev pub ReadingTests : ℕ → ℕ → Netlist → ℕ → ℕ → Type 0
ReadingTests mask values n = RefusedIf 12 (AtNone (FixesInputs n mask values → ⊥)) NoRefusal

-- the fault's number is one of the circuit's
abbrev pub CircuitFault : Netlist → ℕ → Type 0
CircuitFault n f = (1 ≤ f) × (f ≤ length n.faults)

-- or the table's
abbrev pub TableFault : TruthTable → ℕ → Type 0
TableFault t f = (1 ≤ f) × (f ≤ length t.faults)

-- "given a fault number too (12 unless 1 to Q)"
abbrev pub PairTests : ℕ → ℕ → ℕ → Netlist → ℕ → ℕ → Type 0
PairTests fault mask values n = RefusedIf 12 (AtNone (FixesInputs n mask values × CircuitFault n fault → ⊥)) NoRefusal
