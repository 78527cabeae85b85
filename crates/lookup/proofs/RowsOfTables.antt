-- The rows of a table:
--   sound-mark                              a row of the sound table has its own mark
--   length-table-rows, table-row-is         there are 2^N rows, each by its rule
--   mark-small, table-rows-within, -small   of a right table each is 0, 1 or 2, under every fault
--   stuck-row-is                            without a bridge a row has its stuck inputs replaced, and nothing else
--   stuck-table-rows                        under stuck inputs the rows are the sound ones with those replaced, so the formulas over stuck inputs hold
--   bridged-table-rows                      under a bridge they are the sound ones with both its inputs replaced by their AND
--   table-fault-of-inputs                   every fault of a right table names inputs only
--   table-room, any-table-fault             there are at most 256 rows, and a fault of the table's inputs is one of 8 inputs
--   rows_as_marked                          the rows of a table are those of its inputs and marks
use mathlib.Core.Path.{◌≡◌, refl, sym, ap, ◌∙◌, subst}
use mathlib.Core.List.{List}
use mathlib.Core.Logic.{inr}
use Prim.Native.Nat.{ℕ, zero, suc, ◌^◌, ◌≤◌, ◌<◌, zero-le}
use native.Mathlib.Nat.{lt_of_not-le, le_trans}
use native.Mathlib.Decide.{dec_le}
use native.Mathlib.Omega.{arith}
use lib.Dec.{lit≤}
use lib.IntN.{ℤ, pos, nat_abs}
use lib.ListN.{length, take, get_or, get_or-eq_default}
use lib.Pow.{pow_mono}
use lib.Seq.{take_all}
use Rattle.integer.specs.Tab.{tab, nth, Within}
use Rattle.integer.proofs.Bounds.{within_more}
use Rattle.integer.proofs.Tabs.{length-tab, get_or-tab, tab-ext}
use Rattle.faults.specs.Faults.{stuck_row, stuck_rows, bridged_row, bridged_rows}
use Rattle.sections.specs.FaultLines.{BridgeFault}
use Rattle.sections.proofs.FaultsRight.{free-line}
use Rattle.statements.specs.Items.{no_bridge, sound}
use Rattle.statements.specs.declared.Bridge.{Bridge}
use Rattle.statements.specs.Items.{Fault}
use Rattle.tables.specs.Tables.{TruthTable, table_fault_at}
use Rattle.tables.specs.TableWellFormed.{TableRight}
use Rattle.lookup.specs.StuckPairs.{pairs_of, OfInputs}
use Rattle.lookup.specs.TableRows.{stuck_row_number, bridge_row, fault_row, table_row, table_rows, table_of_marks}
use Rattle.lookup.specs.Steps.{pair_row}
use Rattle.lookup.proofs.StuckPairs.{sound-of-inputs, fault-of-inputs}
use Rattle.lookup.proofs.PairRows.{pair_none, stuck_row_steps, bridge-none, bridge-some, fault-row-below}

no_pairs : (f : Fault) (x : ℕ) → f.first.line ≡ 0 → f.second.line ≡ 0 → f.third.line ≡ 0 → stuck_row_number f x ≡ x
no_pairs f x first second third =
    stuck_row_steps f x
    ∙ pair_none f.third (pair_row f.second (pair_row f.first x)) third
    ∙ pair_none f.second (pair_row f.first x) second
    ∙ pair_none f.first x first

pub sound-mark : (x : ℕ) → fault_row sound x ≡ x
unfolding fault_row
sound-mark x = no_pairs sound (bridge_row no_bridge x) refl refl refl ∙ bridge-none no_bridge x refl

-- with no bridge, and with nothing else

pub stuck-row-is : (f : Fault) (x : ℕ) → f.bridge ≡ no_bridge → fault_row f x ≡ stuck_row_number f x
unfolding fault_row
stuck-row-is f x none = ap (stuck_row_number f) (bridge-none f.bridge x (ap (λ (b : Bridge). b.first) none))

bridged-row-is : (inputs : ℕ) (f : Fault) (x : ℕ) → BridgeFault inputs f → fault_row f x ≡ bridged_row f.bridge.first f.bridge.second x
unfolding fault_row
bridged-row-is inputs f x b =
    let low = b.first-low in
    no_pairs f (bridge_row f.bridge x) (free-line b.no-first) (free-line b.no_second) (free-line b.no_third)
    ∙ bridge-some f.bridge x (λ e. absurd (omega arith))

-- a mark past the last one is read as 0
pub mark-small : (t : TruthTable) → TableRight t → (y : ℕ) → get_or t.marks y 0 ≤ 2
mark-small t right y = pick (dec_le (length t.marks) y)
  where
    pick : Dec (length t.marks ≤ y) → get_or t.marks y 0 ≤ 2
    pick (yes h) = subst (λ (n : ℕ). n ≤ 2) (sym (get_or-eq_default t.marks 0 h)) zero-le
    pick (no h) = omega (arith, right.marks-doubled y (lt_of_not-le h))

module _ (t : TruthTable) (f : Fault) where
  pub length-table-rows : length (table_rows t f) ≡ 2 ^ t.inputs
  unfolding table_rows
  length-table-rows = length-tab (2 ^ t.inputs) (table_row t f)

  pub table-row-is : (x : ℕ) → x < 2 ^ t.inputs → nth (table_rows t f) x ≡ table_row t f x
  unfolding table_rows
  table-row-is x h = get_or-tab (2 ^ t.inputs) (table_row t f) (pos 0) x h

  pub table-rows-within : TableRight t → Within 2 (table_rows t f)
  unfolding table_row
  table-rows-within right x h = subst (λ (z : ℤ). nat_abs z ≤ 2) (sym (table-row-is x (omega (arith, length-table-rows)))) (mark-small t right (fault_row f x))

  -- as the calls ask it of the rows of any text
  pub table-rows-small : TableRight t → Within 60 (table_rows t f)
  table-rows-small right = within_more {B = 2} {C = 60} (table_rows t f) (lit≤ tt) (table-rows-within right)

  row-replaced : (x : ℕ) → table_row t f x ≡ table_row t sound (fault_row f x)
  unfolding table_row
  row-replaced x = ap (λ (y : ℕ). pos (get_or t.marks y 0)) (sym (sound-mark (fault_row f x)))

module _ (t : TruthTable) (f : Fault) where
  -- the sound rows, each at the row that the fault makes of it
  rows_at : (g : ℕ → ℕ) → OfInputs t.inputs f → ((x : ℕ) → fault_row f x ≡ g x) → table_rows t f ≡ tab (length (table_rows t sound)) (λ x. nth (table_rows t sound) (g x))
  unfolding table_rows
  rows_at g inputs-only is =
      tab-ext (2 ^ t.inputs) (table_row t f) (λ x. nth (table_rows t sound) (g x))
      (λ x h. row-replaced t f x ∙ sym (table-row-is t sound (fault_row f x) (fault-row-below t.inputs f x inputs-only h)) ∙ ap (nth (table_rows t sound)) (is x))
      ∙ ap (λ (k : ℕ). tab k (λ x. nth (table_rows t sound) (g x))) (sym (length-table-rows t sound))

  pub stuck-table-rows : f.bridge ≡ no_bridge → OfInputs t.inputs f → table_rows t f ≡ stuck_rows (pairs_of f) (table_rows t sound)
  unfolding stuck_rows stuck_row
  stuck-table-rows none inputs-only = rows_at (stuck_row_number f) inputs-only (λ x. stuck-row-is f x none)

  pub bridged-table-rows : BridgeFault t.inputs f → table_rows t f ≡ bridged_rows f.bridge.first f.bridge.second (table_rows t sound)
  unfolding bridged_rows
  bridged-table-rows b = rows_at (bridged_row f.bridge.first f.bridge.second) (fault-of-inputs t.inputs f (inr b)) (λ x. bridged-row-is t.inputs f x b)

pub table-fault-of-inputs : (t : TruthTable) (k : ℕ) → TableRight t → OfInputs t.inputs (table_fault_at t k)
table-fault-of-inputs t zero right = sound-of-inputs t.inputs
table-fault-of-inputs t (suc k) right = pick (dec_le (length t.faults) k)
  where
    pick : Dec (length t.faults ≤ k) → OfInputs t.inputs (get_or t.faults k sound)
    pick (yes h) = subst (OfInputs t.inputs) (sym (get_or-eq_default t.faults sound h)) (sound-of-inputs t.inputs)
    pick (no h) = fault-of-inputs t.inputs (get_or t.faults k sound) (right.faults-right k (lt_of_not-le h))

-- The code's limits.

module _ (inputs : ℕ) (few : inputs ≤ 8) where
  pub table-room : 2 ^ inputs ≤ 256
  table-room = pow_mono {j = 8} few

  pub any-table-fault : (f : Fault) → OfInputs inputs f → OfInputs 8 f
  any-table-fault f o =
      record {
        first = le_trans o.first few;
        second = le_trans o.second few;
        third = le_trans o.third few;
        bridge-rises = o.bridge-rises;
        bridge-high = le_trans o.bridge-high few;
      }

-- whatever else the table has
pub rows_as_marked : (t : TruthTable) (f : Fault) → length t.marks ≡ 2 ^ t.inputs → table_rows (table_of_marks t.inputs (take (2 ^ t.inputs) t.marks)) f ≡ table_rows t f
unfolding table_rows table_row
rows_as_marked t f all = ap (λ (marks : List ℕ). tab (2 ^ t.inputs) (λ x. pos (get_or marks (fault_row f x) 0))) (take_all (2 ^ t.inputs) t.marks (omega (arith, all)))
