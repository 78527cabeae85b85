-- The opened-line call and the circuit call agree (document 01, "Spectrum under a fault, from coefficients alone"):
--   opened-rows    a circuit with its fault's lines opened and set to their values has the rows of the circuit under that fault
-- and for fault k of an accepted text, where it is no bridge, its lines inner or not, the opened-line call on the spectrum of the circuit with those lines opened:
--   opened-lines-answer, -done    answers as the circuit call does for fault k, so Done where there is room
--   opened-lines-agree            writes what the circuit call writes for fault k
use mathlib.Core.Path.{◌≡◌, refl, sym, ap, ap₂, ◌∙◌, subst}
use mathlib.Core.Bool.{Bool, true, false, cond}
use mathlib.Core.List.{List, [], ◌∷◌, map}
use Prim.Native.Nat.{ℕ, suc, ◌+◌, ◌*◌, ◌-◌, ◌/◌, ◌%◌, ◌^◌, ◌≤◌, ◌<◌}
use native.Mathlib.Nat.{le_trans, mod-eq_of_lt, add-mul-mod_self_right, mul_assoc, mul-le-mul, le_refl}
use native.Mathlib.Omega.{arith}
use lib.Dec.{eqb, lit≤}
use lib.IntN.{ℤ, pos, nat_abs}
use lib.ListN.{length}
use lib.Pow.{pow-add, pow_mono, field}
use borrow.Author.Tests.{eqb-true}
use Rattle.integer.specs.Tab.{Within}
use Rattle.integer.proofs.Bounds.{within_more}
use Rattle.integer.proofs.Tabs.{length-tab, get_or-tab, tab-ext}
use Rattle.netlist.specs.Circuits.{Netlist, fault_at}
use Rattle.netlist.specs.Parsing.{accepted, parse_of}
use Rattle.sections.specs.FaultLines.{StuckFault}
use Rattle.netlist.specs.WellFormed.{WellFormed, top_of}
use Rattle.netlist.proofs.Acceptance.{well-formed}
use Rattle.columns.specs.Shown.{shown, applied_under}
use Rattle.simulation.specs.Rows.{row_value, rows_of}
use Rattle.simulation.proofs.RowBounds.{row_within}
use Rattle.statements.specs.Items.{no_bridge}
use Rattle.statements.specs.Items.{Fault}
use Rattle.statements.specs.declared.Pair.{Pair}
use Rattle.screen.specs.Answers.{Done, and_then, inputs_of}
use Rattle.transform.specs.Spectrum.{spectrum_of}
use Rattle.screen.proofs.Screens.{inputs-is, then-done}
use Rattle.transform.proofs.Spectra.{length-spectrum, within-spectrum}
use Rattle.faults.specs.Faults.{opened_row_number, opened_row, opened_rows, opened_right, kept_inputs, opened_answer, opened_spectrum_of}
use Rattle.faults.proofs.Arguments.{few-is, opened-binary}
use Rattle.faults.proofs.Digits.{digit, put_low_half, put-below, put-shows}
use Rattle.faults.proofs.Faulted.{opened_screen, none-undivided, opened-faulted}
use Rattle.faults.proofs.Opening.{Bits}
use Rattle.circuit.specs.CircuitCall.{room_answer, circuit_answer, circuit_spectrum}
use Rattle.lookup.specs.StuckPairs.{with_pair, present_pairs, pair_value, stuck_values}
use Rattle.agreement.specs.Opened.{driven_by, driven, opened_circuit_row, opened_circuit_rows}
use Rattle.agreement.proofs.Accepted.{named-stuck-fault, circuit-spectrum-is, circuit-answer-is, room-enough, room-answer}
use Rattle.lookup.proofs.StuckPairs.{with_none, pairs-some, pairs-few, values-bits, values-binary}
use Rattle.agreement.proofs.Pairs.{bit-back, shown_by, shown-by-pairs}
use Rattle.agreement.proofs.SameRows.{same_row}

-- The number of a row with the opened lines set.

-- one value set above the bits below n
module _ (n v x : ℕ) (h : x < 2 ^ n) (bit : v < 2) where
  set_below : v * 2 ^ n + x < 2 ^ suc n
  set_below = subst (λ (y : ℕ). y < 2 ^ suc n) (put_low_half n x h v) (put-below (suc n) n v x (omega arith) bit (le_trans h (pow_mono (omega arith))))

  set-shows : digit n (v * 2 ^ n + x) ≡ v
  set-shows = ap (digit n) (sym (put_low_half n x h v)) ∙ put-shows n v x bit

set-low : (n m v x : ℕ) → m ≤ n → (v * 2 ^ n + x) % 2 ^ m ≡ x % 2 ^ m
set-low n m v x h =
    let e : n ≡ (n - m) + m = omega arith in
    let p : v * 2 ^ n ≡ v * 2 ^ (n - m) * 2 ^ m = ap (λ (k : ℕ). v * 2 ^ k) e ∙ ap (λ (k : ℕ). v * k) (pow-add 2 (n - m) m) ∙ sym (mul_assoc v (2 ^ (n - m)) (2 ^ m)) in
    let q : v * 2 ^ n + x ≡ x + v * 2 ^ (n - m) * 2 ^ m = omega arith in
    ap (λ (k : ℕ). k % 2 ^ m) q ∙ add-mul-mod_self_right x (v * 2 ^ (n - m)) (2 ^ m)

-- the bits below m are those of x
number-low : (values : List ℕ) (n m x : ℕ) → m ≤ n → opened_row_number n values x % 2 ^ m ≡ x % 2 ^ m
unfolding opened_row_number
number-low [] n m x h = refl
number-low (v ∷ rest) n m x h = number-low rest (suc n) m (v * 2 ^ n + x) (omega arith) ∙ set-low n m v x h

number-below : (values : List ℕ) (n m x : ℕ) → m ≡ n + length values → x < 2 ^ n → Bits values → opened_row_number n values x < 2 ^ m
unfolding opened_row_number
number-below [] n m x e h b = let w : n ≡ m = omega arith in subst (λ (k : ℕ). x < 2 ^ k) w h
number-below (v ∷ rest) n m x e h b = number-below rest (suc n) m (v * 2 ^ n + x) (omega arith) (set_below n v x h b.0) b.1

-- bit n is the highest of the remainder by 2 ^ (n + 1)
bit-of-low : (n y : ℕ) → digit n y ≡ y % 2 ^ suc n / 2 ^ n
bit-of-low n y = let e : suc n ≡ 1 + n = omega arith in sym (ap (λ (k : ℕ). y % 2 ^ k / 2 ^ n) e ∙ field y 1 n)

-- the bits of y from n on are the values
abbrev Shows : ℕ → List ℕ → ℕ → Type 0
Shows n [] y = Unit {0}
Shows n (v ∷ rest) y = (digit n y ≡ v) × Shows (suc n) rest y

number-shows : (values : List ℕ) (n x : ℕ) → x < 2 ^ n → Bits values → Shows n values (opened_row_number n values x)
unfolding opened_row_number
number-shows [] n x h b = tt
number-shows (v ∷ rest) n x h b =
    let z = v * 2 ^ n + x in
    let same : digit n (opened_row_number (suc n) rest z) ≡ digit n z =
    bit-of-low n (opened_row_number (suc n) rest z) ∙ ap (λ (k : ℕ). k / 2 ^ n) (number-low rest (suc n) (suc n) z (omega arith)) ∙ sym (bit-of-low n z) in
    (same ∙ set-shows n v x h b.0, number-shows rest (suc n) z (set_below n v x h b.0) b.1)

-- The opened lines, driven by that row.

driven-same : (y i : ℕ) (s : Pair) → digit i y ≡ pair_value s → driven_by y i s ≡ s
driven-same y i s e =
    let with_value : Bool → Pair = λ v. record { line = s.line; value = v } in
    ap with_value (ap (λ (k : ℕ). eqb k 1) e ∙ bit-back s.value)

with-driven : (y i : ℕ) (s : Pair) (now rest : List Pair) → (s.line ≡ 0 → now ≡ rest) → (Shows (suc i) (map pair_value rest) y → now ≡ rest)
    → Shows i (map pair_value (with_pair s rest)) y → with_pair (driven_by y i s) now ≡ with_pair s rest
unfolding with_pair
with-driven y i s now rest none some h = go (eqb s.line 0) refl h
  where
    go : (b : Bool) → eqb s.line 0 ≡ b → Shows i (map pair_value (cond b rest (s ∷ rest))) y → cond b now (driven_by y i s ∷ now) ≡ cond b rest (s ∷ rest)
    go true e h = none (eqb-true s.line 0 e)
    go false e h = ap₂ (λ (p : Pair) (l : List Pair). p ∷ l) (driven-same y i s h.0) (some h.1)

-- where the bits are the fault's values, the lines show what the fault says
driven-pairs : (top n y : ℕ) (f : Fault) → StuckFault top f → Shows n (stuck_values f) y → present_pairs (driven n f y) ≡ present_pairs f
unfolding present_pairs stuck_values driven
driven-pairs top n y f r h =
    let one : n + 1 ≡ suc n = omega arith in
    let two : n + 2 ≡ suc (suc n) = omega arith in
    let third = driven_by y (suc (suc n)) f.third in
    let second = driven_by y (suc n) f.second in
    let low = r.first-low in
    rw (one, two)
    (with-driven y n f.first (with_pair second (with_pair third [])) (with_pair f.second (with_pair f.third [])) (λ e. absurd (omega arith))
    (with-driven y (suc n) f.second (with_pair third []) (with_pair f.third [])
    (λ e. let z = r.no_gap e in with_none third [] z ∙ sym (with_none f.third [] z))
    (with-driven y (suc (suc n)) f.third [] [] (λ e. refl) (λ g. refl))) h)

-- A circuit with a fault's lines opened.

length-opened : (n : Netlist) (f : Fault) → length (opened_circuit_rows n f) ≡ 2 ^ (n.inputs + length (stuck_values f))
unfolding opened_circuit_rows
length-opened n f = length-tab (2 ^ (n.inputs + length (stuck_values f))) (opened_circuit_row n f)

module _ (top : ℕ) (n : Netlist) (f : Fault) (right : StuckFault top f) where
  opened-row : (x : ℕ) → x < 2 ^ n.inputs → opened_circuit_row n f (opened_row_number n.inputs (stuck_values f) x) ≡ row_value n f x
  unfolding opened_circuit_row driven
  opened-row x h =
      ap (row_value n (driven n.inputs f y)) (number-low (stuck_values f) n.inputs n.inputs x (omega arith) ∙ mod-eq_of_lt h)
      ∙ same_row n (driven n.inputs f y) f (λ line v g. same line v (omega arith)) x x (λ i g. same (i + 1) (applied_under f.bridge x i) (omega arith))
    where
      y : ℕ
      y = opened_row_number n.inputs (stuck_values f) x

      same : (line : ℕ) (v : Bool) → 1 ≤ line → shown (driven n.inputs f y) line v ≡ shown f line v
      same line v g =
          shown-by-pairs (driven n.inputs f y) line v g
          ∙ ap (λ (l : List Pair). shown_by l line v) (driven-pairs top n.inputs y f right (number-shows (stuck_values f) n.inputs x h (values-bits f)))
          ∙ sym (shown-by-pairs f line v g)

  pub opened-rows : opened_rows n.inputs (stuck_values f) (opened_circuit_rows n f) ≡ rows_of n f
  unfolding opened_rows opened_row opened_circuit_rows rows_of
  opened-rows =
      tab-ext (2 ^ n.inputs) (opened_row n.inputs (stuck_values f) (opened_circuit_rows n f)) (row_value n f)
      (λ x h. get_or-tab (2 ^ (n.inputs + length (stuck_values f))) (opened_circuit_row n f) (pos 0) (opened_row_number n.inputs (stuck_values f) x)
      (number-below (stuck_values f) n.inputs (n.inputs + length (stuck_values f)) x refl h (values-bits f)) ∙ opened-row x h)

opened-bounded : (n : Netlist) (f : Fault) → WellFormed n → Within 60 (opened_circuit_rows n f)
unfolding opened_circuit_rows opened_circuit_row
opened-bounded n f w x l =
    let size = 2 ^ (n.inputs + length (stuck_values f)) in
    let inside : x < size = omega (arith, length-opened n f) in
    subst (λ (z : ℤ). nat_abs z ≤ 60) (sym (get_or-tab size (opened_circuit_row n f) (pos 0) x inside))
    (le_trans (row_within 15 n (driven n.inputs f x) (x % 2 ^ n.inputs) (λ k h. (w.outputs-right k h).weight-high)) (mul-le-mul w.outputs-high (le_refl 15)))

-- The opened-line call on that circuit.

module _ (top : ℕ) (n : Netlist) (f : Fault) (right : StuckFault top f) (well : WellFormed n) where
  opened-inputs : inputs_of (length (opened_circuit_rows n f)) ≡ n.inputs + length (stuck_values f)
  opened-inputs =
      let some = well.inputs-low in
      let most = well.inputs-high in
      let few = pairs-few f in
      ap inputs_of (length-opened n f) ∙ inputs-is (n.inputs + length (stuck_values f)) (omega arith) (omega arith)

  kept : kept_inputs (opened_circuit_rows n f) (stuck_values f) ≡ n.inputs
  kept = let e = opened-inputs in omega arith

  opened-within : Within 2048000 (spectrum_of (opened_circuit_rows n f))
  opened-within =
      let rows = opened_circuit_rows n f in
      let most = well.inputs-high in
      let few = pairs-few f in
      let size : 2 ^ (n.inputs + length (stuck_values f)) ≤ 2 ^ 11 = pow_mono {j = 11} (omega arith) in
      let short : length rows ≤ 2048 = omega (arith, length-opened n f) in
      within_more (spectrum_of rows) (le_trans (mul-le-mul short (le_refl 60)) (lit≤ tt)) (within-spectrum 60 rows (opened-bounded n f well))

  suits : opened_right (inputs_of (length (opened_circuit_rows n f))) (stuck_values f) ≡ true
  suits =
      let few = pairs-few f in
      let some = pairs-some f right.first-low in
      let low = well.inputs-low in
      let inputs = opened-inputs in
      opened-binary (inputs_of (length (opened_circuit_rows n f))) (stuck_values f) (few-is (length (stuck_values f)) some few) (omega arith) ∙ values-binary f

  opened-screened : (room : ℕ) → opened_screen (spectrum_of (opened_circuit_rows n f)) (stuck_values f) room ≡ room_answer n.inputs room
  opened-screened =
      let c = spectrum_of (opened_circuit_rows n f) in
      let same : inputs_of (length c) ≡ inputs_of (length (opened_circuit_rows n f)) = ap inputs_of (length-spectrum (opened_circuit_rows n f)) in
      let inputs = opened-inputs in
      let low = well.inputs-low in
      let left : kept_inputs c (stuck_values f) ≡ n.inputs = omega arith in
      room-answer 2048000 n.inputs (opened_right (inputs_of (length c)) (stuck_values f)) c (2 ^ kept_inputs c (stuck_values f)) (omega arith)
      (ap (λ (k : ℕ). opened_right k (stuck_values f)) same ∙ suits) opened-within (ap (λ (k : ℕ). 2 ^ k) left)

  pub opened-answer : (room : ℕ) → opened_answer (spectrum_of (opened_circuit_rows n f)) (stuck_values f) room ≡ room_answer n.inputs room
  unfolding opened_answer
  opened-answer room = ap₂ and_then (opened-screened room) (none-undivided (opened_circuit_rows n f) (stuck_values f) suits) ∙ then-done (room_answer n.inputs room)

  pub opened-circuit-spectrum : opened_spectrum_of (spectrum_of (opened_circuit_rows n f)) (stuck_values f) ≡ spectrum_of (rows_of n f)
  opened-circuit-spectrum =
      let room = 2 ^ n.inputs in
      opened-faulted (opened_circuit_rows n f) (stuck_values f) room (opened-answer room ∙ room-enough n.inputs room (omega arith))
      ∙ ap (λ (k : ℕ). spectrum_of (opened_rows k (stuck_values f) (opened_circuit_rows n f))) kept
      ∙ ap spectrum_of (opened-rows top n f right)

-- Fault k of an accepted text.

module _ (text : List ℕ) (n : Netlist) (parsed : parse_of text ≡ accepted n) (k : ℕ) (low : 1 ≤ k) (high : k ≤ length n.faults)
    (unbridged : (fault_at n k).bridge ≡ no_bridge) where
  well : WellFormed n
  well = well-formed text n parsed

  right : StuckFault (top_of n) (fault_at n k)
  right = named-stuck-fault n k well low high unbridged

  pub opened-lines-answer : (room : ℕ) → opened_answer (spectrum_of (opened_circuit_rows n (fault_at n k))) (stuck_values (fault_at n k)) room ≡ circuit_answer text k room
  opened-lines-answer room = opened-answer (top_of n) n (fault_at n k) right well room ∙ sym (circuit-answer-is text n parsed k high room)

  pub opened-lines-done : (room : ℕ) → 2 ^ n.inputs ≤ room → opened_answer (spectrum_of (opened_circuit_rows n (fault_at n k))) (stuck_values (fault_at n k)) room ≡ Done
  opened-lines-done room enough = opened-answer (top_of n) n (fault_at n k) right well room ∙ room-enough n.inputs room enough

  pub opened-lines-agree : opened_spectrum_of (spectrum_of (opened_circuit_rows n (fault_at n k))) (stuck_values (fault_at n k)) ≡ circuit_spectrum text k
  opened-lines-agree = opened-circuit-spectrum (top_of n) n (fault_at n k) right well ∙ sym (circuit-spectrum-is text n parsed k high)
