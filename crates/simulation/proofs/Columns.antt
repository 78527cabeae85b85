-- Columns of line values, one value a row:
--   blank-columns                              columns of zeros are those of no line
--   source-joined, source-apart                which bit an input gets where a bridge joins it, and where none does
--   sources-show                               the two bits that an input gets, under a bridge or not, have the AND that it shows
--   input-next, gates-next                     one input's column more, one gate's column more
--   gate-is-right                              what holds of a gate of a well-formed circuit
--   slot-shows                                 what is read at a line's slot is what the line shows
use mathlib.Core.Path.{◌≡◌, refl, sym, ap, ap₂, ◌∙◌, subst}
use mathlib.Core.Bool.{Bool, true, false, cond, ◌&&◌}
use mathlib.Core.List.{List, [], ◌∷◌, ◌++◌}
use Prim.Native.Nat.{ℕ, zero, suc, ◌+◌, ◌*◌, ◌-◌, ◌%◌, ◌^◌, ◌≤◌, ◌<◌}
use native.Mathlib.Decide.{ℕ_discrete}
use native.Mathlib.Nat.{lt_of_lt_of_le, div-eq_of_lt}
use native.Mathlib.Omega.{arith}
use borrow.Author.Tests.{ltb-true, ltb-false}
use lib.Dec.{eqb, ltb}
use lib.ListN.{length, take, get_or, replicate, get_or-eq_default}
use lib.Pow.{pow_mono}
use lib.Seq.{get_or-append_seam, length-take-le, take-length}
use Rattle.integer.specs.Tab.{tab}
use Rattle.netlist.specs.Circuits.{Netlist}
use Rattle.netlist.specs.WellFormed.{WellFormed}
use Rattle.gate_lines.specs.GateItems.{Gate, no_gate, lines_read, GateRight}
use Rattle.statements.specs.declared.Bridge.{Bridge}
use Rattle.statements.specs.Items.{Fault}
use Rattle.columns.specs.Shown.{shown, applied, joins, applied_under}
use Rattle.gates.specs.Gates.{gate_value}
use Rattle.columns.specs.Steps.{shown_at, seen_as, Columned, input_rule}
use Rattle.evaluation.specs.GateRules.{gate_rule}
use Rattle.columns.specs.declared.Seen.{Seen}
use Rattle.evaluation.proofs.Widths.{reads-below, map_below}
use Rattle.columns.proofs.AppliedInputs.{applied-joined, applied-apart}
use Rattle.simulation.specs.Rows.{input_values, reads, gate_in, gate_next, gates_next, line_values}
use Rattle.simulation.specs.Steps.{Columns, input_lines, row_bit_of, source_of, slot_of}
use Rattle.simulation.proofs.LineValues.{length-inputs, length-lines, input-more, gates-more}

-- What columns say of lines.

reads_none : (k i : ℕ) → reads (replicate k false) i ≡ false
reads_none zero i = refl
reads_none (suc k) zero = refl
reads_none (suc k) (suc i) = reads_none k i

reads-zero : (i : ℕ) → reads (false ∷ []) i ≡ false
reads-zero zero = refl
reads-zero (suc i) = refl

pub blank-columns : (k n : ℕ) (f : Fault) → Columns (replicate k false) n (input_lines f 0)
unfolding input_values tab
blank-columns k n f = record { each = λ line x l h. reads_none k (line * 256 + x) ∙ sym (reads-zero line) }

reads_more : (l : List Bool) (v : Bool) (i : ℕ) → (i ≡ length l → ⊥) → reads (l ++ (v ∷ [])) i ≡ reads l i
reads_more [] v zero n = absurd (n refl)
reads_more [] v (suc i) n = refl
reads_more (y ∷ l) v zero n = refl
reads_more (y ∷ l) v (suc i) n = reads_more l v i (λ e. n (ap suc e))

-- a value more on each row, in a column of its own
next : {values after : List Bool} (n line : ℕ) (lines : ℕ → List Bool) (rule : ℕ → Bool) → n ≤ 256
    → ((x : ℕ) → x < n → length (lines x) ≡ line) → Columns values n lines → Columned values after line n rule
    → Columns after n (λ x. lines x ++ (rule x ∷ []))
next {values} {after} n line lines rule small long are made = record { each = λ i x l h. pick i x l h (ℕ_discrete i line) }
  where
    pick : (i x : ℕ) → i < 58 → x < n → Dec (i ≡ line) → shown_at after i x ≡ reads (lines x ++ (rule x ∷ [])) i
    pick i x l h (yes e) =
        ap (λ (k : ℕ). shown_at after k x) e ∙ made.made x h ∙ sym (get_or-append_seam (lines x) (rule x) [] false)
        ∙ ap (reads (lines x ++ (rule x ∷ []))) (long x h ∙ sym e)
    pick i x l h (no other) =
        made.kept (i * 256 + x) (λ low high. other (omega arith)) ∙ are.each i x l h ∙ sym (reads_more (lines x) (rule x) i (λ e. other (e ∙ long x h)))

-- what is shown of a value, by what is shown of 1 and of 0
seen-is : (f : Fault) (line : ℕ) (s : Seen) → (s.one ≡ shown f line true) × (s.zero ≡ shown f line false) → (v : Bool) → seen_as s v ≡ shown f line v
seen-is f line s e true = e.0
seen-is f line s e false = e.1

columns-as : {values : List Bool} (n : ℕ) (lines others : ℕ → List Bool) → ((x : ℕ) → x < n → lines x ≡ others x) → Columns values n lines → Columns values n others
columns-as n lines others same are = record { each = λ i x l h. are.each i x l h ∙ ap (λ (r : List Bool). reads r i) (same x h) }

-- What an input gets.

-- a row below 256 has no bit above bit 7
no-bit : (x i : ℕ) → x < 256 → 8 ≤ i → applied x i ≡ false
no-bit x i small high =
    let past : x < 2 ^ i = lt_of_lt_of_le small (pow_mono {i = 8} high) in
    ap (λ (y : ℕ). eqb (y % 2) 1) (div-eq_of_lt past)

row-bit-shows : (x input : ℕ) → x < 256 → applied x (row_bit_of input) ≡ applied x (input - 1)
unfolding row_bit_of
row-bit-shows x input small = pick (ltb input 9) refl
  where
    pick : (b : Bool) → ltb input 9 ≡ b → applied x (cond b (input - 1) 8) ≡ applied x (input - 1)
    pick true e = refl
    pick false e = no-bit x 8 small (omega arith) ∙ sym (no-bit x (input - 1) small (omega (arith, ltb-false input 9 e)))

module _ (b : Bridge) (i input : ℕ) where
  pub source-joined : joins b i ≡ true → source_of b i input ≡ row_bit_of input
  unfolding source_of
  source-joined e = rw e

  pub source-apart : joins b i ≡ false → source_of b i input ≡ i
  unfolding source_of
  source-apart e = rw e

pub sources-show : (b : Bridge) (i x : ℕ) → x < 256 → (applied x (source_of b i b.first) && applied x (source_of b i b.second)) ≡ applied_under b x i
sources-show b i x small = pick (joins b i) refl
  where
    alike : (v : Bool) → v && v ≡ v
    alike true = refl
    alike false = refl

    sources : {p q : ℕ} → source_of b i b.first ≡ p → source_of b i b.second ≡ q
        → (applied x (source_of b i b.first) && applied x (source_of b i b.second)) ≡ (applied x p && applied x q)
    sources e g = ap₂ (λ (k m : ℕ). applied x k && applied x m) e g

    pick : (t : Bool) → joins b i ≡ t → (applied x (source_of b i b.first) && applied x (source_of b i b.second)) ≡ applied_under b x i
    pick true e =
        sources (source-joined b i b.first e) (source-joined b i b.second e)
        ∙ ap₂ (λ (v w : Bool). v && w) (row-bit-shows x b.first small) (row-bit-shows x b.second small)
        ∙ sym (applied-joined b x i e)
    pick false e = sources (source-apart b i b.first e) (source-apart b i b.second e) ∙ alike (applied x i) ∙ sym (applied-apart b x i e)

module _ (f : Fault) (n : ℕ) {values after : List Bool} (small : n ≤ 256) where
  pub input-next : (i : ℕ) {p q : ℕ} (s : Seen) → (s.one ≡ shown f (i + 1) true) × (s.zero ≡ shown f (i + 1) false)
      → p ≡ source_of f.bridge i f.bridge.first → q ≡ source_of f.bridge i f.bridge.second
      → Columns values n (input_lines f i) → Columned values after (i + 1) n (input_rule s p q) → Columns after n (input_lines f (i + 1))
  input-next i {p} {q} s e first second are made =
      columns-as n (λ x. input_lines f i x ++ (input_rule s p q x ∷ [])) (input_lines f (i + 1))
      (λ x h. ap (λ (v : Bool). input_values f x i ++ (v ∷ [])) (seen-is f (i + 1) s e (applied x p && applied x q) ∙ ap (shown f (i + 1)) (gets x (omega arith))) ∙ input-more f x i)
      (next n (i + 1) (input_lines f i) (input_rule s p q) small (λ x h. length-inputs f x i) are made)
    where
      gets : (x : ℕ) → x < 256 → (applied x p && applied x q) ≡ applied_under f.bridge x i
      gets x h = ap₂ (λ (k m : ℕ). applied x k && applied x m) first second ∙ sources-show f.bridge i x h

reads-slot : (l : List Bool) (line : ℕ) → length l ≤ 57 → reads l (slot_of line) ≡ reads l line
unfolding slot_of
reads-slot l line h = pick (ltb line 57) refl
  where
    pick : (b : Bool) → ltb line 57 ≡ b → reads l (cond b line 57) ≡ reads l line
    pick true e = refl
    pick false e =
        let past : 57 ≤ line = ltb-false line 57 e in
        get_or-eq_default l false h ∙ sym (get_or-eq_default l false (omega arith))

slot-few : (line : ℕ) → slot_of line < 58
unfolding slot_of
slot-few line = pick (ltb line 57) refl
  where
    pick : (b : Bool) → ltb line 57 ≡ b → cond b line 57 < 58
    pick true e = omega (arith, ltb-true line 57 e)
    pick false e = omega arith

-- what a column shows at a line's slot
pub slot-shows : {values : List Bool} (n : ℕ) (lines : ℕ → List Bool) → Columns values n lines → (line x : ℕ) → x < n → length (lines x) ≤ 57
    → shown_at values (slot_of line) x ≡ reads (lines x) line
slot-shows n lines are line x h few = are.each (slot_of line) x (slot-few line) h ∙ reads-slot (lines x) line few

module _ (f : Fault) (n line : ℕ) (lines : ℕ → List Bool) {values after : List Bool} (small : n ≤ 256) (few : line ≤ 57) (long : (x : ℕ) → x < n → length (lines x) ≡ line) where
  gate-next : (g : Gate) (s : Seen) → (s.one ≡ shown f line true) × (s.zero ≡ shown f line false) → GateRight line g
      → Columns values n lines → Columned values after line n (gate_rule values s g.kind (lines_read g)) → Columns after n (λ x. gate_next f (lines x) g)
  unfolding gate_next
  gate-next g s e right are made =
      columns-as n (λ x. lines x ++ (gate_rule values s g.kind (lines_read g) x ∷ [])) (λ x. gate_next f (lines x) g)
      (λ x h. ap (λ (v : Bool). lines x ++ (v ∷ [])) (shows x h))
      (next n line lines (gate_rule values s g.kind (lines_read g)) small long are made)
    where
      shows : (x : ℕ) → x < n → gate_rule values s g.kind (lines_read g) x ≡ shown f (length (lines x)) (gate_in (lines x) g)
      shows x h =
          seen-is f line s e _
          ∙ ap (λ (l : List Bool). shown f line (gate_value g.kind l))
          (map_below line (λ a. shown_at values a x) (reads (lines x)) (lines_read g) (λ a k. are.each a x (omega arith) h) (reads-below line g right))
          ∙ ap (λ (k : ℕ). shown f k (gate_in (lines x) g)) (sym (long x h))

-- the lines of row x with the inputs and the first j gates
abbrev pub lines_to : Netlist → Fault → ℕ → ℕ → List Bool
lines_to c f j x = gates_next f (input_values f x c.inputs) (take j c.gates)

pub gates-next : (c : Netlist) (f : Fault) (n j : ℕ) {values after : List Bool} → n ≤ 256 → WellFormed c → j < length c.gates
    → (s : Seen) → (s.one ≡ shown f (c.inputs + j + 1) true) × (s.zero ≡ shown f (c.inputs + j + 1) false) → Columns values n (lines_to c f j)
    → Columned values after (c.inputs + j + 1) n (gate_rule values s (get_or c.gates j no_gate).kind (lines_read (get_or c.gates j no_gate))) → Columns after n (lines_to c f (j + 1))
gates-next c f n j small w h s e are made =
    columns-as n (λ x. gate_next f (lines_to c f j x) (get_or c.gates j no_gate)) (lines_to c f (j + 1))
    (λ x l. gates-more f (input_values f x c.inputs) c.gates j h)
    (gate-next f n (c.inputs + j + 1) (lines_to c f j) small (omega (arith, w.inputs-high, w.gates-high)) long (get_or c.gates j no_gate) s e (w.gates-right j h) are made)
  where
    long : (x : ℕ) → x < n → length (lines_to c f j x) ≡ c.inputs + j + 1
    long x l = length-lines f (input_values f x c.inputs) (take j c.gates) ∙ omega (arith, length-inputs f x c.inputs, length-take-le j c.gates (omega (arith, h)))

-- after the last gate
pub lines-all : (c : Netlist) (f : Fault) (n j : ℕ) {values : List Bool} → j ≡ length c.gates → Columns values n (lines_to c f j) → Columns values n (line_values c f)
unfolding line_values
lines-all c f n j {values} e are = subst (λ (gates : List Gate). Columns values n (λ x. gates_next f (input_values f x c.inputs) gates)) (ap (λ k. take k c.gates) e ∙ take-length c.gates) are

-- before the first gate
pub lines_none : (c : Netlist) (f : Fault) (n : ℕ) {values : List Bool} → Columns values n (input_lines f c.inputs) → Columns values n (lines_to c f 0)
unfolding gates_next
lines_none c f n are = are
