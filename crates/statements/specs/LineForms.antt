-- What the tests of each kind of line ask, said of the numbers that the line is written from (document 01, "The circuit text"; document 02, notes 4 and 8): the form
-- without which it is refused by 2, the ranges of 3, and what 4, 5, 6 and 19 compare. A second statement beside `Lines`, which reads fields out of bytes; they agree
-- (proofs/FormsMeant).
use Rattle.std.specs.Prelude.{ℕ, suc, ◌<◌, ◌≤◌, true, List, [], ◌∷◌, ◌++◌, ◌↔◌, ◌≡◌, ◌≢◌, leb, length, get_or, ℤ, pos, negsuc, nat_abs, ◌≤ℤ◌}
use Rattle.writing.specs.Writing.{Small, numbers_of}
use Rattle.fields.specs.Fields.{line_from, value_at}
use Rattle.statements.specs.Lines.{circuit_word, output_word, fault_word, bridge_word, is_head, head_fits, is_output, output_fits, is_fault, fault_fits, lines_exist, lines_rise, fault_refusal, is_bridge, bridge_fits, inputs_rise, bridge_refusal, fault_line_refusal}

-- "`circuit,N,G,M,Q,K`: N inputs (1 to 8), G gates (0 to 48), M outputs (1 to 4), Q faults (1 to 32), cap K (1 to 4)"
pub record HeadForm : Type 0 where
  pub form : (l : List ℕ) → (is_head l ≡ true) ↔ ((ns : List ℕ) × Small ns × (length ns ≡ 5) × (l ≡ line_from circuit_word ns))
  pub range : (n g m q k : ℕ) → let ns = n ∷ g ∷ m ∷ q ∷ k ∷ [] in Small ns
      → (head_fits (line_from circuit_word ns) ≡ true) ↔ ((1 ≤ n) × (n ≤ 8) × (g ≤ 48) × (1 ≤ m) × (m ≤ 4) × (1 ≤ q) × (q ≤ 32) × (1 ≤ k) × (k ≤ 4))

-- an output's line as it is written, without its end
abbrev pub output_from : ℕ → ℤ → List ℕ
output_from line weight = output_word ++ numbers_of (pos line ∷ weight ∷ [])

-- "M lines `output,LINE,WEIGHT`: LINE 1 to 56", "WEIGHT becomes −15 to 15 without 0, written with `-`."
pub record OutputForm : Type 0 where
  pub form : (l : List ℕ) → (is_output l ≡ true) ↔ ((line : ℕ) × (weight : ℤ) × (line < 10000) × (nat_abs weight < 10000) × (l ≡ output_from line weight))
  pub range : (line : ℕ) (weight : ℤ) → line < 10000 → nat_abs weight < 10000
      → (output_fits (output_from line weight) ≡ true) ↔ ((1 ≤ line) × (line ≤ 56) × (negsuc 14 ≤ℤ weight) × (weight ≤ℤ pos 15) × (weight ≢ pos 0))
  pub exists : (top line : ℕ) (weight : ℤ) → line < 10000 → (leb (value_at (output_from line weight) 1) top ≡ true) ↔ (line ≤ top)

-- LINE,VALUE one after the other
abbrev pub flat_pairs : List (ℕ × ℕ) → List ℕ
flat_pairs [] = []
flat_pairs (p ∷ pairs) = p.0 ∷ p.1 ∷ flat_pairs pairs

-- LINE of pair i, and its VALUE
abbrev pub line_of_pair : List (ℕ × ℕ) → ℕ → ℕ
line_of_pair pairs i = (get_or pairs i (0, 0)).0

abbrev pub value_of_pair : List (ℕ × ℕ) → ℕ → ℕ
value_of_pair pairs i = (get_or pairs i (0, 0)).1

-- one to three pairs of numbers
pub record FaultPairs (pairs : List (ℕ × ℕ)) : Type 0 where
  pub some : 1 ≤ length pairs
  pub few : length pairs ≤ 3
  pub small : Small (flat_pairs pairs)

-- "Q lines `fault,LINE,VALUE`, with one to three LINE,VALUE pairs: LINE 1 to 56 and rising, VALUE 0 or 1."
pub record FaultForm : Type 0 where
  pub form : (l : List ℕ) → (is_fault l ≡ true) ↔ ((pairs : List (ℕ × ℕ)) × FaultPairs pairs × (l ≡ line_from fault_word (flat_pairs pairs)))
  pub range : (pairs : List (ℕ × ℕ)) → FaultPairs pairs
      → (fault_fits (line_from fault_word (flat_pairs pairs)) ≡ true) ↔ ((i : ℕ) → i < length pairs → (1 ≤ line_of_pair pairs i) × (line_of_pair pairs i ≤ 56) × (value_of_pair pairs i ≤ 1))
  pub exists : (top : ℕ) (pairs : List (ℕ × ℕ)) → FaultPairs pairs → (lines_exist top (line_from fault_word (flat_pairs pairs)) ≡ true) ↔ ((i : ℕ) → i < length pairs → line_of_pair pairs i ≤ top)
  pub rise : (pairs : List (ℕ × ℕ)) → FaultPairs pairs → (lines_rise (line_from fault_word (flat_pairs pairs)) ≡ true) ↔ ((i : ℕ) → suc i < length pairs → line_of_pair pairs i < line_of_pair pairs (suc i))

-- "A fault line may read `bridge,I,J` with inputs I below J (3 outside 1 to 56)." "19 where I or J is above N or they do not rise"
pub record BridgeForm : Type 0 where
  pub form : (l : List ℕ) → (is_bridge l ≡ true) ↔ ((ns : List ℕ) × Small ns × (length ns ≡ 2) × (l ≡ line_from bridge_word ns))
  pub range : (i j : ℕ) → let ns = i ∷ j ∷ [] in Small ns → (bridge_fits (line_from bridge_word ns) ≡ true) ↔ ((1 ≤ i) × (i ≤ 56) × (1 ≤ j) × (j ≤ 56))
  pub inputs : (n i j : ℕ) → let ns = i ∷ j ∷ [] in Small ns → (inputs_rise n (line_from bridge_word ns) ≡ true) ↔ ((i ≤ n) × (j ≤ n) × (i < j))

-- a fault line has one of the two forms, else it is refused by 2; and it is answered as a line of its form
pub record FaultLineForm : Type 0 where
  pub neither : (inputs top : ℕ) (l : List ℕ) → (fault_line_refusal inputs top l ≡ 2) ↔ ((is_fault l ≡ true → ⊥) × (is_bridge l ≡ true → ⊥))
  pub stuck : (inputs top : ℕ) (l : List ℕ) → is_fault l ≡ true → fault_line_refusal inputs top l ≡ fault_refusal top l
  pub bridge : (inputs top : ℕ) (l : List ℕ) → is_bridge l ≡ true → fault_line_refusal inputs top l ≡ bridge_refusal inputs l
