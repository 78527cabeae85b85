-- The truth table of the gates (document 02, note 3):
--   "A theorem over one table of all 170 cases (`not` has 2, each other kind 4, 8 and 16) shows that the rule gives the table's values."
-- A row has a kind, its bits with A's first, and its value. Kinds stand as document 01 lists them; of each two bits, then three, then four, "counting up with A's bit highest".
use Rattle.std.specs.Prelude.{ℕ, ◌≤◌, ◌<◌, Bool, true, false, cond, List, [], ◌∷◌, ◌++◌, map, ◌≡◌, eqb, length, get_or}
use Prim.Native.String.{String}
use Rattle.integer.specs.Counting.{count}
use Rattle.text.specs.Text.{bytes_of}
use Rattle.kinds.specs.declared.Kind.{Kind}
use Rattle.kinds.specs.declared.Kind.TheVariants.{And, Or, Nand, Nor, Xor, Xnor, Not}
use Rattle.gates.specs.Gates.{gate_value, bits_of}

pub record GateCase : Type 0 where
  pub kind : Kind
  pub bits : List Bool
  pub value : Bool

-- the digits 0 (byte 48) and 1 (byte 49) as bits; any other byte is none
unfoldable pub digit_bits : List ℕ → List Bool
digit_bits [] = []
digit_bits (b ∷ bytes) = cond (eqb b 48) (false ∷ digit_bits bytes) (cond (eqb b 49) (true ∷ digit_bits bytes) (digit_bits bytes))

abbrev pub row : Kind → String → Bool → GateCase
row kind bits value = record { kind = kind; bits = digit_bits (bytes_of bits); value = value }

unfoldable pub gate_table : List GateCase
gate_table =
    row And "00" false ∷
    row And "01" false ∷
    row And "10" false ∷
    row And "11" true ∷
    row And "000" false ∷
    row And "001" false ∷
    row And "010" false ∷
    row And "011" false ∷
    row And "100" false ∷
    row And "101" false ∷
    row And "110" false ∷
    row And "111" true ∷
    row And "0000" false ∷
    row And "0001" false ∷
    row And "0010" false ∷
    row And "0011" false ∷
    row And "0100" false ∷
    row And "0101" false ∷
    row And "0110" false ∷
    row And "0111" false ∷
    row And "1000" false ∷
    row And "1001" false ∷
    row And "1010" false ∷
    row And "1011" false ∷
    row And "1100" false ∷
    row And "1101" false ∷
    row And "1110" false ∷
    row And "1111" true ∷
    row Or "00" false ∷
    row Or "01" true ∷
    row Or "10" true ∷
    row Or "11" true ∷
    row Or "000" false ∷
    row Or "001" true ∷
    row Or "010" true ∷
    row Or "011" true ∷
    row Or "100" true ∷
    row Or "101" true ∷
    row Or "110" true ∷
    row Or "111" true ∷
    row Or "0000" false ∷
    row Or "0001" true ∷
    row Or "0010" true ∷
    row Or "0011" true ∷
    row Or "0100" true ∷
    row Or "0101" true ∷
    row Or "0110" true ∷
    row Or "0111" true ∷
    row Or "1000" true ∷
    row Or "1001" true ∷
    row Or "1010" true ∷
    row Or "1011" true ∷
    row Or "1100" true ∷
    row Or "1101" true ∷
    row Or "1110" true ∷
    row Or "1111" true ∷
    row Nand "00" true ∷
    row Nand "01" true ∷
    row Nand "10" true ∷
    row Nand "11" false ∷
    row Nand "000" true ∷
    row Nand "001" true ∷
    row Nand "010" true ∷
    row Nand "011" true ∷
    row Nand "100" true ∷
    row Nand "101" true ∷
    row Nand "110" true ∷
    row Nand "111" false ∷
    row Nand "0000" true ∷
    row Nand "0001" true ∷
    row Nand "0010" true ∷
    row Nand "0011" true ∷
    row Nand "0100" true ∷
    row Nand "0101" true ∷
    row Nand "0110" true ∷
    row Nand "0111" true ∷
    row Nand "1000" true ∷
    row Nand "1001" true ∷
    row Nand "1010" true ∷
    row Nand "1011" true ∷
    row Nand "1100" true ∷
    row Nand "1101" true ∷
    row Nand "1110" true ∷
    row Nand "1111" false ∷
    row Nor "00" true ∷
    row Nor "01" false ∷
    row Nor "10" false ∷
    row Nor "11" false ∷
    row Nor "000" true ∷
    row Nor "001" false ∷
    row Nor "010" false ∷
    row Nor "011" false ∷
    row Nor "100" false ∷
    row Nor "101" false ∷
    row Nor "110" false ∷
    row Nor "111" false ∷
    row Nor "0000" true ∷
    row Nor "0001" false ∷
    row Nor "0010" false ∷
    row Nor "0011" false ∷
    row Nor "0100" false ∷
    row Nor "0101" false ∷
    row Nor "0110" false ∷
    row Nor "0111" false ∷
    row Nor "1000" false ∷
    row Nor "1001" false ∷
    row Nor "1010" false ∷
    row Nor "1011" false ∷
    row Nor "1100" false ∷
    row Nor "1101" false ∷
    row Nor "1110" false ∷
    row Nor "1111" false ∷
    row Xor "00" false ∷
    row Xor "01" true ∷
    row Xor "10" true ∷
    row Xor "11" false ∷
    row Xor "000" false ∷
    row Xor "001" true ∷
    row Xor "010" true ∷
    row Xor "011" false ∷
    row Xor "100" true ∷
    row Xor "101" false ∷
    row Xor "110" false ∷
    row Xor "111" true ∷
    row Xor "0000" false ∷
    row Xor "0001" true ∷
    row Xor "0010" true ∷
    row Xor "0011" false ∷
    row Xor "0100" true ∷
    row Xor "0101" false ∷
    row Xor "0110" false ∷
    row Xor "0111" true ∷
    row Xor "1000" true ∷
    row Xor "1001" false ∷
    row Xor "1010" false ∷
    row Xor "1011" true ∷
    row Xor "1100" false ∷
    row Xor "1101" true ∷
    row Xor "1110" true ∷
    row Xor "1111" false ∷
    row Xnor "00" true ∷
    row Xnor "01" false ∷
    row Xnor "10" false ∷
    row Xnor "11" true ∷
    row Xnor "000" true ∷
    row Xnor "001" false ∷
    row Xnor "010" false ∷
    row Xnor "011" true ∷
    row Xnor "100" false ∷
    row Xnor "101" true ∷
    row Xnor "110" true ∷
    row Xnor "111" false ∷
    row Xnor "0000" true ∷
    row Xnor "0001" false ∷
    row Xnor "0010" false ∷
    row Xnor "0011" true ∷
    row Xnor "0100" false ∷
    row Xnor "0101" true ∷
    row Xnor "0110" true ∷
    row Xnor "0111" false ∷
    row Xnor "1000" false ∷
    row Xnor "1001" true ∷
    row Xnor "1010" true ∷
    row Xnor "1011" false ∷
    row Xnor "1100" true ∷
    row Xnor "1101" false ∷
    row Xnor "1110" false ∷
    row Xnor "1111" true ∷
    row Not "0" true ∷
    row Not "1" false ∷
    []

-- what the gate rule gives, for the n numbers of the code's cases from `from` on
abbrev ruled_from : Kind → ℕ → ℕ → List GateCase
ruled_from kind from n = map (λ number. record { kind = kind; bits = bits_of number; value = gate_value kind (bits_of number) }) (count from n)

-- 28 numbers from 1_00 on, 4 of two bits, 8 of three and 16 of four
abbrev ruled_wide : Kind → List GateCase
ruled_wide kind = ruled_from kind 4 28

unfoldable pub ruled_cases : List GateCase
ruled_cases = ruled_wide And ++ ruled_wide Or ++ ruled_wide Nand ++ ruled_wide Nor ++ ruled_wide Xor ++ ruled_wide Xnor ++ ruled_from Not 2 2

-- row i of the table, from 0
unfoldable pub case_at : ℕ → GateCase
case_at i = get_or gate_table i (row Not "" false)

-- what a gate of the kind may read: one bit for `not`, two, three or four for every other
pub record ReadBits (kind : Kind) (bits : List Bool) : Type 0 where
  pub one : kind ≡ Not → length bits ≡ 1
  pub more : (kind ≡ Not → ⊥) → (2 ≤ length bits) × (length bits ≤ 4)

pub record GateTableRight : Type 0 where
  -- the table is the list of all kinds and bits in their order, each with the rule's value
  pub ruled : gate_table ≡ ruled_cases
  pub rows : length gate_table ≡ 170
  pub values : (i : ℕ) → i < 170 → (case_at i).value ≡ gate_value (case_at i).kind (case_at i).bits
  -- no case is missing
  pub complete : (kind : Kind) (bits : List Bool) → ReadBits kind bits → (i : ℕ) × (i < 170) × ((case_at i).kind ≡ kind) × ((case_at i).bits ≡ bits)
  -- and none stands twice
  pub once : (i j : ℕ) → i < 170 → j < 170 → (case_at i).kind ≡ (case_at j).kind → (case_at i).bits ≡ (case_at j).bits → i ≡ j
