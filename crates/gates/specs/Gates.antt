-- The gate rule: a kind's value of the bits that a gate reads, A's first (document 01, "Rows": "Gates have their usual truth values."; document 02, note 2):
--   "`nand` and `nor` are the complements of the wide `and` and `or`, `xor` is 1 for an odd number of ones, `xnor` its complement."
-- and the bits as the code has them, a number.
use Rattle.std.specs.Prelude.{ℕ, zero, suc, ◌/◌, ◌%◌, ◌≤◌, ◌<◌, Bool, true, false, not, cond, ◌&&◌, ◌||◌, List, [], ◌∷◌, ◌++◌, ◌≡◌, eqb, ltb, get_or}
use Rattle.std.specs.Bool.{xor}
use Rattle.kinds.specs.declared.Kind.{Kind}
use Rattle.kinds.specs.declared.Kind.TheVariants.{And, Or, Nand, Nor, Xor, Xnor, Not}

-- every bit is 1
unfoldable pub all_of : List Bool → Bool
all_of [] = true
all_of (b ∷ bits) = b && all_of bits

-- some bit is 1
unfoldable pub some_of : List Bool → Bool
some_of [] = false
some_of (b ∷ bits) = b || some_of bits

-- an odd number of bits is 1
unfoldable pub odd_of : List Bool → Bool
odd_of [] = false
odd_of (b ∷ bits) = xor b (odd_of bits)

-- `not` reads A alone
unfoldable pub gate_value : Kind → List Bool → Bool
gate_value And bits = all_of bits
gate_value Or bits = some_of bits
gate_value Nand bits = not (all_of bits)
gate_value Nor bits = not (some_of bits)
gate_value Xor bits = odd_of bits
gate_value Xnor bits = not (odd_of bits)
gate_value Not bits = not (get_or bits 0 false)

-- the bits of n behind its leading 1, the first the highest; `most` of them at most
unfoldable pub bits_to : ℕ → ℕ → List Bool
bits_to zero n = []
bits_to (suc most) n = cond (ltb n 2) [] (bits_to most (n / 2) ++ (eqb (n % 2) 1 ∷ []))

-- 1abcd is the longest
unfoldable pub bits_of : ℕ → List Bool
bits_of n = bits_to 4 n

-- the numbers of two, three and four bits
abbrev pub Several : ℕ → Type 0
Several n = (4 ≤ n) × (n < 32)

-- the numbers of a kind's cases: one bit for `not`, two, three or four for every other
pub record CaseOf (kind : Kind) (n : ℕ) : Type 0 where
  pub one : kind ≡ Not → (2 ≤ n) × (n < 4)
  pub more : (kind ≡ Not → ⊥) → Several n

-- document 01's rule, on two bits and on the one of `not`
pub record TwoAsBefore : Type 0 where
  pub and_is : (a b : Bool) → gate_value And (a ∷ b ∷ []) ≡ (a && b)
  pub or_is : (a b : Bool) → gate_value Or (a ∷ b ∷ []) ≡ (a || b)
  pub nand-is : (a b : Bool) → gate_value Nand (a ∷ b ∷ []) ≡ not (a && b)
  pub nor-is : (a b : Bool) → gate_value Nor (a ∷ b ∷ []) ≡ not (a || b)
  pub xor_is : (a b : Bool) → gate_value Xor (a ∷ b ∷ []) ≡ xor a b
  pub xnor-is : (a b : Bool) → gate_value Xnor (a ∷ b ∷ []) ≡ not (xor a b)
  pub not_is : (a : Bool) → gate_value Not (a ∷ []) ≡ not a
