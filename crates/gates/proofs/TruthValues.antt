-- The truth table of the gates:
--   table-ruled         it is the list of all kinds and bits in their order, each with the rule's value: one computed test
--   gate-table-right    so it has 170 rows, each with the rule's value; no case is missing, and none stands twice
use mathlib.Core.Path.{◌≡◌, refl, sym, ap, ap₂, ◌∙◌, subst}
use mathlib.Core.Bool.{Bool, true, false, not, cond, xor, ◌&&◌}
use mathlib.Core.List.{List, [], ◌∷◌}
use Prim.Native.Nat.{ℕ, zero, suc, ◌+◌, ◌-◌, ◌*◌, ◌≤◌, ◌<◌}
use native.Mathlib.Omega.{arith}
use lib.Dec.{eqb, ltb}
use lib.ListN.{length, get_or}
use borrow.Author.Tests.{eqb-true, ltb-true}
use Rattle.integer.specs.Counting.{count, all_below}
use Rattle.integer.proofs.Bools.{clash, both}
use Rattle.integer.proofs.NumbersBelow.{all-each}
use Rattle.kinds.specs.declared.Kind.{Kind}
use Rattle.kinds.specs.declared.Kind.TheVariants.{And, Or, Nand, Nor, Xor, Xnor, Not}
use Rattle.kinds.proofs.KindWords.{is_not, other-kind}
use Rattle.gates.specs.Gates.{gate_value, all_of, some_of, odd_of, bits_to, bits_of}
use Rattle.gates.specs.GateTable.{GateCase, row, gate_table, ruled_cases, digit_bits, case_at, ReadBits, GateTableRight}

pub table-ruled : gate_table ≡ ruled_cases
unfolding gate_table ruled_cases digit_bits count bits_of bits_to gate_value all_of some_of odd_of xor
table-ruled = refl

-- What is so of a row of that list is so of the table's.

abbrev ruled_at : ℕ → GateCase
ruled_at i = get_or ruled_cases i (row Not "" false)

from-ruled : (P : GateCase → Type 0) (i : ℕ) → P (ruled_at i) → P (case_at i)
unfolding case_at
from-ruled P i = subst P (ap (λ (l : List GateCase). get_or l i (row Not "" false)) (sym table-ruled))

-- Tests of kinds and bits.

abbrev kind_order : List Kind
kind_order = And ∷ Or ∷ Nand ∷ Nor ∷ Xor ∷ Xnor ∷ Not ∷ []

abbrev rank : Kind → ℕ
rank And = 0
rank Or = 1
rank Nand = 2
rank Nor = 3
rank Xor = 4
rank Xnor = 5
rank Not = 6

ranked : (k : Kind) → get_or kind_order (rank k) Not ≡ k
ranked And = refl
ranked Or = refl
ranked Nand = refl
ranked Nor = refl
ranked Xor = refl
ranked Xnor = refl
ranked Not = refl

same_kind : (a b : Kind) → eqb (rank a) (rank b) ≡ true → a ≡ b
same_kind a b e = sym (ranked a) ∙ ap (λ (n : ℕ). get_or kind_order n Not) (eqb-true (rank a) (rank b) e) ∙ ranked b

abbrev alike : Bool → Bool → Bool
alike a b = not (xor a b)

alike_same : (a b : Bool) → alike a b ≡ true → a ≡ b
unfolding xor
alike_same true true e = refl
alike_same true false e = sym e
alike_same false true e = e
alike_same false false e = refl

unfoldable same_bits : List Bool → List Bool → Bool
same_bits [] [] = true
same_bits [] (b ∷ m) = false
same_bits (a ∷ l) [] = false
same_bits (a ∷ l) (b ∷ m) = alike a b && same_bits l m

same-bits : (l m : List Bool) → same_bits l m ≡ true → l ≡ m
unfolding same_bits
same-bits [] [] e = refl
same-bits [] (b ∷ m) e = clash (sym e)
same-bits (a ∷ l) [] e = clash (sym e)
same-bits (a ∷ l) (b ∷ m) e = let r = both (alike a b) (same_bits l m) e in ap₂ ◌∷◌ (alike_same a b r.0) (same-bits l m r.1)

-- every list of w bits passes
unfoldable all_bits : (List Bool → Bool) → ℕ → Bool
all_bits p zero = p []
all_bits p (suc w) = all_bits (λ l. p (false ∷ l)) w && all_bits (λ l. p (true ∷ l)) w

each_bits : (p : List Bool → Bool) (w : ℕ) → all_bits p w ≡ true → (l : List Bool) → length l ≡ w → p l ≡ true
unfolding all_bits
each_bits p zero e [] h = e
each_bits p zero e (b ∷ l) h = absurd (omega arith)
each_bits p (suc w) e [] h = absurd (omega arith)
each_bits p (suc w) e (false ∷ l) h = each_bits (λ m. p (false ∷ m)) w (both (all_bits (λ m. p (false ∷ m)) w) (all_bits (λ m. p (true ∷ m)) w) e).0 l (omega arith)
each_bits p (suc w) e (true ∷ l) h = each_bits (λ m. p (true ∷ m)) w (both (all_bits (λ m. p (false ∷ m)) w) (all_bits (λ m. p (true ∷ m)) w) e).1 l (omega arith)

-- Where a case stands.

-- the number that the code has for bits, behind those before them
unfoldable number_from : ℕ → List Bool → ℕ
number_from n [] = n
number_from n (b ∷ bits) = number_from (cond b (2 * n + 1) (2 * n)) bits

-- 28 rows a kind, and the first number of a kind's cases is 4, of `not` 2
abbrev place_of : Kind → List Bool → ℕ
place_of kind bits = 28 * rank kind + number_from 1 bits - cond (is_not kind) 2 4

abbrev is_at : ℕ → Kind → List Bool → Bool
is_at i kind bits = ltb i 170 && (eqb (rank (ruled_at i).kind) (rank kind) && same_bits (ruled_at i).bits bits)

abbrev in_place : Kind → List Bool → Bool
in_place kind bits = is_at (place_of kind bits) kind bits

abbrev Found : Kind → List Bool → Type 0
Found kind bits = (i : ℕ) × (i < 170) × ((case_at i).kind ≡ kind) × ((case_at i).bits ≡ bits)

in-place : (kind : Kind) (bits : List Bool) → in_place kind bits ≡ true → Found kind bits
in-place kind bits e =
    let i = place_of kind bits in
    let r = both (ltb i 170) (eqb (rank (ruled_at i).kind) (rank kind) && same_bits (ruled_at i).bits bits) e in
    let s = both (eqb (rank (ruled_at i).kind) (rank kind)) (same_bits (ruled_at i).bits bits) r.1 in (
      i,
      ltb-true i 170 r.0,
      from-ruled (λ c. c.kind ≡ kind) i (same_kind (ruled_at i).kind kind s.0),
      from-ruled (λ c. c.bits ≡ bits) i (same-bits (ruled_at i).bits bits s.1),
    )

of_width : (kind : Kind) (w : ℕ) → all_bits (in_place kind) w ≡ true → (bits : List Bool) → length bits ≡ w → Found kind bits
of_width kind w e bits h = in-place kind bits (each_bits (in_place kind) w e bits h)

-- two, three and four bits
of-widths : (kind : Kind) → all_bits (in_place kind) 2 ≡ true → all_bits (in_place kind) 3 ≡ true → all_bits (in_place kind) 4 ≡ true
    → (bits : List Bool) → (2 ≤ length bits) × (length bits ≤ 4) → Found kind bits
of-widths kind two three four [] h = absurd (omega (arith, h.0))
of-widths kind two three four (a ∷ []) h = absurd (omega (arith, h.0))
of-widths kind two three four (a ∷ b ∷ []) h = of_width kind 2 two (a ∷ b ∷ []) refl
of-widths kind two three four (a ∷ b ∷ c ∷ []) h = of_width kind 3 three (a ∷ b ∷ c ∷ []) refl
of-widths kind two three four (a ∷ b ∷ c ∷ d ∷ []) h = of_width kind 4 four (a ∷ b ∷ c ∷ d ∷ []) refl
of-widths kind two three four (a ∷ b ∷ c ∷ d ∷ e ∷ bits) h = absurd (omega (arith, h.1))

each-case : (kind : Kind) (bits : List Bool) → ReadBits kind bits → Found kind bits
unfolding ruled_cases count bits_of bits_to all_bits same_bits number_from xor
each-case And bits r = of-widths And refl refl refl bits (r.more (other-kind refl))
each-case Or bits r = of-widths Or refl refl refl bits (r.more (other-kind refl))
each-case Nand bits r = of-widths Nand refl refl refl bits (r.more (other-kind refl))
each-case Nor bits r = of-widths Nor refl refl refl bits (r.more (other-kind refl))
each-case Xor bits r = of-widths Xor refl refl refl bits (r.more (other-kind refl))
each-case Xnor bits r = of-widths Xnor refl refl refl bits (r.more (other-kind refl))
each-case Not bits r = of_width Not 1 refl bits (r.one refl)

placed : (i : ℕ) → i < 170 → place_of (case_at i).kind (case_at i).bits ≡ i
unfolding ruled_cases count bits_of bits_to all_below number_from
placed i h =
    from-ruled (λ c. place_of c.kind c.bits ≡ i) i
    (eqb-true (place_of (ruled_at i).kind (ruled_at i).bits) i (all-each (λ n. eqb (place_of (ruled_at n).kind (ruled_at n).bits) n) 170 refl i h))

valued : (i : ℕ) → i < 170 → (case_at i).value ≡ gate_value (case_at i).kind (case_at i).bits
unfolding ruled_cases count bits_of bits_to all_below gate_value all_of some_of odd_of xor
valued i h =
    from-ruled (λ c. c.value ≡ gate_value c.kind c.bits) i
    (alike_same (ruled_at i).value (gate_value (ruled_at i).kind (ruled_at i).bits)
    (all-each (λ n. alike (ruled_at n).value (gate_value (ruled_at n).kind (ruled_at n).bits)) 170 refl i h))

pub gate-table-right : GateTableRight
unfolding ruled_cases count
gate-table-right =
    record {
      ruled = table-ruled;
      rows = ap length table-ruled;
      values = valued;
      complete = each-case;
      once = λ i j h k e f. sym (placed i h) ∙ ap₂ place_of e f ∙ placed j k;
    }
