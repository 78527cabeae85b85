-- What the code that reads one line finds:
--   passes, fails             what a test `if !r` shows of the test that r is
--   unwrapped, value_small    the number in a field, 0 where there is none, which is at most 9999
--   numbers_all               whether all fields of a range are numbers
use mathlib.Core.Path.{◌≡◌, refl, sym, ◌∙◌}
use mathlib.Core.Bool.{Bool, true, false, not}
use mathlib.Core.List.{List}
use Prim.Native.Nat.{ℕ, zero, suc, ◌≤◌}
use native.Mathlib.Numerals.{add-one}
use lib.Dec.{lit≤}
use borrow.Author.Tests.{not-true, not-false}
use Rattle.std.specs.Option.{unwrap_or}
use Rattle.std.specs.List.{list_all, range_with_len}
use Rattle.text.specs.Text.{field_of, number_of}
use Rattle.std.specs.Prelude.{Option, Some, None}
use Rattle.text.proofs.Decimals.{number-le}
use Rattle.fields.specs.Fields.{is_number, number_value, value_at, numbers_from}

pub passes : {r t : Bool} → r ≡ t → not r ≡ false → t ≡ true
passes {r} e n = sym e ∙ not-false r n

pub fails : {r t : Bool} → r ≡ t → not r ≡ true → t ≡ false
fails {r} e n = sym e ∙ not-true r n

pub value_small : (l : List ℕ) (k : ℕ) → value_at l k ≤ 9999
unfolding value_at
value_small l k = go (number_of (field_of l k)) refl
  where
    go : (n : Option ℕ) → number_of (field_of l k) ≡ n → number_value n ≤ 9999
    go (Some v) e = number-le (field_of l k) v e
    go None e = lit≤ tt

pub unwrapped : (n : Option ℕ) → unwrap_or n 0 ≡ number_value n
unwrapped (Some v) = refl
unwrapped None = refl

pub ruleset values = (unwrapped, value_small)

pub numbers_all : (l : List ℕ) (k count : ℕ) → list_all (λ i. is_number (number_of (field_of l i))) (range_with_len k count) ≡ numbers_from l k count
unfolding numbers_from
numbers_all l k zero = refl
numbers_all l k (suc count) = rw (add-one, numbers_all l (suc k) count)
