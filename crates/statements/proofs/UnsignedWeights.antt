-- Output lines as before weights had a sign:
--   unsigned-line    a line whose WEIGHT does not begin with `-` is refused by the same number, and says the same output
use mathlib.Core.Path.{◌≡◌, refl}
use mathlib.Core.Bool.{Bool, true, false, ◌&&◌}
use mathlib.Core.List.{List}
use mathlib.Core.Logic.{◌≢◌}
use Prim.Native.Nat.{ℕ}
use lib.Dec.{eqb}
use lib.IntN.{pos}
use lib.ListN.{get_or}
use borrow.Author.Tests.{ne_eqb}
use Rattle.std.specs.Prelude.{Option, Some, None, option_map, unwrap_or, is_some}
use Rattle.text.specs.Text.{field_of, field_count, same_bytes, number_of, minus_sign, signed_number_of}
use Rattle.fields.specs.Fields.{is_number, number_value, value_at, signed_value_at, numbers_from, is_line, fits}
use Rattle.statements.specs.Lines.{output_word, is_output, output_fits, output_refusal, output_of, unsigned_refusal, unsigned_of}

module _ (l : List ℕ) (no_sign : get_or (field_of l 2) 0 0 ≢ minus_sign) where
  weight-is : signed_number_of (field_of l 2) ≡ option_map pos (number_of (field_of l 2))
  unfolding signed_number_of
  weight-is = rw (ne_eqb (get_or (field_of l 2) 0 0) minus_sign no_sign)

  value-is : signed_value_at l 2 ≡ pos (value_at l 2)
  unfolding signed_value_at value_at
  value-is = rw weight-is (go (number_of (field_of l 2)))
    where
      go : (n : Option ℕ) → unwrap_or (option_map pos n) (pos 0) ≡ pos (number_value n)
      go (Some v) = refl
      go None = refl

  form-is : is_output l ≡ is_line l output_word 1 3
  unfolding is_output is_line numbers_from
  form-is = rw weight-is (go (eqb (field_count l) 3 && same_bytes (field_of l 0) output_word) (is_number (number_of (field_of l 1))) (number_of (field_of l 2)))
    where
      go : (a b : Bool) (n : Option ℕ) → ((a && (b && true)) && is_some (option_map pos n)) ≡ (a && (b && (is_number n && true)))
      go false b n = refl
      go true false n = refl
      go true true (Some v) = refl
      go true true None = refl

  pub unsigned-line : (top : ℕ) → (output_refusal top l ≡ unsigned_refusal top l) × (output_of l ≡ unsigned_of l)
  unfolding output_refusal unsigned_refusal output_of unsigned_of output_fits fits
  unsigned-line top = (rw (form-is, value-is), rw value-is)
