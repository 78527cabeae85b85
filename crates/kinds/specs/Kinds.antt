-- The kinds of gates and the words that they are written as (document 01, "The circuit text"):
--   "KIND is `and`, `or`, `nand`, `nor`, `xor`, `xnor` or `not`" "The words are compared byte for byte."
use Rattle.std.specs.Prelude.{ℕ, Bool, cond, ◌||◌, List}
use Rattle.text.specs.Text.{bytes_of, same_bytes}
use Rattle.kinds.specs.declared.Kind.{Kind}
use Rattle.kinds.specs.declared.Kind.TheVariants.{And, Or, Nand, Nor, Xor, Xnor, Not}

abbrev pub and_word : List ℕ
and_word = bytes_of "and"

abbrev pub or_word : List ℕ
or_word = bytes_of "or"

abbrev pub nand_word : List ℕ
nand_word = bytes_of "nand"

abbrev pub nor_word : List ℕ
nor_word = bytes_of "nor"

abbrev pub xor_word : List ℕ
xor_word = bytes_of "xor"

abbrev pub xnor_word : List ℕ
xnor_word = bytes_of "xnor"

abbrev pub not_word : List ℕ
not_word = bytes_of "not"

-- the word that a kind is written as
unfoldable pub kind_word : Kind → List ℕ
kind_word And = and_word
kind_word Or = or_word
kind_word Nand = nand_word
kind_word Nor = nor_word
kind_word Xor = xor_word
kind_word Xnor = xnor_word
kind_word Not = not_word

unfoldable pub is_kind : List ℕ → Bool
is_kind w = same_bytes w and_word || same_bytes w or_word || same_bytes w nand_word || same_bytes w nor_word || same_bytes w xor_word || same_bytes w xnor_word || same_bytes w not_word

-- where it is none of them it counts as `not`
unfoldable pub kind_of : List ℕ → Kind
kind_of w =
    cond (same_bytes w and_word) And
    (cond (same_bytes w or_word) Or
    (cond (same_bytes w nand_word) Nand
    (cond (same_bytes w nor_word) Nor
    (cond (same_bytes w xor_word) Xor
    (cond (same_bytes w xnor_word) Xnor Not)))))
