-- What a line, a field, a word and a number of a text are (document 01, "The circuit text"). A text is a list of bytes.
--   "Fields stand in fixed order, parted by commas, with no quoting. A line ends in one byte 0A hexadecimal."
--   "The words are compared byte for byte."
--   "A number is 1 to 4 decimal digits, with no leading zero except in `0` itself."
-- and a number that may have a sign (document 02, note 4): "written with `-`" "`-0` is a bad number".
use Prim.Native.Char.{code}
use Prim.Native.String.{String, [] as none, ◌∷◌ as ◌then◌}
use Rattle.std.specs.Prelude.{ℕ, zero, suc, ◌+◌, ◌-◌, ◌*◌, Bool, true, false, not, cond, ◌&&◌, ◌||◌, List, [], ◌∷◌, length, take, drop, get_or, eqb, leb, ltb, Option, Some, None, option_map, ℤ, pos, negsuc}

-- the bytes of a word of ASCII
abbrev pub bytes_of : String → List ℕ
bytes_of none = []
bytes_of (c then s) = code c ∷ bytes_of s

abbrev pub comma : ℕ
comma = 44

abbrev pub line_end : ℕ
line_end = 10

-- "text over 16,384 bytes" is refused by 1
abbrev pub text_bytes : ℕ
text_bytes = 16384

-- the index of the first b, and the length where there is none
unfoldable pub index_of : ℕ → List ℕ → ℕ
index_of b [] = zero
index_of b (x ∷ rest) = cond (eqb x b) zero (suc (index_of b rest))

-- what stands before the first b, and what stands after it: all and nothing where there is none
unfoldable pub before : ℕ → List ℕ → List ℕ
before b l = take (index_of b l) l

unfoldable pub after : ℕ → List ℕ → List ℕ
after b l = drop (suc (index_of b l)) l

-- some b is in the list
abbrev pub has_byte : ℕ → List ℕ → Bool
has_byte b l = ltb (index_of b l) (length l)

-- "The field handed back is that part of the lent text between two commas or ends; where no such field exists it is the empty part at the
-- text's end." Its bytes, and the index at which it starts.
unfoldable pub field_of : List ℕ → ℕ → List ℕ
field_of l zero = before comma l
field_of l (suc k) = field_of (after comma l) k

unfoldable pub field_start : List ℕ → ℕ → ℕ
field_start l zero = zero
field_start l (suc k) = cond (has_byte comma l) (suc (index_of comma l) + field_start (after comma l) k) (length l)

-- a pointer n bytes further: a block and an offset in it
abbrev pub further : ℕ → ℕ × ℕ → ℕ × ℕ
further n p = (p.0, n + p.1)

-- how many fields there are: one more than commas
unfoldable pub field_count : List ℕ → ℕ
field_count [] = 1
field_count (x ∷ rest) = cond (eqb x comma) (suc (field_count rest)) (field_count rest)

unfoldable pub same_bytes : List ℕ → List ℕ → Bool
same_bytes [] [] = true
same_bytes [] (y ∷ ys) = false
same_bytes (x ∷ xs) [] = false
same_bytes (x ∷ xs) (y ∷ ys) = eqb x y && same_bytes xs ys

unfoldable pub digits : List ℕ → Bool
digits [] = true
digits (x ∷ rest) = (leb 48 x && leb x 57) && digits rest

-- the number that digits make after v
unfoldable pub decimal_from : ℕ → List ℕ → ℕ
decimal_from v [] = v
decimal_from v (x ∷ rest) = decimal_from (v * 10 + (x - 48)) rest

unfoldable pub well_formed : List ℕ → Bool
well_formed l = (leb 1 (length l) && leb (length l) 4) && ((eqb (length l) 1 || not (eqb (get_or l 0 0) 48)) && digits l)

unfoldable pub number_of : List ℕ → Option ℕ
number_of l = cond (well_formed l) (Some (decimal_from 0 l)) None

abbrev pub minus_sign : ℕ
minus_sign = 45

-- the negative of a number other than 0
abbrev pub negative_number : Option ℕ → Option ℤ
negative_number None = None
negative_number (Some zero) = None
negative_number (Some (suc v)) = Some (negsuc v)

-- a number, or `-` and a number other than 0
unfoldable pub signed_number_of : List ℕ → Option ℤ
signed_number_of l = cond (eqb (get_or l 0 0) minus_sign) (negative_number (number_of (drop 1 l))) (option_map pos (number_of l))
