-- What a test says of a list of numbers, and what is said of its entries:
--   any p l              some entry passes
--   keep p l             the entries that pass, in their order
--   has x l              x is an entry
--   distinct l           no entry stands twice
--   subsequence a b      a is b with entries left out
--   Below n l            each entry is below n
use Rattle.std.specs.Prelude.{Bool, true, false, not, cond, ◌&&◌, ◌||◌, List, [], ◌∷◌, ℕ, ◌<◌, eqb, length, get_or}

unfoldable pub any : (ℕ → Bool) → List ℕ → Bool
any p [] = false
any p (x ∷ xs) = p x || any p xs

unfoldable pub keep : (ℕ → Bool) → List ℕ → List ℕ
keep p [] = []
keep p (x ∷ xs) = cond (p x) (x ∷ keep p xs) (keep p xs)

unfoldable pub has : ℕ → List ℕ → Bool
has x [] = false
has x (y ∷ ys) = eqb y x || has x ys

unfoldable pub distinct : List ℕ → Bool
distinct [] = true
distinct (x ∷ xs) = not (has x xs) && distinct xs

unfoldable pub subsequence : List ℕ → List ℕ → Bool
subsequence [] ls = true
subsequence (x ∷ xs) [] = false
subsequence (x ∷ xs) (l ∷ ls) = (eqb l x && subsequence xs ls) || subsequence (x ∷ xs) ls

abbrev pub Below : ℕ → List ℕ → Type 0
Below n l = (i : ℕ) → i < length l → get_or l i 0 < n
