-- The spectrum under a bridge of two inputs, from coefficients alone (document 02, note 8). What the bridge does to rows stands beside the
-- other faults (`bridged_rows`). Input i is bit i - 1 of a row or a label.
use Rattle.std.specs.Prelude.{ℕ, zero, suc, ◌+◌, ◌-◌, ◌%◌, ◌^◌, List, Bool, not, ◌&&◌, ℤ, pos, nat_abs, ◌+ℤ◌, neg_ℤ, eqb, leb, ltb, length}
use Rattle.integer.specs.First.{first_where}
use Rattle.integer.specs.Tab.{tab, nth}
use Rattle.screen.specs.Answers.{Answer, Done, and_then, refuse_if, minus, screen_of, inputs_of}
use Rattle.results.specs.Quotients.{quotient_of}
use Rattle.faults.specs.Faults.{bit_of, replaced}

-- the label without I and J
unfoldable pub without_both : ℕ → ℕ → ℕ → ℕ
without_both i j label = replaced (record { line = j; value = 0 }) (replaced (record { line = i; value = 0 }) label)

-- how many of the two the label has
abbrev pub has_of : ℕ → ℕ → ℕ → ℕ
has_of i j label = bit_of i label + bit_of j label

-- "the sum of the coefficients with only I and with only J", the label's other inputs as they are
unfoldable pub pair_sum : ℕ → ℕ → (ℕ → ℤ) → ℕ → ℤ
pair_sum i j f label = f (without_both i j label + 2 ^ (i - 1)) +ℤ f (without_both i j label + 2 ^ (j - 1))

-- half of it, rounded toward zero where it is not whole: that half is never written
unfoldable pub half_at : ℕ → ℕ → (ℕ → ℤ) → ℕ → ℤ
half_at i j f label = quotient_of 2 (pair_sum i j f label)

-- "at a label without I and J the faulty value is the sound one, plus half the sum of the two coefficients that add I or J, plus the one that
-- adds both"
unfoldable pub with_neither : ℕ → ℕ → (ℕ → ℤ) → ℕ → ℤ
with_neither i j f label = (f label +ℤ half_at i j f label) +ℤ f (label + 2 ^ (i - 1) + 2 ^ (j - 1))

-- by how many of the two the label has: "At a label with just one of them it is half the sum of the coefficients with only I and with only J;
-- with both, the negative of that."
unfoldable pub bridged_by : ℕ → ℕ → (ℕ → ℤ) → ℕ → ℕ → ℤ
bridged_by i j f label zero = with_neither i j f label
bridged_by i j f label (suc zero) = half_at i j f label
bridged_by i j f label (suc (suc more)) = neg_ℤ (half_at i j f label)

unfoldable pub bridged_at : ℕ → ℕ → (ℕ → ℤ) → ℕ → ℤ
bridged_at i j f label = bridged_by i j f label (has_of i j label)

unfoldable pub bridged_spectrum_of : ℕ → ℕ → List ℤ → List ℤ
bridged_spectrum_of i j coefficients = tab (length coefficients) (bridged_at i j (nth coefficients))

-- "a half does not come out whole"
unfoldable pub unhalved_at : ℕ → ℕ → List ℤ → ℕ → Bool
unhalved_at i j coefficients label = not (eqb (nat_abs (pair_sum i j (nth coefficients) label) % 2) 0)

unfoldable pub first_unhalved : ℕ → ℕ → List ℤ → ℕ
first_unhalved i j coefficients = first_where (unhalved_at i j coefficients) (length coefficients)

-- "a list in which a half does not come out whole gets 11 at the first such label"
unfoldable pub unhalved_answer : ℕ → ℕ → List ℤ → Answer
unhalved_answer i j coefficients = refuse_if (ltb (first_unhalved i j coefficients) (length coefficients)) 11 (first_unhalved i j coefficients) Done

-- "12 is given unless I is below J and both are inputs of the list"
unfoldable pub bridge_right : ℕ → ℕ → ℕ → Bool
bridge_right n i j = ltb 0 i && (ltb i j && leb j n)

unfoldable pub bridged_answer : List ℤ → ℕ → ℕ → ℕ → Answer
bridged_answer coefficients i j room =
    and_then (screen_of (minus 2048000) (pos 2048000) (bridge_right (inputs_of (length coefficients)) i j) coefficients room (length coefficients))
    (unhalved_answer i j coefficients)
