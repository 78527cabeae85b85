-- What a call on a list answers, and the tests that every such call begins with (document 01, "What is returned"):
--   "Calls on lists test 9, 12, 10, 8, 11."
use Rattle.std.specs.Prelude.{◌≡◌, ◌≤◌, true, ℕ, zero, suc, ◌^◌, List, Bool, not, cond, ◌||◌, ℤ, pos, neg_ℤ, eqb, ltb, length, Result}
use Rattle.std.specs.Int.Signed.{lt_z}
use Rattle.integer.specs.First.{first_where}
use Rattle.integer.specs.Tab.{nth, Within}
use Rattle.refusals.specs.declared.Refusal.{Refusal}
use Rattle.refusals.specs.Refusals.{told}

-- nothing to tell, or document 01's number and place of the refusal
pub data Answer : Type 0 where
  Done : Answer
  Refused : ℕ → ℕ → Answer

-- what an answer of the code says, whatever its value is
abbrev pub answer_of : {A : Type 0} → Result A Refusal → Answer
answer_of = told (λ done. Done) Refused

-- document 01's number and place of an answer
abbrev pub answer_number : Answer → ℕ
answer_number Done = 0
answer_number (Refused number place) = number

abbrev pub answer_place : Answer → ℕ
answer_place Done = 0
answer_place (Refused number place) = place

-- the next tests, where none before has refused
abbrev pub and_then : Answer → Answer → Answer
and_then Done next = next
and_then (Refused number place) next = Refused number place

-- one test: the refusal where it holds, else the next tests
abbrev pub refuse_if : Bool → ℕ → ℕ → Answer → Answer
refuse_if test number place next = cond test (Refused number place) next

-- -n
abbrev pub minus : ℕ → ℤ
minus n = neg_ℤ (pos n)

-- the number of inputs of a list: the k from 1 to `most` with 2 ^ k numbers, and 0 where there is none
unfoldable pub inputs_to : ℕ → ℕ → ℕ
inputs_to zero n = 0
inputs_to (suc most) n = cond (eqb n (2 ^ suc most)) (suc most) (inputs_to most n)

-- "2, 4, 8 .. 2,048"
unfoldable pub inputs_of : ℕ → ℕ
inputs_of n = inputs_to 11 n

-- not from low to high
unfoldable pub outside : ℤ → ℤ → ℤ → Bool
outside low high z = lt_z z low || lt_z high z

unfoldable pub outside_at : ℤ → ℤ → List ℤ → ℕ → Bool
outside_at low high l x = outside low high (nth l x)

unfoldable pub first_outside : ℤ → ℤ → List ℤ → ℕ
first_outside low high l = first_where (outside_at low high l) (length l)

-- 9, 12 unless the arguments are right, 10 at the first number that is not from low to high, 8 unless there is room for what is due
unfoldable pub screen_of : ℤ → ℤ → Bool → List ℤ → ℕ → ℕ → Answer
screen_of low high right l room due =
    refuse_if (eqb (inputs_of (length l)) 0) 9 0
    (refuse_if (not right) 12 0
    (refuse_if (ltb (first_outside low high l) (length l)) 10 (first_outside low high l)
    (refuse_if (ltb room due) 8 0 Done)))

-- what is known of a list from -B to B that passed, and of its call's arguments
pub record Ready (B : ℕ) (test : Bool) (l : List ℤ) (room due : ℕ) : Type 0 where
  pub few : length l ≤ 2048
  pub most : inputs_of (length l) ≤ 11
  pub power : length l ≡ 2 ^ inputs_of (length l)
  pub within : Within B l
  pub right : test ≡ true
  pub fits : due ≤ room
