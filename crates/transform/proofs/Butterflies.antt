-- The butterfly on a list of h + h numbers, turn by turn:
--   at_turn            the list before the turn i: in each half the first i numbers are new
--   at-start, at-end   before the turn 0 it is the list itself, and before the turn h the list of sums and differences
--   sum_fits, difference-fits, machine-turn    what a turn computes, and what it leaves
use mathlib.Core.Path.{◌≡◌, sym, ap, ap₂, ◌∙◌}
use mathlib.Core.List.{List, [], ◌∷◌, ◌++◌, append-nil}
use Prim.Native.Nat.{ℕ, ◌+◌, ◌<◌, ◌^◌}
use native.Mathlib.Nat.{zero-add, suc-add}
use native.Mathlib.Omega.{arith}
use lib.IntN.{ℤ, pos, ◌+ℤ◌, ◌-ℤ◌, nat_abs}
use lib.ListN.{length, set, take, drop, length-drop, take-append-drop, get_or-append, drop_of_length-le}
use lib.Seq.{set-append_left, length-take-le, get_or-take, get_or-drop, get_or-append-add}
use mir.Syntax.{w64}
use mir.Val.{SFits, to_z, of_z}
use Rattle.integer.specs.Tab.{tab, nth, Within}
use Rattle.integer.proofs.Machine.{add-fits, sub-fits, add_kept, sub-kept}
use Rattle.integer.proofs.Tabs.{tab-step, tab-ahead, length_part}
use Rattle.transform.specs.Steps.{sum_at, difference_at, halves_mixed}

set-append-add : {A : Type 0} (xs ys : List A) (i : ℕ) (v : A) → set (xs ++ ys) (length xs + i) v ≡ xs ++ set ys i v
set-append-add [] ys i v = ap (λ (n : ℕ). set ys n v) (zero-add i)
set-append-add (x ∷ xs) ys i v = ap (λ (n : ℕ). set (x ∷ (xs ++ ys)) n v) (suc-add (length xs) i) ∙ ap (λ l. x ∷ l) (set-append-add xs ys i v)

abbrev sums : List ℤ → ℕ → ℕ → List ℤ
sums a h i = tab i (sum_at a h) ++ drop i (take h a)

abbrev differences : List ℤ → ℕ → ℕ → List ℤ
differences a h i = tab i (difference_at a h) ++ drop i (drop h a)

abbrev pub at_turn : List ℤ → ℕ → ℕ → List ℤ
at_turn a h i = sums a h i ++ differences a h i

module _ (a : List ℤ) (h i : ℕ) (e : length a ≡ h + h) (l : i < h) where
  low : length (take h a) ≡ h
  low = length-take-le h a (omega arith)

  high : length (drop h a) ≡ h
  high = omega (arith, length-drop h a)

  now-long : length (sums a h i) ≡ h
  now-long = length_part i (sum_at a h) (take h a) (omega (arith, low)) ∙ low

  then-long : length (sums a h (i + 1)) ≡ h
  then-long = length_part (i + 1) (sum_at a h) (take h a) (omega (arith, low)) ∙ low

  read_low : nth (at_turn a h i) i ≡ nth a i
  read_low =
      get_or-append (sums a h i) (differences a h i) (pos 0) i (omega (arith, now-long))
      ∙ tab-ahead (take h a) (sum_at a h) (pos 0) i i (omega arith) ∙ get_or-take h a i (pos 0) l

  read-high : nth (at_turn a h i) (h + i) ≡ nth a (h + i)
  read-high =
      ap (λ (n : ℕ). nth (at_turn a h i) (n + i)) (sym now-long)
      ∙ get_or-append-add (sums a h i) (differences a h i) i (pos 0)
      ∙ tab-ahead (drop h a) (difference_at a h) (pos 0) i i (omega arith) ∙ get_or-drop h a i (pos 0)

  butterfly-turn : set (set (at_turn a h i) i (sum_at a h i)) (h + i) (difference_at a h i) ≡ at_turn a h (i + 1)
  butterfly-turn =
      ap (λ (r : List ℤ). set r (h + i) (difference_at a h i))
      (set-append_left (sums a h i) (differences a h i) i (sum_at a h i) (omega (arith, now-long))
      ∙ ap (λ (r : List ℤ). r ++ differences a h i) (tab-step (take h a) (sum_at a h) (pos 0) i (omega (arith, low))))
      ∙ ap (λ (n : ℕ). set (sums a h (i + 1) ++ differences a h i) (n + i) (difference_at a h i)) (sym then-long)
      ∙ set-append-add (sums a h (i + 1)) (differences a h i) i (difference_at a h i)
      ∙ ap (λ (r : List ℤ). sums a h (i + 1) ++ r) (tab-step (drop h a) (difference_at a h) (pos 0) i (omega (arith, high)))

  -- and as the machine computes it, where a sum of two has room
  module _ (now : List ℤ) (so_far : now ≡ at_turn a h i) (small : Within 4194304000 a) where
    x-is : of_z w64 (nth now i) ≡ of_z w64 (nth a i)
    x-is = ap (λ (r : List ℤ). of_z w64 (nth r i)) so_far ∙ ap (of_z w64) read_low

    y-is : of_z w64 (nth now (h + i)) ≡ of_z w64 (nth a (h + i))
    y-is = ap (λ (r : List ℤ). of_z w64 (nth r (h + i))) so_far ∙ ap (of_z w64) read-high

    room : nat_abs (nth a i) + nat_abs (nth a (h + i)) < 2 ^ 63
    room = omega (arith, small i (omega arith), small (h + i) (omega arith))

    pub sum_fits : SFits w64 (to_z w64 (of_z w64 (nth now i)) +ℤ to_z w64 (of_z w64 (nth now (h + i))))
    sum_fits = add-fits w64 (nth a i) (nth a (h + i)) x-is y-is room

    pub difference-fits : SFits w64 (to_z w64 (of_z w64 (nth now i)) -ℤ to_z w64 (of_z w64 (nth now (h + i))))
    difference-fits = sub-fits w64 (nth a i) (nth a (h + i)) x-is y-is room

    pub machine-turn : set (set now i (to_z w64 (of_z w64 (to_z w64 (of_z w64 (nth now i)) +ℤ to_z w64 (of_z w64 (nth now (h + i)))))))
        (h + i) (to_z w64 (of_z w64 (to_z w64 (of_z w64 (nth now i)) -ℤ to_z w64 (of_z w64 (nth now (h + i)))))) ≡ at_turn a h (i + 1)
    machine-turn =
        ap₂ (λ (u v : ℤ). set (set now i u) (h + i) v) (add_kept w64 (nth a i) (nth a (h + i)) x-is y-is room) (sub-kept w64 (nth a i) (nth a (h + i)) x-is y-is room)
        ∙ ap (λ (r : List ℤ). set (set r i (sum_at a h i)) (h + i) (difference_at a h i)) so_far
        ∙ butterfly-turn

pub at-start : (a : List ℤ) (h : ℕ) → a ≡ at_turn a h 0
unfolding tab
at-start a h = sym (take-append-drop h a)

pub at-end : (a : List ℤ) (h : ℕ) → length a ≡ h + h → at_turn a h h ≡ halves_mixed a h
unfolding halves_mixed
at-end a h e =
    ap₂ (λ (p q : List ℤ). (tab h (sum_at a h) ++ p) ++ (tab h (difference_at a h) ++ q))
    (drop_of_length-le (take h a) {i = h} (omega (arith, length-take-le h a (omega arith))))
    (drop_of_length-le (drop h a) {i = h} (omega (arith, length-drop h a)))
    ∙ ap₂ (λ (p q : List ℤ). p ++ q) (append-nil (tab h (sum_at a h))) (append-nil (tab h (difference_at a h)))
