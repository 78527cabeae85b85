-- The order, and the labels below n:
--   order-rule        each label below 256 once, by number of ones and then by value: one computed test
--   order-start       its first twelve labels are those that document 01 lists
--   order-length, order-rising, order-distinct    what it says, for proofs
--   labels-count      there are 2 ^ k labels below 2 ^ k
--   labels-all, labels-low, labels-below    they are the numbers below n
--   labels-distinct   each stands once
--   labels-to, listed, label-passed, all_listed    a loop that lists them: those among the first i of the order; a label below n, one that is not, the end
use mathlib.Core.Path.{◌≡◌, refl, sym, ap, ap₂, ◌∙◌, subst}
use mathlib.Core.Bool.{Bool, true, cond, ◌&&◌}
use mathlib.Core.List.{List, [], ◌∷◌, ◌++◌, append-nil, Memᴰ}
use Prim.Native.Nat.{ℕ, ◌+◌, ◌<◌, ◌≤◌, ◌^◌}
use native.Mathlib.Numerals.{add-one}
use native.Mathlib.Omega.{arith}
use lib.Count.{ones}
use lib.Dec.{eqb}
use lib.ListN.{length, get_or, take, set}
use lib.Seq.{take-suc, take-suc-set, take_all, length-take-le}
use borrow.Author.Tests.{eqb-true, lt-ltb, le-ltb, ltb-true}
use Rattle.integer.specs.Counting.{all_below, count}
use Rattle.integer.specs.ListTests.{keep, has, distinct, Below}
use Rattle.integer.proofs.Bools.{both}
use Rattle.integer.proofs.Subsequences.{keep-sub, sub-distinct}
use Rattle.integer.proofs.NumbersBelow.{all-each}
use Rattle.integer.proofs.Entries.{at_mem, has-mem, keep-mem, mem-keep, keep_append}
use Rattle.cover.specs.Order.{with_ones, by_ones, order, below, labels_below, earlier, rising}

unfoldable pub in_table : ℕ → Bool
in_table label = has label order

pub order-rule : (eqb (length order) 256 && all_below in_table 256 && rising order) ≡ true
unfolding order by_ones with_ones keep count ones all_below in_table has rising earlier
order-rule = refl

pub order-start : take 12 order ≡ 0 ∷ 1 ∷ 2 ∷ 4 ∷ 8 ∷ 16 ∷ 32 ∷ 64 ∷ 128 ∷ 3 ∷ 5 ∷ 6 ∷ []
unfolding order by_ones with_ones keep count ones
order-start = refl

rule-parts : (eqb (length order) 256 ≡ true) × (all_below in_table 256 ≡ true) × (rising order ≡ true)
rule-parts =
    let r = both (eqb (length order) 256 && all_below in_table 256) (rising order) order-rule in
    let s = both (eqb (length order) 256) (all_below in_table 256) r.0 in
    (s.0, s.1, r.1)

pub order-length : length order ≡ 256
order-length = eqb-true (length order) 256 rule-parts.0

pub order-rising : rising order ≡ true
order-rising = rule-parts.2

pub order-distinct : distinct order ≡ true
unfolding order by_ones with_ones keep count ones distinct has
order-distinct = refl

counted : ℕ → Bool
counted k = eqb (length (labels_below (2 ^ k))) (2 ^ k)

all-counted : all_below counted 9 ≡ true
unfolding all_below counted labels_below below order by_ones with_ones keep count ones
all-counted = refl

pub labels-count : (k : ℕ) → k ≤ 8 → length (labels_below (2 ^ k)) ≡ 2 ^ k
unfolding counted
labels-count k h = eqb-true (length (labels_below (2 ^ k))) (2 ^ k) (all-each counted 9 all-counted k (omega arith))

pub labels-all : (n l : ℕ) → n ≤ 256 → l < n → Memᴰ l (labels_below n)
unfolding labels_below below in_table
labels-all n l h k = keep-mem (below n) order l (has-mem l order (all-each in_table 256 rule-parts.1 l (omega arith))) (lt-ltb l n k)

pub labels-low : (n l : ℕ) → Memᴰ l (labels_below n) → l < n
unfolding labels_below below
labels-low n l m = ltb-true l n (mem-keep (below n) order l m).1

pub labels-below : (n : ℕ) → Below n (labels_below n)
labels-below n i h = labels-low n (get_or (labels_below n) i 0) (at_mem (labels_below n) i h)

pub labels-distinct : (n : ℕ) → distinct (labels_below n) ≡ true
unfolding labels_below
labels-distinct n = sub-distinct (labels_below n) order (keep-sub (below n) order) order-distinct

module _ (n : ℕ) where
  abbrev pub labels-to : ℕ → List ℕ
  labels-to i = keep (below n) (take i order)

  one_more : (i : ℕ) → i < 256 → labels-to (i + 1) ≡ labels-to i ++ cond (below n (get_or order i 0)) (get_or order i 0 ∷ []) []
  unfolding keep
  one_more i h =
      ap (λ (k : ℕ). keep (below n) (take k order)) (add-one i) ∙ ap (keep (below n)) (take-suc order i 0 (omega (arith, order-length)))
      ∙ keep_append (below n) (take i order) (get_or order i 0 ∷ [])

  module _ (i label count : ℕ) (labels : List ℕ) (h : i < 256) (here : label ≡ get_or order i 0) (so_far : take count labels ≡ labels-to i) where
    pub listed : label < n → count < length labels → take (count + 1) (set labels count label) ≡ labels-to (i + 1)
    unfolding below
    listed low room =
        let kept = lt-ltb (get_or order i 0) n (subst (λ (x : ℕ). x < n) here low) in
        ap (λ (k : ℕ). take k (set labels count label)) (add-one count) ∙ take-suc-set labels count label room
        ∙ ap₂ (λ (l : List ℕ) (x : ℕ). l ++ (x ∷ [])) so_far here
        ∙ sym (one_more i h ∙ ap (λ (b : Bool). labels-to i ++ cond b (get_or order i 0 ∷ []) []) kept)

    pub label-passed : n ≤ label → take count labels ≡ labels-to (i + 1)
    unfolding below
    label-passed high =
        let left = le-ltb (get_or order i 0) n (subst (λ (x : ℕ). n ≤ x) here high) in
        so_far ∙ sym (one_more i h ∙ ap (λ (b : Bool). labels-to i ++ cond b (get_or order i 0 ∷ []) []) left ∙ append-nil (labels-to i))

  pub all_listed : (i count : ℕ) (labels : List ℕ) → 256 ≤ i → count ≤ length labels → take count labels ≡ labels-to i → take (length (labels_below n)) labels ≡ labels_below n
  unfolding labels_below
  all_listed i count labels end room so_far =
      let all : take count labels ≡ labels_below n = so_far ∙ ap (keep (below n)) (take_all i order (omega (arith, order-length))) in
      ap (λ (k : ℕ). take k labels) (ap length (sym all) ∙ length-take-le count labels room) ∙ all
