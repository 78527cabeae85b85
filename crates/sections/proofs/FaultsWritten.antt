-- The line of a fault of stuck lines is accepted as that fault, and no other line is:
--   stuck-told    a line of one, two or three pairs that rise, each a line of the circuit
--   Pairs         the numbers after the first pair: those of none, one or two more
--   stuck-only    a line that is accepted is the line of the fault that it says
use mathlib.Core.Path.{◌≡◌, refl, sym, ap, ap₂, ◌∙◌, subst}
use mathlib.Core.Bool.{Bool, true, false, cond, ◌&&◌, ◌||◌}
use mathlib.Core.List.{List, [], ◌∷◌, ◌++◌, map}
use mathlib.Core.Logic.{inl, inr}
use Prim.Native.Nat.{ℕ, zero, suc, ◌+◌, ◌-◌, ◌<◌, ◌≤◌}
use native.Mathlib.Omega.{arith}
use lib.Dec.{eqb, lit≤}
use lib.IntN.{ℤ, pos}
use lib.ListN.{length, get_or}
use borrow.Author.Tests.{le-leb, ne_eqb}
use Rattle.integer.specs.ListTests.{any}
use Rattle.integer.proofs.Bools.{both}
use Rattle.text.specs.Text.{line_end, index_of, field_count}
use Rattle.writing.specs.Writing.{Small, decimal_to, decimal_of, integer_of, gather, number_field, numbers_of, line_of}
use Rattle.writing.proofs.LineFields.{AtMost, most-small, line-longest}
use Rattle.statements.specs.Items.{free}
use Rattle.fields.specs.Fields.{value_at, is_line, unless}
use Rattle.statements.specs.Lines.{fault_word, is_fault, pair_in_range, pair_fits, fault_fits, lines_exist, rises_at, lines_rise, fault_refusal, pair_at, fault_of}
use Rattle.statements.specs.Items.{Fault}
use Rattle.statements.specs.declared.Pair.{Pair}
use Rattle.fields.proofs.Chains.{unless-passed}
use Rattle.fields.proofs.JoinedLines.{values_from, line-ended}
use Rattle.fields.proofs.PlainLines.{plain-count, plain_value, plain-line, absent}
use Rattle.statements.proofs.FormsMeant.{PairCount, fault-formed}
use Rattle.fields.proofs.TestsMean.{both-mean, below-means, range-means, there-means}
use Rattle.sections.specs.FaultLines.{pair_written, stuck_line, Above, StuckFault}
use Rattle.sections.proofs.FaultsRight.{there-fits, free-line}
use Rattle.sections.proofs.LinesWritten.{Told}

abbrev value_bit : Bool → ℕ
value_bit v = cond v 1 0

bit-range : (v : Bool) → value_bit v ≤ 1
bit-range true = omega arith
bit-range false = omega arith

bit-read : (v : Bool) → eqb (value_bit v) 1 ≡ v
bit-read true = refl
bit-read false = refl

abbrev pair_fields : Pair → List ℕ
pair_fields s = s.line ∷ value_bit s.value ∷ []

pair-there : (s : Pair) → 1 ≤ s.line → pair_written s ≡ map pos (pair_fields s)
unfolding pair_written
pair-there s h = rw (ne_eqb s.line 0 (λ e. omega arith))

pair-none : (s : Pair) → s ≡ free → pair_written s ≡ []
unfolding pair_written
pair-none s e = rw e

-- the pair at field k of a line, s, is there or `free`
module _ (l : List ℕ) (k : ℕ) (s : Pair) (line-is : value_at l k ≡ s.line) (value-is : value_at l (suc k) ≡ value_bit s.value) where
  pair-fits : (k < field_count l → 1 ≤ s.line) → s.line ≤ 56 → pair_fits l k ≡ true
  unfolding pair_fits pair_in_range
  pair-fits low high = (there-means (field_count l) k (both-mean (range-means line-is 1 56) (range-means value-is 0 1))).1 (λ h. ((low h, high), (omega arith, bit-range s.value)))

  pair-rises : (last : ℕ) → value_at l (k - 2) ≡ last → (k < field_count l → last < s.line) → rises_at l k ≡ true
  unfolding rises_at
  pair-rises last e rise = (there-means (field_count l) k (below-means e line-is)).1 rise

  pair-says : pair_at l k ≡ s
  unfolding pair_at
  pair-says = rw (line-is, value-is, bit-read s.value)

-- s is the pair whose numbers stand at k, or `free` where none are left
abbrev PairIn : List ℕ → ℕ → Pair → Type 0
PairIn more k s = (get_or more k 0 ≡ s.line) × (get_or more (suc k) 0 ≡ value_bit s.value)

-- `more` are the numbers of the pairs after the first
record Pairs (f : Fault) (more : List ℕ) : Type 0 where
  written : pair_written f.second ++ pair_written f.third ≡ map pos more
  whole : (eqb (3 + length more) 3 || eqb (3 + length more) 5 || eqb (3 + length more) 7) ≡ true
  most : AtMost (56 ∷ 1 ∷ 56 ∷ 1 ∷ []) more
  second : PairIn more 0 f.second
  third : PairIn more 2 f.third
  second-there : 0 < length more → f.first.line < f.second.line
  third-there : 2 < length more → f.second.line < f.third.line

in-none : (k : ℕ) (s : Pair) → s ≡ free → PairIn [] k s
in-none k s e = (sym (free-line e), ap (λ (s : Pair). value_bit s.value) (sym e))

module _ (top : ℕ) (f : Fault) (most : top ≤ 56) (r : StuckFault top f) where
  above-high : (last : ℕ) (s : Pair) → Above last top s → s.line ≤ top
  above-high last s (inl none) = omega (arith, free-line none)
  above-high last s (inr some) = some.1

  pair-most : (s : Pair) (limits rest : List ℕ) → s.line ≤ top → AtMost limits rest → AtMost (56 ∷ 1 ∷ limits) (pair_fields s ++ rest)
  pair-most s limits rest h m = (omega arith, (bit-range s.value, m))

  pairs-told : (more : List ℕ) → Pairs f more → Told 21 (fault_refusal top) fault_of (stuck_line f) f
  unfolding stuck_line fault_refusal is_fault fault_fits lines_exist lines_rise fault_of unless index_of any line_of numbers_of gather number_field integer_of decimal_of decimal_to
  pairs-told more p =
      record {
        word = fault_word;
        numbers = map pos ns;
        is = ap₂ (λ (a b : List ℤ). line_of fault_word (a ++ b)) (pair-there f.first r.first-low) p.written;
        one_line = refl;
        passes = rw (
          formed,
          pair-fits l 1 f.first (at 0) (at 1) (λ h. r.first-low) (omega (arith, r.first-high)),
          pair-fits l 3 f.second two.0 two.1 (λ h. omega (arith, two-rises h)) (omega (arith, two-high)),
          pair-fits l 5 f.third three.0 three.1 (λ h. omega (arith, three-rises h)) (omega (arith, three-high)),
          at 0,
          two.0,
          three.0,
          le-leb f.first.line top r.first-high,
          le-leb f.second.line top two-high,
          le-leb f.third.line top three-high,
          pair-rises l 3 f.second two.0 two.1 f.first.line (at 0) two-rises,
          pair-rises l 5 f.third three.0 three.1 f.second.line two.0 three-rises,
        );
        says = rw (pair-says l 1 f.first (at 0) (at 1), pair-says l 3 f.second two.0 two.1, pair-says l 5 f.third three.0 three.1, r.unbridged);
        short = line-longest fault_word longest ns high;
      }
    where
      ns : List ℕ
      ns = f.first.line ∷ value_bit f.first.value ∷ more

      -- their line has 21 bytes
      longest : List ℕ
      longest = 56 ∷ 1 ∷ 56 ∷ 1 ∷ 56 ∷ 1 ∷ []

      high : AtMost longest ns
      high = pair-most f.first (56 ∷ 1 ∷ 56 ∷ 1 ∷ []) more r.first-high p.most

      small : Small ns
      small = most-small longest ns refl high

      l : List ℕ
      l = fault_word ++ numbers_of (map pos ns)

      at : (k : ℕ) → value_at l (suc k) ≡ get_or ns k 0
      at k = plain_value fault_word ns small refl k

      count : field_count l ≡ 3 + length more
      count = plain-count fault_word ns small refl ∙ omega arith

      formed : is_fault l ≡ true
      formed = rw (count, p.whole) (ap (is_line l fault_word 1) next ∙ plain-line fault_word ns small refl)
        where
          next : 3 + length more ≡ suc (length ns)
          next = omega arith

      two : (value_at l 3 ≡ f.second.line) × (value_at l 4 ≡ value_bit f.second.value)
      two = (at 2 ∙ p.second.0, at 3 ∙ p.second.1)

      three : (value_at l 5 ≡ f.third.line) × (value_at l 6 ≡ value_bit f.third.value)
      three = (at 4 ∙ p.third.0, at 5 ∙ p.third.1)

      two-high : f.second.line ≤ top
      two-high = above-high f.first.line f.second r.second

      three-high : f.third.line ≤ top
      three-high = above-high f.second.line f.third r.third

      two-rises : 3 < field_count l → f.first.line < f.second.line
      two-rises h = p.second-there (omega (arith, count))

      three-rises : 5 < field_count l → f.second.line < f.third.line
      three-rises h = p.third-there (omega (arith, count))

  pub stuck-told : Told 21 (fault_refusal top) fault_of (stuck_line f) f
  stuck-told = go r.second r.third
    where
      go : Above f.first.line top f.second → Above f.second.line top f.third → Told 21 (fault_refusal top) fault_of (stuck_line f) f
      go (inl none) (inl last) =
          pairs-told []
          record {
            written = rw (pair-none f.second none, pair-none f.third last);
            whole = refl;
            most = tt;
            second = in-none 0 f.second none;
            third = in-none 2 f.third last;
            second-there = λ h. absurd (omega arith);
            third-there = λ h. absurd (omega arith);
          }
      go (inl none) (inr some) = absurd (omega (arith, some.0, r.no_gap (free-line none)))
      go (inr some) (inl last) =
          pairs-told (pair_fields f.second)
          record {
            written = rw (pair-there f.second (omega (arith, some.0)), pair-none f.third last);
            whole = refl;
            most = pair-most f.second (56 ∷ 1 ∷ []) [] some.1 tt;
            second = (refl, refl);
            third = in-none 2 f.third last;
            second-there = λ h. some.0;
            third-there = λ h. absurd (omega arith);
          }
      go (inr some) (inr next) =
          pairs-told (pair_fields f.second ++ pair_fields f.third)
          record {
            written = rw (pair-there f.second (omega (arith, some.0)), pair-there f.third (omega (arith, next.0)));
            whole = refl;
            most = pair-most f.second (56 ∷ 1 ∷ []) (pair_fields f.third) some.1 (pair-most f.third [] [] next.1 tt);
            second = (refl, refl);
            third = (refl, refl);
            second-there = λ h. some.0;
            third-there = λ h. next.0;
          }

-- ---- a line that is accepted

-- the pair at field k, as it is written
module _ (l : List ℕ) (k : ℕ) where
  pair-only : k < field_count l → pair_fits l k ≡ true → pair_written (pair_at l k) ≡ map pos (values_from l k 2)
  unfolding pair_at
  pair-only h e =
      let f = there-fits l k h e in
      pair-there (pair_at l k) f.0 ∙ ap (λ (v : ℕ). pos (value_at l k) ∷ pos v ∷ []) (bit (value_at l (suc k)) f.1)
    where
      bit : (v : ℕ) → v ≤ 1 → value_bit (eqb v 1) ≡ v
      bit zero h = refl
      bit (suc zero) h = refl
      bit (suc (suc v)) h = absurd (omega arith)

  no-pair : field_count l ≤ k → pair_written (pair_at l k) ≡ []
  unfolding pair_written pair_at
  no-pair h = rw (absent l k h)

pub stuck-only : (top : ℕ) (l : List ℕ) → fault_refusal top l ≡ 0 → l ++ (line_end ∷ []) ≡ stuck_line (fault_of l)
unfolding fault_refusal fault_fits stuck_line fault_of
stuck-only top l e =
    let passed = unless-passed (is_fault l) 2 _ (lit≤ tt) e in
    let fit = both (pair_fits l 1 && pair_fits l 3) (pair_fits l 5) (unless-passed (fault_fits l) 3 _ (lit≤ tt) passed.1).0 in
    let first = both (pair_fits l 1) (pair_fits l 3) fit.0 in
    let formed = fault-formed l passed.0 in
    go formed.0 (λ n c. line-ended l fault_word n (subst (λ (n : ℕ). is_line l fault_word 1 n ≡ true) c formed.1)) first.0 first.1 fit.1
  where
    go : PairCount (field_count l) → ((n : ℕ) → field_count l ≡ suc n → l ++ (line_end ∷ []) ≡ line_of fault_word (map pos (values_from l 1 n)))
        → pair_fits l 1 ≡ true → pair_fits l 3 ≡ true → pair_fits l 5 ≡ true
        → l ++ (line_end ∷ []) ≡ line_of fault_word (pair_written (pair_at l 1) ++ (pair_written (pair_at l 3) ++ pair_written (pair_at l 5)))
    go (inl (inl one)) ended a b c = ended 2 one ∙ rw (pair-only l 1 (omega arith) a, no-pair l 3 (omega arith), no-pair l 5 (omega arith))
    go (inl (inr two)) ended a b c = ended 4 two ∙ rw (pair-only l 1 (omega arith) a, pair-only l 3 (omega arith) b, no-pair l 5 (omega arith))
    go (inr three) ended a b c = ended 6 three ∙ rw (pair-only l 1 (omega arith) a, pair-only l 3 (omega arith) b, pair-only l 5 (omega arith) c)
