-- What the tests of a line of stuck lines show:
--   stuck-fault-right    a line that is not refused names one to three lines, rising, that exist
--   there-fits           a pair that is there has a line and a value in range
--   free-line            a pair that is not there names line 0
use mathlib.Core.Path.{◌≡◌, refl, ap}
use mathlib.Core.Bool.{true, ◌&&◌}
use mathlib.Core.List.{List}
use mathlib.Core.Logic.{inl, inr}
use Prim.Native.Nat.{ℕ, suc, ◌-◌, ◌<◌, ◌≤◌}
use native.Mathlib.Nat.{lt_of_not-le}
use native.Mathlib.Decide.{dec_le}
use native.Mathlib.Omega.{arith}
use lib.Dec.{leb, lit≤}
use borrow.Author.Tests.{leb-true}
use Rattle.text.specs.Text.{field_count}
use Rattle.integer.proofs.Bools.{both}
use Rattle.statements.specs.Items.{free}
use Rattle.fields.specs.Fields.{value_at}
use Rattle.statements.specs.Lines.{is_fault, pair_in_range, pair_fits, fault_fits, lines_exist, rises_at, lines_rise, fault_refusal, pair_at, fault_of}
use Rattle.statements.specs.declared.Pair.{Pair}
use Rattle.fields.proofs.Chains.{unless-passed}
use Rattle.fields.proofs.PlainLines.{absent}
use Rattle.statements.proofs.FormsMeant.{PairCount, fault-formed}
use Rattle.fields.proofs.TestsMean.{both-mean, below-means, range-means, there-means}
use Rattle.sections.specs.FaultLines.{Above, StuckFault}

some_pair : (l : List ℕ) → is_fault l ≡ true → 1 < field_count l
some_pair l e = go (fault-formed l e).0
  where
    go : PairCount (field_count l) → 1 < field_count l
    go (inl (inl one)) = omega arith
    go (inl (inr two)) = omega arith
    go (inr three) = omega arith

-- the pair at field k, which is there
module _ (l : List ℕ) (k : ℕ) (there : k < field_count l) where
  pub there-fits : pair_fits l k ≡ true → (1 ≤ value_at l k) × (value_at l (suc k) ≤ 1)
  unfolding pair_fits pair_in_range
  there-fits e = let t = (there-means (field_count l) k (both-mean (range-means refl 1 56) (range-means refl 0 1))).0 e there in (t.0.0, t.1.1)

  there-rises : rises_at l k ≡ true → value_at l (k - 2) < value_at l k
  unfolding rises_at
  there-rises e = (there-means (field_count l) k (below-means refl refl)).0 e there

pub free-line : {s : Pair} → s ≡ free → s.line ≡ 0
free-line e = ap (λ s. s.line) e

above : (l : List ℕ) (k top : ℕ) → rises_at l k ≡ true → value_at l k ≤ top → Above (value_at l (k - 2)) top (pair_at l k)
unfolding pair_at
above l k top e h = go (dec_le (field_count l) k)
  where
    go : Dec (field_count l ≤ k) → Above (value_at l (k - 2)) top (pair_at l k)
    go (yes none) = inl (rw (absent l k none, absent l (suc k) (omega arith)))
    go (no some) = inr (there-rises l k (lt_of_not-le some) e, h)

pub stuck-fault-right : (top : ℕ) (l : List ℕ) → fault_refusal top l ≡ 0 → StuckFault top (fault_of l)
unfolding fault_refusal fault_fits lines_exist lines_rise fault_of pair_at
stuck-fault-right top l e =
    let formed = unless-passed (is_fault l) 2 _ (lit≤ tt) e in
    let fit = unless-passed (fault_fits l) 3 _ (lit≤ tt) formed.1 in
    let exist = unless-passed (lines_exist top l) 5 _ (lit≤ tt) fit.1 in
    let rise = unless-passed (lines_rise l) 6 0 (lit≤ tt) exist.1 in
    let f = both (pair_fits l 1 && pair_fits l 3) (pair_fits l 5) fit.0 in
    let x = both (leb (value_at l 1) top && leb (value_at l 3) top) (leb (value_at l 5) top) exist.0 in
    let y = both (leb (value_at l 1) top) (leb (value_at l 3) top) x.0 in
    let r = both (rises_at l 3) (rises_at l 5) rise.0 in
    record {
      first-low = (there-fits l 1 (some_pair l formed.0) (both (pair_fits l 1) (pair_fits l 3) f.0).0).0;
      first-high = leb-true (value_at l 1) top y.0;
      second = above l 3 top r.0 (leb-true (value_at l 3) top y.1);
      third = above l 5 top r.1 (leb-true (value_at l 5) top x.1);
      no_gap = gap l r.0;
      unbridged = refl;
    }
  where
    gap : (l : List ℕ) → rises_at l 3 ≡ true → value_at l 3 ≡ 0 → value_at l 5 ≡ 0
    gap l r z = go (dec_le (field_count l) 5)
      where
        go : Dec (field_count l ≤ 5) → value_at l 5 ≡ 0
        go (yes none) = absent l 5 none
        go (no some) = let h : 3 < field_count l = omega (arith, lt_of_not-le some) in absurd (omega (arith, there-rises l 3 h r))
