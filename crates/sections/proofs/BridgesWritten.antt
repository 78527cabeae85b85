-- Fault lines of either kind, the one of a bridge among them, are accepted as the faults that they are written from, and no other lines are:
--   bridge-told, bridge-only                 the line of a bridge
--   either-stuck, either-bridge, either-passed    a fault line that is not refused says what a line of its kind says
--   fault-right                              a fault line that is not refused says a right fault
--   fault-told, fault-only                   and is the line of that fault
--   lines-as-before                          fault lines without the word of a bridge are read as before there were any
use mathlib.Core.Path.{◌≡◌, refl, sym, ap, ◌∙◌}
use mathlib.Core.Bool.{Bool, true, false, cond, ◌&&◌}
use mathlib.Core.List.{List, [], ◌∷◌, ◌++◌, map}
use mathlib.Core.Logic.{◌⊎◌, inl, inr}
use Prim.Native.Nat.{ℕ, suc, ◌<◌, ◌≤◌}
use native.Mathlib.Omega.{arith}
use lib.Dec.{leb, ltb, lit≤}
use lib.IntN.{pos}
use lib.ListN.{get_or}
use borrow.Author.Tests.{eq-eqb, ne_eqb, leb-true, ltb-true}
use Rattle.integer.specs.ListTests.{any}
use Rattle.integer.proofs.Bools.{both}
use Rattle.text.specs.Text.{line_end, index_of, before}
use Rattle.writing.specs.Writing.{Small, decimal_to, decimal_of, integer_of, gather, number_field, numbers_of, line_of}
use Rattle.writing.proofs.LineFields.{AtMost, most-small, line-longest}
use Rattle.fields.specs.Fields.{value_at, fits, is_line, unless, line_from}
use Rattle.fields.proofs.Chains.{unless-passed}
use Rattle.fields.proofs.JoinedLines.{line-ended}
use Rattle.fields.proofs.PlainLines.{plain_value, fits-range}
use Rattle.statements.specs.Items.{no_bridge}
use Rattle.statements.specs.Lines.{bridge_word, is_fault, fault_refusal, fault_of, is_bridge, bridge_fits, inputs_rise, bridge_refusal, bridge_of, names_bridge, fault_line_refusal, fault_line_of}
use Rattle.statements.specs.declared.Bridge.{Bridge}
use Rattle.statements.specs.Items.{Fault}
use Rattle.statements.proofs.FormsMeant.{bridge-form, bridge-named, fault-unnamed}
use Rattle.sections.specs.FaultLines.{nth_fault_refusal, nth_stuck_refusal, stuck_line, bridge_line, fault_line, StuckFault, BridgeFault, FaultRight}
use Rattle.sections.specs.Sections.{lines_from, lines_of}
use Rattle.sections.proofs.FaultsRight.{stuck-fault-right}
use Rattle.sections.proofs.FaultsWritten.{stuck-only}
use Rattle.sections.proofs.LinesRead.{lines-alike}
use Rattle.sections.proofs.LinesWritten.{Told}

-- ---- the line of a bridge

pub bridge-right : (inputs : ℕ) (l : List ℕ) → bridge_refusal inputs l ≡ 0 → BridgeFault inputs (bridge_of l)
unfolding bridge_refusal bridge_fits inputs_rise bridge_of
bridge-right inputs l e =
    let formed = unless-passed (is_bridge l) 2 _ (lit≤ tt) e in
    let fit = unless-passed (bridge_fits l) 3 _ (lit≤ tt) formed.1 in
    let rise = unless-passed (inputs_rise inputs l) 19 0 (lit≤ tt) fit.1 in
    let f = both (fits l 1 1 56) (fits l 2 1 56) fit.0 in
    let r = both (leb (value_at l 1) inputs && leb (value_at l 2) inputs) (ltb (value_at l 1) (value_at l 2)) rise.0 in
    let x = both (leb (value_at l 1) inputs) (leb (value_at l 2) inputs) r.0 in
    record {
      first-low = (fits-range l 1 1 56 f.0).0;
      rise = ltb-true (value_at l 1) (value_at l 2) r.1;
      second-high = leb-true (value_at l 2) inputs x.1;
      no-first = refl;
      no_second = refl;
      no_third = refl;
    }

pub bridge-told : (inputs : ℕ) (f : Fault) → inputs ≤ 56 → BridgeFault inputs f → Told 13 (bridge_refusal inputs) bridge_of (bridge_line f) f
unfolding bridge_line bridge_refusal bridge_of unless index_of any line_of numbers_of gather number_field integer_of decimal_of decimal_to
bridge-told inputs f h r =
    record {
      word = bridge_word;
      numbers = map pos ns;
      is = refl;
      one_line = refl;
      passes = rw (
        (bridge-form.form (line_from bridge_word ns)).1 (ns, small, refl, refl),
        (bridge-form.range f.bridge.first f.bridge.second small).1 (r.first-low, first-high, omega (arith, r.rise), second-high),
        (bridge-form.inputs inputs f.bridge.first f.bridge.second small).1 (omega (arith, r.rise, r.second-high), r.second-high, r.rise),
      );
      says = rw (at 0, at 1, r.no-first, r.no_second, r.no_third);
      short = line-longest bridge_word longest ns high;
    }
  where
    ns : List ℕ
    ns = f.bridge.first ∷ f.bridge.second ∷ []

    -- their line has 13 bytes
    longest : List ℕ
    longest = 56 ∷ 56 ∷ []

    second-high : f.bridge.second ≤ 56
    second-high = omega (arith, r.second-high)

    first-high : f.bridge.first ≤ 56
    first-high = omega (arith, r.rise, second-high)

    high : AtMost longest ns
    high = (first-high, (second-high, tt))

    small : Small ns
    small = most-small longest ns refl high

    at : (k : ℕ) → value_at (line_from bridge_word ns) (suc k) ≡ get_or ns k 0
    at k = plain_value bridge_word ns small refl k

pub bridge-only : (inputs : ℕ) (l : List ℕ) → bridge_refusal inputs l ≡ 0 → l ++ (line_end ∷ []) ≡ bridge_line (bridge_of l)
unfolding bridge_refusal is_bridge bridge_line bridge_of
bridge-only inputs l e = line-ended l bridge_word 2 (unless-passed (is_line l bridge_word 1 3) 2 _ (lit≤ tt) e).0

-- ---- a line of either kind

module _ (inputs top : ℕ) (l : List ℕ) where
  -- it is not refused, and says this fault
  abbrev Says : Fault → Type 0
  Says f = (fault_line_refusal inputs top l ≡ 0) × (fault_line_of l ≡ f)

  pub either-stuck : fault_refusal top l ≡ 0 → Says (fault_of l)
  unfolding fault_refusal fault_line_refusal fault_line_of
  either-stuck e = let w = fault-unnamed l (unless-passed (is_fault l) 2 _ (lit≤ tt) e).0 in (rw w e, rw w)

  pub either-bridge : bridge_refusal inputs l ≡ 0 → Says (bridge_of l)
  unfolding bridge_refusal fault_line_refusal fault_line_of
  either-bridge e = let w = bridge-named l (unless-passed (is_bridge l) 2 _ (lit≤ tt) e).0 in (rw w e, rw w)

  pub either-passed : fault_line_refusal inputs top l ≡ 0 → ((fault_refusal top l ≡ 0) × (fault_line_of l ≡ fault_of l)) ⊎ ((bridge_refusal inputs l ≡ 0) × (fault_line_of l ≡ bridge_of l))
  unfolding fault_line_refusal fault_line_of
  either-passed = go (names_bridge l)
    where
      go : (b : Bool) → cond b (bridge_refusal inputs l) (fault_refusal top l) ≡ 0
          → ((fault_refusal top l ≡ 0) × (cond b (bridge_of l) (fault_of l) ≡ fault_of l)) ⊎ ((bridge_refusal inputs l ≡ 0) × (cond b (bridge_of l) (fault_of l) ≡ bridge_of l))
      go true e = inr (e, refl)
      go false e = inl (e, refl)

pub fault-right : (inputs top : ℕ) (l : List ℕ) → fault_line_refusal inputs top l ≡ 0 → FaultRight inputs top (fault_line_of l)
fault-right inputs top l e = go (either-passed inputs top l e)
  where
    go : ((fault_refusal top l ≡ 0) × (fault_line_of l ≡ fault_of l)) ⊎ ((bridge_refusal inputs l ≡ 0) × (fault_line_of l ≡ bridge_of l)) → FaultRight inputs top (fault_line_of l)
    go (inl p) = rw p.1 (inl (stuck-fault-right top l p.0))
    go (inr p) = rw p.1 (inr (bridge-right inputs l p.0))

-- the line of a fault, by its kind
line-stuck : (f : Fault) → f.bridge ≡ no_bridge → fault_line f ≡ stuck_line f
unfolding fault_line
line-stuck f e = rw (eq-eqb f.bridge.first 0 (ap (λ (b : Bridge). b.first) e))

line-bridged : (f : Fault) → 1 ≤ f.bridge.first → fault_line f ≡ bridge_line f
unfolding fault_line
line-bridged f h = rw (ne_eqb f.bridge.first 0 (λ e. omega arith))

-- of at most so many bytes, where a line of stuck lines has no more
pub fault-told : (bytes inputs top : ℕ) (f : Fault) → 13 ≤ bytes → inputs ≤ 56 → (StuckFault top f → Told bytes (fault_refusal top) fault_of (stuck_line f) f) → FaultRight inputs top f
    → Told bytes (fault_line_refusal inputs top) fault_line_of (fault_line f) f
fault-told bytes inputs top f room most stuck (inl r) =
    let t = stuck r in
    let e = either-stuck inputs top (t.word ++ numbers_of t.numbers) t.passes in
    record { word = t.word; numbers = t.numbers; is = line-stuck f r.unbridged ∙ t.is; one_line = t.one_line; passes = e.0; says = e.1 ∙ t.says; short = t.short }
fault-told bytes inputs top f room most stuck (inr r) =
    let t = bridge-told inputs f most r in
    let e = either-bridge inputs top (t.word ++ numbers_of t.numbers) t.passes in
    record { word = t.word; numbers = t.numbers; is = line-bridged f r.first-low ∙ t.is; one_line = t.one_line; passes = e.0; says = e.1 ∙ t.says; short = omega (arith, t.short) }

pub fault-only : (inputs top : ℕ) (l : List ℕ) → fault_line_refusal inputs top l ≡ 0 → l ++ (line_end ∷ []) ≡ fault_line (fault_line_of l)
fault-only inputs top l e = go (either-passed inputs top l e)
  where
    go : ((fault_refusal top l ≡ 0) × (fault_line_of l ≡ fault_of l)) ⊎ ((bridge_refusal inputs l ≡ 0) × (fault_line_of l ≡ bridge_of l)) → l ++ (line_end ∷ []) ≡ fault_line (fault_line_of l)
    go (inl p) = stuck-only top l p.0 ∙ sym (line-stuck (fault_of l) (stuck-fault-right top l p.0).unbridged) ∙ ap fault_line (sym p.1)
    go (inr p) = bridge-only inputs l p.0 ∙ sym (line-bridged (bridge_of l) (bridge-right inputs l p.0).first-low) ∙ ap fault_line (sym p.1)

-- ---- lines without bridges

module _ (inputs top : ℕ) where
  plain-line-is : (line : List ℕ) → names_bridge line ≡ false → (fault_line_refusal inputs top line ≡ fault_refusal top line) × (fault_line_of line ≡ fault_of line)
  unfolding fault_line_refusal fault_line_of
  plain-line-is line e = (rw e, rw e)

  pub lines-as-before : (left place : ℕ) (rest : List ℕ) (read : List Fault) → ((k : ℕ) → k < left → names_bridge (before line_end (lines_from k rest)) ≡ false)
      → lines_of (nth_fault_refusal inputs top) fault_line_of left place rest read ≡ lines_of (nth_stuck_refusal top) fault_of left place rest read
  lines-as-before left place rest read plain =
      lines-alike (nth_fault_refusal inputs top) (nth_stuck_refusal top) fault_line_of fault_of left place rest read (λ k h j. let same = plain-line-is (before line_end (lines_from k rest)) (plain k h) in (same.0, λ passes. same.1))
