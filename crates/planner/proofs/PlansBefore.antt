-- Plans before document 02's note 5:
--   plans-as-before    labels and 14 stand; 13 is split into 16 with the same fault, and 13 with it or a later one
use mathlib.Core.Path.{◌≡◌, refl, sym, ap, ◌∙◌}
use mathlib.Core.Bool.{Bool, true, false, cond}
use mathlib.Core.Logic.{◌⊎◌, inl, inr}
use mathlib.Core.List.{List}
use mathlib.Core.Option.{Option, none, some}
use Prim.Native.Nat.{ℕ, suc, ◌+◌, ◌≤◌, ◌<◌}
use native.Mathlib.Nat.{lt_of_not-le}
use native.Mathlib.Decide.{dec_le}
use native.Mathlib.Omega.{arith}
use native.Mathlib.Numerals.{add-one}
use lib.Dec.{ltb}
use lib.ListN.{length}
use borrow.Author.Tests.{ltb-true, ltb-false, lt-ltb, le-ltb}
use Rattle.cover.specs.Cover.{unchanged_at, first_unchanged, signature_of}
use Rattle.integer.proofs.Bools.{clash}
use Rattle.integer.proofs.Firsts.{first-at, first-before}
use Rattle.devices.specs.Problems.{Problem, Proper}
use Rattle.planner.specs.PlanCall.{Verdict, refused, planned, searched, verdict_number, is_silent, silent_first, verdict_of}
use Rattle.planner.specs.PlansBefore.{verdict_before, AsBefore}
use Rattle.planner.proofs.PlanLaws.{changed-not-silent, verdict-silent, verdict-hidden, verdict-searched}

module _ (p : Problem) (w : Proper p) where
  abbrev Q : ℕ
  Q = length p.faulted

  abbrev U : ℕ
  U = first_unchanged p.sound p.faulted

  -- a fault before U changes a row, so an output
  not-before : silent_first p < Q → U ≤ silent_first p
  unfolding silent_first first_unchanged
  not-before low = pick (dec_le U (silent_first p))
    where
      pick : Dec (U ≤ silent_first p) → U ≤ silent_first p
      pick (yes h) = h
      pick (no h) =
          let shown = changed-not-silent p w (silent_first p) low (first-before (unchanged_at p.sound p.faulted) Q (silent_first p) (lt_of_not-le h)) in
          clash (sym (first-at (is_silent p) Q low) ∙ shown)

  -- where each fault changes a row, nothing moved
  searched-before : Q ≤ U → AsBefore p
  unfolding verdict_before
  searched-before past =
      let before : verdict_before p ≡ searched found = ap (λ (t : Bool). cond t (refused 13 (suc U)) (searched found)) (le-ltb U Q past) in
      record {
        same = λ n. verdict-searched p w past ∙ sym before;
        split = λ place e. absurd (no-thirteen found (ap verdict_number (sym before ∙ e)));
      }
    where
      found : Option (List ℕ)
      found = signature_of p.sound p.faulted p.cap

      no-thirteen : (o : Option (List ℕ)) → verdict_number (searched o) ≡ 13 → ⊥
      no-thirteen none e = omega (arith, e)
      no-thirteen (some labels) e = omega (arith, e)

  -- else 13 was given, and it depends on the outputs what is now
  split-before : U < Q → AsBefore p
  unfolding verdict_before
  split-before low =
      let before : verdict_before p ≡ refused 13 (suc U) =
      ap (λ (t : Bool). cond t (refused 13 (suc U)) (searched (signature_of p.sound p.faulted p.cap))) (lt-ltb U Q low) in
      record {
        same = λ n. absurd (n (ap verdict_number before));
        split = λ place e. now place (ap place_of (sym e ∙ before)) (ltb (silent_first p) Q) refl;
      }
    where
      place_of : Verdict → ℕ
      place_of (refused number place) = place
      place_of (planned labels) = 0

      now : (place : ℕ) → place ≡ suc U → (t : Bool) → ltb (silent_first p) Q ≡ t → (verdict_of p ≡ refused 16 place) ⊎ ((later : ℕ) × (place ≤ later) × (verdict_of p ≡ refused 13 later))
      now place e true t =
          let h = ltb-true (silent_first p) Q t in
          inr (silent_first p + 1, omega (arith, e, not-before h), sym (verdict-silent p (silent_first p) refl h))
      now place e false t = inl (sym (verdict-hidden p U refl low (ltb-false (silent_first p) Q t)) ∙ ap (refused 16) (add-one U ∙ sym e))

  pub plans-as-before : AsBefore p
  plans-as-before = pick (dec_le Q U)
    where
      pick : Dec (Q ≤ U) → AsBefore p
      pick (yes h) = searched-before h
      pick (no h) = split-before (lt_of_not-le h)
