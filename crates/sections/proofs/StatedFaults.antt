-- What a text states is never `Unstated`, the case of a fault's kind that stands for all others:
--   right-stated                      a right fault is stated
--   listed-stated, numbered-stated    so is the fault of each number, where all of a list are stated, or right
--   stated-kind                       what is stated has another case
use mathlib.Core.Path.{◌≡◌, refl, sym, ap, ap₂, ◌∙◌, subst}
use mathlib.Core.Bool.{true, cond, not, ◌&&◌, true≢false}
use mathlib.Core.List.{List}
use mathlib.Core.Logic.{inl, inr}
use Prim.Native.Nat.{ℕ, zero, suc, ◌<◌, ◌≤◌}
use native.Mathlib.Omega.{arith}
use lib.Dec.{eqb}
use lib.ListN.{length, get_or}
use borrow.Author.Tests.{ne_eqb}
use Rattle.statements.specs.Items.{Fault, sound}
use Rattle.statements.specs.FaultKinds.{fault_of_kind, is_free, free_or_named, all_free, others_stated, stated, FaultNamed}
use Rattle.statements.specs.declared.Bridge.{Bridge}
use Rattle.statements.specs.declared.FaultKind.{FaultKind}
use Rattle.statements.specs.declared.FaultKind.TheVariants.{Unstated}
use Rattle.statements.specs.declared.Pair.{Pair}
use Rattle.sections.specs.FaultLines.{Above, FaultRight, fault_numbered}

above-told : (last top : ℕ) (s : Pair) → Above last top s → free_or_named s ≡ true
above-told last top s (inl none) = ap free_or_named none
above-told last top s (inr there) = ap (λ none. not (none && s.value)) (ne_eqb s.line 0 (λ z. omega (arith, there.0, z)))

pub right-stated : (inputs top : ℕ) (f : Fault) → FaultRight inputs top f → stated f ≡ true
right-stated inputs top f (inl s) =
    ap (λ (b : Bridge). stated (record { first = f.first; second = f.second; third = f.third; bridge = b })) s.unbridged
    ∙ ap (λ none. cond none (all_free f) (others_stated f)) (ne_eqb f.first.line 0 (λ z. omega (arith, s.first-low, z)))
    ∙ ap₂ (λ a b. a && b) (above-told f.first.line top f.second s.second) (above-told f.second.line top f.third s.third)
right-stated inputs top f (inr b) =
    ap (λ none. cond none (eqb f.bridge.second 0 && cond (eqb f.first.line 0) (all_free f) (others_stated f)) (not (eqb f.bridge.second 0) && all_free f))
    (ne_eqb f.bridge.first 0 (λ z. omega (arith, b.first-low, z)))
    ∙ ap (λ none. not none && all_free f) (ne_eqb f.bridge.second 0 (λ z. omega (arith, b.first-low, b.rise, z)))
    ∙ ap₂ (λ a b. a && b) (ap₂ (λ a b. a && b) (ap is_free b.no-first) (ap is_free b.no_second)) (ap is_free b.no_third)

pub listed-stated : (faults : List Fault) → ((k : ℕ) → k < length faults → stated (get_or faults k sound) ≡ true) → (k : ℕ) → k ≤ length faults
    → stated (fault_numbered faults k) ≡ true
listed-stated faults all zero h = refl
listed-stated faults all (suc k) h = all k (omega (arith, h))

pub numbered-stated : (inputs top : ℕ) (faults : List Fault) → ((k : ℕ) → k < length faults → FaultRight inputs top (get_or faults k sound))
    → (k : ℕ) → k ≤ length faults → stated (fault_numbered faults k) ≡ true
numbered-stated inputs top faults right = listed-stated faults (λ k h. right-stated inputs top (get_or faults k sound) (right k h))

pub stated-kind : (k : FaultKind) → FaultNamed k → stated (fault_of_kind k) ≡ true → {a b c : Pair} {d : Bridge} → k ≡ Unstated a b c d → ⊥
stated-kind k named told e = true≢false (sym (subst (λ (k : FaultKind). stated (fault_of_kind k) ≡ true) e told) ∙ subst FaultNamed e named)
