-- Every fault of the definitions has a case in the code:
--   kind_stands    the case that is found for it stands for it
--   kind_named     and a fault of the code may have that case
use mathlib.Core.Path.{◌≡◌, refl, sym, ap, ◌∙◌, subst}
use mathlib.Core.Bool.{Bool, true, false, cond, not, ◌&&◌}
use borrow.Author.Tests.{eqb-true, not-true}
use Rattle.std.specs.Prelude.{Some, None, eqb}
use Rattle.std.proofs.lemmas.Bool.{and_parts}
use Rattle.statements.specs.Items.{Fault, free, no_bridge}
use Rattle.statements.specs.FaultKinds.{pair_or_free, fault_of_kind, is_free, free_or_named, all_free, others_stated, stated, FaultNamed, PairNamed, pair_there, stuck_kind, kind_of_fault}
use Rattle.statements.specs.declared.Bridge.{Bridge}
use Rattle.statements.specs.declared.FaultKind.{FaultKind}
use Rattle.statements.specs.declared.FaultKind.TheVariants.{Sound, Bridged, Unstated}
use Rattle.statements.specs.declared.Pair.{Pair}

free-is : (p : Pair) → eqb p.line 0 ≡ true → p.value ≡ false → free ≡ p
free-is p none off =
    let line = sym (eqb-true p.line 0 none) in
    let value = sym off in
    λ i. record { line = line i; value = value i }

is-free : (p : Pair) → is_free p ≡ true → free ≡ p
is-free p e =
    let both = and_parts (eqb p.line 0) (not p.value) e in
    free-is p both.0 (not-true p.value both.1)

no-bridge-is : (b : Bridge) → eqb b.first 0 ≡ true → eqb b.second 0 ≡ true → no_bridge ≡ b
no-bridge-is b first second =
    let one = sym (eqb-true b.first 0 first) in
    let two = sym (eqb-true b.second 0 second) in
    λ i. record { first = one i; second = two i }

there-back : (p : Pair) → free_or_named p ≡ true → pair_or_free (pair_there p) ≡ p
there-back p told = go (eqb p.line 0) refl
  where
    go : (none : Bool) → eqb p.line 0 ≡ none → pair_or_free (cond none None (Some p)) ≡ p
    go true e = free-is p e (not-true p.value (sym (ap (λ t. not (t && p.value)) e) ∙ told))
    go false e = refl

there-named : (p : Pair) → PairNamed (pair_there p)
there-named p = go (eqb p.line 0) refl
  where
    go : (none : Bool) → eqb p.line 0 ≡ none → PairNamed (cond none None (Some p))
    go true e = tt
    go false e = e

module _ (f : Fault) where
  abbrev Stands : FaultKind → Type 0
  Stands k = (fault_of_kind k ≡ f) × FaultNamed k

  -- what is left of `stated` where the bridge names no first input, and where it names one
  abbrev unjoined : Bool → Bool
  unjoined unnamed = eqb f.bridge.second 0 && cond unnamed (all_free f) (others_stated f)

  abbrev joined : Bool
  joined = not (eqb f.bridge.second 0) && all_free f

  all-free : all_free f ≡ true → (free ≡ f.first) × (free ≡ f.second) × (free ≡ f.third)
  all-free e =
      let both = and_parts (is_free f.first && is_free f.second) (is_free f.third) e in
      let two = and_parts (is_free f.first) (is_free f.second) both.0 in
      (is-free f.first two.0, is-free f.second two.1, is-free f.third both.1)

  no-bridge : (unnamed : Bool) → stated f ≡ true → eqb f.bridge.first 0 ≡ true → eqb f.first.line 0 ≡ unnamed → (no_bridge ≡ f.bridge) × (cond unnamed (all_free f) (others_stated f) ≡ true)
  no-bridge unnamed told none first =
      let left = sym (ap (λ t. cond t (unjoined (eqb f.first.line 0)) joined) none ∙ ap unjoined first) ∙ told in
      let both = and_parts (eqb f.bridge.second 0) (cond unnamed (all_free f) (others_stated f)) left in
      (no-bridge-is f.bridge none both.0, both.1)

  sound-stands : stated f ≡ true → eqb f.bridge.first 0 ≡ true → eqb f.first.line 0 ≡ true → Stands Sound
  sound-stands told none unnamed =
      let left = no-bridge true told none unnamed in
      let pairs = all-free left.1 in
      (λ i. record { first = pairs.0 i; second = pairs.1 i; third = pairs.2 i; bridge = left.0 i }, tt)

  stuck-stands : stated f ≡ true → eqb f.bridge.first 0 ≡ true → eqb f.first.line 0 ≡ false → Stands (stuck_kind f)
  stuck-stands told none named =
      let left = no-bridge false told none named in
      let both = and_parts (free_or_named f.second) (free_or_named f.third) left.1 in
      (λ i. record { first = f.first; second = there-back f.second both.0 i; third = there-back f.third both.1 i; bridge = left.0 i }, (named, there-named f.second, there-named f.third))

  bridge-stands : stated f ≡ true → eqb f.bridge.first 0 ≡ false → Stands (Bridged f.bridge)
  bridge-stands told named =
      let left = sym (ap (λ t. cond t (unjoined (eqb f.first.line 0)) joined) named) ∙ told in
      let both = and_parts (not (eqb f.bridge.second 0)) (all_free f) left in
      let pairs = all-free both.1 in
      (λ i. record { first = pairs.0 i; second = pairs.1 i; third = pairs.2 i; bridge = f.bridge }, (named, not-true (eqb f.bridge.second 0) both.0))

  stands : (told none unnamed : Bool) → stated f ≡ told → eqb f.bridge.first 0 ≡ none → eqb f.first.line 0 ≡ unnamed → Stands (cond told (cond none (cond unnamed Sound (stuck_kind f)) (Bridged f.bridge)) (Unstated f.first f.second f.third f.bridge))
  stands false none unnamed t n u = (refl, t)
  stands true false unnamed t n u = bridge-stands t n
  stands true true true t n u = sound-stands t n u
  stands true true false t n u = stuck-stands t n u

  case-stands : Stands (kind_of_fault f)
  case-stands = stands (stated f) (eqb f.bridge.first 0) (eqb f.first.line 0) refl refl refl

  pub kind_stands : fault_of_kind (kind_of_fault f) ≡ f
  kind_stands = case-stands.0

  pub kind_named : (k : FaultKind) → k ≡ kind_of_fault f → FaultNamed k
  kind_named k e = subst FaultNamed (sym e) case-stands.1
