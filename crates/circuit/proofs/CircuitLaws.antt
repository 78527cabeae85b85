-- The circuit call:
--   coefficients-bounded    every coefficient that an accepted text has, sound or under a fault, is from -15,360 to 15,360
--   spectrum-room           the list call on such rows refuses by 8 only
--   circuit-done            number 0 only where the call is done
--   text-stop, fault-stop, served    the call's answer and what it leaves, by what the text describes
use mathlib.Core.Path.{◌≡◌, refl, ap, ◌∙◌, subst⁻¹}
use mathlib.Core.Bool.{Bool, true, false}
use mathlib.Core.List.{List}
use Prim.Native.Nat.{ℕ, ◌^◌, ◌<◌, ◌≤◌}
use native.Mathlib.Nat.{mul-le-mul, le_refl}
use native.Mathlib.Omega.{arith}
use lib.IntN.{ℤ}
use lib.ListN.{length}
use lib.Dec.{ltb, lit≤}
use lib.Pow.{pow_mono}
use borrow.Author.Tests.{lt-ltb, le-ltb, ne_eqb}
use Rattle.integer.specs.Tab.{Within}
use Rattle.integer.proofs.Bounds.{within_more}
use Rattle.devices.specs.Describing.{Description, described, refused_at, on_description, description_of}
use Rattle.devices.specs.Problems.{Problem, rows_at, Proper}
use Rattle.devices.proofs.Descriptions.{described-proper, refusal-some}
use Rattle.screen.specs.Answers.{Done, Refused, answer_number, refuse_if, screen_of, inputs_of}
use Rattle.walsh.specs.Lists.{spectrum_answer}
use Rattle.transform.specs.Spectrum.{spectrum_of}
use Rattle.screen.proofs.Screens.{inputs-is, within-screened}
use Rattle.transform.proofs.Spectra.{within-spectrum}
use Rattle.circuit.specs.CircuitCall.{room_answer, fault_answer, circuit_answer, fault_spectrum, circuit_spectrum}

pub spectrum-bounded : (rows : List ℤ) → length rows ≤ 256 → Within 60 rows → Within 15360 (spectrum_of rows)
spectrum-bounded rows few small = within_more (spectrum_of rows) (mul-le-mul few (le_refl 60)) (within-spectrum 60 rows small)

-- of every problem that is proper
module _ (p : Problem) (w : Proper p) (fault : ℕ) (named : fault ≤ length p.faulted) where
  pub rows_fit : Within 1000 (rows_at p fault)
  rows_fit = within_more {B = 60} {C = 1000} (rows_at p fault) (lit≤ tt) (w.rows-small fault named)

  pub fault-spectrum-bounded : Within 15360 (spectrum_of (rows_at p fault))
  fault-spectrum-bounded =
      spectrum-bounded (rows_at p fault) (subst⁻¹ (λ (k : ℕ). k ≤ 256) (w.rows_all fault named) (pow_mono w.inputs-high)) (w.rows-small fault named)

pub coefficients-bounded : (text : List ℕ) (p : Problem) (fault : ℕ) → description_of text ≡ described p → fault ≤ length p.faulted → Within 15360 (fault_spectrum p fault)
unfolding fault_spectrum
coefficients-bounded text p fault e named = fault-spectrum-bounded p (described-proper text p e) fault named

pub spectrum-room : (rows : List ℤ) (k room : ℕ) → 1 ≤ k → k ≤ 8 → length rows ≡ 2 ^ k → Within 1000 rows → spectrum_answer rows room ≡ room_answer k room
unfolding spectrum_answer screen_of room_answer
spectrum-room rows k room low high e w =
    let sized : inputs_of (length rows) ≡ k = ap inputs_of e ∙ inputs-is k (omega arith) (omega arith) in
    let some : inputs_of (length rows) ≡ 0 → ⊥ = λ z. omega (arith, sized) in
    rw (ne_eqb (inputs_of (length rows)) 0 some, le-ltb _ (length rows) (within-screened 1000 rows w), e)

-- ---- when the call is done

module _ (text : List ℕ) (fault room : ℕ) where
  pub circuit-done : answer_number (circuit_answer text fault room) ≡ 0 → circuit_answer text fault room ≡ Done
  unfolding circuit_answer fault_answer room_answer
  circuit-done z = go (description_of text) refl z
    where
      tests : (a b : Bool) → answer_number (refuse_if a 12 0 (refuse_if b 8 0 Done)) ≡ 0 → refuse_if a 12 0 (refuse_if b 8 0 Done) ≡ Done
      tests true b z = absurd (omega (arith, z))
      tests false true z = absurd (omega (arith, z))
      tests false false z = refl

      go : (d : Description) → description_of text ≡ d → answer_number (on_description (fault_answer fault room) Refused d) ≡ 0 → on_description (fault_answer fault room) Refused d ≡ Done
      go (described p) e z = tests (ltb (length p.faulted) fault) (ltb room (2 ^ p.inputs)) z
      go (refused_at number place) e z = absurd (refusal-some text number place e z)

-- by what was described
module _ (text : List ℕ) (fault room : ℕ) where
  pub text-stop : {number place : ℕ} → refused_at number place ≡ description_of text → Refused number place ≡ circuit_answer text fault room
  unfolding circuit_answer
  text-stop e = rw (← e)

  module _ (p : Problem) (is : described p ≡ description_of text) where
    pub fault-stop : length p.faulted < fault → Refused 12 0 ≡ circuit_answer text fault room
    unfolding circuit_answer fault_answer
    fault-stop h = rw (← is, lt-ltb (length p.faulted) fault h)

    pub served : fault ≤ length p.faulted → room_answer p.inputs room ≡ circuit_answer text fault room
    unfolding circuit_answer fault_answer
    served h = rw (← is, le-ltb (length p.faulted) fault h)

    pub served-spectrum : spectrum_of (rows_at p fault) ≡ circuit_spectrum text fault
    unfolding circuit_spectrum fault_spectrum
    served-spectrum = rw (← is)
