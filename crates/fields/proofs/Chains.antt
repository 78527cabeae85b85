-- A line's tests are a chain of `unless`:
--   unless-passed           a chain that refuses nothing: its first test passes, and the rest refuses nothing
--   LineNumber, numbered    the numbers that a line may have, 0 or 2 to 6, along a chain
--   chain-least             a chain whose numbers rise gives the least number of a test that fails
--   chain-number            and 0 or 2 to 6, where they are from 2 to 6
use mathlib.Core.Bool.{Bool, true, false, true≢false}
use mathlib.Core.List.{List, [], ◌∷◌}
use mathlib.Core.Logic.{◌⊎◌, inl, inr, ⊎_elim}
use mathlib.Core.Path.{◌≡◌, refl, sym, ◌∙◌}
use Prim.Native.Nat.{ℕ, ◌<◌, ◌≤◌}
use native.Mathlib.Omega.{arith}
use Rattle.fields.specs.Fields.{unless, Fails, LeastFailing}

pub unless-passed : (b : Bool) (number next : ℕ) → 1 ≤ number → unless b number next ≡ 0 → (b ≡ true) × (next ≡ 0)
unfolding unless
unless-passed true number next h e = (refl, e)
unless-passed false number next h e = absurd (omega arith)

abbrev pub LineNumber : ℕ → Type 0
LineNumber n = (n ≡ 0) ⊎ ((2 ≤ n) × (n ≤ 6))

pub numbered : (b : Bool) (number next : ℕ) → 2 ≤ number → number ≤ 6 → LineNumber next → LineNumber (unless b number next)
unfolding unless
numbered true number next low high n = n
numbered false number next low high n = inr (low, high)

-- ---- chains of tests with their numbers

abbrev pub chain : List (ℕ × Bool) → ℕ
chain [] = 0
chain (t ∷ rest) = unless t.1 t.0 (chain rest)

-- the numbers rise from above `last` to at most `high`
abbrev pub RisingTests : ℕ → ℕ → List (ℕ × Bool) → Type 0
RisingTests high last [] = last ≤ high
RisingTests high last (t ∷ rest) = (last < t.0) × RisingTests high t.0 rest

fails-above : (high last : ℕ) (tests : List (ℕ × Bool)) (k : ℕ) → RisingTests high last tests → Fails tests k → last < k
fails-above high last [] k r f = elim f [ ]
fails-above high last (t ∷ rest) k r (inl f) = omega (arith, r.0, f.0)
fails-above high last (t ∷ rest) k r (inr f) = omega (arith, r.0, fails-above high t.0 rest k r.1 f)

module _ (high : ℕ) where
  pub chain-least : (last : ℕ) (tests : List (ℕ × Bool)) → RisingTests high last tests → LeastFailing tests (chain tests)
  unfolding unless
  chain-least last [] r = record { given = inl refl; least = λ k f. absurd f }
  chain-least last (t ∷ rest) r = go t.1 refl (chain-least t.0 rest r.1)
    where
      go : (b : Bool) → t.1 ≡ b → LeastFailing rest (chain rest) → LeastFailing (t ∷ rest) (unless b t.0 (chain rest))
      go true e ih = record { given = ⊎_elim inl (λ f. inr (inr f)) ih.given; least = λ k f. others k f }
        where
          others : (k : ℕ) → Fails (t ∷ rest) k → (1 ≤ chain rest) × (chain rest ≤ k)
          others k (inl f) = absurd (true≢false (sym e ∙ f.1))
          others k (inr f) = ih.least k f
      go false e ih = record { given = inr (inl (refl, e)); least = λ k f. others k f }
        where
          others : (k : ℕ) → Fails (t ∷ rest) k → (1 ≤ t.0) × (t.0 ≤ k)
          others k (inl f) = (omega (arith, r.0), omega (arith, f.0))
          others k (inr f) = (omega (arith, r.0), omega (arith, fails-above high t.0 rest k r.1 f))

rising-most : (high last : ℕ) (tests : List (ℕ × Bool)) → RisingTests high last tests → last ≤ high
rising-most high last [] r = r
rising-most high last (t ∷ rest) r = omega (arith, r.0, rising-most high t.0 rest r.1)

pub chain-number : (last : ℕ) (tests : List (ℕ × Bool)) → 1 ≤ last → RisingTests 6 last tests → LineNumber (chain tests)
chain-number last [] h r = inl refl
chain-number last (t ∷ rest) h r =
    numbered t.1 t.0 (chain rest) (omega (arith, r.0)) (rising-most 6 t.0 rest r.1) (chain-number t.0 rest (omega (arith, r.0)) r.1)
