-- What the plan call owes its users (demand 3), in their words, over what an accepted text says:
--   "A plan is returned exactly when some set of at most cap labels shows every fault; it is such a set, and none is smaller. The silent refusal
--   and the "no set" refusal are given exactly where they hold."
-- and document 02, note 1: "Demand 3 holds for tables too, over doubled rows and sums"; note 5: "the silent refusal is given exactly when some fault is silent, the
-- hidden one exactly when none is silent and some fault is hidden, and the last one exactly when there is no such fault and no set within the cap". It is stated over
-- a problem, so once for every kind of text.
use Rattle.std.specs.Prelude.{ℕ, ◌<◌, ◌≤◌, ◌^◌, true, ◌↔◌, ◌⊎◌, ◌≡◌, length, take, get_or}
use mathlib.Core.List.{List, [], ◌∷◌, Memᴰ}
use Rattle.integer.specs.ListTests.{distinct}
use Rattle.cover.specs.Order.{rising, precedes}
use Rattle.integer.specs.Tab.{nth}
use Rattle.devices.specs.Problems.{Problem, rows_at, outputs_at}
use Rattle.transform.specs.Spectrum.{coefficient_of}
use Rattle.planner.specs.PlanCall.{Planned}

-- the fault's number is one of the text's
abbrev pub Named : Problem → ℕ → Type 0
Named p f = (1 ≤ f) × (f ≤ length p.faulted)

-- labels in any order, repeats allowed, of which each fault has one whose coefficient differs between sound and faulted, both summed row by row
pub record Shows (p : Problem) (labels : List ℕ) : Type 0 where
  pub low : (l : ℕ) → Memᴰ l labels → l < 2 ^ p.inputs
  pub each : (f : ℕ) → Named p f → (l : ℕ) × Memᴰ l labels × (coefficient_of (rows_at p 0) l ≡ coefficient_of (rows_at p f) l → ⊥)

-- some set of at most cap labels shows every fault
abbrev pub Possible : Problem → Type 0
Possible p = (labels : List ℕ) × Shows p labels × (length labels ≤ p.cap)

-- no output changes on any row
abbrev pub Silent : Problem → ℕ → Type 0
Silent p f = (x : ℕ) → x < 2 ^ p.inputs → nth (outputs_at p 0) x ≡ nth (outputs_at p f) x

-- some output changes on some row
abbrev pub Changes : Problem → ℕ → Type 0
Changes p f = (x : ℕ) × (x < 2 ^ p.inputs) × (nth (outputs_at p 0) x ≡ nth (outputs_at p f) x → ⊥)

-- and yet no row's value does
abbrev pub Hidden : Problem → ℕ → Type 0
Hidden p f = Changes p f × ((x : ℕ) → x < 2 ^ p.inputs → nth (rows_at p 0) x ≡ nth (rows_at p f) x)

abbrev pub SomeSilent : Problem → Type 0
SomeSilent p = (f : ℕ) × Named p f × Silent p f

abbrev pub SomeHidden : Problem → Type 0
SomeHidden p = (f : ℕ) × Named p f × Hidden p f

-- the first of a kind
pub record FirstFault (p : Problem) (Kind : ℕ → Type 0) (place : ℕ) : Type 0 where
  pub named : Named p place
  pub here : Kind place
  pub none-earlier : (f : ℕ) → 1 ≤ f → f < place → Kind f → ⊥

-- the labels that an answer returns
abbrev pub returned : Planned → List ℕ
returned a = take a.size a.labels

pub record Right (p : Problem) (a : Planned) : Type 0 where
  pub planned-exactly : (a.number ≡ 0) ↔ Possible p
  pub plan-place : a.number ≡ 0 → a.place ≡ 0
  pub plan-shows : a.number ≡ 0 → Shows p (returned a)
  pub plan-size : a.number ≡ 0 → length (returned a) ≡ a.size
  pub plan-within : a.number ≡ 0 → a.size ≤ p.cap
  pub plan-least : a.number ≡ 0 → (labels : List ℕ) → Shows p labels → a.size ≤ length labels
  pub plan-ordered : a.number ≡ 0 → (rising (returned a) ≡ true) × (distinct (returned a) ≡ true)
  pub plan-first : a.number ≡ 0 → (labels : List ℕ) → Shows p labels → rising labels ≡ true → length labels ≡ a.size → precedes (returned a) labels ≡ true
  pub plan-none-hidden : a.number ≡ 0 → (SomeSilent p → ⊥) × (SomeHidden p → ⊥)
  pub silent-exactly : (a.number ≡ 13) ↔ SomeSilent p
  pub silent-first : a.number ≡ 13 → FirstFault p (Silent p) a.place
  pub hidden-exactly : (a.number ≡ 16) ↔ ((SomeSilent p → ⊥) × SomeHidden p)
  pub hidden-first : a.number ≡ 16 → FirstFault p (Hidden p) a.place
  pub unplanned-exactly : (a.number ≡ 14) ↔ ((Possible p → ⊥) × (SomeSilent p → ⊥) × (SomeHidden p → ⊥))
  pub unplanned-place : a.number ≡ 14 → a.place ≡ 0
  pub no_other : (a.number ≡ 0) ⊎ ((a.number ≡ 13) ⊎ ((a.number ≡ 16) ⊎ (a.number ≡ 14)))
  pub rest-zero : (i : ℕ) → a.size ≤ i → get_or a.labels i 0 ≡ 0
  pub refused-zero : (a.number ≡ 0 → ⊥) → (a.size ≡ 0) × (a.labels ≡ 0 ∷ 0 ∷ 0 ∷ 0 ∷ [])
