-- What is planned, whatever text it came from: a device of N inputs by its rows and by what its outputs show on each row, sound and under each of its faults in
-- the text's order, and the cap. The circuit call, the plan, the report and demand 3 speak of a problem.
use Rattle.std.specs.Prelude.{ℕ, zero, suc, ◌≤◌, ◌<◌, ◌^◌, List, [], map, ◌≡◌, ℤ, length, get_or}
use Rattle.integer.specs.Tab.{nth, Within}
use Rattle.statements.specs.Items.{sound}
use Rattle.statements.specs.Items.{Fault}

pub record Problem : Type 0 where
  pub inputs : ℕ
  pub sound : List ℤ
  pub faulted : List (List ℤ)
  -- one number a row, which says what every output shows there
  pub sound_outputs : List ℤ
  pub faulted_outputs : List (List ℤ)
  pub cap : ℕ

-- from what gives the rows and the outputs under any fault, the sound ones under the fault that names no line
unfoldable pub problem_from : ℕ → (Fault → List ℤ) → (Fault → List ℤ) → List Fault → ℕ → Problem
problem_from inputs rows outputs faults cap = record {
  inputs = inputs;
  sound = rows sound;
  faulted = map rows faults;
  sound_outputs = outputs sound;
  faulted_outputs = map outputs faults;
  cap = cap;
}

-- "0 for the sound circuit, else 1 to Q"
abbrev pub rows_at : Problem → ℕ → List ℤ
rows_at p zero = p.sound
rows_at p (suc f) = get_or p.faulted f []

abbrev pub outputs_at : Problem → ℕ → List ℤ
outputs_at p zero = p.sound_outputs
outputs_at p (suc f) = get_or p.faulted_outputs f []

-- what every accepted text gives
pub record Proper (p : Problem) : Type 0 where
  pub inputs-low : 1 ≤ p.inputs
  pub inputs-high : p.inputs ≤ 8
  pub faults-low : 1 ≤ length p.faulted
  pub faults-high : length p.faulted ≤ 32
  pub cap-low : 1 ≤ p.cap
  pub cap-high : p.cap ≤ 4
  pub rows_all : (f : ℕ) → f ≤ length p.faulted → length (rows_at p f) ≡ 2 ^ p.inputs
  pub rows-small : (f : ℕ) → f ≤ length p.faulted → Within 60 (rows_at p f)
  pub outputs_all : (f : ℕ) → f ≤ length p.faulted → length (outputs_at p f) ≡ 2 ^ p.inputs
  -- the outputs of a row decide its value
  pub outputs-decide : (f x : ℕ) → f ≤ length p.faulted → x < 2 ^ p.inputs → nth (outputs_at p 0) x ≡ nth (outputs_at p f) x → nth (rows_at p 0) x ≡ nth (rows_at p f) x
