-- The plan before document 02's note 5, when document 01 called each fault silent under which "no row's value differs", and what of it stands.
use Rattle.std.specs.Prelude.{ℕ, ◌≤◌, length, ◌⊎◌, ◌≡◌}
use Rattle.cover.specs.Cover.{first_unchanged, signature_of}
use Rattle.devices.specs.Problems.{Problem}
use Rattle.planner.specs.PlanCall.{Verdict, refused, unless_fault, searched, verdict_number, verdict_of}

unfoldable pub verdict_before : Problem → Verdict
verdict_before p = unless_fault 13 (first_unchanged p.sound p.faulted) (length p.faulted) (searched (signature_of p.sound p.faulted p.cap))

-- labels and 14 are what they were; where 13 was given, it is 16 with the same fault, or 13 with this fault or a later one
pub record AsBefore (p : Problem) : Type 0 where
  pub same : (verdict_number (verdict_before p) ≡ 13 → ⊥) → verdict_of p ≡ verdict_before p
  pub split : (place : ℕ) → verdict_before p ≡ refused 13 place → (verdict_of p ≡ refused 16 place) ⊎ ((later : ℕ) × (place ≤ later) × (verdict_of p ≡ refused 13 later))
