-- What the numbers of an accepted first line satisfy: document 01's ranges.
use Rattle.std.specs.Prelude.{◌≤◌}
use Rattle.statements.specs.declared.Head.{Head}

pub record HeadRight (h : Head) : Type 0 where
  pub inputs-low : 1 ≤ h.inputs
  pub inputs-high : h.inputs ≤ 8
  pub gates-high : h.gates ≤ 48
  pub outputs-low : 1 ≤ h.outputs
  pub outputs-high : h.outputs ≤ 4
  pub faults-low : 1 ≤ h.faults
  pub faults-high : h.faults ≤ 32
  pub cap-low : 1 ≤ h.cap
  pub cap-high : h.cap ≤ 4
