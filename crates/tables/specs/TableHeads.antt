-- What the numbers of an accepted first line satisfy (document 02, note 1; document 01's ranges).
use Rattle.std.specs.Prelude.{◌≤◌}
use Rattle.tables.specs.declared.TableHead.{TableHead}

pub record TableHeadRight (h : TableHead) : Type 0 where
  pub inputs-low : 1 ≤ h.inputs
  pub inputs-high : h.inputs ≤ 8
  pub faults-low : 1 ≤ h.faults
  pub faults-high : h.faults ≤ 32
  pub cap-low : 1 ≤ h.cap
  pub cap-high : h.cap ≤ 4
