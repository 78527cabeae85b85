-- The lines that are there say which column is made.
use Rattle.evaluation.proofs.Widths.{column-read, column-alone}
use Rattle.evaluation.proofs.gate_column.Goals as goal

pub returns-in-None-default-default : goal.returns-in-None-default-default
returns-in-None-default-default c = column-alone _ _ _ _ _ c.gate.inside c.gate.invariant c.gate.view_is c.requires.second c.in-None-default-default.is-0 c.column.ensures

pub returns-in-Some-None-default : goal.returns-in-Some-None-default
returns-in-Some-None-default c = let w = c.in-Some-None-default in column-read _ _ _ _ _ c.gate.inside c.gate.invariant c.gate.view_is (rw (w.is-0, w.is-1) c.column_by_kind.ensures)

pub returns-in-Some-Some-None : goal.returns-in-Some-Some-None
returns-in-Some-Some-None c =
    let w = c.in-Some-Some-None in column-read _ _ _ _ _ c.gate.inside c.gate.invariant c.gate.view_is (rw (w.is-0, w.is-1, w.is-2) c.column_by_kind-in-Some-Some-None.ensures)

pub returns-in-Some-Some-Some : goal.returns-in-Some-Some-Some
returns-in-Some-Some-Some c =
    let w = c.in-Some-Some-Some in column-read _ _ _ _ _ c.gate.inside c.gate.invariant c.gate.view_is (rw (w.is-0, w.is-1, w.is-2) c.column_by_kind-in-Some-Some-Some.ensures)
