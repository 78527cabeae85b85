-- What accepted tables satisfy, and no others (proofs/TablesWritten `table-accepted-exactly`): N 1 to 8, 2^N doubled marks of 0, 1 and 2, one to 32 faults of
-- one to three inputs each, which rise, or bridges of two inputs that rise, and a cap from 1 to 4 (document 02, notes 1 and 8).
use Rattle.std.specs.Prelude.{ℕ, ◌<◌, ◌≤◌, ◌^◌, ◌≡◌, length, get_or}
use Rattle.integer.specs.ListTests.{Below}
use Rattle.statements.specs.Items.{sound}
use Rattle.sections.specs.FaultLines.{FaultRight}
use Rattle.tables.specs.Tables.{TruthTable}

pub record TableRight (t : TruthTable) : Type 0 where
  pub inputs-low : 1 ≤ t.inputs
  pub inputs-high : t.inputs ≤ 8
  pub marks-all : length t.marks ≡ 2 ^ t.inputs
  pub marks-doubled : Below 3 t.marks
  pub faults-low : 1 ≤ length t.faults
  pub faults-high : length t.faults ≤ 32
  pub cap-low : 1 ≤ t.cap
  pub cap-high : t.cap ≤ 4
  pub faults-right : (k : ℕ) → k < length t.faults → FaultRight t.inputs t.inputs (get_or t.faults k sound)
