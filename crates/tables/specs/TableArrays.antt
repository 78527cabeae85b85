-- What a table of the code holds: arrays that are in use as far as its head says. Past that they hold 0 and the sound fault, so that a table is known from its truth
-- table, and may be copied.
use Rattle.std.specs.Prelude.{◌≡◌, ◌≤◌, ◌^◌, length, take}
use Rattle.std.proofs.Common.{sym}
use Rattle.integer.specs.Padded.{padded}
use Rattle.integer.proofs.Arrays.{padded-used}
use Rattle.statements.specs.Items.{sound}
use Rattle.tables.specs.Tables.{TruthTable}
use Rattle.tables.specs.TableWellFormed.{TableRight}
use Rattle.tables.specs.declared.Table.TheInside.{Inside}

abbrev pub truth_table_of : Inside → TruthTable
truth_table_of t =
    record {
      inputs = t.head.inputs;
      marks = take (2 ^ t.head.inputs) t.marks;
      faults = take t.head.faults t.faults;
      cap = t.head.cap;
    }

-- it is within the limits of the code, and of an accepted text
pub record AcceptedTable (t : Inside) : Type 0 where
  pub inputs : t.head.inputs ≤ 8
  pub faults : t.head.faults ≤ 32
  pub right : TableRight (truth_table_of t)
  pub marks-padded : t.marks ≡ padded 256 0 (truth_table_of t).marks
  pub faults-padded : t.faults ≡ padded 32 sound (truth_table_of t).faults

abbrev pub table_arrays : TruthTable → Inside
table_arrays t =
    record {
      head = record { inputs = t.inputs; faults = length t.faults; cap = t.cap };
      marks = padded 256 0 t.marks;
      faults = padded 32 sound t.faults;
    }

-- the arrays are known from the truth table
pub table-back : (t : Inside) → AcceptedTable t → table_arrays (truth_table_of t) ≡ t
table-back t a i = record {
  head = record { inputs = t.head.inputs; faults = padded-used 32 t.head.faults sound t.faults a.faults a.faults-padded i; cap = t.head.cap };
  marks = sym a.marks-padded i;
  faults = sym a.faults-padded i;
}
