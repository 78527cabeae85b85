-- Which problem a circuit or a table states.
use Rattle.netlist.specs.Circuits.{Netlist}
use Rattle.simulation.specs.Rows.{rows_of, outputs_of}
use Rattle.tables.specs.Tables.{TruthTable}
use Rattle.lookup.specs.TableRows.{table_rows}
use Rattle.devices.specs.Problems.{Problem, problem_from}

unfoldable pub circuit_problem : Netlist → Problem
circuit_problem n = problem_from n.inputs (rows_of n) (outputs_of n) n.faults n.cap

-- over doubled rows; its only output is its mark
unfoldable pub table_problem : TruthTable → Problem
table_problem t = problem_from t.inputs (table_rows t) (table_rows t) t.faults t.cap
