-- What a text describes: its problem, or its refusal with number and place (document 02, note 1):
--   "Add a text `table,N,Q,K` .." "the circuit, plan and report calls take tables, circuit answers are as before"
-- A text is a table where the first field of its first line is `table`; every other text is read as document 01 has it.
use Rattle.std.specs.Prelude.{ℕ, cond, List}
use Rattle.netlist.specs.Parsing.{Parse, on_parse, parse_of}
use Rattle.tables.specs.TableLines.{is_table}
use Rattle.tables.specs.TableParsing.{TableParse, on_table, table_of}
use Rattle.devices.specs.Devices.{circuit_problem, table_problem}
use Rattle.devices.specs.Problems.{Problem}

pub data Description : Type 0 where
  described : Problem → Description
  refused_at : ℕ → ℕ → Description

-- what a call makes of a text: of the problem of an accepted one, or of a refusal's number and place
abbrev pub on_description : {A : Type 0} → (Problem → A) → (ℕ → ℕ → A) → Description → A
on_description found refuse (described p) = found p
on_description found refuse (refused_at number place) = refuse number place

abbrev pub of_circuit : Parse → Description
of_circuit p = on_parse (λ n. described (circuit_problem n)) refused_at p

abbrev pub of_table : TableParse → Description
of_table p = on_table (λ t. described (table_problem t)) refused_at p

unfoldable pub description_of : List ℕ → Description
description_of text = cond (is_table text) (of_table (table_of text)) (of_circuit (parse_of text))
