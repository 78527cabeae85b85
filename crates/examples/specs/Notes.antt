-- Document 02's examples, note by note, as a table like that of document 01's.
use Rattle.std.specs.Prelude.{List, [], ◌∷◌, pos}
use Rattle.reading.specs.Readings.{Syndrome, Weighted, Constrained, Unreadable}
use Rattle.screen.specs.Answers.{minus}
use Rattle.examples.specs.BridgeTexts.{bridged_listing, bridged_listing_report, silent_bridge, silent_bridge_report, bridged_table, bridged_table_report, gate_with, table_with}
use Rattle.examples.specs.Functions.{bridged_figure}
use Rattle.examples.specs.Table.{Case, whole, bridged, bridged_whole, bridged_not, circuit, plan, no_plan, report, reading, compares, plus, less}
use Rattle.examples.specs.HiddenTexts.{exchanged_outputs, hidden_report, unequal_outputs, output_subtracted, silent_behind}
use Rattle.examples.specs.SignedTexts.{with_output, subtracted_report, subtracted_input, opposite_weights, with_fault}
use Rattle.examples.specs.WideTexts.{wide_and, wide_and_report, wide_parity, with_gate}
use Rattle.examples.specs.TableTexts.{figure_table, small_table, small_table_report, constant_table, constant_table_report, comma_table, short_table, line_above_table}

unfoldable pub note_table : List Case
note_table =
    -- Note 1: fig. 2 of 004, doubled
    circuit figure_table 0 (pos 12 ∷ minus 2 ∷ pos 0 ∷ minus 2 ∷ pos 0 ∷ pos 6 ∷ pos 4 ∷ minus 2 ∷ minus 4 ∷ minus 6 ∷ pos 0 ∷ pos 2 ∷ minus 8 ∷ pos 2 ∷ minus 4 ∷ pos 2 ∷ [])
    -- marks 01-1: sound, with x1 stuck at 0, and with x2 stuck at 1
    ∷ circuit small_table 0 (pos 5 ∷ minus 3 ∷ minus 1 ∷ minus 1 ∷ [])
    ∷ circuit small_table 1 (pos 2 ∷ pos 0 ∷ minus 2 ∷ pos 0 ∷ [])
    ∷ circuit small_table 2 (pos 6 ∷ minus 2 ∷ pos 0 ∷ pos 0 ∷ [])
    ∷ plan small_table (0 ∷ [])
    ∷ report small_table small_table_report
    -- all ones: fault 1 is silent
    ∷ no_plan constant_table 13 1
    ∷ report constant_table constant_table_report
    -- a comma is another mark; a line of another length goes first; a line above N
    ∷ no_plan comma_table 15 2
    ∷ no_plan short_table 2 2
    ∷ no_plan line_above_table 5 3
    -- a table is never read
    ∷ reading small_table 0 0 (Unreadable 2 1)
    ∷ reading comma_table 0 0 (Unreadable 2 1)
    -- Note 2: an `and` of three inputs, sound and under a stuck input; its plan and report
    ∷ circuit wide_and 0 (pos 1 ∷ minus 1 ∷ minus 1 ∷ pos 1 ∷ minus 1 ∷ pos 1 ∷ pos 1 ∷ minus 1 ∷ [])
    ∷ circuit wide_and 1 (pos 0 ∷ pos 0 ∷ pos 0 ∷ pos 0 ∷ pos 0 ∷ pos 0 ∷ pos 0 ∷ pos 0 ∷ [])
    ∷ plan wide_and (0 ∷ [])
    ∷ report wide_and wide_and_report
    -- parity of four inputs by one `xor`
    ∷ circuit wide_parity 0 (pos 8 ∷ pos 0 ∷ pos 0 ∷ pos 0 ∷ pos 0 ∷ pos 0 ∷ pos 0 ∷ pos 0 ∷ pos 0 ∷ pos 0 ∷ pos 0 ∷ pos 0 ∷ pos 0 ∷ pos 0 ∷ pos 0 ∷ minus 8 ∷ [])
    -- three lines by each other kind, one of them read twice
    ∷ circuit (with_gate "gate,or,1,2,3") 0 (pos 7 ∷ minus 1 ∷ minus 1 ∷ minus 1 ∷ minus 1 ∷ minus 1 ∷ minus 1 ∷ minus 1 ∷ [])
    ∷ circuit (with_gate "gate,nand,1,2,3") 0 (pos 7 ∷ pos 1 ∷ pos 1 ∷ minus 1 ∷ pos 1 ∷ minus 1 ∷ minus 1 ∷ pos 1 ∷ [])
    ∷ circuit (with_gate "gate,nor,1,2,3") 0 (pos 1 ∷ pos 1 ∷ pos 1 ∷ pos 1 ∷ pos 1 ∷ pos 1 ∷ pos 1 ∷ pos 1 ∷ [])
    ∷ circuit (with_gate "gate,xor,1,2,1,3") 0 (pos 4 ∷ pos 0 ∷ pos 0 ∷ pos 0 ∷ pos 0 ∷ pos 0 ∷ minus 4 ∷ pos 0 ∷ [])
    ∷ circuit (with_gate "gate,xnor,1,2,3") 0 (pos 4 ∷ pos 0 ∷ pos 0 ∷ pos 0 ∷ pos 0 ∷ pos 0 ∷ pos 0 ∷ pos 4 ∷ [])
    -- 2, 3 and 4 of a gate's line, in that order
    ∷ no_plan (with_gate "gate,and,1") 2 2
    ∷ no_plan (with_gate "gate,and,1,2,3,1,2") 2 2
    ∷ no_plan (with_gate "gate,and,1,2,") 2 2
    ∷ no_plan (with_gate "gate,and,1,2,03") 2 2
    ∷ no_plan (with_gate "gate,buf,1,2,3") 2 2
    ∷ no_plan (with_gate "gate,not,1,0,2") 2 2
    ∷ no_plan (with_gate "gate,not,1,2,3") 2 2
    ∷ no_plan (with_gate "gate,not,1,2") 3 2
    ∷ no_plan (with_gate "gate,and,1,2,0") 3 2
    ∷ no_plan (with_gate "gate,and,4,57,1") 3 2
    ∷ no_plan (with_gate "gate,and,4,1,2,57") 3 2
    ∷ no_plan (with_gate "gate,and,1,2,4") 4 2
    ∷ no_plan (with_gate "gate,and,1,2,3,56") 4 2
    -- Note 4: the listing with its output subtracted; its reading is negative, and under the fault that leaves the sum the difference is +0
    ∷ circuit (with_output "output,7,-1") 0 (minus 4 ∷ pos 2 ∷ pos 0 ∷ minus 2 ∷ pos 2 ∷ pos 0 ∷ pos 2 ∷ pos 0 ∷ [])
    ∷ plan (with_output "output,7,-1") (1 ∷ [])
    ∷ report (with_output "output,7,-1") subtracted_report
    ∷ reading (with_output "output,7,-1") 0 0 (Weighted (less 5 1))
    ∷ reading (with_output "output,7,-1") 2 2 (Constrained (less 5 1) 1)
    ∷ compares (with_output "output,7,-1") 2 1 1 (less 75 2) (less 1 0) (plus 25 2)
    ∷ compares (with_output "output,7,-1") 1 0 0 (less 5 1) (less 5 1) (plus 0 0)
    ∷ reading (with_output "output,7,2") 0 0 (Weighted (plus 1 0))
    ∷ reading (with_output "output,7,1") 0 0 (Syndrome (plus 5 1))
    -- an input of weight -15; an input that is added and subtracted, whose faults are hidden (note 5)
    ∷ circuit subtracted_input 0 (minus 15 ∷ pos 15 ∷ [])
    ∷ circuit opposite_weights 0 (pos 0 ∷ pos 0 ∷ [])
    ∷ no_plan opposite_weights 16 1
    ∷ reading opposite_weights 0 0 (Weighted (plus 0 0))
    -- 2, 3 and 5 of an output's line, in that order
    ∷ no_plan (with_output "output,7,-0") 2 6
    ∷ no_plan (with_output "output,7,-00") 2 6
    ∷ no_plan (with_output "output,7,-") 2 6
    ∷ no_plan (with_output "output,7,--5") 2 6
    ∷ no_plan (with_output "output,7,+5") 2 6
    ∷ no_plan (with_output "output,7,-05") 2 6
    ∷ no_plan (with_output "output,7,05") 2 6
    ∷ no_plan (with_output "output,7,") 2 6
    ∷ no_plan (with_output "output,7,-10000") 2 6
    ∷ no_plan (with_output "output,57,-0") 2 6
    ∷ no_plan (with_output "output,-7,16") 2 6
    ∷ no_plan (with_output "output,7,0") 3 6
    ∷ no_plan (with_output "output,7,16") 3 6
    ∷ no_plan (with_output "output,7,-16") 3 6
    ∷ no_plan (with_output "output,7,-9999") 3 6
    ∷ no_plan (with_output "output,8,-16") 3 6
    ∷ no_plan (with_output "output,8,-15") 5 6
    -- no other number has a sign
    ∷ no_plan (with_fault "fault,-1,0") 2 3
    ∷ no_plan (with_fault "fault,1,-0") 2 3
    ∷ no_plan (with_fault "fault,1,-1") 2 3
    ∷ no_plan (with_gate "gate,and,1,-2") 2 2
    -- Note 5: outputs that change places, told apart by other weights; an output that is subtracted too; a silent fault goes before a hidden one
    ∷ no_plan exchanged_outputs 16 1
    ∷ report exchanged_outputs hidden_report
    ∷ circuit exchanged_outputs 0 (pos 2 ∷ pos 0 ∷ [])
    ∷ circuit exchanged_outputs 1 (pos 2 ∷ pos 0 ∷ [])
    ∷ plan unequal_outputs (0 ∷ [])
    ∷ no_plan output_subtracted 16 1
    ∷ report output_subtracted hidden_report
    ∷ no_plan silent_behind 13 2
    -- Note 8: example 6.2 of 004, its spectrum, and label 0 under each bridge; 2,3 and 3,4 leave the sound one
    ∷ whole bridged_figure (pos 7 ∷ pos 1 ∷ pos 3 ∷ pos 1 ∷ minus 1 ∷ minus 3 ∷ minus 1 ∷ pos 1 ∷ pos 3 ∷ pos 1 ∷ minus 1 ∷ pos 1 ∷ minus 1 ∷ pos 1 ∷ minus 1 ∷ pos 5 ∷ [])
    ∷ bridged bridged_figure 1 2 (pos 10)
    ∷ bridged bridged_figure 1 3 (pos 4)
    ∷ bridged bridged_figure 1 4 (pos 10)
    ∷ bridged bridged_figure 2 4 (pos 9)
    ∷ bridged bridged_figure 2 3 (pos 7)
    ∷ bridged bridged_figure 3 4 (pos 7)
    -- the call on the listing's coefficients, and on a list that has an odd half
    ∷ bridged_whole (pos 4 ∷ minus 2 ∷ pos 0 ∷ pos 2 ∷ minus 2 ∷ pos 0 ∷ minus 2 ∷ pos 0 ∷ []) 1 3 (pos 2 ∷ minus 2 ∷ pos 0 ∷ pos 0 ∷ minus 2 ∷ pos 2 ∷ pos 0 ∷ pos 0 ∷ [])
    ∷ bridged_not (pos 0 ∷ pos 0 ∷ pos 0 ∷ pos 0 ∷ pos 0 ∷ pos 1 ∷ pos 0 ∷ pos 0 ∷ []) 1 2 11 4
    -- a list of 2 has no two inputs
    ∷ bridged_not (pos 0 ∷ pos 0 ∷ []) 1 2 12 0
    -- the listing with a stuck line and a bridge; a bridge that changes nothing; the rows of example 6.2 as a table
    ∷ plan bridged_listing (3 ∷ [])
    ∷ report bridged_listing bridged_listing_report
    ∷ circuit bridged_listing 2 (pos 2 ∷ minus 2 ∷ pos 0 ∷ pos 0 ∷ minus 2 ∷ pos 2 ∷ pos 0 ∷ pos 0 ∷ [])
    ∷ no_plan silent_bridge 13 1
    ∷ report silent_bridge silent_bridge_report
    ∷ report bridged_table bridged_table_report
    -- 2, 3 and 19 of a bridge's line
    ∷ no_plan (gate_with "bridge,1") 2 4
    ∷ no_plan (gate_with "bridge,1,2,0") 2 4
    ∷ no_plan (gate_with "bridge,01,2") 2 4
    ∷ no_plan (gate_with "bridges,1,2") 2 4
    ∷ no_plan (gate_with "bridge,57,1") 3 4
    ∷ no_plan (gate_with "bridge,2,2") 19 4
    ∷ no_plan (gate_with "bridge,2,1") 19 4
    ∷ no_plan (gate_with "bridge,2,3") 19 4
    ∷ no_plan (gate_with "bridge,2,5") 19 4
    ∷ no_plan (table_with "bridge,1,3") 19 3
    ∷ []
