-- Document 02's examples follow from the definitions:
--   notes-hold    every case of the notes' table holds, each by computation
use mathlib.Core.Bool.{xor}
use mathlib.Core.Path.{refl}
use Rattle.integer.specs.First.{first_from, first_where}
use Rattle.integer.specs.Mask.{mask_of}
use Rattle.integer.specs.Sum.{sum_to}
use Rattle.integer.specs.ListTests.{keep, any}
use Rattle.integer.specs.Counting.{count, all_below}
use Rattle.transform.specs.Spectrum.{term_of, signed_sum, coefficient_of, spectrum_of}
use Rattle.text.specs.Text.{index_of, before, after, field_of, field_count, same_bytes, digits, decimal_from, well_formed, number_of, signed_number_of}
use Rattle.fields.specs.Fields.{value_at, signed_value_at, numbers_from, is_line, in_range, fits, unless}
use Rattle.sections.specs.Sections.{lines_of}
use Rattle.writing.specs.Writing.{decimal_to, decimal_of, integer_of, gather, number_field, numbers_of, line_of}
use Rattle.cover.specs.Order.{with_ones, by_ones, order, below, labels_below}
use Rattle.search.specs.Sets.{sets_of, first_of, plan_from, plan_of}
use Rattle.cover.specs.Cover.{covers, covers_fault, covers_all, same_at, unchanged, unchanged_at, signature_of}
use Rattle.planner.specs.PlanCall.{is_silent, is_hidden, silent_first, hidden_first, verdict_of, plan_verdict, plan_answer}
use Rattle.tables.specs.TableLines.{is_table, is_table_head, table_head_fits, table_head_refusal, table_head_of, is_mark, doubled_mark, all_marks, mark_refusal, marks_of}
use Rattle.tables.specs.TableParsing.{table_faults_in, table_end, table_body, table_of}
use Rattle.lookup.specs.StuckPairs.{with_pair, present_pairs, stuck_lines, stuck_values, pairs_of}
use Rattle.lookup.specs.TableRows.{bridge_row, fault_row, table_row, table_rows}
use Rattle.devices.specs.Describing.{description_of}
use Rattle.devices.specs.Devices.{circuit_problem, table_problem}
use Rattle.devices.specs.Problems.{problem_from}
use Rattle.circuit.specs.CircuitCall.{room_answer, fault_answer, circuit_answer, fault_spectrum, circuit_spectrum}
use Rattle.report_lines.specs.ReportLines.{plan_line, refused_line, label_line, label_covers, covering_label, fault_report_line, plan_lines}
use Rattle.report.specs.ReportCall.{report_of, short, report_answer, report_left}
use lib.Count.{ones, count_trailing_zeros}
use lib.Ieee.{span, climb, size, odd, units, round, neg, sum, add, sub, div, of_int}
use Rattle.reading.specs.Readings.{agrees, count_to, count_of, whole_sum, quotient, mean_of, case_of, pair_of}
use Rattle.integer.specs.Tab.{tab}
use Rattle.netlist.specs.Parsing.{gates_in, outputs_in, faults_in, end_of, body_of, parse_of}
use Rattle.fixture.specs.ReadingCall.{fixes_inputs, some_not_one, is_weighted, fault_mean, reading_answer, unread, pair_numbers, names_fault, pair_answer}
use Rattle.kinds.specs.Kinds.{is_kind, kind_of}
use Rattle.statements.specs.Lines.{is_head, head_fits, head_refusal, head_of, is_output, output_fits, output_refusal, output_of, is_fault, pair_in_range, pair_fits, fault_fits, lines_exist, rises_at, lines_rise, fault_refusal, pair_at, fault_of, is_bridge, bridge_fits, inputs_rise, bridge_refusal, bridge_of, names_bridge, fault_line_refusal, fault_line_of}
use Rattle.gate_lines.specs.GateLines.{fields_fit, is_gate, second_fits, added_fits, gate_fits, reads_below, gate_refusal, gate_of}
use Rattle.columns.specs.Shown.{stuck_or, shown, applied_under}
use Rattle.gates.specs.Gates.{all_of, some_of, odd_of, gate_value}
use Rattle.gate_lines.specs.GateItems.{up_to_none, lines_read}
use Rattle.simulation.specs.Rows.{input_values, gate_next, gates_next, line_values, row_value, rows_of, row_outputs, outputs_of}
use Rattle.screen.specs.Answers.{inputs_to, inputs_of, outside, outside_at, first_outside, screen_of}
use Rattle.results.specs.Quotients.{unfit, unfit_at, first_unfit, divided_answer, quotient_at, quotients_of}
use Rattle.walsh.specs.Lists.{spectrum_answer, inverse_rows, rows_answer}
use Rattle.faults.specs.Faults.{stuck_of, replaced_all, bridged_rows}
use Rattle.bridges.specs.Bridges.{without_both, pair_sum, half_at, with_neither, bridged_by, bridged_at, bridged_spectrum_of, unhalved_at, first_unhalved, unhalved_answer, bridge_right, bridged_answer}
use Rattle.examples.specs.Texts.{text_of_lines}
use Rattle.examples.specs.BridgeTexts.{bridged_listing, bridged_listing_report, silent_bridge, silent_bridge_report, bridged_table, bridged_table_report, gate_with, table_with}
use Rattle.examples.specs.Functions.{is_one_of, bridged_figure}
use Rattle.examples.specs.HiddenTexts.{exchanged_outputs, hidden_report, unequal_outputs, output_subtracted, silent_behind}
use Rattle.examples.specs.SignedTexts.{with_output, subtracted_report, subtracted_input, opposite_weights, with_fault}
use Rattle.examples.specs.WideTexts.{wide_and, wide_and_report, wide_parity, with_gate}
use Rattle.examples.specs.TableTexts.{figure_table, small_table, small_table_report, constant_table, constant_table_report, comma_table, short_table, line_above_table}
use Rattle.examples.specs.Table.{decimal, Holds, Every}
use Rattle.examples.specs.Notes.{note_table}

pub notes-hold : Every Holds note_table
unfolding first_from first_where sum_to keep any count all_below term_of signed_sum coefficient_of spectrum_of index_of before after field_of field_count same_bytes digits decimal_from well_formed number_of value_at numbers_from is_line in_range fits unless lines_of decimal_to decimal_of integer_of gather number_field numbers_of line_of with_ones by_ones order below labels_below sets_of first_of plan_from plan_of covers covers_fault covers_all same_at unchanged unchanged_at signature_of is_silent is_hidden silent_first hidden_first verdict_of plan_verdict plan_answer is_table is_table_head table_head_fits table_head_refusal table_head_of is_mark doubled_mark all_marks mark_refusal marks_of table_faults_in table_end table_body table_of with_pair present_pairs stuck_lines stuck_values pairs_of bridge_row fault_row table_row table_rows description_of circuit_problem table_problem problem_from room_answer fault_answer circuit_answer fault_spectrum circuit_spectrum plan_line refused_line label_line label_covers covering_label fault_report_line plan_lines report_of short report_answer report_left ones tab gates_in outputs_in faults_in end_of body_of parse_of reading_answer is_kind kind_of is_head head_fits head_refusal head_of fields_fit is_gate second_fits added_fits gate_fits reads_below gate_refusal gate_of is_output output_fits output_refusal output_of is_fault pair_in_range pair_fits fault_fits lines_exist rises_at lines_rise fault_refusal pair_at fault_of is_bridge bridge_fits inputs_rise bridge_refusal bridge_of names_bridge fault_line_refusal fault_line_of all_of some_of odd_of gate_value up_to_none lines_read stuck_or shown applied_under input_values gate_next gates_next line_values row_value rows_of row_outputs outputs_of mask_of inputs_to inputs_of outside outside_at first_outside screen_of spectrum_answer unfit unfit_at first_unfit divided_answer quotient_at quotients_of inverse_rows rows_answer bridged_rows without_both pair_sum half_at with_neither bridged_by bridged_at bridged_spectrum_of unhalved_at first_unhalved unhalved_answer bridge_right bridged_answer is_one_of bridged_figure bridged_listing bridged_listing_report silent_bridge silent_bridge_report bridged_table bridged_table_report gate_with table_with wide_and wide_and_report wide_parity with_gate xor stuck_of replaced_all span climb size odd units round neg sum add sub div of_int count_trailing_zeros agrees count_to count_of whole_sum quotient mean_of case_of pair_of fixes_inputs some_not_one is_weighted fault_mean unread pair_numbers names_fault pair_answer decimal signed_number_of signed_value_at with_output subtracted_report subtracted_input opposite_weights with_fault exchanged_outputs hidden_report unequal_outputs output_subtracted silent_behind text_of_lines figure_table small_table small_table_report constant_table constant_table_report comma_table short_table line_above_table note_table
notes-hold =
    (refl, (refl, (refl, (refl, (refl, ((refl, refl), (refl, ((refl, refl), (refl, (refl, (refl, (refl, (refl, (refl, (refl, (refl, ((refl, refl), (refl, (refl, (refl, (refl, (refl, (refl, (refl, (refl, (refl, (refl, (refl, (refl, (refl, (refl, (refl, (refl, (refl, (refl, (refl, (refl, (refl, ((refl, refl), (refl, (refl, (refl, (refl, (refl, (refl, (refl, (refl, (refl, (refl, (refl, (refl, (refl, (refl, (refl, (refl, (refl, (refl, (refl, (refl, (refl, (refl, (refl, (refl, (refl, (refl, (refl, (refl, (refl, (refl, (refl, (refl, ((refl, refl), (refl, (refl, (refl, (refl, ((refl, refl), (refl, ((refl, refl), ((refl, refl), ((refl, refl), ((refl, refl), ((refl, refl), ((refl, refl), ((refl, refl), (refl, ((refl, refl), ((refl, refl), (refl, ((refl, refl), (refl, (refl, ((refl, refl), ((refl, refl), (refl, (refl, (refl, (refl, (refl, (refl, (refl, (refl, (refl, (refl, tt))))))))))))))))))))))))))))))))))))))))))))))))))))))))))))))))))))))))))))))))))))))))))))))))))))))))
