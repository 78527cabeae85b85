-- Document 01's examples follow from the definitions:
--   examples-hold    every case of the table holds, each by computation
use mathlib.Core.Bool.{xor}
use mathlib.Core.Path.{refl}
use lib.Count.{ones, count_trailing_zeros}
use lib.Ieee.{span, climb, size, odd, units, round, neg, sum, add, sub, div, of_int}
use Rattle.integer.specs.First.{first_from, first_where}
use Rattle.integer.specs.Mask.{mask_of}
use Rattle.integer.specs.Sum.{sum_to}
use Rattle.integer.specs.Tab.{tab}
use Rattle.integer.specs.ListTests.{keep, any}
use Rattle.integer.specs.Counting.{count, all_below}
use Rattle.screen.specs.Answers.{inputs_to, inputs_of, outside, outside_at, first_outside, screen_of}
use Rattle.walsh.specs.Coefficients.{found_of}
use Rattle.walsh.specs.Lists.{spectrum_answer, inverse_rows, rows_answer}
use Rattle.results.specs.Quotients.{unfit, unfit_at, first_unfit, divided_answer, quotient_at, quotients_of}
use Rattle.transform.specs.Spectrum.{term_of, signed_sum, coefficient_of, spectrum_of}
use Rattle.faults.specs.Faults.{stuck_of, names, subset_sum, stuck_coefficient_at, stuck_spectrum_of, rising_inputs, binary, few_of, stuck_right, stuck_answer, opened_right, lines_after, opened_sum_at, opened_at, opened_spectrum_of, undivided_at, first_undivided, undivided_answer, opened_answer, replaced_all, stuck_row, stuck_rows, opened_row_number, opened_row, opened_rows}
use Rattle.text.specs.Text.{index_of, before, after, field_of, field_count, same_bytes, digits, decimal_from, well_formed, number_of, signed_number_of}
use Rattle.fields.specs.Fields.{value_at, signed_value_at, numbers_from, is_line, in_range, fits, unless}
use Rattle.statements.specs.Lines.{is_head, head_fits, head_refusal, head_of, is_output, output_fits, output_refusal, output_of, is_fault, pair_in_range, pair_fits, fault_fits, lines_exist, rises_at, lines_rise, fault_refusal, pair_at, fault_of, names_bridge, fault_line_refusal, fault_line_of}
use Rattle.gate_lines.specs.GateLines.{fields_fit, is_gate, second_fits, added_fits, gate_fits, reads_below, gate_refusal, gate_of}
use Rattle.kinds.specs.Kinds.{is_kind, kind_of}
use Rattle.netlist.specs.Parsing.{gates_in, outputs_in, faults_in, end_of, body_of, parse_of}
use Rattle.sections.specs.Sections.{lines_of}
use Rattle.columns.specs.Shown.{stuck_or, shown, applied_under}
use Rattle.gates.specs.Gates.{all_of, some_of, odd_of, gate_value}
use Rattle.gate_lines.specs.GateItems.{up_to_none, lines_read}
use Rattle.simulation.specs.Rows.{input_values, gate_next, gates_next, line_values, row_value, rows_of, row_outputs, outputs_of}
use Rattle.reading.specs.Readings.{agrees, count_to, count_of, whole_sum, quotient, mean_of, case_of, pair_of}
use Rattle.writing.specs.Writing.{decimal_to, decimal_of, integer_of, gather, number_field, numbers_of, line_of}
use Rattle.cover.specs.Order.{with_ones, by_ones, order, below, labels_below}
use Rattle.search.specs.Sets.{sets_of, first_of, plan_from, plan_of}
use Rattle.cover.specs.Cover.{covers, covers_fault, covers_all, same_at, unchanged, unchanged_at, signature_of}
use Rattle.fixture.specs.ReadingCall.{fixes_inputs, some_not_one, is_weighted, fault_mean, reading_answer, unread, pair_numbers, names_fault, pair_answer}
use Rattle.planner.specs.PlanCall.{is_silent, is_hidden, silent_first, hidden_first, verdict_of, plan_verdict, plan_answer}
use Rattle.tables.specs.TableLines.{is_table}
use Rattle.devices.specs.Describing.{description_of}
use Rattle.devices.specs.Devices.{circuit_problem}
use Rattle.devices.specs.Problems.{problem_from}
use Rattle.circuit.specs.CircuitCall.{room_answer, fault_answer, circuit_answer, fault_spectrum, circuit_spectrum}
use Rattle.report_lines.specs.ReportLines.{plan_line, refused_line, label_line, label_covers, covering_label, fault_report_line, plan_lines}
use Rattle.report.specs.ReportCall.{report_of, short, report_answer, report_left}
use Rattle.examples.specs.Functions.{is_one_of, figure, product_or_input, selected, gated, gated_opened}
use Rattle.examples.specs.Texts.{text_of_lines, product_or_input_text, gated_text, listing, listing_report, silent_text, silent_report, pair_text, and_or_text, xor_not_text, half_and_one_text}
use Rattle.examples.specs.Table.{decimal, Holds, Every, table}

pub examples-hold : Every Holds table
unfolding table figure product_or_input selected gated gated_opened is_one_of tab sum_to first_from first_where ones term_of signed_sum coefficient_of spectrum_of inputs_to inputs_of outside outside_at first_outside screen_of found_of spectrum_answer unfit unfit_at first_unfit divided_answer quotient_at quotients_of inverse_rows rows_answer stuck_of names subset_sum stuck_coefficient_at stuck_spectrum_of rising_inputs binary few_of stuck_right stuck_answer opened_right lines_after opened_sum_at opened_at opened_spectrum_of undivided_at first_undivided undivided_answer opened_answer replaced_all stuck_row stuck_rows opened_row_number opened_row opened_rows index_of before after field_of field_count same_bytes digits decimal_from well_formed number_of signed_number_of value_at signed_value_at numbers_from is_line in_range fits is_head head_fits head_refusal head_of is_kind kind_of fields_fit is_gate second_fits added_fits gate_fits reads_below gate_refusal gate_of is_output output_fits output_refusal output_of is_fault pair_in_range pair_fits fault_fits lines_exist rises_at lines_rise fault_refusal pair_at fault_of names_bridge fault_line_refusal fault_line_of lines_of gates_in outputs_in faults_in end_of body_of parse_of all_of some_of odd_of gate_value up_to_none lines_read stuck_or shown applied_under input_values gate_next gates_next line_values row_value rows_of row_outputs outputs_of mask_of room_answer fault_answer circuit_answer fault_spectrum circuit_spectrum text_of_lines product_or_input_text gated_text listing listing_report silent_text silent_report pair_text and_or_text xor_not_text decimal_to decimal_of integer_of gather number_field numbers_of line_of keep count with_ones by_ones order below labels_below sets_of first_of plan_from plan_of any all_below covers covers_fault covers_all same_at unchanged unchanged_at signature_of is_silent is_hidden silent_first hidden_first verdict_of plan_verdict plan_answer plan_line refused_line label_line label_covers covering_label fault_report_line plan_lines report_of short report_answer report_left xor decimal half_and_one_text fixes_inputs some_not_one is_weighted fault_mean reading_answer unread pair_numbers names_fault pair_answer agrees count_to count_of whole_sum quotient mean_of case_of pair_of count_trailing_zeros span climb size odd units round neg sum add sub div of_int unless problem_from circuit_problem description_of is_table
examples-hold =
    ((refl, refl), (refl, ((refl, refl), ((refl, refl), ((refl, refl), ((refl, refl), ((refl, refl), (refl, ((refl, refl), ((refl, refl), ((refl, refl), ((refl, refl), (refl, (refl, ((refl, refl), ((refl, refl), (refl, (refl, (refl, (refl, (refl, (refl, (refl, (refl, (refl, (refl, (refl, (refl, (refl, (refl, ((refl, refl), (refl, ((refl, refl), (refl, (refl, (refl, (refl, (refl, (refl, (refl, (refl, (refl, (refl, (refl, (refl, (refl, (refl, tt)))))))))))))))))))))))))))))))))))))))))))))))
