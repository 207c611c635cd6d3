-- MOV @#177570,R0, worked out.
use Rattle.std.proofs.Common.{◌≡◌, ℕ, [], ◌∷◌, refl}
use Rattle.pdp_decode.specs.Table.{instr_of_word, double_operands, control, branches, single_operands, register_operands, high_branches, traps, byte_single_operands, high_double_operands}
use Rattle.pdp_kt11.specs.Handbook.Translation.{translate, mapped_translation}
use Rattle.pdp_kt11.specs.Handbook.Place.{unmapped_address}
use Rattle.pdp_kt11.specs.Handbook.Kt.{kt_at_power_up, kt_fetched, page_at}
use Rattle.pdp_kt11.specs.Handbook.Status.{clear_status}
use Rattle.pdp_kt11.specs.Handbook.Apr.{empty_page}
use Rattle.pdp_io_page.specs.Handbook.Register.{register_at, value_in, after_read}
use Rattle.pdp_io_page.specs.Handbook.Source.{chosen_source, requests}
use Rattle.pdp_unibus.specs.Handbook.Beginning.{before_disk, after_beginning}
use Rattle.pdp_cpu.specs.Handbook.Turn.{one_turn}
use Rattle.pdp_operand.specs.Handbook.Operand.{name_register, grow, indirect, find, read_operand, write_operand}
use Rattle.pdp_operand.specs.Handbook.Processor.{processor_at_power_up, register_of, with_register}
use Rattle.pdp_operand.specs.Handbook.Reference.{perform}
use Rattle.pdp_operand.specs.Handbook.RegisterId.{register_id_of}
use Rattle.pdp_operand.specs.Phases.Course.{follow}
use Rattle.pdp_operand.specs.Phases.Phase.{run}
use Rattle.pdp_instruction.specs.Handbook.Execute.{finish_plan, store_codes}
use Rattle.pdp_instruction.specs.Handbook.Instruction.{fetch_instruction, instruction, instruction_course, note_trace, trace_note_course}
use Rattle.pdp_instruction.specs.Handbook.Moves.{execute_mov, mov_plan}
use Rattle.pdp_instruction.specs.Handbook.Operands.{keep_source, operands_plan, source_first, take_register}
use Rattle.pdp_made.specs.Cells.{Low, High, CoreByte}
use Rattle.pdp_made.specs.CourseRows.{GoAlong, made_along, follow_rows}
use Rattle.pdp_made.specs.PhaseRows.{GoTheSameWay, made_through}
use Rattle.pdp_made_run.specs.BeginningRows.{EventsAlike, before_printer, before_punch, before_reader, made_by_events, made_in_beginning}
use Rattle.pdp_made_run.specs.Example.{keeps_switches, switches_set_to}
use Rattle.pdp_made_run.specs.Origins.{OfEvent}
use Rattle.pdp_made_run.specs.RunRows.{RunsAlike, before_turn, made_before_turn}
use Rattle.pdp_made_run.specs.TurnRows.{TurnsAlike, made_in_turn}

pub low_of_switches : (word : ℕ) → made_before_turn (switches_set_to word) 2 keeps_switches (CoreByte 4 Low) ≡ OfEvent 0 0 ∷ []
unfolding made_before_turn before_turn made_in_turn made_in_beginning made_by_events made_along follow_rows made_through before_printer before_punch before_reader before_disk after_beginning chosen_source requests fetch_instruction note_trace execute_mov keep_source store_codes name_register grow indirect find read_operand write_operand processor_at_power_up register_of with_register perform register_id_of follow run translate unmapped_address mapped_translation kt_at_power_up kt_fetched page_at clear_status empty_page register_at value_in after_read instr_of_word control branches single_operands double_operands register_operands high_branches traps byte_single_operands high_double_operands one_turn instruction instruction_course trace_note_course mov_plan operands_plan source_first take_register finish_plan
low_of_switches word = refl

pub high_of_switches : (word : ℕ) → made_before_turn (switches_set_to word) 2 keeps_switches (CoreByte 4 High) ≡ OfEvent 0 0 ∷ []
unfolding made_before_turn before_turn made_in_turn made_in_beginning made_by_events made_along follow_rows made_through before_printer before_punch before_reader before_disk after_beginning chosen_source requests fetch_instruction note_trace execute_mov keep_source store_codes name_register grow indirect find read_operand write_operand processor_at_power_up register_of with_register perform register_id_of follow run translate unmapped_address mapped_translation kt_at_power_up kt_fetched page_at clear_status empty_page register_at value_in after_read instr_of_word control branches single_operands double_operands register_operands high_branches traps byte_single_operands high_double_operands one_turn instruction instruction_course trace_note_course mov_plan operands_plan source_first take_register finish_plan
high_of_switches word = refl

first_alike : (word other : ℕ) → TurnsAlike 0 (switches_set_to word 0) (switches_set_to other 0) keeps_switches keeps_switches
unfolding made_before_turn before_turn made_in_turn made_in_beginning made_by_events made_along follow_rows made_through before_printer before_punch before_reader before_disk after_beginning chosen_source requests fetch_instruction note_trace execute_mov keep_source store_codes name_register grow indirect find read_operand write_operand processor_at_power_up register_of with_register perform register_id_of follow run translate unmapped_address mapped_translation kt_at_power_up kt_fetched page_at clear_status empty_page register_at value_in after_read instr_of_word control branches single_operands double_operands register_operands high_branches traps byte_single_operands high_double_operands one_turn instruction instruction_course trace_note_course mov_plan operands_plan source_first take_register finish_plan EventsAlike GoAlong GoTheSameWay
first_alike word other = record { begin = record { events = (record { same_way = refl; core_size = refl; drives_count = refl; drive_sizes = λ n. refl }, refl, tt); printer = record { same_way = refl; core_size = refl; drives_count = refl; drive_sizes = λ n. refl }; reader = record { same_way = refl; core_size = refl; drives_count = refl; drive_sizes = λ n. refl }; punch = record { same_way = refl; core_size = refl; drives_count = refl; drive_sizes = λ n. refl }; disk = record { same_way = refl; core_size = refl; drives_count = refl; drive_sizes = λ n. refl }; act = record { same_way = refl; core_size = refl; drives_count = refl; words_size = refl } }; act = ((record { same_way = refl; shape = record { core_size = refl; drives_count = refl; words_size = refl; both_due = refl; new_mode = refl } }, tt), ((record { same_way = refl; shape = record { core_size = refl; drives_count = refl; words_size = refl; both_due = refl; new_mode = refl } }, (record { same_way = refl; shape = record { core_size = refl; drives_count = refl; words_size = refl; both_due = refl; new_mode = refl } }, (record { same_way = refl; shape = record { core_size = refl; drives_count = refl; words_size = refl; both_due = refl; new_mode = refl } }, (record { same_way = refl; shape = record { core_size = refl; drives_count = refl; words_size = refl; both_due = refl; new_mode = refl } }, (record { same_way = refl; shape = record { core_size = refl; drives_count = refl; words_size = refl; both_due = refl; new_mode = refl } }, (record { same_way = refl; shape = record { core_size = refl; drives_count = refl; words_size = refl; both_due = refl; new_mode = refl } }, (record { same_way = refl; shape = record { core_size = refl; drives_count = refl; words_size = refl; both_due = refl; new_mode = refl } }, (record { same_way = refl; shape = record { core_size = refl; drives_count = refl; words_size = refl; both_due = refl; new_mode = refl } }, tt)))))))), ((record { same_way = refl; shape = record { core_size = refl; drives_count = refl; words_size = refl; both_due = refl; new_mode = refl } }, tt), tt))) }

pub switches_alike : (word other : ℕ) → RunsAlike (switches_set_to word) (switches_set_to other) 1 keeps_switches keeps_switches
unfolding RunsAlike before_turn
switches_alike word other = (tt, first_alike word other)
