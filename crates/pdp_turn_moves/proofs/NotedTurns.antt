-- What the act of a turn makes of what depends on no notes of accesses and on no log.
use Rattle.std.proofs.Common.{◌≡◌, ◌∙◌, ℕ, Bool, true, false, List, Option, ap, refl}
use Rattle.pdp_store.specs.CycleLogs.{KeptCycles}
use Rattle.pdp_store.specs.FirstTouches.{FirstTouches}
use Rattle.pdp_store.specs.declared.Stamp.{Stamp}
use Rattle.pdp_io_page.specs.Handbook.Source.{vector_of}
use Rattle.pdp_unibus.specs.declared.event.Event.{Event}
use Rattle.pdp_operand.specs.Phases.Phase.{Phase, inner_of, state_of}
use Rattle.pdp_operand.specs.Phases.World.{World, world}
use Rattle.pdp_instruction.specs.Handbook.TrapSequence.{saved_context_of}
use Rattle.pdp_cpu.specs.Handbook.Due.{due_of, serve, take_stack, take_trace}
use Rattle.pdp_cpu.specs.Handbook.MachineState.{world_with_first_touches, world_with_log, world_with_stamps}
use Rattle.pdp_cpu.specs.Handbook.Turn.{at_turn, clear_latch, processor_after_events}
use Rattle.pdp_cpu.specs.declared.due.Due.{Due}
use Rattle.pdp_cpu.specs.declared.due.Due.TheVariants as due
use Rattle.pdp_made.specs.Cells.{DataCell, no_saved_codes}
use Rattle.pdp_made.specs.CourseRows.{made_along}
use Rattle.pdp_made_run.specs.TurnRows.{rows_of_due, serving_rows}
use Rattle.pdp_turn_moves.specs.ActMoves.{made_in_act}
use Rattle.pdp_turn_moves.proofs.Noted.{Leaves, Notes, bus_noting, noted_beginning, noting}
use Rattle.pdp_turn_moves.proofs.SteadyCourses.{IsSteadyCourse, along_steady, instruction_steady, sequence_steady}

serving_steady : (taken : Phase) (marks : Bool) (vector : ℕ) → IsSteadyCourse (serving_rows taken marks vector)
serving_steady taken marks vector = ((λ s n c. refl, tt), λ i. sequence_steady marks vector (saved_context_of i), λ trap i. tt)

due_steady : (act : Due) → IsSteadyCourse (rows_of_due act)
due_steady due.Instruction = instruction_steady
due_steady due.TraceTrap = serving_steady take_trace true 0o14
due_steady due.StackTrap = serving_steady take_stack false 0o4
due_steady (due.Interrupt source) = serving_steady (serve source) true (vector_of source)
due_steady due.Nothing = tt

-- a turn begins its act in the same state, but for the notes
noted_turn : (t : ℕ) (events : List Event) (w : World) (n : Notes)
    → Leaves noting (at_turn t events w) (at_turn t events (world w.processor (bus_noting w.bus n)))
noted_turn t events w n =
    let begun = noted_beginning t events w.bus n in
    record {
      left = begun.left;
      is = ap (λ bus. state_of (processor_after_events events w.processor) bus clear_latch) begun.is;
    }

noted_alike : (t : ℕ) (events : List Event) (w : World) (n : Notes) (c : DataCell)
    → made_in_act t events (world w.processor (bus_noting w.bus n)) c ≡ made_in_act t events w c
noted_alike t events w n c =
    let begun = noted_turn t events w n in
    ap (λ s. made_along (rows_of_due (due_of (inner_of s))) no_saved_codes s c) begun.is
    ∙ along_steady (rows_of_due (due_of (inner_of (at_turn t events w)))) (due_steady (due_of (inner_of (at_turn t events w)))) no_saved_codes (at_turn t events w) begun.left c

pub act_moves_alike : (t : ℕ) (events : List Event) (w : World) (log : KeptCycles) (touches : FirstTouches) (c : DataCell)
    → made_in_act t events (world_with_first_touches (world_with_log w log) touches) c ≡ made_in_act t events w c
act_moves_alike t events w log touches c =
    noted_alike t events w (record { stamps = w.bus.stamps; first_touches = touches; log = log }) c

pub act_restamped : (t : ℕ) (events : List Event) (w : World) (stamps : List (Option Stamp)) (c : DataCell)
    → made_in_act t events (world_with_stamps w stamps) c ≡ made_in_act t events w c
act_restamped t events w stamps c =
    noted_alike t events w (record { stamps = stamps; first_touches = w.bus.first_touches; log = w.bus.log }) c
