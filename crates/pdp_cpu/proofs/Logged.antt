-- A turn does the same whatever log is kept, and begins none where none is kept.
use Rattle.std.proofs.Common.{◌≡◌, ◌∙◌, ℕ, List, ap}
use Rattle.pdp_store.specs.CycleLogs.{KeptCycles, no_log}
use Rattle.pdp_unibus.proofs.Logged.{begun_logged}
use Rattle.pdp_unibus.specs.declared.event.Event.{Event}
use Rattle.pdp_operand.proofs.Kept.{course_keeps_no_log}
use Rattle.pdp_operand.proofs.Logged.{logged_course}
use Rattle.pdp_operand.specs.Phases.Phase.{inner_of}
use Rattle.pdp_operand.specs.Phases.World.{World, world}
use Rattle.pdp_cpu.specs.Laws.TurnLaws.{LogsDisturbNothing}
use Rattle.pdp_cpu.specs.Handbook.Due.{act_of, due_of}
use Rattle.pdp_cpu.specs.Handbook.MachineState.{world_with_log}
use Rattle.pdp_cpu.specs.Handbook.Turn.{act_end, beginning, course_at, initial_state, one_turn}
use Rattle.pdp_cpu.specs.Handbook.Turn.{printed_in, processor_after_events, punched_in, turn_act}
use Rattle.pdp_cpu.specs.Handbook.TurnDisk.{disk_begun}

pub logs_disturb_nothing : (t : ℕ) (events : List Event) (w : World) (log : KeptCycles) → LogsDisturbNothing t events w log
unfolding one_turn turn_act disk_begun printed_in punched_in
logs_disturb_nothing t events w log =
    let first = begun_logged t events w.bus log in
    let v = beginning t events w in
    let begins : beginning t events (world_with_log w log) ≡ world_with_log v log
    = ap (λ q. world (processor_after_events events w.processor) q.bus) first in
    let course = logged_course (course_at (initial_state v)) (initial_state v) log in
    record {
      left = course.left;
      world_is = ap act_end begins ∙ ap (λ s. s.world) course.is;
      act = ap (λ u. act_of (due_of (inner_of (initial_state u)))) begins;
      disk = ap (λ q. q.bus.io_page.disk) first;
      printed = ap (λ q. q.printed) first;
      punched = ap (λ q. q.punched) first;
    }

-- the beginning of a turn leaves the log
begun_log : (t : ℕ) (events : List Event) (w : World) → (beginning t events w).bus.log ≡ w.bus.log
begun_log t events w = ap (λ q. q.bus.log) (begun_logged t events w.bus w.bus.log)

pub turn_keeps_no_log : (t : ℕ) (events : List Event) (w : World) → w.bus.log ≡ no_log → (one_turn t events w).bus.log ≡ no_log
unfolding one_turn
turn_keeps_no_log t events w none =
    let v = beginning t events w in
    course_keeps_no_log (course_at (initial_state v)) (initial_state v) (begun_log t events w ∙ none)
