-- Turns of a machine that keeps a log are those of the run, and the log stays of its kind.
use Rattle.std.proofs.Common.{◌≡◌, ◌∙◌, ◌+◌, ◌-◌, ◌<◌, ◌≤◌, ◌++◌, ◌∷◌, [], ℕ, Bool, true, false, List, Option, None, Some, ap, ap₂, arith, refl, sym, nat_lt, ◌&&◌, length, if◌then◌else◌}
use Rattle.pdp_store.specs.CycleLogs.{KeptCycles, keeps, log_with, without_cycles}
use Rattle.pdp_store.specs.declared.cycle_log.BusCycle.{BusCycle}
use Rattle.pdp_unibus.proofs.Logged.{begun_logged}
use Rattle.pdp_unibus.specs.declared.event.Event.{Event}
use Rattle.pdp_operand.proofs.Along.{Goes, along_course}
use Rattle.pdp_operand.proofs.Shape.{log_after}
use Rattle.pdp_operand.specs.Phases.World.{World}
use Rattle.pdp_cpu.proofs.Logged.{logs_disturb_nothing}
use Rattle.pdp_cpu.proofs.TurnLaws.{turn_keeps_words}
use Rattle.pdp_cpu.specs.Handbook.MachineState.{MachineState, after_turn, state_with_log, world_with_log}
use Rattle.pdp_cpu.specs.Handbook.Turn.{at_turn, course_at, one_turn}
use Rattle.pdp_script.specs.Entries.{events_at}
use Rattle.pdp_script.specs.Script.{ScriptData}
use Rattle.pdp_replay.specs.Past.{Past}
use Rattle.pdp_replay.specs.Run.KeptRuns.{MetersTurns}
use Rattle.pdp_replay.specs.Run.States.{at}
use Rattle.pdp_replay.specs.Ask.DiskCompletions.{disk_turn}
use Rattle.pdp_replay.specs.Ask.Reads.{GoesOnLogging, IsLoggedState, RunsLogging}
use Rattle.pdp_replay.proofs.run.States.{at_next}

-- what a log keeps, and for how many it has room, stays whatever is put into it
kind_if : (kept : Bool) (cycle : BusCycle) (log : KeptCycles)
    → without_cycles (if kept then record log { told = log.told ++ cycle ∷ [] } else log) ≡ without_cycles log
kind_if true cycle log = refl
kind_if false cycle log = refl

kind_with : (cycle : BusCycle) (log : KeptCycles) → without_cycles (log_with cycle log) ≡ without_cycles log
kind_with cycle log = kind_if (keeps log.reads_of cycle && nat_lt (length log.told) log.room) cycle log

kind_after : (told : Option BusCycle) (log : KeptCycles) → without_cycles (log_after told log) ≡ without_cycles log
kind_after None log = refl
kind_after (Some cycle) log = kind_with cycle log

goes : Goes (λ xs b c. without_cycles c.log ≡ without_cycles b.log)
goes = record {
  stays = λ b. refl;
  changes = λ xs b c io_page told so. kind_after told c.log ∙ so;
  looks = λ b k within. kind_with _ b.log;
  writes = λ b k word told within. kind_with told b.log;
  joins = λ xs ys b c d so also. also ∙ so;
}

pub turn_keeps_kind : (t : ℕ) (events : List Event) (w : World) → without_cycles (one_turn t events w).bus.log ≡ without_cycles w.bus.log
unfolding one_turn
turn_keeps_kind t events w =
    along_course (λ xs b c. without_cycles c.log ≡ without_cycles b.log) goes (course_at (at_turn t events w)) (at_turn t events w)
    ∙ ap (λ q. without_cycles q.bus.log) (begun_logged t events w.bus w.bus.log)

-- the next turn of a machine in a state of the run with some log, put into this log
abbrev pub logged_turn : List Event → KeptCycles → MachineState → MachineState
logged_turn events log m = after_turn events (state_with_log log m)

-- the same state with this log, whatever log there was
pub same_with_log : (p : Past) (log : KeptCycles) (m : MachineState) → IsLoggedState p m → state_with_log log m ≡ state_with_log log (at p m.turn)
same_with_log p log m here = ap (state_with_log log) here

-- the state after it is that of the run, but for the log
turned_by : (events : List Event) (log left : KeptCycles) (s : MachineState) (printed punched : List ℕ)
    → one_turn s.turn events (world_with_log s.world log) ≡ world_with_log (one_turn s.turn events s.world) left
    → printed ≡ (after_turn events s).text → punched ≡ (after_turn events s).punched
    → record { turn = s.turn + 1; world = one_turn s.turn events (world_with_log s.world log); text = printed; punched = punched }
    ≡ state_with_log left (after_turn events s)
turned_by events log left s printed punched world text tape =
    λ i. record { turn = s.turn + 1; world = world i; text = text i; punched = tape i }

pub turned : (events : List Event) (log : KeptCycles) (s : MachineState)
    → logged_turn events log s ≡ state_with_log (logged_turn events log s).world.bus.log (after_turn events s)
turned events log s =
    let so = logs_disturb_nothing s.turn events s.world log in
    let is = turned_by events log so.left s _ _ so.world_is (ap (λ out. s.text ++ out) so.printed) (ap (λ out. s.punched ++ out) so.punched) in
    is ∙ ap (λ left. state_with_log left (after_turn events s)) (sym (ap (λ (m : MachineState). m.world.bus.log) is))

-- the events of a turn in the script of a past
pub events_of : (p : Past) (script : ScriptData) (turn : ℕ) → p.script ≡ script → events_at script.entries turn ≡ events_at p.script.entries turn
events_of p script turn same = ap (λ (s : ScriptData). events_at s.entries turn) (sym same)

-- so it goes on in the run
pub goes_on_logging : (p : Past) (script : ScriptData) (log : KeptCycles) (m now : MachineState) → p.script ≡ script → IsLoggedState p m
    → now ≡ logged_turn (events_at script.entries m.turn) log m → IsLoggedState p now
goes_on_logging p script log m now same here is =
    let events = events_at p.script.entries m.turn in
    let run : now ≡ logged_turn events log (at p m.turn) =
    is ∙ ap₂ (λ es s. after_turn es s) (events_of p script m.turn same) (same_with_log p log m here) in
    let turn : now.turn ≡ m.turn + 1 = ap (λ (s : MachineState). s.turn) is in
    run ∙ turned events log (at p m.turn)
    ∙ ap₂ (λ (s : MachineState) (n : MachineState). state_with_log s.world.bus.log n) (sym run) (sym (at_next p m.turn) ∙ ap (at p) (sym turn))

-- the disk does the same whatever log is kept
pub disk_turn_logged : (events : List Event) (log : KeptCycles) (s : MachineState) → disk_turn events (state_with_log log s) ≡ disk_turn events s
disk_turn_logged events log s =
    ap (λ after. record { turn = s.turn; before = s.world.bus.io_page.disk; after = after }) (logs_disturb_nothing s.turn events s.world log).disk

pub core_stays : (script : ScriptData) (log : KeptCycles) (m now : MachineState) → now ≡ logged_turn (events_at script.entries m.turn) log m
    → length now.world.bus.core ≡ length m.world.bus.core
core_stays script log m now is =
    ap (λ (s : MachineState). length s.world.bus.core) is
    ∙ turn_keeps_words m.turn (events_at script.entries m.turn) (world_with_log m.world log)

pub kind_stays : (script : ScriptData) (m now : MachineState) → now ≡ logged_turn (events_at script.entries m.turn) (without_cycles m.world.bus.log) m
    → without_cycles now.world.bus.log ≡ without_cycles m.world.bus.log
kind_stays script m now is =
    ap (λ (s : MachineState). without_cycles s.world.bus.log) is
    ∙ turn_keeps_kind m.turn (events_at script.entries m.turn) (world_with_log m.world (without_cycles m.world.bus.log))

-- a machine that ran no turn with its log, one that ran one more, and what was counted if memory was refused in that one
pub logs_nowhere : (to : ℕ) (script : ScriptData) (log : KeptCycles) (m : MachineState) (metered : ℕ) → m.turn ≤ to → without_cycles m.world.bus.log ≡ log
    → RunsLogging to script log m m metered metered
logs_nowhere to script log m metered order kind =
    record { way = λ p same here. here; least = omega arith; most = order; ran = omega arith; grows = omega arith; log_is = kind }

pub logs_further : (to : ℕ) (script : ScriptData) (log : KeptCycles) (first m now : MachineState) (metered counted more : ℕ)
    → RunsLogging to script log first m metered counted → m.turn < to → GoesOnLogging script m now → now.turn ≡ m.turn + 1
    → MetersTurns (now.turn - m.turn) counted more → without_cycles now.world.bus.log ≡ log → RunsLogging to script log first now metered more
logs_further to script log first m now metered counted more before left way one ran kind =
    let least = before.least in
    let was = before.ran in
    let grows = before.grows in
    record {
      way = λ p same here. way p same (before.way p same here);
      least = omega (arith, least, one);
      most = omega (arith, one, left);
      ran = omega (arith, one, was, ran, least);
      grows = omega (arith, grows, ran);
      log_is = kind;
    }

pub logs_at_most : (to : ℕ) (script : ScriptData) (log : KeptCycles) (first m : MachineState) (now metered counted more : ℕ)
    → RunsLogging to script log first m metered counted → m.turn < to → now ≤ m.turn + 1 → MetersTurns (now - m.turn) counted more
    → more ≤ metered + (to - first.turn)
logs_at_most to script log first m now metered counted more before left one ran =
    let least = before.least in
    let was = before.ran in
    omega (arith, least, was, left, one, ran)
