-- The cycles that a log tells of a turn are its trace.
use Rattle.std.proofs.Common.{◌≡◌, ◌∙◌, ◌+◌, ◌<◌, ◌≤◌, ◌++◌, ℕ, Bool, true, false, List, [], ◌∷◌, None, ap, ap₂, append-nil, append_assoc, arith, if◌then◌else◌, length, length-append, ltb-false, ltb-true, nat_lt, refl, sym, take}
use Rattle.std.proofs.lemmas.List.{take-append-le, take_all}
use Rattle.pdp_store.specs.CycleLogs.{KeptCycles}
use Rattle.pdp_store.specs.TracedAccess.{TracedAccess}
use Rattle.pdp_store.specs.declared.cycle_log.BusCycle.{BusCycle}
use Rattle.pdp_unibus.proofs.Kept.{begun_keeps_turn}
use Rattle.pdp_unibus.proofs.Logged.{begun_logged}
use Rattle.pdp_unibus.specs.Trace.{begun_touches}
use Rattle.pdp_operand.specs.Phases.World.{World, world}
use Rattle.pdp_cpu.specs.Handbook.MachineState.{world_with_log}
use Rattle.pdp_cpu.specs.Handbook.Turn.{act_end, beginning, course_at, initial_state, one_turn, processor_after_events, turn_trace}
use Rattle.pdp_replay.specs.Ask.Accesses.{log_of_all, most_cycles}
use Rattle.pdp_replay.specs.Ask.LoggedCycles.{CyclesAreListed, TurnsAreLogged, core_accesses, log_after_all}
use Rattle.pdp_replay.proofs.ask.LoggedCourses.{courses_are_told}

pub turns_are_logged : TurnsAreLogged
unfolding one_turn turn_trace
turns_are_logged t events w =
    let v = beginning t events w in
    let begins : (log : KeptCycles) → beginning t events (world_with_log w log) ≡ world_with_log v log
    = λ log. ap (λ q. world (processor_after_events events w.processor) q.bus) (begun_logged t events w.bus log) in
    let so = courses_are_told (course_at (initial_state v)) (initial_state v) in
    let begun = begun_keeps_turn t events w.bus in
    record {
      cycles = so.cycles;
      world_is = λ log. ap act_end (begins log) ∙ ap (λ s. s.world) (so.is log);
      trace = ap (λ (xs : List TracedAccess). begun_touches t events w.bus ++ xs)
          (sym so.accesses ∙ ap₂ (λ turn words. core_accesses turn words so.cycles) begun.turn begun.words);
    }

-- a log of all cycles has the first ones, while there is room
abbrev log_of : ℕ → List BusCycle → KeptCycles
log_of room told = record { reads_of = None; room = room; told = told }

told_next : (room : ℕ) (cycle : BusCycle) (cycles told : List BusCycle) (more : Bool) → nat_lt (length told) room ≡ more → length told ≤ room
    → ((ts : List BusCycle) → length ts ≤ room → (log_after_all cycles (log_of room ts)).told ≡ take room (ts ++ cycles))
    → (log_after_all cycles (if more then log_of room (told ++ cycle ∷ []) else log_of room told)).told ≡ take room (told ++ cycle ∷ cycles)
told_next room cycle cycles told true is le rest =
    let some : length told < room = ltb-true (length told) room is in
    let size = length-append told (cycle ∷ []) in
    rest (told ++ cycle ∷ []) (omega (arith, size, some)) ∙ ap (take room) (append_assoc told (cycle ∷ []) cycles)
told_next room cycle cycles told false is le rest =
    let none : room ≤ length told = ltb-false (length told) room is in
    rest told le ∙ take-append-le room told cycles none ∙ sym (take-append-le room told (cycle ∷ cycles) none)

all_told : (room : ℕ) (cycles told : List BusCycle) → length told ≤ room → (log_after_all cycles (log_of room told)).told ≡ take room (told ++ cycles)
unfolding log_after_all
all_told room [] told le = sym (ap (take room) (append-nil told) ∙ take_all room told le)
all_told room (cycle ∷ cycles) told le = told_next room cycle cycles told (nat_lt (length told) room) refl le (λ ts small. all_told room cycles ts small)

pub cycles_are_listed : CyclesAreListed
cycles_are_listed p t logged =
    ap (λ (v : World). v.bus.log.told) (logged.world_is log_of_all) ∙ all_told (most_cycles + 1) logged.cycles [] (omega arith)
