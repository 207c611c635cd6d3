-- What the act of a turn leaves.
use Rattle.std.proofs.Common.{◌≡◌, ◌∙◌, ◌+◌, ◌≤◌, ◌<◌, ◌++◌, ℕ, Bool, true, false, List, [], ◌∷◌, None, Ok, Err, Result, ap, append_assoc, append-nil, arith, if◌then◌else◌, length, length-append, ltb-false, ltb-true, nat_lt, refl, sym, take, ◌*◌}
use Rattle.std.proofs.lemmas.List.{take-append-le, take_all}
use Rattle.pdp_word.specs.Physical.{first_register}
use Rattle.pdp_word.specs.declared.codes.Codes.{Codes}
use Rattle.pdp_store.specs.CycleLogs.{KeptCycles}
use Rattle.pdp_store.specs.declared.cycle_log.BusCycle.{BusCycle}
use Rattle.pdp_io_page.specs.Handbook.Source.{vector_of}
use Rattle.pdp_unibus.specs.declared.event.Event.{Event}
use Rattle.pdp_unibus.proofs.Logged.{begun_logged}
use Rattle.pdp_operand.specs.Phases.Course.{follow, go_on}
use Rattle.pdp_operand.specs.Phases.Phase.{Phase, State, Stop, inner_of}
use Rattle.pdp_operand.specs.Phases.Plan.{one, run_plan}
use Rattle.pdp_operand.specs.Phases.World.{World, world}
use Rattle.pdp_operand.proofs.Logged.{logging}
use Rattle.pdp_instruction.specs.Handbook.TrapSequence.{saved_context_of, sequence}
use Rattle.pdp_cpu.specs.Handbook.Due.{course_of, due_of, serve, serving, take_stack, take_trace}
use Rattle.pdp_cpu.specs.Handbook.MachineState.{world_with_log}
use Rattle.pdp_cpu.specs.Handbook.Turn.{act_end, at_turn, beginning, one_turn, processor_after_events}
use Rattle.pdp_cpu.specs.declared.due.Due.{Due}
use Rattle.pdp_cpu.specs.declared.due.Due.TheVariants as due
use Rattle.pdp_made.specs.Cells.{Half, CoreByte, no_saved_codes}
use Rattle.pdp_made.specs.CourseRows.{Saving, follow_rows, sequence_rows}
use Rattle.pdp_made.proofs.Courses.{instruction_followed, sequence_followed}
use Rattle.pdp_made_run.specs.TurnRows.{rows_of_due, rows_of_turn, serving_rows}
use Rattle.pdp_moves.specs.Moves.{is_cell_among}
use Rattle.pdp_turn_moves.specs.ActMoves.{cells_written, made_in_act}
use Rattle.pdp_replay.specs.Ask.LoggedCycles.{IsTurnLogged, log_after_all}
use Rattle.pdp_made_past.specs.KeptCells.{DriveBytesStay, TapeBytesStay, UnwrittenWordsStay}
use Rattle.pdp_made_past.proofs.FewCycles.{along_few, due_at_most}
use Rattle.pdp_made_past.proofs.KeptCourses.{CourseLeaves, cycles_along, drive_left, instruction_leaves, sequence_leaves, tape_left, word_left}
use Rattle.pdp_made_past.proofs.KeptRows.{keeps}
use Rattle.pdp_made_past.proofs.RowCycles.{Spares}
use Rattle.pdp_made_past.proofs.LoggedRows.{along_told}

-- The rows of what is due leave these cells
serving_leaves : (taken : Phase) (marks : Bool) (vector : ℕ) → CourseLeaves (serving_rows taken marks vector)
serving_leaves taken marks vector = ((keeps taken, tt), λ i. sequence_leaves marks vector (saved_context_of i), λ trap i. tt)

due_leaves : (act : Due) → CourseLeaves (rows_of_due act)
due_leaves due.Instruction = instruction_leaves
due_leaves due.TraceTrap = serving_leaves take_trace true 0o14
due_leaves due.StackTrap = serving_leaves take_stack false 0o4
due_leaves (due.Interrupt source) = serving_leaves (serve source) true (vector_of source)
due_leaves due.Nothing = tt

-- and follow its course
served : (taken : Phase) (marks : Bool) (vector : ℕ) (saved : Codes) (s : State) → follow_rows (serving_rows taken marks vector) saved s ≡ follow (serving taken marks vector) s
unfolding follow_rows follow serving
served taken marks vector saved s = after_one (run_plan (one taken) s) where
  after_one : (end : Result State Stop)
      → go_on (λ t. follow_rows (Saving (sequence_rows marks vector (saved_context_of (inner_of t)))) saved t) (λ trap t. t) s.latch end
      ≡ go_on (λ t. follow (sequence marks vector (saved_context_of (inner_of t))) t) (λ trap t. t) s.latch end
  after_one (Ok t) = sequence_followed marks vector (saved_context_of (inner_of t)) (saved_context_of (inner_of t)).status.codes t
  after_one (Err stop) = refl

nothing_followed : (saved : Codes) (s : State) → follow_rows (rows_of_due due.Nothing) saved s ≡ follow (course_of due.Nothing) s
unfolding follow_rows follow
nothing_followed saved s = refl

due_followed : (what : Due) (saved : Codes) (s : State) → follow_rows (rows_of_due what) saved s ≡ follow (course_of what) s
due_followed due.Instruction saved s = instruction_followed saved s
due_followed due.TraceTrap saved s = served take_trace true 0o14 saved s
due_followed due.StackTrap saved s = served take_stack false 0o4 saved s
due_followed (due.Interrupt from) saved s = served (serve from) true (vector_of from) saved s
due_followed due.Nothing saved s = nothing_followed saved s

-- The cycles of a turn, by its rows
pub cycles_of : (t : ℕ) (events : List Event) (w : World) → List BusCycle
cycles_of t events w = cycles_along (rows_of_turn t events w) no_saved_codes (at_turn t events w)

act_told : (t : ℕ) (events : List Event) (w : World) (log : KeptCycles)
    → act_end (world_with_log (beginning t events w) log) ≡ world_with_log (act_end (beginning t events w)) (log_after_all (cycles_of t events w) log)
unfolding cycles_of
act_told t events w log =
    let s = at_turn t events w in
    let act = due_of (inner_of s) in
    ap (λ (end : State). end.world) (sym (due_followed act no_saved_codes (logging s log)))
    ∙ ap (λ (end : State). end.world) (along_told (rows_of_due act) no_saved_codes s log)
    ∙ ap (λ (end : State). world_with_log end.world (log_after_all (cycles_of t events w) log)) (due_followed act no_saved_codes s)

pub turn_told : (t : ℕ) (events : List Event) (w : World) (log : KeptCycles)
    → one_turn t events (world_with_log w log) ≡ world_with_log (one_turn t events w) (log_after_all (cycles_of t events w) log)
unfolding one_turn
turn_told t events w log =
    ap (λ p. act_end (world (processor_after_events events w.processor) p.bus)) (begun_logged t events w.bus log)
    ∙ act_told t events w log

-- A log with room for them has all cycles that it is told of
abbrev log_of : ℕ → List BusCycle → KeptCycles
log_of room told = record { reads_of = None; room = room; told = told }

told_next : (room : ℕ) (cycle : BusCycle) (cycles told : List BusCycle) (more : Bool) → nat_lt (length told) room ≡ more → length told ≤ room
    → ((ts : List BusCycle) → length ts ≤ room → (log_after_all cycles (log_of room ts)).told ≡ take room (ts ++ cycles))
    → (log_after_all cycles (if more then log_of room (told ++ cycle ∷ []) else log_of room told)).told ≡ take room (told ++ cycle ∷ cycles)
told_next room cycle cycles told true is le rest =
    let some : length told < room = ltb-true (length told) room is in
    let size = length-append told (cycle ∷ []) in
    rest (told ++ cycle ∷ []) (omega (arith, size, some)) ∙ ap (take room) (append_assoc told (cycle ∷ []) cycles)
told_next room cycle cycles told false is le rest =
    let none : room ≤ length told = ltb-false (length told) room is in
    rest told le ∙ take-append-le room told cycles none ∙ sym (take-append-le room told (cycle ∷ cycles) none)

pub all_told : (room : ℕ) (cycles told : List BusCycle) → length told ≤ room → (log_after_all cycles (log_of room told)).told ≡ take room (told ++ cycles)
unfolding log_after_all
all_told room [] told le = sym (ap (take room) (append-nil told) ∙ take_all room told le)
all_told room (cycle ∷ cycles) told le = told_next room cycle cycles told (nat_lt (length told) room) refl le (λ ts small. all_told room cycles ts small)

-- so all that tell the same are the same cycles
pub cycles_are : (t : ℕ) (events : List Event) (w : World) (logged : IsTurnLogged t events w) → logged.cycles ≡ cycles_of t events w
cycles_are t events w logged =
    let mine = cycles_of t events w in
    let room = length logged.cycles + length mine in
    let log = log_of room [] in
    let both : (log_after_all logged.cycles log).told ≡ (log_after_all mine log).told = ap (λ (v : World). v.bus.log.told) (sym (logged.world_is log) ∙ turn_told t events w log) in
    sym (take_all room logged.cycles (omega arith))
    ∙ sym (all_told room logged.cycles [] (omega arith))
    ∙ both
    ∙ all_told room mine [] (omega arith)
    ∙ take_all room mine (omega arith)

-- and there are at most 32
pub few_cycles : (t : ℕ) (events : List Event) (w : World) → length (cycles_of t events w) ≤ 32
unfolding cycles_of
few_cycles t events w = along_few (rows_of_turn t events w) 32 (due_at_most (due_of (inner_of (at_turn t events w)))) no_saved_codes (at_turn t events w)

-- What an act leaves
pub unwritten_stays : (t : ℕ) (events : List Event) (w : World) (k : ℕ) (half : Half) → k * 2 < first_register → Spares (cycles_of t events w) k half
    → made_in_act t events w (CoreByte k half) ≡ CoreByte k half ∷ []
unfolding cycles_of
unwritten_stays t events w k half below spares =
    word_left k half below (rows_of_turn t events w) (due_leaves (due_of (inner_of (at_turn t events w)))) no_saved_codes (at_turn t events w) spares

pub words_stay : UnwrittenWordsStay
words_stay t events w logged k half below unwritten =
    unwritten_stays t events w k half below
    (sym (ap (λ cycles. is_cell_among (cells_written cycles) (CoreByte k half)) (cycles_are t events w logged)) ∙ unwritten)

pub drives_stay : DriveBytesStay
drives_stay t events w drive k half =
    drive_left drive k half (rows_of_turn t events w) (due_leaves (due_of (inner_of (at_turn t events w)))) no_saved_codes (at_turn t events w)

pub tape_stays : TapeBytesStay
tape_stays t events w k =
    tape_left k (rows_of_turn t events w) (due_leaves (due_of (inner_of (at_turn t events w)))) no_saved_codes (at_turn t events w)
