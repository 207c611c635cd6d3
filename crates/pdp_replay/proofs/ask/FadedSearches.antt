-- What an edit that fades leaves of what searches find.
use Rattle.std.proofs.Common.{◌≡◌, ◌∙◌, ◌+◌, ◌-◌, ◌*◌, ◌≤◌, ◌==◌, ◌&&◌, ◌||◌, ◌++◌, ℕ, zero, suc, Bool, List, [], ◌∷◌, Option, Some, None, if◌then◌else◌, ap, ap₂, arith, length, nat_le, not, refl, slice_index, subst}
use Rattle.std.specs.Prelude.{bit_and, option_to_list, slice_get}
use Rattle.pdp_kt11.specs.declared.mode.Mode.{Mode}
use Rattle.pdp_rk11.specs.declared.rk.Rk.{Rk}
use Rattle.pdp_store.specs.CycleLogs.{KeptCycles}
use Rattle.pdp_store.specs.TracedAccess.{last_write}
use Rattle.pdp_store.specs.declared.Stamp.{Stamp}
use Rattle.pdp_store.specs.declared.cycle_log.BusCycle.{BusCycle}
use Rattle.pdp_unibus.proofs.AccessNotes.{access_notes, notes_after, with_notes}
use Rattle.pdp_unibus.proofs.Carried.{begun_carried}
use Rattle.pdp_unibus.specs.Trace.{begun_touches}
use Rattle.pdp_unibus.specs.declared.event.Event.{Event}
use Rattle.pdp_operand.specs.Phases.Phase.{inner_of}
use Rattle.pdp_operand.specs.Phases.World.{World, world}
use Rattle.pdp_cpu.proofs.Carried.{stamps_disturb_nothing}
use Rattle.pdp_cpu.proofs.CarriedTraps.{trap_carried}
use Rattle.pdp_cpu.specs.Handbook.Due.{due_of}
use Rattle.pdp_cpu.specs.Handbook.MachineState.{world_with_log, world_with_stamps}
use Rattle.pdp_cpu.specs.Handbook.Turn.{beginning, initial_state, one_turn, processor_after_events, printed_in, punched_in}
use Rattle.pdp_cpu.specs.Handbook.TurnDisk.{disk_begun}
use Rattle.pdp_cpu.specs.Handbook.TurnTrap.{trap_of_due, turn_trap}
use Rattle.pdp_cpu.specs.declared.act.Act.{Act}
use Rattle.pdp_cpu.specs.declared.turn_trap.ActWithTrap.{ActWithTrap}
use Rattle.pdp_script.specs.Entries.{events_at}
use Rattle.pdp_replay.specs.Ask.Accesses.{cycles_in, details_in, details_in_turns, details_of, log_of_all, most_cycles, turn_head, turns_within}
use Rattle.pdp_replay.specs.Ask.Backwards.{last_of_turns}
use Rattle.pdp_replay.specs.Ask.Counts.{counts_in_turns, one_if, turns_counted}
use Rattle.pdp_replay.specs.Ask.DiskChanges.{word_changes, word_on}
use Rattle.pdp_replay.specs.Ask.DiskCompletions.{completion_in, completion_of, disk_turn_at, is_disk_idle, is_idle_turn}
use Rattle.pdp_replay.specs.Ask.FadedSearches.{FadedEditsChangeNoSearch, SearchesAlike}
use Rattle.pdp_replay.specs.Ask.LastWrites.{last_write_of}
use Rattle.pdp_replay.specs.Ask.Listed.{in_turns}
use Rattle.pdp_replay.specs.Ask.Reads.{disk_or_processor_read, first_read_at, is_read_by_disk, log_of_first_read, log_of_turn, read_in}
use Rattle.pdp_replay.specs.Ask.Searches.{first_turn_of, or_turn}
use Rattle.pdp_replay.specs.Ask.SoughtTurns.{act_with_trap, is_act_sought, is_sought_at, is_state_sought}
use Rattle.pdp_replay.specs.Ask.TurnConditions.{all_met_in, are_related, comparand_in, is_met_if_there, is_met_in, is_there_with, quantity_in}
use Rattle.pdp_replay.specs.Ask.Writes.{write_in}
use Rattle.pdp_replay.specs.Past.{Past}
use Rattle.pdp_replay.specs.Run.FirstTouches.{trace_of_turn}
use Rattle.pdp_replay.specs.Run.Meetings.{MeetAt}
use Rattle.pdp_replay.specs.Run.States.{at, state_at}
use Rattle.pdp_replay.specs.declared.ask.accesses.TurnDetail.{TurnDetail}
use Rattle.pdp_replay.specs.declared.ask.accesses.TurnHead.{TurnHead}
use Rattle.pdp_replay.specs.declared.ask.disk_completions.DiskTurn.{DiskTurn}
use Rattle.pdp_replay.specs.declared.ask.sought.Sought.{Sought}
use Rattle.pdp_replay.specs.declared.ask.sought.Sought.TheVariants as sought
use Rattle.pdp_replay.specs.declared.ask.turn_condition.Comparand.{Comparand}
use Rattle.pdp_replay.specs.declared.ask.turn_condition.Comparand.TheVariants as comparand
use Rattle.pdp_replay.specs.declared.ask.turn_condition.Quantity.{Quantity}
use Rattle.pdp_replay.specs.declared.ask.turn_condition.Quantity.TheVariants as quantity
use Rattle.pdp_replay.specs.declared.ask.turn_condition.TurnCondition.{TurnCondition}
use Rattle.pdp_replay.specs.declared.ask.turn_condition.TurnCondition.TheVariants as condition
use Rattle.pdp_device.specs.Operation.{is_due, is_under_way}
use Rattle.pdp_rk11.specs.CompletionMoves.{completion_moves, function_moves, moves_unless_refused}
use Rattle.pdp_rk11.specs.Handbook.Completion.{DiskWorld, refusal}
use Rattle.pdp_rk11.specs.declared.failure.Failure.{Failure}
use Rattle.pdp_rk11.specs.declared.function.Function.{Function}
use Rattle.pdp_rk11.specs.declared.function.Function.TheVariants.{Read, Write}
use Rattle.pdp_unibus.specs.Handbook.BusWorld.{disk_world_of}
use Rattle.pdp_made.specs.Cells.{DataCell}
use Rattle.pdp_turn_moves.proofs.NotedTurns.{act_restamped}
use Rattle.pdp_turn_moves.specs.ActMoves.{made_in_act, moves_of_act}
use Rattle.pdp_turn_moves.specs.Beginnings.{beginning_told, found_in}
use Rattle.pdp_replay.specs.Ask.MovesListed.{move_details, moves_in, moves_in_turns}
use Rattle.pdp_replay.specs.declared.ask.moves.MoveDetail.{MoveDetail}
use Rattle.pdp_replay.proofs.ask.FadedAnswers.{meet_there, state_alike}
use Rattle.pdp_replay.proofs.run.Meetings.{OneMore, turns_meet}

-- the trap of a turn, and its disk, whatever stamps there are
trap_restamped : (t : ℕ) (events : List Event) (w : World) (stamps : List (Option Stamp)) → turn_trap t events (world_with_stamps w stamps) ≡ turn_trap t events w
unfolding turn_trap
trap_restamped t events w stamps =
    let notes = access_notes stamps w.bus.first_touches in
    let first = begun_carried t events w.bus notes in
    let v = beginning t events w in
    let left = notes_after (begun_touches t events w.bus) notes in
    let begins : beginning t events (world_with_stamps w stamps) ≡ world v.processor (with_notes v.bus left)
    = ap (λ q. world (processor_after_events events w.processor) q.bus) first.is in
    ap (λ u. trap_of_due (due_of (inner_of (initial_state u))) (initial_state u)) begins
    ∙ trap_carried (due_of (inner_of (initial_state v))) (initial_state v) left

disk_restamped : (t : ℕ) (events : List Event) (w : World) (stamps : List (Option Stamp)) → disk_begun t events (world_with_stamps w stamps) ≡ disk_begun t events w
unfolding disk_begun
disk_restamped t events w stamps = ap (λ q. q.bus.io_page.disk) (begun_carried t events w.bus (access_notes stamps w.bus.first_touches)).is

-- and the log that a turn leaves
log_restamped : (t : ℕ) (events : List Event) (w : World) (stamps : List (Option Stamp)) (log : KeptCycles)
    → (one_turn t events (world_with_log (world_with_stamps w stamps) log)).bus.log ≡ (one_turn t events (world_with_log w log)).bus.log
log_restamped t events w stamps log = ap (λ (u : World). u.bus.log) (stamps_disturb_nothing t events (world_with_log w log) stamps).world_is

-- what a search asks of the state before a turn
quantity_restamped : (asked : Quantity) (w : World) (stamps : List (Option Stamp)) → quantity_in asked (world_with_stamps w stamps) ≡ quantity_in asked w
quantity_restamped quantity.R0 w stamps = refl
quantity_restamped quantity.R1 w stamps = refl
quantity_restamped quantity.R2 w stamps = refl
quantity_restamped quantity.R3 w stamps = refl
quantity_restamped quantity.R4 w stamps = refl
quantity_restamped quantity.R5 w stamps = refl
quantity_restamped quantity.KernelStack w stamps = refl
quantity_restamped quantity.UserStack w stamps = refl
quantity_restamped quantity.Stack w stamps = refl
quantity_restamped quantity.ProgramCounter w stamps = refl
quantity_restamped quantity.ProgramStatus w stamps = refl
quantity_restamped (quantity.CoreWord address) w stamps = refl

comparand_restamped : (asked : Comparand) (w : World) (stamps : List (Option Stamp)) → comparand_in asked (world_with_stamps w stamps) ≡ comparand_in asked w
comparand_restamped (comparand.Number word) w stamps = refl
comparand_restamped (comparand.Other asked) w stamps = quantity_restamped asked w stamps

met_restamped : (asked : TurnCondition) (w : World) (stamps : List (Option Stamp)) → is_met_in asked (world_with_stamps w stamps) ≡ is_met_in asked w
met_restamped (condition.Compared quantity relation other) w stamps =
    ap₂ (are_related relation) (quantity_restamped quantity w stamps) (comparand_restamped other w stamps)
met_restamped (condition.Masked quantity mask word) w stamps =
    ap (is_there_with (λ now. bit_and now mask == word)) (quantity_restamped quantity w stamps)
met_restamped (condition.At address) w stamps = refl
met_restamped (condition.InMode mode) w stamps = refl

met_if_there : (asked : Option TurnCondition) (w : World) (stamps : List (Option Stamp)) → is_met_if_there asked (world_with_stamps w stamps) ≡ is_met_if_there asked w
met_if_there None w stamps = refl
met_if_there (Some asked) w stamps = met_restamped asked w stamps

all_restamped : (conditions : List (Option TurnCondition)) (w : World) (stamps : List (Option Stamp)) → all_met_in conditions (world_with_stamps w stamps) ≡ all_met_in conditions w
all_restamped [] w stamps = refl
all_restamped (asked ∷ others) w stamps = ap₂ ◌&&◌ (met_if_there asked w stamps) (all_restamped others w stamps)

sought_restamped : (x : Sought) (w : World) (stamps : List (Option Stamp)) → is_state_sought x (world_with_stamps w stamps) ≡ is_state_sought x w
sought_restamped (sought.Instruction address asked) w stamps = refl
sought_restamped (sought.Interrupt vector) w stamps = refl
sought_restamped sought.PendingTrap w stamps = refl
sought_restamped (sought.Trap vector) w stamps = refl
sought_restamped (sought.Where conditions) w stamps = all_restamped conditions w stamps

-- turn n of both runs
abbrev told_act : Act → Option ℕ → ActWithTrap
told_act act trap = record { act = act; trap = trap }

abbrev head_of : TurnHead → Act → TurnHead
head_of head act = record head { act = act }

abbrev disk_of_turn : DiskTurn → Rk → DiskTurn
disk_of_turn d after = record d { after = after }

record TurnsAlike (n : ℕ) (p q : Past) : Type 0 where
  events : events_at p.script.entries n ≡ events_at q.script.entries n
  stamps : List (Option Stamp)
  here : state_at p n ≡ world_with_stamps (state_at q n) stamps
  next : List (Option Stamp)
  there : state_at p (n + 1) ≡ world_with_stamps (state_at q (n + 1)) next
  trace : trace_of_turn p n ≡ trace_of_turn q n
  printed : printed_in n (events_at p.script.entries n) (state_at p n) ≡ printed_in n (events_at q.script.entries n) (state_at q n)
  punched : punched_in n (events_at p.script.entries n) (state_at p n) ≡ punched_in n (events_at q.script.entries n) (state_at q n)

turns_from : (p q : Past) (t n : ℕ) → OneMore t n p q → MeetAt t p q → t ≤ n → TurnsAlike n p q
turns_from p q t n more meet le = record {
  events = meet.events n le;
  stamps = (state_at p n).bus.stamps;
  here = state_alike p q t n meet le;
  next = (state_at p (n + 1)).bus.stamps;
  there = state_alike p q t (n + 1) meet (omega (arith, le));
  trace = more.trace;
  printed = more.printed;
  punched = more.punched;
}

turns_alike : (p q : Past) (t n : ℕ) → MeetAt t p q → t ≤ n → TurnsAlike n p q
turns_alike p q t n meet le =
    let d : ℕ = n - t in
    let there : d + t ≡ n = omega (arith, le) in
    let more : OneMore t n p q = subst (λ m. OneMore t m p q) there (turns_meet t d p q meet) in
    turns_from p q t n more meet le

sought_alike : (x : Sought) (n : ℕ) (p q : Past) → TurnsAlike n p q → is_sought_at p x n ≡ is_sought_at q x n
sought_alike x n p q both =
    let es = events_at q.script.entries n in
    let w = state_at q n in
    let told = ap₂ (act_with_trap n) both.events both.here
    ∙ ap₂ told_act (stamps_disturb_nothing n es w both.stamps).act (trap_restamped n es w both.stamps) in
    ap₂ ◌&&◌ (ap (is_state_sought x) both.here ∙ sought_restamped x w both.stamps) (ap (is_act_sought x) told)

write_alike : (number n : ℕ) (p q : Past) → TurnsAlike n p q → write_in p number n ≡ write_in q number n
write_alike number n p q both =
    ap₂ last_write_of (ap (λ xs. last_write xs number None) both.trace) (ap (λ (w : World). slice_index w.bus.core number) both.there)

change_alike : (drive number n : ℕ) (p q : Past) → TurnsAlike n p q → word_changes drive number p n ≡ word_changes drive number q n
change_alike drive number n p q both =
    ap₂ (λ before after. not (before == after)) (ap (word_on drive number) both.here) (ap (word_on drive number) both.there)

disk_alike : (n : ℕ) (p q : Past) → TurnsAlike n p q → disk_turn_at p n ≡ disk_turn_at q n
disk_alike n p q both =
    let es = events_at q.script.entries n in
    let w = state_at q n in
    ap₂ (λ (before after : Rk). disk_of_turn (record (disk_turn_at q n) { before = before }) after) (ap (λ (v : World). v.bus.io_page.disk) both.here)
    (ap₂ (disk_begun n) both.events both.here ∙ disk_restamped n es w both.stamps)

log_alike : (log : KeptCycles) (n : ℕ) (p q : Past) → TurnsAlike n p q
    → log_of_turn log (events_at p.script.entries n) (at p n) ≡ log_of_turn log (events_at q.script.entries n) (at q n)
log_alike log n p q both =
    let es = events_at q.script.entries n in
    let w = state_at q n in
    ap₂ (λ (events : List Event) (v : World). (one_turn n events (world_with_log v log)).bus.log) both.events both.here ∙ log_restamped n es w both.stamps log

read_alike : (number n : ℕ) (p q : Past) → TurnsAlike n p q → read_in p number n ≡ read_in q number n
read_alike number n p q both =
    let cycle : first_read_at p (number * 2) n ≡ first_read_at q (number * 2) n =
    ap (λ (log : KeptCycles). slice_get log.told 0) (log_alike (log_of_first_read (number * 2)) n p q both) in
    let word = ap (λ (w : World). slice_index w.bus.core number) both.here in
    let by_disk = ap (is_read_by_disk number) (disk_alike n p q both) in
    ap (λ b. disk_or_processor_read b n (slice_index (state_at p n).bus.core number) (first_read_at p (number * 2) n)) by_disk
    ∙ ap₂ (disk_or_processor_read (is_read_by_disk number (disk_turn_at q n)) n) word cycle

cycles_alike : (n : ℕ) (p q : Past) → TurnsAlike n p q → cycles_in p n ≡ cycles_in q n
cycles_alike n p q both = ap (λ (log : KeptCycles). log.told) (log_alike log_of_all n p q both)

head_alike : (n : ℕ) (p q : Past) → TurnsAlike n p q
    → turn_head n (events_at p.script.entries n) (state_at p n) ≡ turn_head n (events_at q.script.entries n) (state_at q n)
head_alike n p q both =
    let es = events_at q.script.entries n in
    let w = state_at q n in
    ap₂ (turn_head n) both.events both.here ∙ ap (head_of (turn_head n es w)) (stamps_disturb_nothing n es w both.stamps).act

details_alike : (n : ℕ) (p q : Past) → TurnsAlike n p q → details_in p n ≡ details_in q n
details_alike n p q both =
    let printed = printed_in n (events_at p.script.entries n) (state_at p n) in
    let punched = punched_in n (events_at p.script.entries n) (state_at p n) in
    let head = turn_head n (events_at q.script.entries n) (state_at q n) in
    let es = events_at q.script.entries n in
    ap₂ (λ head events. details_of head events printed punched (disk_turn_at p n) (cycles_in p n)) (head_alike n p q both) both.events
    ∙ ap₂ (λ out more. details_of head es out more (disk_turn_at p n) (cycles_in p n)) both.printed both.punched
    ∙ ap₂ (details_of head es (printed_in n es (state_at q n)) (punched_in n es (state_at q n))) (disk_alike n p q both) (cycles_alike n p q both)

-- what is found in turns that are alike
abbrev AlikeFrom : {X : Type 0} → ℕ → (ℕ → X) → (ℕ → X) → Type 0
AlikeFrom from f g = (n : ℕ) → from ≤ n → f n ≡ g n

first_alike : (f g : ℕ → Bool) (from n : ℕ) → AlikeFrom from f g → first_turn_of f from n ≡ first_turn_of g from n
unfolding first_turn_of
first_alike f g from zero same = refl
first_alike f g from (suc n) same = ap₂ (λ found there. or_turn found there (from + n)) (first_alike f g from n same) (same (from + n) (omega arith))

last_alike : (f g : ℕ → Bool) (from n : ℕ) → AlikeFrom from f g → last_of_turns f from n ≡ last_of_turns g from n
unfolding last_of_turns
last_alike f g from zero same = refl
last_alike f g from (suc n) same =
    ap₂ (λ (there : Bool) (found : Option ℕ). if there then Some (from + n) else found) (same (from + n) (omega arith)) (last_alike f g from n same)

listed_alike : {X : Type 0} (f g : ℕ → Option X) (from n : ℕ) → AlikeFrom from f g → in_turns f from n ≡ in_turns g from n
unfolding in_turns
listed_alike f g from zero same = refl
listed_alike f g from (suc n) same = ap₂ (λ xs had. xs ++ option_to_list had) (listed_alike f g from n same) (same (from + n) (omega arith))

counted_alike : (f g : ℕ → Bool) (from n : ℕ) → AlikeFrom from f g → turns_counted f from n ≡ turns_counted g from n
unfolding turns_counted
counted_alike f g from zero same = refl
counted_alike f g from (suc n) same = ap₂ (λ count there. count + one_if there) (counted_alike f g from n same) (same (from + n) (omega arith))

counts_alike : (p q : Past) (mode : Mode) (address count from n : ℕ) → ((x : Sought) → AlikeFrom from (is_sought_at p x) (is_sought_at q x))
    → counts_in_turns p mode address count from n ≡ counts_in_turns q mode address count from n
unfolding counts_in_turns
counts_alike p q mode address zero from n same = refl
counts_alike p q mode address (suc count) from n same =
    let x : Sought = sought.Instruction address (Some mode) in
    ap₂ (λ (c : ℕ) (cs : List ℕ). c ∷ cs) (counted_alike (is_sought_at p x) (is_sought_at q x) from n (same x)) (counts_alike p q mode (address + 2) count from n same)

listed_details : (p q : Past) (from n : ℕ) → AlikeFrom from (details_in p) (details_in q) → details_in_turns p from n ≡ details_in_turns q from n
unfolding details_in_turns
listed_details p q from zero same = refl
listed_details p q from (suc n) same = ap₂ (λ (xs ys : List TurnDetail). xs ++ ys) (listed_details p q from n same) (same (from + n) (omega arith))

-- what a turn made of what
function_restamped : (f : Function) (w : DiskWorld) (stamps : List (Option Stamp)) → function_moves f (record w { stamps = stamps }) ≡ function_moves f w
function_restamped Read w stamps = refl
function_restamped Write w stamps = refl
function_restamped f w stamps = refl

unless_restamped : (failure : Option Failure) (w : DiskWorld) (stamps : List (Option Stamp)) → moves_unless_refused failure (record w { stamps = stamps }) ≡ moves_unless_refused failure w
unless_restamped (Some failure) w stamps = refl
unless_restamped None w stamps = function_restamped w.rk.function w stamps

completion_restamped : (w : DiskWorld) (stamps : List (Option Stamp)) → completion_moves (record w { stamps = stamps }) ≡ completion_moves w
unfolding completion_moves
completion_restamped w stamps =
    ap (λ moves. if is_under_way w.rk.operation then moves else None) (unless_restamped (refusal w.rk (length w.drives)) w stamps)

begun_restamped : (t : ℕ) (events : List Event) (w : World) (stamps : List (Option Stamp)) → beginning_told t events (world_with_stamps w stamps).bus ≡ beginning_told t events w.bus
begun_restamped t events w stamps =
    ap (λ moves. record (beginning_told t events w.bus) { disk = if (found_in events).disk_done || is_due t w.bus.io_page.disk.operation then moves else None })
    (completion_restamped (disk_world_of w.bus) stamps)

moves_alike : (n : ℕ) (p q : Past) → TurnsAlike n p q → moves_in p n ≡ moves_in q n
moves_alike n p q both =
    let es = events_at q.script.entries n in
    let w = state_at q n in
    let stamps = both.stamps in
    let begun = ap₂ (λ events (v : World). beginning_told n events v.bus) both.events both.here ∙ begun_restamped n es w stamps in
    let acted : (c : DataCell) → made_in_act n (events_at p.script.entries n) (state_at p n) c ≡ made_in_act n es w c =
    λ c. ap₂ (λ events (v : World). made_in_act n events v c) both.events both.here ∙ act_restamped n es w stamps c in
    let cycles = cycles_alike n p q both in
    λ i. move_details n (begun i) (moves_of_act (λ c. acted c i) (cycles i))

listed_moves : (p q : Past) (from n : ℕ) → AlikeFrom from (moves_in p) (moves_in q) → moves_in_turns p from n ≡ moves_in_turns q from n
unfolding moves_in_turns
listed_moves p q from zero same = refl
listed_moves p q from (suc n) same = ap₂ (λ (xs ys : List MoveDetail). xs ++ ys) (listed_moves p q from n same) (same (from + n) (omega arith))

within_alike : (p q : Past) (room from n : ℕ) → AlikeFrom from (cycles_in p) (cycles_in q) → turns_within room p from n ≡ turns_within room q from n
unfolding turns_within
within_alike p q room from zero same = refl
within_alike p q room from (suc n) same =
    let more = λ (left : ℕ). within_alike p q left (from + 1) n (λ k le. same k (omega (arith, le))) in
    let here = same from (omega arith) in
    ap (λ (xs : List BusCycle). if nat_le (length xs) room then suc (turns_within (room - length xs) p (from + 1) n) else 0) here
    ∙ ap (λ k. if nat_le (length (cycles_in q from)) room then suc k else 0) (more (room - length (cycles_in q from)))

completion_alike : (p q : Past) (from n : ℕ) → ((k : ℕ) → from ≤ k → TurnsAlike k p q) → from ≤ n → completion_in p from n ≡ completion_in q from n
completion_alike p q from n both le =
    ap₂ completion_of (last_alike (is_disk_idle p) (is_disk_idle q) from (n - from) (λ k high. ap is_idle_turn (disk_alike k p q (both k high))))
    (disk_alike n p q (both n le))

searches_alike : (p q : Past) (from n : ℕ) → ((k : ℕ) → from ≤ k → TurnsAlike k p q) → SearchesAlike from n p q
searches_alike p q from n both = record {
  first = λ x. first_alike (is_sought_at p x) (is_sought_at q x) from n (λ k le. sought_alike x k p q (both k le));
  last = λ x. last_alike (is_sought_at p x) (is_sought_at q x) from n (λ k le. sought_alike x k p q (both k le));
  writes = λ number. listed_alike (write_in p number) (write_in q number) from n (λ k le. write_alike number k p q (both k le));
  reads = λ number. listed_alike (read_in p number) (read_in q number) from n (λ k le. read_alike number k p q (both k le));
  changes = λ drive number. first_alike (word_changes drive number p) (word_changes drive number q) from n (λ k le. change_alike drive number k p q (both k le));
  completions = listed_alike (completion_in p from) (completion_in q from) from n (λ k le. completion_alike p q from k both le);
  counts = λ mode address count. counts_alike p q mode address count from n (λ x k le. sought_alike x k p q (both k le));
  details = listed_details p q from n (λ k le. details_alike k p q (both k le));
  details_end = λ to. ap (λ k. from + k) (within_alike p q most_cycles from (to - from) (λ k le. cycles_alike k p q (both k le)));
  moves = listed_moves p q from n (λ k le. moves_alike k p q (both k le));
}

pub faded_edits_change_no_search : FadedEditsChangeNoSearch
faded_edits_change_no_search edit to p None is = tt
faded_edits_change_no_search edit to p (Some t) is = λ q from n made le.
    searches_alike p q from n (λ k high. turns_alike p q t k (meet_there edit to t p q is made) (omega (arith, le, high)))
