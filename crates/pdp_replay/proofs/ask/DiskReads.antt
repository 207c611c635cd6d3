-- The disk reads a word of core in a turn exactly if the trace of the turn has that read.
use Rattle.std.proofs.Common.{◌≡◌, ◌∙◌, ◌<◌, ◌/◌, ◌&&◌, ◌++◌, ℕ, Bool, true, false, not, List, [], ◌∷◌, Contains, ap, ap₂, append-nil, if◌then◌else◌, length, nat_lt, refl, subst, sym, ⊎_elim}
use Rattle.std.proofs.lemmas.Bool.{and_parts}
use Rattle.std.proofs.lemmas.List.Elements.{Contains-append_cases, Contains-append_left}
use Rattle.pdp_device.specs.Operation.{is_due, is_under_way}
use Rattle.pdp_store.specs.CycleLogs.{is_read}
use Rattle.pdp_store.specs.TracedAccess.{TracedAccess}
use Rattle.pdp_store.specs.declared.Agent.TheVariants.{Cpu, Disk}
use Rattle.pdp_store.specs.declared.cycle_log.BusCycle.{BusCycle}
use Rattle.pdp_store.specs.declared.part.Part.TheVariants.{Core}
use Rattle.pdp_rk11.proofs.Done.{completed_at_rest, touches_at_rest}
use Rattle.pdp_rk11.proofs.Readiness.{completed_operation}
use Rattle.pdp_rk11.proofs.WordsCounted.{words_are_counted}
use Rattle.pdp_rk11.specs.Handbook.Completion.{disk_world, rk_completed}
use Rattle.pdp_rk11.specs.Handbook.Geometry.{most_words_asked}
use Rattle.pdp_rk11.specs.Trace.{completion_touches, read_by_disk}
use Rattle.pdp_rk11.specs.WordsDone.{words_counted, words_of_function}
use Rattle.pdp_rk11.specs.declared.rk.Rk.{Rk}
use Rattle.pdp_unibus.proofs.Beginnings.{Quiet, dues, dues_are_quiet, event_is_quiet}
use Rattle.pdp_unibus.specs.Handbook.Beginning.{Progress, after_beginning, after_event, after_events, at_start, before_disk, disk_done, in_turn, where_due}
use Rattle.pdp_unibus.specs.Handbook.BusWorld.{BusWorld, disk_world_of}
use Rattle.pdp_unibus.specs.Trace.{begun_touches, disk_touches, event_touches, events_touches}
use Rattle.pdp_unibus.specs.declared.event.Event.{Event}
use Rattle.pdp_unibus.specs.declared.event.Event.TheVariants.{DiskDone}
use Rattle.pdp_operand.specs.Phases.World.{World}
use Rattle.pdp_cpu.specs.Handbook.Turn.{turn_trace}
use Rattle.pdp_cpu.specs.Handbook.TurnDisk.{disk_begun}
use Rattle.pdp_replay.specs.Ask.LoggedCycles.{DiskReadsAreTraced, core_access, core_accesses}
use Rattle.pdp_replay.proofs.ask.DiskTouches.{completion_reads, in_one, is_read_in, none_in, reads_of_completion}
use Rattle.pdp_replay.proofs.ask.LoggedCycles.{turns_are_logged}

-- from one state of the bus to another in the beginning of a turn: the disk is as it was and nothing was touched, or what was under way is completed
data Begun (b c : BusWorld) (xs : List TracedAccess) : Type 0 where
  Waits : disk_world_of c ≡ disk_world_of b → c.turn ≡ b.turn → xs ≡ [] → Begun b c xs
  Ends : is_under_way b.io_page.disk.operation ≡ true → c.io_page.disk ≡ (rk_completed b.turn (disk_world_of b)).rk → xs ≡ disk_touches b → Begun b c xs

-- nothing is under way afterwards
idle_then : (b c : BusWorld) → is_under_way b.io_page.disk.operation ≡ true → c.io_page.disk ≡ (rk_completed b.turn (disk_world_of b)).rk
    → is_under_way c.io_page.disk.operation ≡ false
idle_then b c busy is = ap (λ (rk : Rk). is_under_way rk.operation) is ∙ ap is_under_way (completed_operation b.turn (disk_world_of b) busy)

touches_same : (b c : BusWorld) → disk_world_of c ≡ disk_world_of b → c.turn ≡ b.turn → disk_touches c ≡ disk_touches b
touches_same b c same turn = ap₂ (λ t w. completion_touches t w) turn same

then_begun : (b c d : BusWorld) (xs ys : List TracedAccess) → Begun b c xs → Begun c d ys → Begun b d (xs ++ ys)
then_begun b c d xs ys (Waits same turn none) (Waits next later nothing) = Waits (next ∙ same) (later ∙ turn) (ap₂ (λ (us vs : List TracedAccess). us ++ vs) none nothing)
then_begun b c d xs ys (Waits same turn none) (Ends busy is all) =
    Ends (sym (ap (λ w. is_under_way w.rk.operation) same) ∙ busy)
    (is ∙ ap₂ (λ t w. (rk_completed t w).rk) turn same)
    (ap₂ (λ (us vs : List TracedAccess). us ++ vs) none (all ∙ touches_same b c same turn))
then_begun b c d xs ys (Ends busy is all) (Waits next later nothing) =
    Ends busy (ap (λ w. w.rk) next ∙ is) (ap₂ (λ (us vs : List TracedAccess). us ++ vs) all nothing ∙ append-nil (disk_touches b))
then_begun b c d xs ys (Ends busy is all) (Ends again more rest) = absurd (let idle = idle_then b c busy is in cc)

-- a step that doesn't look at the disk
quiet_waits : (f : Progress → Progress) (p : Progress) → Quiet f → Begun p.bus (f p).bus []
quiet_waits f p quiet =
    Waits
    (ap disk_world_of (quiet.leaves p) ∙ ap (λ rk. disk_world rk p.bus.core p.bus.stamps p.bus.drives) (quiet.disk p))
    (ap (λ (b : BusWorld). b.turn) (quiet.leaves p)) refl

-- the disk's completion
done_if : (p : Progress) (busy : Bool) → is_under_way p.bus.io_page.disk.operation ≡ busy → Begun p.bus (disk_done p).bus (disk_touches p.bus)
done_if p true is = Ends is refl refl
done_if p false is = Waits (completed_at_rest p.bus.turn (disk_world_of p.bus) is) refl (touches_at_rest p.bus.turn (disk_world_of p.bus) is)

disk_begins : (p : Progress) → Begun p.bus (disk_done p).bus (disk_touches p.bus)
disk_begins p = done_if p (is_under_way p.bus.io_page.disk.operation) refl

event_begins : (e : Event) (p : Progress) → Begun p.bus (after_event e p).bus (event_touches e p.bus)
event_begins DiskDone p = disk_begins p
event_begins e p = quiet_waits (after_event e) p (event_is_quiet e (λ is. cc is))

events_begin : (es : List Event) (p : Progress) → Begun p.bus (after_events es p).bus (events_touches es p)
events_begin [] p = Waits refl refl refl
events_begin (e ∷ es) p =
    then_begun p.bus (after_event e p).bus (after_events es (after_event e p)).bus (event_touches e p.bus) (events_touches es (after_event e p))
    (event_begins e p) (events_begin es (after_event e p))

due_begins : (p : Progress) (due : Bool) → Begun p.bus (where_due due disk_done p).bus (if due then disk_touches p.bus else [])
due_begins p true = disk_begins p
due_begins p false = Waits refl refl refl

before_begins : (t : ℕ) (es : List Event) (b : BusWorld) → Begun (in_turn t b) (before_disk t es b).bus (events_touches es (at_start (in_turn t b)))
unfolding before_disk dues
before_begins t es b =
    let start = at_start (in_turn t b) in
    let events = after_events es start in
    subst (Begun (in_turn t b) (dues events).bus) (append-nil (events_touches es start))
    (then_begun (in_turn t b) events.bus (dues events).bus (events_touches es start) [] (events_begin es start) (quiet_waits dues events dues_are_quiet))

begins : (t : ℕ) (es : List Event) (b : BusWorld) → Begun (in_turn t b) (after_beginning t es b).bus (begun_touches t es b)
unfolding after_beginning begun_touches
begins t es b =
    let before = before_disk t es b in
    let due = is_due before.bus.turn before.bus.io_page.disk.operation in
    then_begun (in_turn t b) before.bus (where_due due disk_done before).bus (events_touches es (at_start (in_turn t b))) (if due then disk_touches before.bus else [])
    (before_begins t es b) (due_begins before due)

-- the accesses of cycles are the processor's
by_processor : (turn words : ℕ) (cycle : BusCycle) (x : TracedAccess) → Contains (core_access turn words cycle) x → x.agent ≡ Cpu
by_processor turn words cycle x has = by (nat_lt (cycle.address / 2) words) has where
  by : (inside : Bool) → Contains (if inside then (record { turn = turn; agent = Cpu; writes = not (is_read cycle.kind); part = Core; word = cycle.address / 2 }) ∷ [] else []) x → x.agent ≡ Cpu
  by true has = sym (ap (λ (a : TracedAccess). a.agent) (in_one _ x has))
  by false has = absurd (none_in x has)

all_by_processor : (turn words : ℕ) (cycles : List BusCycle) (x : TracedAccess) → Contains (core_accesses turn words cycles) x → x.agent ≡ Cpu
unfolding core_accesses
all_by_processor turn words [] x has = absurd (none_in x has)
all_by_processor turn words (cycle ∷ cycles) x has =
    ⊎_elim (by_processor turn words cycle x) (all_by_processor turn words cycles x)
    (Contains-append_cases (core_access turn words cycle) (core_accesses turn words cycles) x has)

not_disk : (x : TracedAccess) → x.agent ≡ Cpu → x.agent ≡ Disk → ⊥
not_disk x cpu disk = cc

-- so what the disk does is in the beginning of the turn
in_beginning : (t : ℕ) (events : List Event) (w : World) (x : TracedAccess) → x.agent ≡ Disk → Contains (turn_trace t events w) x → Contains (begun_touches t events w.bus) x
in_beginning t events w x disk has =
    let so = turns_are_logged t events w in
    ⊎_elim
    (λ (early : Contains (begun_touches t events w.bus) x). early)
    (λ (late : Contains (core_accesses t (length w.bus.core) so.cycles) x). absurd (not_disk x (all_by_processor t (length w.bus.core) so.cycles x late) disk))
    (Contains-append_cases (begun_touches t events w.bus) (core_accesses t (length w.bus.core) so.cycles) x (subst (λ xs. Contains xs x) so.trace has))

in_turn_too : (t : ℕ) (events : List Event) (w : World) (x : TracedAccess) → Contains (begun_touches t events w.bus) x → Contains (turn_trace t events w) x
in_turn_too t events w x has =
    let so = turns_are_logged t events w in
    subst (λ xs. Contains xs x) (sym so.trace) (Contains-append_left (begun_touches t events w.bus) (core_accesses t (length w.bus.core) so.cycles) x has)

-- what is said of the disk, by its controller before and after
abbrev said : Rk → Rk → ℕ → Bool
said before after number =
    (is_under_way before.operation && not (is_under_way after.operation)) && is_read_in before (words_counted before after) number

never_said : (rk : Rk) (number : ℕ) → said rk rk number ≡ true → ⊥
never_said rk number there = by (is_under_way rk.operation) (and_parts (is_under_way rk.operation && not (is_under_way rk.operation)) _ there).0 where
  by : (busy : Bool) → (busy && not busy) ≡ true → ⊥
  by true is = cc
  by false is = cc

said_so : (b c : BusWorld) (number : ℕ) → b.io_page.disk.word_count < most_words_asked → is_under_way b.io_page.disk.operation ≡ true
    → c.io_page.disk ≡ (rk_completed b.turn (disk_world_of b)).rk
    → said b.io_page.disk c.io_page.disk number ≡ is_read_in b.io_page.disk (words_of_function (disk_world_of b)) number
said_so b c number small busy is =
    let idle = idle_then b c busy is in
    let count : words_counted b.io_page.disk c.io_page.disk ≡ words_of_function (disk_world_of b)
    = ap (words_counted b.io_page.disk) is ∙ words_are_counted b.turn (disk_world_of b) small busy in
    rw (busy, idle, count) refl

has_read : (b c : BusWorld) (xs : List TracedAccess) (number : ℕ) → b.io_page.disk.word_count < most_words_asked → Begun b c xs
    → said b.io_page.disk c.io_page.disk number ≡ true → Contains xs (read_by_disk b.turn Core number)
has_read b c xs number small (Waits same turn none) there =
    absurd (never_said b.io_page.disk number (subst (λ (rk : Rk). said b.io_page.disk rk number ≡ true) (ap (λ w. w.rk) same) there))
has_read b c xs number small (Ends busy is all) there =
    subst (λ ys. Contains ys (read_by_disk b.turn Core number)) (sym all)
    (reads_of_completion b.turn (disk_world_of b) number busy (sym (said_so b c number small busy is) ∙ there))

read_said : (b c : BusWorld) (xs : List TracedAccess) (number : ℕ) → b.io_page.disk.word_count < most_words_asked → Begun b c xs
    → Contains xs (read_by_disk b.turn Core number) → said b.io_page.disk c.io_page.disk number ≡ true
read_said b c xs number small (Waits same turn none) has = absurd (none_in _ (subst (λ ys. Contains ys (read_by_disk b.turn Core number)) none has))
read_said b c xs number small (Ends busy is all) has =
    said_so b c number small busy is
    ∙ completion_reads b.turn (disk_world_of b) number busy (subst (λ ys. Contains ys (read_by_disk b.turn Core number)) all has)

pub disk_reads_are_traced : DiskReadsAreTraced
unfolding disk_begun
disk_reads_are_traced events m number small =
    let b = in_turn m.turn m.world.bus in
    let c = (after_beginning m.turn events m.world.bus).bus in
    let xs = begun_touches m.turn events m.world.bus in
    let x = read_by_disk m.turn Core number in
    let begun = begins m.turn events m.world.bus in (
      λ there. in_turn_too m.turn events m.world x (has_read b c xs number small begun there),
      λ has. read_said b c xs number small begun (in_beginning m.turn events m.world x refl has),
    )
