-- The cycles that a log tells of a course are its trace.
use Rattle.std.proofs.Common.{◌≡◌, ◌∙◌, ℕ, ◌*◌, ◌/◌, ◌++◌, Bool, true, false, List, [], ◌∷◌, Option, None, Some, Ok, Err, Result, refl, sym, ap, ap₂, arith, append-nil, append_assoc, if◌then◌else◌, length, length-set, nat_lt, slice_index}
use Rattle.pdp_kt11.specs.declared.place.Abort.{Abort}
use Rattle.pdp_store.specs.CycleLogs.{KeptCycles, log_with}
use Rattle.pdp_store.specs.TracedAccess.{TracedAccess}
use Rattle.pdp_store.specs.declared.cycle_log.BusCycle.{BusCycle}
use Rattle.pdp_unibus.specs.Handbook.BusWorld.{BusWorld, with_log, with_mapping}
use Rattle.pdp_unibus.specs.Handbook.Cycle.{Core, device_slave, told_read}
use Rattle.pdp_io_page.specs.Handbook.Register.{register_at}
use Rattle.pdp_io_page.specs.declared.io_page.IoPage.{IoPage}
use Rattle.pdp_io_page.specs.declared.register.Register.{Register}
use Rattle.pdp_operand.specs.Handbook.Reference.{Kind, ReadWord, ReadByte, WriteWord, WriteByte, Reference, Reply, is_odd, perform, translation}
use Rattle.pdp_operand.specs.Phases.Phase.{Phase, Inner, State, Stop, Request, Nothing, Ask, Raise, Latch, run, step, and_then, by_request, after_answer, after_reply, inner_of, state_of, stop_at}
use Rattle.pdp_operand.specs.Phases.World.{world}
use Rattle.pdp_operand.specs.Phases.Plan.{Plan, phases_of, run_plan}
use Rattle.pdp_operand.specs.Phases.Course.{Course, End, Go, follow, go_on, caught_in}
use Rattle.pdp_operand.specs.Laws.Trace.{touches, request_touches, trace, traced_next, trace_of, traced_on}
use Rattle.pdp_action.specs.declared.trap.Trap.{Trap}
use Rattle.pdp_operand.proofs.Along.{bus_after}
use Rattle.pdp_operand.proofs.Flattening.{run_phases_of}
use Rattle.pdp_operand.proofs.Shape.{Shape, reply_by, touches_by, shape_at, shape_by, shape_if, shape_of, perform_is, touches_is}
use Rattle.pdp_operand.proofs.Shape.Shape.{Apart, Looked, Wrote}
use Rattle.pdp_operand.proofs.Logged.{logging}
use Rattle.pdp_replay.specs.Ask.LoggedCycles.{core_access, core_accesses, log_after_all}

-- cycles after one another
all_append : (xs ys : List BusCycle) (log : KeptCycles) → log_after_all (xs ++ ys) log ≡ log_after_all ys (log_after_all xs log)
unfolding log_after_all
all_append [] ys log = refl
all_append (x ∷ xs) ys log = all_append xs ys (log_with x log)

accesses_append : (turn words : ℕ) (xs ys : List BusCycle) → core_accesses turn words (xs ++ ys) ≡ core_accesses turn words xs ++ core_accesses turn words ys
unfolding core_accesses
accesses_append turn words [] ys = refl
accesses_append turn words (x ∷ xs) ys =
    ap (λ zs. core_access turn words x ++ zs) (accesses_append turn words xs ys)
    ∙ sym (append_assoc (core_access turn words x) (core_accesses turn words xs) (core_accesses turn words ys))

-- the cycles of a reference
told_by : Shape → BusWorld → List BusCycle
told_by (Apart None io_page value) b = []
told_by (Apart (Some cycle) io_page value) b = cycle ∷ []
told_by (Looked io_page f k) b = told_read (k * 2) (Some (slice_index b.core k)) ∷ []
told_by (Wrote cycle io_page told f k) b = cycle ∷ []

-- as accesses
Counted : Shape → BusWorld → Type 0
Counted shape b = core_accesses b.turn (length b.core) (told_by shape b) ≡ touches_by shape b

abbrev reply_logging : Reply → KeptCycles → Reply
reply_logging reply log = record { value = reply.value; after = with_log reply.after log }

-- whatever log is kept, a reference does the same, and the log is told of these cycles, of which those in core are these accesses; the turn and the size of core stay
record ReplyIsTold (xs : List TracedAccess) (b : BusWorld) (one : Reply) (other : KeptCycles → Reply) : Type 0 where
  cycles : List BusCycle
  is : (log : KeptCycles) → other log ≡ reply_logging one (log_after_all cycles log)
  accesses : core_accesses b.turn (length b.core) cycles ≡ xs
  turn : one.after.turn ≡ b.turn
  words : length one.after.core ≡ length b.core

by_shape : (shape : Shape) (b : BusWorld) → Counted shape b → ReplyIsTold (touches_by shape b) b (reply_by shape b) (λ log. reply_by shape (with_log b log))
unfolding told_by Counted log_after_all
by_shape (Apart None io_page value) b counted = record { cycles = []; is = λ log. refl; accesses = counted; turn = refl; words = refl }
by_shape (Apart (Some cycle) io_page value) b counted = record { cycles = cycle ∷ []; is = λ log. refl; accesses = counted; turn = refl; words = refl }
by_shape (Looked io_page f k) b counted = record { cycles = told_read (k * 2) (Some (slice_index b.core k)) ∷ []; is = λ log. refl; accesses = counted; turn = refl; words = refl }
by_shape (Wrote cycle io_page told f k) b counted = record { cycles = cycle ∷ []; is = λ log. refl; accesses = counted; turn = refl; words = length-set _ _ _ }

halves : (k : ℕ) → k * 2 / 2 ≡ k
halves k = omega arith

-- of a core word, and of what isn't core
counted_core : (kind : Kind) (physical : ℕ) (b : BusWorld) (io_page : IoPage) → nat_lt (physical / 2) (length b.core) ≡ true
    → Counted (shape_at kind physical b.turn (length b.drives) io_page (Core (physical / 2))) b
unfolding told_by Counted core_accesses
counted_core ReadWord physical b io_page is = let half = halves (physical / 2) in rw (half, is) refl
counted_core ReadByte physical b io_page is = let half = halves (physical / 2) in rw (half, is) refl
counted_core (WriteWord word) physical b io_page is = let half = halves (physical / 2) in rw (half, is) refl
counted_core (WriteByte byte) physical b io_page is = rw is refl

counted_apart : (kind : Kind) (physical : ℕ) (b : BusWorld) (io_page : IoPage) (register : Option Register) → nat_lt (physical / 2) (length b.core) ≡ false
    → Counted (shape_at kind physical b.turn (length b.drives) io_page (device_slave register)) b
unfolding told_by Counted core_accesses
counted_apart ReadWord physical b io_page (Some r) is = rw is refl
counted_apart ReadByte physical b io_page (Some r) is = rw is refl
counted_apart (WriteWord word) physical b io_page (Some r) is = rw is refl
counted_apart (WriteByte byte) physical b io_page (Some r) is = rw is refl
counted_apart ReadWord physical b io_page None is = rw is refl
counted_apart ReadByte physical b io_page None is = rw is refl
counted_apart (WriteWord word) physical b io_page None is = rw is refl
counted_apart (WriteByte byte) physical b io_page None is = rw is refl

counted_at : (kind : Kind) (physical : ℕ) (b : BusWorld) (io_page : IoPage) (below : Bool) → nat_lt (physical / 2) (length b.core) ≡ below
    → Counted (shape_at kind physical b.turn (length b.drives) io_page (if below then Core (physical / 2) else device_slave (register_at physical))) b
counted_at kind physical b io_page true is = counted_core kind physical b io_page is
counted_at kind physical b io_page false is = counted_apart kind physical b io_page (register_at physical) is

counted_by : (kind : Kind) (b : BusWorld) (io_page : IoPage) (place : Result ℕ Abort) → Counted (shape_by kind (length b.core) b.turn (length b.drives) io_page place) b
unfolding told_by Counted core_accesses
counted_by kind b io_page (Ok physical) = counted_at kind physical b io_page (nat_lt (physical / 2) (length b.core)) refl
counted_by kind b io_page (Err abort) = refl

counted_if : (odd : Bool) (r : Reference) (b : BusWorld) → Counted (shape_if odd r b) b
unfolding told_by Counted core_accesses
counted_if true r b = refl
counted_if false r b = counted_by r.kind b (with_mapping b (translation r b).after).io_page (translation r b).address

counted : (r : Reference) (b : BusWorld) → Counted (shape_of r b) b
unfolding shape_of
counted r b = counted_if (is_odd r.kind r.address) r b

same_if : (odd : Bool) (r : Reference) (b : BusWorld) (log : KeptCycles) → shape_if odd r (with_log b log) ≡ shape_if odd r b
same_if true r b log = refl
same_if false r b log = refl

same_shape : (r : Reference) (b : BusWorld) (log : KeptCycles) → shape_of r (with_log b log) ≡ shape_of r b
unfolding shape_of
same_shape r b log = same_if (is_odd r.kind r.address) r b log

reference_is_told : (r : Reference) (b : BusWorld) → ReplyIsTold (touches r b) b (perform r b) (λ log. perform r (with_log b log))
reference_is_told r b =
    let so = by_shape (shape_of r b) b (counted r b) in
    record {
      cycles = so.cycles;
      is = λ log. perform_is r (with_log b log) ∙ ap (λ shape. reply_by shape (with_log b log)) (same_shape r b log) ∙ so.is log
          ∙ ap (λ (reply : Reply). reply_logging reply (log_after_all so.cycles log)) (sym (perform_is r b));
      accesses = so.accesses ∙ sym (touches_is r b);
      turn = ap (λ (reply : Reply). reply.after.turn) (perform_is r b) ∙ so.turn;
      words = ap (λ (reply : Reply). length reply.after.core) (perform_is r b) ∙ so.words;
    }

-- phases, likewise
abbrev outcome_logging : Result State Stop → KeptCycles → Result State Stop
outcome_logging (Ok s) log = Ok (logging s log)
outcome_logging (Err stop) log = Err (stop_at stop.trap (world stop.world.processor (with_log stop.world.bus log)))

record IsTold (xs : List TracedAccess) (b : BusWorld) (one : Result State Stop) (other : KeptCycles → Result State Stop) : Type 0 where
  cycles : List BusCycle
  is : (log : KeptCycles) → other log ≡ outcome_logging one (log_after_all cycles log)
  accesses : core_accesses b.turn (length b.core) cycles ≡ xs
  turn : (bus_after one).turn ≡ b.turn
  words : length (bus_after one).core ≡ length b.core

answered : (p : Phase) (s : State) (value : Result ℕ Trap) (after : BusWorld) (log : KeptCycles)
    → after_reply p s (record { value = value; after = with_log after log }) ≡ outcome_logging (after_reply p s (record { value = value; after = after })) log
answered p s (Ok value) after log = refl
answered p s (Err trap) after log = refl

answered_turn : (p : Phase) (s : State) (value : Result ℕ Trap) → (bus_after (after_answer p s value)).turn ≡ s.world.bus.turn
answered_turn p s (Ok value) = refl
answered_turn p s (Err trap) = refl

answered_words : (p : Phase) (s : State) (value : Result ℕ Trap) → length (bus_after (after_answer p s value)).core ≡ length s.world.bus.core
answered_words p s (Ok value) = refl
answered_words p s (Err trap) = refl

request_is_told : (p : Phase) (s : State) (request : Request)
    → IsTold (request_touches request s.world.bus) s.world.bus (by_request p s request) (λ log. by_request p (logging s log) request)
unfolding log_after_all core_accesses
request_is_told p s Nothing = record { cycles = []; is = λ log. refl; accesses = refl; turn = refl; words = refl }
request_is_told p s (Raise trap) = record { cycles = []; is = λ log. refl; accesses = refl; turn = refl; words = refl }
request_is_told p s (Ask r) =
    let b = s.world.bus in
    let so = reference_is_told r b in
    let reply = perform r b in
    let after = state_of s.world.processor reply.after s.latch in
    record {
      cycles = so.cycles;
      is = λ log. ap (after_reply p s) (so.is log) ∙ answered p s reply.value reply.after (log_after_all so.cycles log);
      accesses = so.accesses;
      turn = answered_turn p after reply.value ∙ so.turn;
      words = answered_words p after reply.value ∙ so.words;
    }

rest_is_told : (ps : List Phase) (xs : List TracedAccess) (b : BusWorld) (one : Result State Stop) (other : KeptCycles → Result State Stop)
    → ((t : State) → IsTold (trace ps t) t.world.bus (run ps t) (λ log. run ps (logging t log))) → IsTold xs b one other
    → IsTold (xs ++ traced_next (λ t. trace ps t) one) b (and_then one (λ t. run ps t)) (λ log. and_then (other log) (λ t. run ps t))
rest_is_told ps xs b (Ok t) other rest so =
    let next = rest t in
    record {
      cycles = so.cycles ++ next.cycles;
      is = λ log. ap (λ (r : Result State Stop). and_then r (λ u. run ps u)) (so.is log) ∙ next.is (log_after_all so.cycles log)
          ∙ ap (outcome_logging (run ps t)) (sym (all_append so.cycles next.cycles log));
      accesses = accesses_append b.turn (length b.core) so.cycles next.cycles
          ∙ ap₂ (λ (ws zs : List TracedAccess). ws ++ zs) so.accesses (ap₂ (λ turn words. core_accesses turn words next.cycles) (sym so.turn) (sym so.words) ∙ next.accesses);
      turn = next.turn ∙ so.turn;
      words = next.words ∙ so.words;
    }
rest_is_told ps xs b (Err stop) other rest so = record {
  cycles = so.cycles;
  is = λ log. ap (λ (r : Result State Stop). and_then r (λ u. run ps u)) (so.is log);
  accesses = so.accesses ∙ sym (append-nil xs);
  turn = so.turn;
  words = so.words;
}

run_is_told : (ps : List Phase) (s : State) → IsTold (trace ps s) s.world.bus (run ps s) (λ log. run ps (logging s log))
unfolding run trace log_after_all core_accesses
run_is_told [] s = record { cycles = []; is = λ log. refl; accesses = refl; turn = refl; words = refl }
run_is_told (p ∷ ps) s =
    rest_is_told ps (request_touches (p.request (inner_of s)) s.world.bus) s.world.bus (step p s) (λ log. step p (logging s log)) (λ t. run_is_told ps t)
    (request_is_told p s (p.request (inner_of s)))

plan_is_told : (plan : Plan) (s : State) → IsTold (trace (phases_of plan) s) s.world.bus (run_plan plan s) (λ log. run_plan plan (logging s log))
plan_is_told plan s =
    let so = run_is_told (phases_of plan) s in
    record {
      cycles = so.cycles;
      is = λ log. sym (run_phases_of plan (logging s log)) ∙ so.is log ∙ ap (λ (r : Result State Stop). outcome_logging r (log_after_all so.cycles log)) (run_phases_of plan s);
      accesses = so.accesses;
      turn = ap (λ (r : Result State Stop). (bus_after r).turn) (sym (run_phases_of plan s)) ∙ so.turn;
      words = ap (λ (r : Result State Stop). length (bus_after r).core) (sym (run_phases_of plan s)) ∙ so.words;
    }

-- whatever log is kept, a course does the same, and the log is told of these cycles, of which those in core are the trace
pub record EndIsTold (xs : List TracedAccess) (b : BusWorld) (one : State) (other : KeptCycles → State) : Type 0 where
  pub cycles : List BusCycle
  pub is : (log : KeptCycles) → other log ≡ logging one (log_after_all cycles log)
  pub accesses : core_accesses b.turn (length b.core) cycles ≡ xs

abbrev pub CourseIsTold : Course → State → Type 0
CourseIsTold course s = EndIsTold (trace_of course s) s.world.bus (follow course s) (λ log. follow course (logging s log))

then_told : (xs ys : List TracedAccess) (b : BusWorld) (t : Result State Stop) (end : State) (next : Result State Stop → State) (other : KeptCycles → Result State Stop)
    → (so : IsTold xs b t other) → EndIsTold ys (bus_after t) end (λ log. next (outcome_logging t log)) → EndIsTold (xs ++ ys) b end (λ log. next (other log))
then_told xs ys b t end next other so rest = record {
  cycles = so.cycles ++ rest.cycles;
  is = λ log. ap next (so.is log) ∙ rest.is (log_after_all so.cycles log) ∙ ap (logging end) (sym (all_append so.cycles rest.cycles log));
  accesses = accesses_append b.turn (length b.core) so.cycles rest.cycles
      ∙ ap₂ (λ (ws zs : List TracedAccess). ws ++ zs) so.accesses (ap₂ (λ turn words. core_accesses turn words rest.cycles) (sym so.turn) (sym so.words) ∙ rest.accesses);
}

next_is_told : (next : Inner → Course) (caught : Trap → Inner → Course) (latch : Latch)
    (xs : List TracedAccess) (b : BusWorld) (one : Result State Stop) (other : KeptCycles → Result State Stop)
    → ((t : State) → CourseIsTold (next (inner_of t)) t)
    → ((trap : Trap) (t : State) → CourseIsTold (caught trap (inner_of t)) t)
    → IsTold xs b one other
    → EndIsTold (xs ++ traced_on (λ t. trace_of (next (inner_of t)) t) (λ trap t. trace_of (caught trap (inner_of t)) t) latch one) b
    (go_on (λ t. follow (next (inner_of t)) t) (λ trap t. follow (caught trap (inner_of t)) t) latch one)
    (λ log. go_on (λ t. follow (next (inner_of t)) t) (λ trap t. follow (caught trap (inner_of t)) t) latch (other log))
next_is_told next caught latch xs b (Ok t) other goes_on catches so =
    then_told xs (trace_of (next (inner_of t)) t) b (Ok t) (follow (next (inner_of t)) t)
    (go_on (λ u. follow (next (inner_of u)) u) (λ trap u. follow (caught trap (inner_of u)) u) latch) other so (goes_on t)
next_is_told next caught latch xs b (Err stop) other goes_on catches so =
    let t = caught_in latch stop in
    then_told xs (trace_of (caught stop.trap (inner_of t)) t) b (Err stop) (follow (caught stop.trap (inner_of t)) t)
    (go_on (λ u. follow (next (inner_of u)) u) (λ trap u. follow (caught trap (inner_of u)) u) latch) other so (catches stop.trap t)

pub courses_are_told : (course : Course) (s : State) → CourseIsTold course s
unfolding follow trace_of log_after_all core_accesses
courses_are_told End s = record { cycles = []; is = λ log. refl; accesses = refl }
courses_are_told (Go plan next caught) s =
    next_is_told next caught s.latch (trace (phases_of plan) s) s.world.bus (run_plan plan s) (λ log. run_plan plan (logging s log))
    (λ t. courses_are_told (next (inner_of t)) t)
    (λ trap t. courses_are_told (caught trap (inner_of t)) t)
    (plan_is_told plan s)
