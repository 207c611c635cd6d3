-- A course does the same whatever log is kept, and its cycles are put into that log.
use Rattle.std.proofs.Common.{◌≡◌, ℕ, ◌*◌, Bool, true, false, List, [], ◌∷◌, Some, Ok, Err, Result, refl, slice_index}
use Rattle.pdp_store.specs.CycleLogs.{KeptCycles, log_with}
use Rattle.pdp_unibus.specs.Handbook.BusWorld.{BusWorld, with_log}
use Rattle.pdp_unibus.specs.Handbook.Cycle.{told_read}
use Rattle.pdp_operand.specs.Handbook.Reference.{Reference, Reply, is_odd, perform}
use Rattle.pdp_operand.specs.Phases.Phase.{Phase, Inner, State, Stop, Request, Nothing, Ask, Raise}
use Rattle.pdp_operand.specs.Phases.Phase.{Latch, run, step, and_then, by_request, after_reply}
use Rattle.pdp_operand.specs.Phases.Phase.{inner_of, state_of, stop_at}
use Rattle.pdp_operand.specs.Phases.World.{world}
use Rattle.pdp_operand.specs.Phases.Plan.{Plan, phases_of, run_plan}
use Rattle.pdp_operand.specs.Phases.Course.{Course, End, Go, follow, go_on, caught_in}
use Rattle.pdp_action.specs.declared.trap.Trap.{Trap}
use Rattle.pdp_operand.proofs.Flattening.{run_phases_of}
use Rattle.pdp_operand.proofs.Shape.{Shape, log_after, reply_by, shape_if, shape_of, perform_is}
use Rattle.pdp_operand.proofs.Shape.Shape.{Apart, Looked, Wrote}

-- the same with another log
abbrev pub logging : State → KeptCycles → State
logging s log = state_of s.world.processor (with_log s.world.bus log) s.latch

abbrev outcome_logging : Result State Stop → KeptCycles → Result State Stop
outcome_logging (Ok s) log = Ok (logging s log)
outcome_logging (Err stop) log = Err (stop_at stop.trap (world stop.world.processor (with_log stop.world.bus log)))

abbrev reply_logging : Reply → KeptCycles → Reply
reply_logging reply log = record { value = reply.value; after = with_log reply.after log }

-- the second is the first, but for a log that is left
record Leaves {A : Type 0} (logs : A → KeptCycles → A) (one other : A) : Type 0 where
  left : KeptCycles
  is : other ≡ logs one left

-- a reference
by_shape : (shape : Shape) (b : BusWorld) (log : KeptCycles) → Leaves reply_logging (reply_by shape b) (reply_by shape (with_log b log))
by_shape (Apart cycle io_page value) b log = record { left = log_after cycle log; is = refl }
by_shape (Looked io_page f k) b log = record { left = log_with (told_read (k * 2) (Some (slice_index b.core k))) log; is = refl }
by_shape (Wrote cycle io_page told f k) b log = record { left = log_with cycle log; is = refl }

same_if : (odd : Bool) (r : Reference) (b : BusWorld) (log : KeptCycles) → shape_if odd r (with_log b log) ≡ shape_if odd r b
same_if true r b log = refl
same_if false r b log = refl

same_shape : (r : Reference) (b : BusWorld) (log : KeptCycles) → shape_of r (with_log b log) ≡ shape_of r b
unfolding shape_of
same_shape r b log = same_if (is_odd r.kind r.address) r b log

logged_reply : (r : Reference) (b : BusWorld) (log : KeptCycles) → Leaves reply_logging (perform r b) (perform r (with_log b log))
logged_reply r b log =
    rw (perform_is r b, perform_is r (with_log b log), same_shape r b log) (by_shape (shape_of r b) b log)

-- phases
abbrev LeavesOutcome : Result State Stop → Result State Stop → Type 0
LeavesOutcome = Leaves outcome_logging

settled_logging : (p : Phase) (s : State) (value : Result ℕ Trap) (after : BusWorld) (left : KeptCycles)
    → LeavesOutcome (after_reply p s (record { value = value; after = after }))
    (after_reply p s (record { value = value; after = with_log after left }))
settled_logging p s (Ok value) after left = record { left = left; is = refl }
settled_logging p s (Err trap) after left = record { left = left; is = refl }

logged_request : (p : Phase) (s : State) (request : Request) (log : KeptCycles)
    → LeavesOutcome (by_request p s request) (by_request p (logging s log) request)
logged_request p s Nothing log = record { left = log; is = refl }
logged_request p s (Raise trap) log = record { left = log; is = refl }
logged_request p s (Ask r) log =
    let reply = logged_reply r s.world.bus log in
    rw reply.is (settled_logging p s (perform r s.world.bus).value (perform r s.world.bus).after reply.left)

logged_rest : (ps : List Phase) (r other : Result State Stop) → LeavesOutcome r other
    → ((t : State) (log : KeptCycles) → LeavesOutcome (run ps t) (run ps (logging t log)))
    → LeavesOutcome (and_then r (λ t. run ps t)) (and_then other (λ t. run ps t))
logged_rest ps (Ok t) other so rest = rw so.is (rest t so.left)
logged_rest ps (Err stop) other so rest = rw so.is (record { left = so.left; is = refl })

logged_run : (ps : List Phase) (s : State) (log : KeptCycles) → LeavesOutcome (run ps s) (run ps (logging s log))
unfolding run
logged_run [] s log = record { left = log; is = refl }
logged_run (p ∷ ps) s log =
    logged_rest ps (step p s) (step p (logging s log)) (logged_request p s (p.request (inner_of s)) log) (λ t next. logged_run ps t next)

logged_plan : (plan : Plan) (s : State) (log : KeptCycles) → LeavesOutcome (run_plan plan s) (run_plan plan (logging s log))
logged_plan plan s log =
    rw (← run_phases_of plan s, ← run_phases_of plan (logging s log)) (logged_run (phases_of plan) s log)

-- a course
pub record LoggedCourse (t other : State) : Type 0 where
  pub left : KeptCycles
  pub is : other ≡ logging t left

module _ (next : Inner → Course) (caught : Trap → Inner → Course) where
  abbrev gone : Latch → Result State Stop → State
  gone latch r = go_on (λ t. follow (next (inner_of t)) t) (λ trap t. follow (caught trap (inner_of t)) t) latch r

  abbrev LoggedFrom : Course → State → KeptCycles → Type 0
  LoggedFrom course t log = LoggedCourse (follow course t) (follow course (logging t log))

  logged_next : (latch : Latch) (r other : Result State Stop) → LeavesOutcome r other
      → ((t : State) (log : KeptCycles) → LoggedFrom (next (inner_of t)) t log)
      → ((trap : Trap) (t : State) (log : KeptCycles) → LoggedFrom (caught trap (inner_of t)) t log)
      → LoggedCourse (gone latch r) (gone latch other)
  logged_next latch (Ok t) other so goes_on catches = rw so.is (goes_on t so.left)
  logged_next latch (Err stop) other so goes_on catches = rw so.is (catches stop.trap (caught_in latch stop) so.left)

pub logged_course : (course : Course) (s : State) (log : KeptCycles) → LoggedCourse (follow course s) (follow course (logging s log))
unfolding follow
logged_course End s log = record { left = log; is = refl }
logged_course (Go plan next caught) s log =
    logged_next next caught s.latch (run_plan plan s) (run_plan plan (logging s log)) (logged_plan plan s log)
    (λ t so. logged_course (next (inner_of t)) t so)
    (λ trap t so. logged_course (caught trap (inner_of t)) t so)
