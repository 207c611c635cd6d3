-- What holds of each reference and of each change of the I/O page holds along a whole course.
use Rattle.std.proofs.Common.{ℕ, ◌<◌, true, false, List, [], ◌∷◌, ◌++◌, Option, None, Ok, Err, Result, length, append-nil}
use Rattle.pdp_store.specs.TracedAccess.{TracedAccess}
use Rattle.pdp_store.specs.declared.cycle_log.BusCycle.{BusCycle}
use Rattle.pdp_unibus.specs.Handbook.BusWorld.{BusWorld}
use Rattle.pdp_io_page.specs.declared.io_page.IoPage.{IoPage}
use Rattle.pdp_unibus.specs.Handbook.Cycle.{core_read, core_stored}
use Rattle.pdp_unibus.specs.Trace.{processor_touch}
use Rattle.pdp_operand.specs.Handbook.Reference.{Reference, perform}
use Rattle.pdp_operand.specs.Phases.Phase.{Phase, Inner, State, Stop, Request, Nothing, Ask, Raise, Latch, run, step, and_then, by_request, after_answer, inner_of, state_of}
use Rattle.pdp_operand.specs.Phases.Plan.{Plan, phases_of, run_plan}
use Rattle.pdp_operand.specs.Phases.Course.{Course, End, Go, follow, go_on, caught_in}
use Rattle.pdp_operand.specs.Laws.Trace.{touches, request_touches, trace, traced_next, trace_of, traced_on}
use Rattle.pdp_action.specs.declared.trap.Trap.{Trap}
use Rattle.pdp_operand.proofs.Flattening.{run_phases_of}
use Rattle.pdp_operand.proofs.Shape.{Shape, log_after, reply_by, touches_by, InCore, shape_of, perform_is, touches_is, shape_in_core}
use Rattle.pdp_operand.proofs.Shape.Shape.{Apart, Looked, Wrote}

-- the bus when a run has ended
abbrev pub bus_after : Result State Stop → BusWorld
bus_after (Ok t) = t.world.bus
bus_after (Err stop) = stop.world.bus

-- a relation of a trace, the bus before it and the bus after it, that goes along
pub record Goes (K : List TracedAccess → BusWorld → BusWorld → Type 0) : Type 0 where
  pub stays : (b : BusWorld) → K [] b b
  pub changes : (xs : List TracedAccess) (b c : BusWorld) (io_page : IoPage) (told : Option BusCycle) → K xs b c
      → K xs b (record c { io_page = io_page; log = log_after told c.log })
  pub looks : (b : BusWorld) (k : ℕ) → k < length b.core → K (processor_touch false b k ∷ []) b (core_read b k)
  pub writes : (b : BusWorld) (k word : ℕ) (told : BusCycle) → k < length b.core → K (processor_touch true b k ∷ []) b (core_stored b k word told)
  pub joins : (xs ys : List TracedAccess) (b c d : BusWorld) → K xs b c → K ys c d → K (xs ++ ys) b d

module _ (K : List TracedAccess → BusWorld → BusWorld → Type 0) (goes : Goes K) where
  by_shape : (shape : Shape) (b : BusWorld) → InCore (length b.core) shape → K (touches_by shape b) b (reply_by shape b).after
  by_shape (Apart told io_page value) b within = goes.changes [] b b io_page told (goes.stays b)
  by_shape (Looked io_page f k) b within = goes.changes _ b (core_read b k) io_page None (goes.looks b k within)
  by_shape (Wrote cycle io_page told f k) b within = goes.changes _ b _ io_page None (goes.writes b k _ cycle within)

  along_reference : (r : Reference) (b : BusWorld) → K (touches r b) b (perform r b).after
  along_reference r b = rw (perform_is r b, touches_is r b) (by_shape (shape_of r b) b (shape_in_core r b))

  along_settled : (p : Phase) (s : State) (value : Result ℕ Trap) (xs : List TracedAccess) (b : BusWorld) → K xs b s.world.bus
      → K xs b (bus_after (after_answer p s value))
  along_settled p s (Ok value) xs b so = goes.changes xs b s.world.bus _ None so
  along_settled p s (Err trap) xs b so = so

  along_request : (p : Phase) (s : State) (request : Request) → K (request_touches request s.world.bus) s.world.bus (bus_after (by_request p s request))
  along_request p s Nothing = goes.changes [] s.world.bus s.world.bus _ None (goes.stays s.world.bus)
  along_request p s (Raise trap) = goes.stays s.world.bus
  along_request p s (Ask r) =
      along_settled p (state_of s.world.processor (perform r s.world.bus).after s.latch) (perform r s.world.bus).value (touches r s.world.bus) s.world.bus
      (along_reference r s.world.bus)

  along_rest : (ps : List Phase) (xs : List TracedAccess) (b : BusWorld) (r : Result State Stop)
      → ((t : State) → K (trace ps t) t.world.bus (bus_after (run ps t))) → K xs b (bus_after r)
      → K (xs ++ traced_next (λ t. trace ps t) r) b (bus_after (and_then r (λ t. run ps t)))
  along_rest ps xs b (Ok t) rest so = goes.joins xs (trace ps t) b t.world.bus (bus_after (run ps t)) so (rest t)
  along_rest ps xs b (Err stop) rest so = rw append-nil so

  pub along_run : (ps : List Phase) (s : State) → K (trace ps s) s.world.bus (bus_after (run ps s))
  unfolding run trace
  along_run [] s = goes.stays s.world.bus
  along_run (p ∷ ps) s =
      along_rest ps _ s.world.bus (step p s) (λ t. along_run ps t) (along_request p s (p.request (inner_of s)))

  along_plan : (plan : Plan) (s : State) → K (trace (phases_of plan) s) s.world.bus (bus_after (run_plan plan s))
  along_plan plan s = rw (← run_phases_of plan s) (along_run (phases_of plan) s)

  along_next : (next : Inner → Course) (caught : Trap → Inner → Course) (latch : Latch)
      (xs : List TracedAccess) (b : BusWorld) (r : Result State Stop)
      → ((t : State) → K (trace_of (next (inner_of t)) t) t.world.bus (follow (next (inner_of t)) t).world.bus)
      → ((trap : Trap) (t : State) → K (trace_of (caught trap (inner_of t)) t) t.world.bus (follow (caught trap (inner_of t)) t).world.bus)
      → K xs b (bus_after r)
      → K (xs ++ traced_on (λ t. trace_of (next (inner_of t)) t) (λ trap t. trace_of (caught trap (inner_of t)) t) latch r) b
      (go_on (λ t. follow (next (inner_of t)) t) (λ trap t. follow (caught trap (inner_of t)) t) latch r).world.bus
  along_next next caught latch xs b (Ok t) goes_on catches so = goes.joins xs _ b t.world.bus _ so (goes_on t)
  along_next next caught latch xs b (Err stop) goes_on catches so =
      goes.joins xs _ b stop.world.bus _ so (catches stop.trap (caught_in latch stop))

  pub along_course : (course : Course) (s : State) → K (trace_of course s) s.world.bus (follow course s).world.bus
  unfolding follow trace_of
  along_course End s = goes.stays s.world.bus
  along_course (Go plan next caught) s =
      along_next next caught s.latch _ s.world.bus (run_plan plan s)
      (λ t. along_course (next (inner_of t)) t)
      (λ trap t. along_course (caught trap (inner_of t)) t)
      (along_plan plan s)
