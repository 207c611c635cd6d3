-- The trace of a course: every access to a word of core, in order. No rule of the handbook is here.
use Rattle.std.specs.Prelude.{ℕ, Bool, true, false, List, [], ◌∷◌, ◌++◌, Result, Ok, Err, length}
use Rattle.std.specs.Prelude.{if◌then◌else◌}
use Rattle.pdp_kt11.specs.declared.place.Access.{Access}
use Rattle.pdp_kt11.specs.declared.place.Access.TheVariants.{Read, Write}
use Rattle.pdp_store.specs.TracedAccess.{TracedAccess}
use Rattle.pdp_unibus.specs.Handbook.BusWorld.{BusWorld}
use Rattle.pdp_unibus.specs.Handbook.Cycle.{Slave, Core, Device, Nobody, slave_at}
use Rattle.pdp_unibus.specs.Trace.{processor_touch}
use Rattle.pdp_operand.specs.Handbook.Reference.{Kind, Reference, access_of, is_odd, translation}
use Rattle.pdp_kt11.specs.declared.place.Abort.{Abort}
use Rattle.pdp_operand.specs.Phases.Phase.{Phase, State, Stop, Request, Nothing, Ask, Raise, Latch}
use Rattle.pdp_operand.specs.Phases.Phase.{step, inner_of}
use Rattle.pdp_operand.specs.Phases.Plan.{phases_of, run_plan}
use Rattle.pdp_operand.specs.Phases.Course.{Course, End, Go, caught_in}
use Rattle.pdp_action.specs.declared.trap.Trap.{Trap}

abbrev pub is_write_access : Access → Bool
is_write_access Read = false
is_write_access Write = true

-- a reference touches the word of core that answers it, if one does
abbrev pub touch_at : Access → BusWorld → Slave → List TracedAccess
touch_at access w (Core k) = processor_touch (is_write_access access) w k ∷ []
touch_at access w (Device register) = []
touch_at access w Nobody = []

-- none if the reference has no physical address
abbrev pub touches_if_placed : Kind → BusWorld → Result ℕ Abort → List TracedAccess
touches_if_placed kind w (Ok physical) = touch_at (access_of kind) w (slave_at
    (length w.core) physical)
touches_if_placed kind w (Err abort) = []

unfoldable pub touches : Reference → BusWorld → List TracedAccess
touches r w = if is_odd r.kind r.address then [] else touches_if_placed r.kind w
    (translation r w).address

abbrev pub request_touches : Request → BusWorld → List TracedAccess
request_touches Nothing w = []
request_touches (Ask reference) w = touches reference w
request_touches (Raise trap) w = []

abbrev pub traced_next : (State → List TracedAccess) → Result State Stop → List TracedAccess
traced_next next (Ok t) = next t
traced_next next (Err stop) = []

-- the trace of phases
unfoldable pub trace : List Phase → State → List TracedAccess
trace [] s = []
trace (p ∷ ps) s = request_touches (p.request (inner_of s)) s.world.bus ++ traced_next
    (λ t. trace ps t) (step p s)

abbrev pub traced_on : (State → List TracedAccess) → (Trap → State → List TracedAccess) → Latch
    → Result State Stop → List TracedAccess
traced_on next caught latch (Ok t) = next t
traced_on next caught latch (Err stop) = caught stop.trap (caught_in latch stop)

-- the trace of a course
unfoldable pub trace_of : Course → State → List TracedAccess
trace_of End s = []
trace_of (Go plan next caught) s =
    trace (phases_of plan) s
    ++ traced_on (λ t. trace_of (next (inner_of t)) t) (λ trap t. trace_of (caught trap
    (inner_of t)) t) s.latch (run_plan plan s)
