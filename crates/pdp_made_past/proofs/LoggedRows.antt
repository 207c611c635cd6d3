-- A log is told of the cycles of a course of rows, which does the same whatever log is kept.
use Rattle.std.proofs.Common.{◌≡◌, ◌∙◌, ℕ, Bool, true, false, List, [], ◌∷◌, ◌++◌, Some, None, Ok, Err, Result, refl, sym, ap}
use Rattle.pdp_word.specs.declared.codes.Codes.{Codes}
use Rattle.pdp_action.specs.declared.trap.Trap.{Trap}
use Rattle.pdp_store.specs.CycleLogs.{KeptCycles, log_with}
use Rattle.pdp_store.specs.declared.cycle_log.BusCycle.{BusCycle}
use Rattle.pdp_unibus.specs.Handbook.BusWorld.{BusWorld, with_log}
use Rattle.pdp_operand.specs.Handbook.Reference.{Reference, Reply, is_odd, perform}
use Rattle.pdp_operand.specs.Phases.Course.{caught_in, go_on}
use Rattle.pdp_operand.specs.Phases.Phase.{Latch, Phase, State, Stop, Request, Nothing, Ask, Raise, after_reply, and_then, by_request, inner_of, run, step, stop_at}
use Rattle.pdp_operand.specs.Phases.World.{world}
use Rattle.pdp_operand.proofs.Logged.{logging}
use Rattle.pdp_operand.proofs.Shape.{Shape, perform_is, reply_by, shape_if, shape_of}
use Rattle.pdp_operand.proofs.Shape.Shape.{Apart, Looked, Wrote}
use Rattle.pdp_made.specs.CourseRows.{CourseRows, Finished, Along, Saving, codes_at, follow_rows}
use Rattle.pdp_made.specs.PhaseRows.{PhaseRow, phases_in}
use Rattle.pdp_replay.specs.Ask.LoggedCycles.{log_after_all}
use Rattle.pdp_made_past.proofs.KeptCourses.{cycles_after, cycles_along, cycles_through, next_cycles}
use Rattle.pdp_made_past.proofs.RowCycles.{cycles_of_phase, cycles_of_request, cycles_told}

all_append : (xs ys : List BusCycle) (log : KeptCycles) → log_after_all (xs ++ ys) log ≡ log_after_all ys (log_after_all xs log)
unfolding log_after_all
all_append [] ys log = refl
all_append (x ∷ xs) ys log = all_append xs ys (log_with x log)

abbrev reply_logging : Reply → KeptCycles → Reply
reply_logging reply log = record { value = reply.value; after = with_log reply.after log }

-- a reference
shape_told : (shape : Shape) (b : BusWorld) (log : KeptCycles) → reply_by shape (with_log b log) ≡ reply_logging (reply_by shape b) (log_after_all (cycles_told shape b) log)
unfolding log_after_all
shape_told (Apart None io_page value) b log = refl
shape_told (Apart (Some cycle) io_page value) b log = refl
shape_told (Looked io_page f k) b log = refl
shape_told (Wrote cycle io_page told f k) b log = refl

same_if : (odd : Bool) (r : Reference) (b : BusWorld) (log : KeptCycles) → shape_if odd r (with_log b log) ≡ shape_if odd r b
same_if true r b log = refl
same_if false r b log = refl

same_shape : (r : Reference) (b : BusWorld) (log : KeptCycles) → shape_of r (with_log b log) ≡ shape_of r b
unfolding shape_of
same_shape r b log = same_if (is_odd r.kind r.address) r b log

reference_told : (r : Reference) (b : BusWorld) (log : KeptCycles) → perform r (with_log b log) ≡ reply_logging (perform r b) (log_after_all (cycles_told (shape_of r b) b) log)
reference_told r b log =
    perform_is r (with_log b log)
    ∙ ap (λ shape. reply_by shape (with_log b log)) (same_shape r b log)
    ∙ shape_told (shape_of r b) b log
    ∙ ap (λ (reply : Reply). reply_logging reply (log_after_all (cycles_told (shape_of r b) b) log)) (sym (perform_is r b))

-- phases
abbrev outcome_logging : Result State Stop → KeptCycles → Result State Stop
outcome_logging (Ok s) log = Ok (logging s log)
outcome_logging (Err stop) log = Err (stop_at stop.trap (world stop.world.processor (with_log stop.world.bus log)))

answered : (p : Phase) (s : State) (value : Result ℕ Trap) (after : BusWorld) (log : KeptCycles)
    → after_reply p s (record { value = value; after = with_log after log }) ≡ outcome_logging (after_reply p s (record { value = value; after = after })) log
answered p s (Ok value) after log = refl
answered p s (Err trap) after log = refl

request_told : (p : Phase) (s : State) (request : Request) (log : KeptCycles)
    → by_request p (logging s log) request ≡ outcome_logging (by_request p s request) (log_after_all (cycles_of_request request s.world.bus) log)
unfolding log_after_all
request_told p s Nothing log = refl
request_told p s (Raise trap) log = refl
request_told p s (Ask r) log =
    ap (after_reply p s) (reference_told r s.world.bus log)
    ∙ answered p s (perform r s.world.bus).value (perform r s.world.bus).after (log_after_all (cycles_of_request (Ask r) s.world.bus) log)

phase_told : (p : Phase) (s : State) (log : KeptCycles) → step p (logging s log) ≡ outcome_logging (step p s) (log_after_all (cycles_of_phase p s) log)
phase_told p s log = request_told p s (p.request (inner_of s)) log

rest_told : (ps : List Phase) (cycles : State → List BusCycle) (one : Result State Stop) (log : KeptCycles)
    → ((t : State) (next : KeptCycles) → run ps (logging t next) ≡ outcome_logging (run ps t) (log_after_all (cycles t) next))
    → and_then (outcome_logging one log) (λ t. run ps t) ≡ outcome_logging (and_then one (λ t. run ps t)) (log_after_all (next_cycles cycles one) log)
unfolding log_after_all
rest_told ps cycles (Ok t) log rest = rest t log
rest_told ps cycles (Err stop) log rest = refl

through_told : (rows : List PhaseRow) (saved : Codes) (s : State) (log : KeptCycles)
    → run (phases_in rows saved) (logging s log) ≡ outcome_logging (run (phases_in rows saved) s) (log_after_all (cycles_through rows saved s) log)
unfolding run cycles_through log_after_all
through_told [] saved s log = refl
through_told (row ∷ rows) saved s log =
    let first = cycles_of_phase (row.phase saved) s in
    let one = step (row.phase saved) s in
    ap (λ (r : Result State Stop). and_then r (λ t. run (phases_in rows saved) t)) (phase_told (row.phase saved) s log)
    ∙ rest_told (phases_in rows saved) (λ t. cycles_through rows saved t) one (log_after_all first log) (λ t next. through_told rows saved t next)
    ∙ ap (outcome_logging (and_then one (λ t. run (phases_in rows saved) t))) (sym (all_append first (next_cycles (λ t. cycles_through rows saved t) one) log))

-- a course
after_told : (next : State → State) (caught : Trap → State → State) (cycles : State → List BusCycle) (trapped : Trap → State → List BusCycle) (latch : Latch) (one : Result State Stop) (log : KeptCycles)
    → ((t : State) (more : KeptCycles) → next (logging t more) ≡ logging (next t) (log_after_all (cycles t) more))
    → ((trap : Trap) (t : State) (more : KeptCycles) → caught trap (logging t more) ≡ logging (caught trap t) (log_after_all (trapped trap t) more))
    → go_on next caught latch (outcome_logging one log) ≡ logging (go_on next caught latch one) (log_after_all (cycles_after cycles trapped latch one) log)
after_told next caught cycles trapped latch (Ok t) log goes_on catches = goes_on t log
after_told next caught cycles trapped latch (Err stop) log goes_on catches = catches stop.trap (caught_in latch stop) log

pub along_told : (rows : CourseRows) (saved : Codes) (s : State) (log : KeptCycles)
    → follow_rows rows saved (logging s log) ≡ logging (follow_rows rows saved s) (log_after_all (cycles_along rows saved s) log)
unfolding follow_rows cycles_along log_after_all
along_told Finished saved s log = refl
along_told (Along rows next caught) saved s log =
    let goes_on : State → State = λ t. follow_rows (next (inner_of t)) saved t in
    let catches : Trap → State → State = λ trap t. follow_rows (caught trap (inner_of t)) saved t in
    let first = cycles_through rows saved s in
    let one = run (phases_in rows saved) s in
    ap (go_on goes_on catches s.latch) (through_told rows saved s log)
    ∙ after_told goes_on catches (λ t. cycles_along (next (inner_of t)) saved t) (λ trap t. cycles_along (caught trap (inner_of t)) saved t) s.latch one (log_after_all first log)
    (λ t more. along_told (next (inner_of t)) saved t more)
    (λ trap t more. along_told (caught trap (inner_of t)) saved t more)
    ∙ ap (logging (go_on goes_on catches s.latch one))
    (sym (all_append first (cycles_after (λ t. cycles_along (next (inner_of t)) saved t) (λ trap t. cycles_along (caught trap (inner_of t)) saved t) s.latch one) log))
along_told (Saving rest) saved s log = along_told rest (codes_at s) s log
