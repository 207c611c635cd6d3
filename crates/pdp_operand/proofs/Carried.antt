-- A course does the same whatever notes of accesses are kept, and its trace changes them.
use Rattle.std.proofs.Common.{◌≡◌, ℕ, Bool, true, false, List, [], ◌∷◌, ◌++◌, Ok, Err, Result}
use Rattle.std.proofs.Common.{refl, sym, ap, ap₂, ◌∙◌, append-nil}
use Rattle.pdp_store.specs.FirstTouches.{first_touches_after}
use Rattle.pdp_store.specs.Stamps.{stamps_after_trace}
use Rattle.pdp_store.specs.TracedAccess.{TracedAccess}
use Rattle.pdp_unibus.proofs.AccessNotes.{AccessNotes, notes_after, notes_after-append, with_notes}
use Rattle.pdp_unibus.specs.Handbook.BusWorld.{BusWorld}
use Rattle.pdp_operand.specs.Handbook.Reference.{Reference, Reply, is_odd, perform}
use Rattle.pdp_operand.specs.Phases.Phase.{Phase, Inner, State, Stop, Request, Nothing, Ask, Raise}
use Rattle.pdp_operand.specs.Phases.Phase.{Latch, run, step, and_then, by_request, after_reply}
use Rattle.pdp_operand.specs.Phases.Phase.{inner_of, state_of, stop_at}
use Rattle.pdp_operand.specs.Phases.World.{World, world}
use Rattle.pdp_operand.specs.Phases.Plan.{Plan, phases_of, run_plan}
use Rattle.pdp_operand.specs.Phases.Course.{Course, End, Go, follow, go_on, caught_in}
use Rattle.pdp_operand.specs.Laws.Trace.{touches, request_touches, trace, traced_next, trace_of}
use Rattle.pdp_operand.specs.Laws.Trace.{traced_on}
use Rattle.pdp_action.specs.declared.trap.Trap.{Trap}
use Rattle.pdp_operand.proofs.Flattening.{run_phases_of}
use Rattle.pdp_operand.proofs.Shape.{Shape, reply_by, touches_by, shape_if, shape_of}
use Rattle.pdp_operand.proofs.Shape.{perform_is, touches_is}
use Rattle.pdp_operand.proofs.Shape.Shape.{Apart, Looked, Wrote}

-- the same with other notes of accesses
abbrev pub world_holding : World → AccessNotes → World
world_holding w notes = world w.processor (with_notes w.bus notes)

abbrev pub holding : State → AccessNotes → State
holding s notes = state_of s.world.processor (with_notes s.world.bus notes) s.latch

abbrev outcome_holding : Result State Stop → AccessNotes → Result State Stop
outcome_holding (Ok s) notes = Ok (holding s notes)
outcome_holding (Err stop) notes = Err (stop_at stop.trap (world_holding stop.world notes))

abbrev reply_holding : Reply → AccessNotes → Reply
reply_holding reply notes = record { value = reply.value; after = with_notes reply.after notes }

-- a reference
by_shape : (shape : Shape) (b : BusWorld) (notes : AccessNotes)
    → reply_by shape (with_notes b notes)
    ≡ reply_holding (reply_by shape b) (notes_after (touches_by shape b) notes)
unfolding first_touches_after stamps_after_trace
by_shape (Apart cycle io_page value) b notes = refl
by_shape (Looked io_page f k) b notes = refl
by_shape (Wrote cycle io_page told f k) b notes = refl

touches_by_shape : (shape : Shape) (b : BusWorld) (notes : AccessNotes)
    → touches_by shape (with_notes b notes) ≡ touches_by shape b
touches_by_shape (Apart cycle io_page value) b notes = refl
touches_by_shape (Looked io_page f k) b notes = refl
touches_by_shape (Wrote cycle io_page told f k) b notes = refl

same_if : (odd : Bool) (r : Reference) (b : BusWorld) (notes : AccessNotes)
    → shape_if odd r (with_notes b notes) ≡ shape_if odd r b
same_if true r b notes = refl
same_if false r b notes = refl

same_shape : (r : Reference) (b : BusWorld) (notes : AccessNotes)
    → shape_of r (with_notes b notes) ≡ shape_of r b
unfolding shape_of
same_shape r b notes = same_if (is_odd r.kind r.address) r b notes

same_touches : (r : Reference) (b : BusWorld) (notes : AccessNotes)
    → touches r (with_notes b notes) ≡ touches r b
same_touches r b notes =
    rw (touches_is r b, touches_is r (with_notes b notes), same_shape r b notes)
    (touches_by_shape (shape_of r b) b notes)

carried_reply : (r : Reference) (b : BusWorld) (notes : AccessNotes)
    → perform r (with_notes b notes)
    ≡ reply_holding (perform r b) (notes_after (touches r b) notes)
carried_reply r b notes =
    rw (perform_is r b, perform_is r (with_notes b notes), same_shape r b notes, touches_is r b)
    (by_shape (shape_of r b) b notes)

-- phases, and the same over other notes of accesses: the trace changes these, and nothing else
record Carried (outcome other : Result State Stop) (xs ys : List TracedAccess) (notes : AccessNotes)
    : Type 0 where
  is : other ≡ outcome_holding outcome (notes_after xs notes)
  trace : ys ≡ xs

settled_holding : (p : Phase) (s : State) (value : Result ℕ Trap) (after : BusWorld)
    (notes kept : AccessNotes)
    → after_reply p (holding s kept) (record { value = value; after = with_notes after notes })
    ≡ outcome_holding (after_reply p s (record { value = value; after = after })) notes
settled_holding p s (Ok value) after notes kept = refl
settled_holding p s (Err trap) after notes kept = refl

carried_request : (p : Phase) (s : State) (request : Request) (notes : AccessNotes)
    → Carried (by_request p s request) (by_request p (holding s notes) request)
    (request_touches request s.world.bus) (request_touches request (with_notes s.world.bus notes)) notes
unfolding first_touches_after stamps_after_trace
carried_request p s Nothing notes = record { is = refl; trace = refl }
carried_request p s (Raise trap) notes = record { is = refl; trace = refl }
carried_request p s (Ask r) notes =
    let b = s.world.bus in
    let reply = perform r b in
    let left = notes_after (touches r b) notes in
    record {
      is = ap (after_reply p (holding s notes)) (carried_reply r b notes)
          ∙ settled_holding p s reply.value reply.after left notes;
      trace = same_touches r b notes;
    }

carried_rest : (ps : List Phase) (r other : Result State Stop) (xs ys : List TracedAccess)
    (notes : AccessNotes)
    → Carried r other xs ys notes
    → ((t : State) (kept : AccessNotes)
    → Carried (run ps t) (run ps (holding t kept))
    (trace ps t) (trace ps (holding t kept)) kept)
    → Carried (and_then r (λ t. run ps t)) (and_then other (λ t. run ps t))
    (xs ++ traced_next (λ t. trace ps t) r) (ys ++ traced_next (λ t. trace ps t) other) notes
carried_rest ps (Ok t) other xs ys notes so rest =
    let then = rest t (notes_after xs notes) in
    let joined = sym (notes_after-append xs (trace ps t) notes) in
    rw so.is (record {
      is = then.is ∙ ap (outcome_holding (run ps t)) joined;
      trace = ap₂ ◌++◌ so.trace then.trace;
    })
carried_rest ps (Err stop) other xs ys notes so rest = rw so.is (record {
  is = ap (λ zs. outcome_holding (Err stop) (notes_after zs notes)) (sym (append-nil xs));
  trace = ap (λ zs. zs ++ []) so.trace;
})

none_carried : (s : State) (notes : AccessNotes) → Carried (Ok s) (Ok (holding s notes)) [] [] notes
unfolding first_touches_after stamps_after_trace
none_carried s notes = record { is = refl; trace = refl }

carried_run : (ps : List Phase) (s : State) (notes : AccessNotes)
    → Carried (run ps s) (run ps (holding s notes))
    (trace ps s) (trace ps (holding s notes)) notes
unfolding run trace
carried_run [] s notes = none_carried s notes
carried_run (p ∷ ps) s notes =
    carried_rest ps (step p s) (step p (holding s notes)) _ _ notes
    (carried_request p s (p.request (inner_of s)) notes) (λ t kept. carried_run ps t kept)

carried_plan : (plan : Plan) (s : State) (notes : AccessNotes)
    → Carried (run_plan plan s) (run_plan plan (holding s notes))
    (trace (phases_of plan) s) (trace (phases_of plan) (holding s notes)) notes
carried_plan plan s notes =
    rw (← run_phases_of plan s, ← run_phases_of plan (holding s notes))
    (carried_run (phases_of plan) s notes)

-- a course
pub record CarriedCourse (t other : State) (xs ys : List TracedAccess) (notes : AccessNotes) : Type 0 where
  pub is : other ≡ holding t (notes_after xs notes)
  pub trace : ys ≡ xs

abbrev pub CarriedFrom : Course → State → AccessNotes → Type 0
CarriedFrom course t notes =
    CarriedCourse (follow course t) (follow course (holding t notes))
    (trace_of course t) (trace_of course (holding t notes)) notes

-- a course and its trace, after what a plan came to
abbrev followed : (Inner → Course) → (Trap → Inner → Course) → Latch → Result State Stop → State
followed next caught latch r =
    go_on (λ t. follow (next (inner_of t)) t)
    (λ trap t. follow (caught trap (inner_of t)) t) latch r

abbrev traced : (Inner → Course) → (Trap → Inner → Course) → Latch → Result State Stop
    → List TracedAccess
traced next caught latch r =
    traced_on (λ t. trace_of (next (inner_of t)) t)
    (λ trap t. trace_of (caught trap (inner_of t)) t) latch r

carried_next : (next : Inner → Course) (caught : Trap → Inner → Course) (latch : Latch)
    (r other : Result State Stop) (xs ys : List TracedAccess) (notes : AccessNotes)
    → Carried r other xs ys notes
    → ((t : State) (kept : AccessNotes) → CarriedFrom (next (inner_of t)) t kept)
    → ((trap : Trap) (t : State) (kept : AccessNotes) → CarriedFrom (caught trap (inner_of t)) t kept)
    → CarriedCourse (followed next caught latch r) (followed next caught latch other)
    (xs ++ traced next caught latch r) (ys ++ traced next caught latch other) notes
carried_next next caught latch (Ok t) other xs ys notes so goes_on catches =
    let then = goes_on t (notes_after xs notes) in
    let rest = trace_of (next (inner_of t)) t in
    rw so.is (record {
      is = then.is
          ∙ ap (holding (follow (next (inner_of t)) t)) (sym (notes_after-append xs rest notes));
      trace = ap₂ ◌++◌ so.trace then.trace;
    })
carried_next next caught latch (Err stop) other xs ys notes so goes_on catches =
    let t = caught_in latch stop in
    let course = caught stop.trap (inner_of t) in
    let then = catches stop.trap t (notes_after xs notes) in
    let rest = trace_of course t in
    rw so.is (record {
      is = then.is ∙ ap (holding (follow course t)) (sym (notes_after-append xs rest notes));
      trace = ap₂ ◌++◌ so.trace then.trace;
    })

none_followed : (s : State) (notes : AccessNotes) → CarriedCourse s (holding s notes) [] [] notes
unfolding first_touches_after stamps_after_trace
none_followed s notes = record { is = refl; trace = refl }

pub carried_course : (course : Course) (s : State) (notes : AccessNotes) → CarriedFrom course s notes
unfolding follow trace_of
carried_course End s notes = none_followed s notes
carried_course (Go plan next caught) s notes =
    carried_next next caught s.latch (run_plan plan s) (run_plan plan (holding s notes)) _ _
    notes (carried_plan plan s notes)
    (λ t kept. carried_course (next (inner_of t)) t kept)
    (λ trap t kept. carried_course (caught trap (inner_of t)) t kept)
