-- Two runs over words that differ at most in a page that the first never touches.
use Rattle.std.proofs.Common.{◌≡◌, ℕ, ◌<◌, ◌==◌, Bool, true, false, List, [], ◌∷◌, ◌++◌, refl, sym, ap₂, ◌∙◌, Ok, Err, Result, length, slice_index, slice_set, length-set, get_or-set_same, get_or-set_other}
use Rattle.std.proofs.lemmas.Bool.{eqb-true, eqb-false}
use Rattle.pdp_store.proofs.Traces.{Avoids-first, Avoids-second}
use Rattle.pdp_store.specs.Parts.{AlikeWords}
use Rattle.pdp_store.specs.TracedAccess.{Avoids, TracedAccess}
use Rattle.pdp_store.specs.declared.part.Part.{Part}
use Rattle.pdp_store.specs.declared.part.Part.TheVariants as parts
use Rattle.pdp_unibus.specs.Handbook.BusWorld.{BusWorld}
use Rattle.pdp_unibus.specs.Page.{words_of_part, bus_with_words}
use Rattle.pdp_operand.specs.Handbook.Reference.{Reference, Reply, perform}
use Rattle.pdp_operand.specs.Phases.Phase.{Phase, Inner, State, Stop, Request, Nothing, Ask, Raise, Latch, run, step, and_then, by_request, after_reply, inner_of, state_of, stop_at}
use Rattle.pdp_operand.specs.Phases.World.{world}
use Rattle.pdp_operand.specs.Phases.Plan.{Plan, phases_of, run_plan}
use Rattle.pdp_operand.specs.Phases.Course.{Course, End, Go, follow, go_on, caught_in}
use Rattle.pdp_operand.specs.Laws.Trace.{touches, request_touches, trace, traced_next, trace_of, traced_on}
use Rattle.pdp_action.specs.declared.trap.Trap.{Trap}
use Rattle.pdp_operand.proofs.Flattening.{run_phases_of}
use Rattle.pdp_operand.proofs.Shape.{Shape, reply_by, touches_by, InCore, shape_of, perform_is, touches_is, shape_in_core, shape_alike}
use Rattle.pdp_operand.proofs.Shape.Shape.{Apart, Looked, Wrote}
use Rattle.pdp_operand.proofs.Along.{bus_after}

-- the same state or outcome with other words in a part
abbrev pub over : Part → State → List ℕ → State
over part s words = state_of s.world.processor (bus_with_words part words s.world.bus) s.latch

abbrev outcome_over : Part → Result State Stop → List ℕ → Result State Stop
outcome_over part (Ok s) words = Ok (over part s words)
outcome_over part (Err stop) words = Err (stop_at stop.trap (world stop.world.processor (bus_with_words part words stop.world.bus)))

abbrev reply_over : Part → Reply → List ℕ → Reply
reply_over part reply words = record { value = reply.value; after = bus_with_words part words reply.after }

both_set : (xs ys : List ℕ) (j k word : ℕ) (same : Bool) → (k == j) ≡ same → j < length xs → length ys ≡ length xs
    → slice_index ys k ≡ slice_index xs k
    → slice_index (slice_set ys j word) k ≡ slice_index (slice_set xs j word) k
both_set xs ys j k word true is within size equal =
    rw (eqb-true k j is) (get_or-set_same ys j word 0 (rw size within) ∙ sym (get_or-set_same xs j word 0 within))
both_set xs ys j k word false is within size equal =
    get_or-set_other ys j k word 0 (eqb-false k j is) ∙ equal ∙ sym (get_or-set_other xs j k word 0 (eqb-false k j is))

alike_set : (page : ℕ) (xs ys : List ℕ) (j word : ℕ) → j < length xs → AlikeWords page xs ys
    → AlikeWords page (slice_set xs j word) (slice_set ys j word)
alike_set page xs ys j word within alike = record {
  size = length-set ys j word ∙ alike.size ∙ sym (length-set xs j word);
  words = λ k outside. both_set xs ys j k word (k == j) refl within alike.size (alike.words k outside);
}

-- a reference over each
record PairedReply (part : Part) (page : ℕ) (reply other : Reply) : Type 0 where
  words : List ℕ
  is : other ≡ reply_over part reply words
  alike : AlikeWords page (words_of_part part reply.after) words

paired_by_shape : (part : Part) (page : ℕ) (shape : Shape) (b : BusWorld) (ys : List ℕ) → InCore (length b.core) shape
    → AlikeWords page (words_of_part part b) ys → Avoids part page (touches_by shape b)
    → PairedReply part page (reply_by shape b) (reply_by shape (bus_with_words part ys b))
paired_by_shape part page (Apart cycle io_page value) b ys within alike avoids = record { words = ys; is = refl; alike = alike }
paired_by_shape parts.Core page (Looked io_page f k) b ys within alike avoids =
    record { words = ys; is = rw (alike.words k (avoids.0 refl)) refl; alike = alike }
paired_by_shape (parts.Drive number) page (Looked io_page f k) b ys within alike avoids =
    record { words = ys; is = refl; alike = alike }
paired_by_shape parts.Core page (Wrote cycle io_page told f k) b ys within alike avoids = record {
  words = slice_set ys k (f (slice_index b.core k));
  is = rw (alike.words k (avoids.0 refl)) refl;
  alike = alike_set page b.core ys k _ within alike;
}
paired_by_shape (parts.Drive number) page (Wrote cycle io_page told f k) b ys within alike avoids =
    record { words = ys; is = refl; alike = alike }

paired_reply : (part : Part) (page : ℕ) (r : Reference) (b : BusWorld) (ys : List ℕ) → AlikeWords page (words_of_part part b) ys
    → Avoids part page (touches r b) → PairedReply part page (perform r b) (perform r (bus_with_words part ys b))
paired_reply part page r b ys alike avoids =
    rw (perform_is r b, perform_is r (bus_with_words part ys b), shape_alike part r b ys alike.size)
    (paired_by_shape part page (shape_of r b) b ys (shape_in_core r b) alike (rw (touches_is r b) at avoids))

same_by_shape : (part : Part) (shape : Shape) (b : BusWorld) (ys : List ℕ) → touches_by shape (bus_with_words part ys b) ≡ touches_by shape b
same_by_shape part (Apart cycle io_page value) b ys = refl
same_by_shape part (Looked io_page f k) b ys = refl
same_by_shape part (Wrote cycle io_page told f k) b ys = refl

same_touches : (part : Part) (r : Reference) (b : BusWorld) (ys : List ℕ) → length ys ≡ length (words_of_part part b)
    → touches r (bus_with_words part ys b) ≡ touches r b
same_touches part r b ys size =
    rw (touches_is r b, touches_is r (bus_with_words part ys b), shape_alike part r b ys size) (same_by_shape part (shape_of r b) b ys)

same_requested : (part : Part) (request : Request) (b : BusWorld) (ys : List ℕ) → length ys ≡ length (words_of_part part b)
    → request_touches request (bus_with_words part ys b) ≡ request_touches request b
same_requested part Nothing b ys size = refl
same_requested part (Ask r) b ys size = same_touches part r b ys size
same_requested part (Raise trap) b ys size = refl

-- phases over each of the two
record Paired (part : Part) (page : ℕ) (outcome other : Result State Stop) : Type 0 where
  words : List ℕ
  is : other ≡ outcome_over part outcome words
  alike : AlikeWords page (words_of_part part (bus_after outcome)) words

settled_over : (part : Part) (page : ℕ) (p : Phase) (s : State) (value : Result ℕ Trap) (after : BusWorld) (ys : List ℕ) → AlikeWords page (words_of_part part after) ys
    → Paired part page (after_reply p s (record { value = value; after = after }))
    (after_reply p s (record { value = value; after = bus_with_words part ys after }))
settled_over part page p s (Ok value) after ys alike = record { words = ys; is = refl; alike = alike }
settled_over part page p s (Err trap) after ys alike = record { words = ys; is = refl; alike = alike }

paired_request : (part : Part) (page : ℕ) (p : Phase) (s : State) (request : Request) (ys : List ℕ) → AlikeWords page (words_of_part part s.world.bus) ys
    → Avoids part page (request_touches request s.world.bus) → Paired part page (by_request p s request) (by_request p (over part s ys) request)
paired_request part page p s Nothing ys alike avoids = record { words = ys; is = refl; alike = alike }
paired_request part page p s (Raise trap) ys alike avoids = record { words = ys; is = refl; alike = alike }
paired_request part page p s (Ask r) ys alike avoids =
    let reply = paired_reply part page r s.world.bus ys alike avoids in
    rw reply.is (settled_over part page p s (perform r s.world.bus).value (perform r s.world.bus).after reply.words reply.alike)

record PairedRun (part : Part) (page : ℕ) (outcome other : Result State Stop) (xs ys : List TracedAccess) : Type 0 where
  outcomes : Paired part page outcome other
  trace : ys ≡ xs

paired_rest : (part : Part) (page : ℕ) (ps : List Phase) (r other : Result State Stop) → Paired part page r other
    → Avoids part page (traced_next (λ t. trace ps t) r)
    → ((t : State) (ys : List ℕ) → AlikeWords page (words_of_part part t.world.bus) ys → Avoids part page (trace ps t)
    → PairedRun part page (run ps t) (run ps (over part t ys)) (trace ps t) (trace ps (over part t ys)))
    → PairedRun part page (and_then r (λ t. run ps t)) (and_then other (λ t. run ps t))
    (traced_next (λ t. trace ps t) r) (traced_next (λ t. trace ps t) other)
paired_rest part page ps (Ok t) other pair avoids rest = rw pair.is (rest t pair.words pair.alike avoids)
paired_rest part page ps (Err stop) other pair avoids rest =
    rw pair.is (record { outcomes = record { words = pair.words; is = refl; alike = pair.alike }; trace = refl })

paired_run : (part : Part) (page : ℕ) (ps : List Phase) (s : State) (ys : List ℕ) → AlikeWords page (words_of_part part s.world.bus) ys → Avoids part page (trace ps s)
    → PairedRun part page (run ps s) (run ps (over part s ys)) (trace ps s) (trace ps (over part s ys))
unfolding run trace
paired_run part page [] s ys alike avoids = record { outcomes = record { words = ys; is = refl; alike = alike }; trace = refl }
paired_run part page (p ∷ ps) s ys alike avoids =
    let xs = request_touches (p.request (inner_of s)) s.world.bus in
    let first = paired_request part page p s (p.request (inner_of s)) ys alike (Avoids-first part page xs _ avoids) in
    let rest = paired_rest part page ps (step p s) (step p (over part s ys)) first (Avoids-second part page xs _ avoids)
    (λ t zs so also. paired_run part page ps t zs so also) in
    record {
      outcomes = rest.outcomes;
      trace = ap₂ ◌++◌ (same_requested part (p.request (inner_of s)) s.world.bus ys alike.size) rest.trace;
    }

paired_plan : (part : Part) (page : ℕ) (plan : Plan) (s : State) (ys : List ℕ) → AlikeWords page (words_of_part part s.world.bus) ys → Avoids part page (trace (phases_of plan) s)
    → PairedRun part page (run_plan plan s) (run_plan plan (over part s ys)) (trace (phases_of plan) s) (trace (phases_of plan) (over part s ys))
paired_plan part page plan s ys alike avoids =
    rw (← run_phases_of plan s, ← run_phases_of plan (over part s ys)) (paired_run part page (phases_of plan) s ys alike avoids)

-- a course over each of the two
pub record PairedCourse (part : Part) (page : ℕ) (t other : State) (xs ys : List TracedAccess) : Type 0 where
  pub words : List ℕ
  pub is : other ≡ over part t words
  pub alike : AlikeWords page (words_of_part part t.world.bus) words
  pub trace : ys ≡ xs

module _ (part : Part) (page : ℕ) (next : Inner → Course) (caught : Trap → Inner → Course) where
  abbrev gone : Latch → Result State Stop → State
  gone latch r = go_on (λ t. follow (next (inner_of t)) t) (λ trap t. follow (caught trap (inner_of t)) t) latch r

  abbrev gone_trace : Latch → Result State Stop → List TracedAccess
  gone_trace latch r = traced_on (λ t. trace_of (next (inner_of t)) t) (λ trap t. trace_of (caught trap (inner_of t)) t) latch r

  abbrev PairedFrom : Course → State → List ℕ → Type 0
  PairedFrom course t ys = PairedCourse part page (follow course t) (follow course (over part t ys)) (trace_of course t) (trace_of course (over part t ys))

  paired_next : (latch : Latch) (r other : Result State Stop) → Paired part page r other → Avoids part page (gone_trace latch r)
      → ((t : State) (ys : List ℕ) → AlikeWords page (words_of_part part t.world.bus) ys → Avoids part page (trace_of (next (inner_of t)) t)
      → PairedFrom (next (inner_of t)) t ys)
      → ((trap : Trap) (t : State) (ys : List ℕ) → AlikeWords page (words_of_part part t.world.bus) ys → Avoids part page (trace_of (caught trap (inner_of t)) t)
      → PairedFrom (caught trap (inner_of t)) t ys)
      → PairedCourse part page (gone latch r) (gone latch other) (gone_trace latch r) (gone_trace latch other)
  paired_next latch (Ok t) other pair avoids goes_on catches = rw pair.is (goes_on t pair.words pair.alike avoids)
  paired_next latch (Err stop) other pair avoids goes_on catches =
      rw pair.is (catches stop.trap (caught_in latch stop) pair.words pair.alike avoids)

pub paired_course : (part : Part) (page : ℕ) (course : Course) (s : State) (ys : List ℕ) → AlikeWords page (words_of_part part s.world.bus) ys → Avoids part page (trace_of course s)
    → PairedCourse part page (follow course s) (follow course (over part s ys)) (trace_of course s) (trace_of course (over part s ys))
unfolding follow trace_of
paired_course part page End s ys alike avoids = record { words = ys; is = refl; alike = alike; trace = refl }
paired_course part page (Go plan next caught) s ys alike avoids =
    let xs = trace (phases_of plan) s in
    let first = paired_plan part page plan s ys alike (Avoids-first part page xs _ avoids) in
    let rest = paired_next part page next caught s.latch (run_plan plan s) (run_plan plan (over part s ys)) first.outcomes
    (Avoids-second part page xs _ avoids)
    (λ t zs so also. paired_course part page (next (inner_of t)) t zs so also)
    (λ trap t zs so also. paired_course part page (caught trap (inner_of t)) t zs so also) in
    record { words = rest.words; is = rest.is; alike = rest.alike; trace = ap₂ ◌++◌ first.trace rest.trace }
