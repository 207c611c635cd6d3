-- A state with other notes of accesses and another log: phases do the same there.
use Rattle.std.proofs.Common.{◌≡◌, ◌∙◌, ap, Bool, true, false, List, [], ◌∷◌, Option, Ok, Err, Result, ℕ, refl}
use Rattle.pdp_action.specs.declared.trap.Trap.{Trap}
use Rattle.pdp_store.specs.CycleLogs.{KeptCycles}
use Rattle.pdp_store.specs.FirstTouches.{FirstTouches}
use Rattle.pdp_store.specs.declared.Stamp.{Stamp}
use Rattle.pdp_unibus.specs.Handbook.Beginning.{after_beginning}
use Rattle.pdp_unibus.specs.Handbook.BusWorld.{BusWorld, with_log}
use Rattle.pdp_unibus.specs.Trace.{begun_touches}
use Rattle.pdp_unibus.specs.declared.event.Event.{Event}
use Rattle.pdp_unibus.proofs.AccessNotes.{AccessNotes, access_notes, notes_after}
use Rattle.pdp_unibus.proofs.Carried.{begun_carried}
use Rattle.pdp_unibus.proofs.Logged.{begun_logged}
use Rattle.pdp_operand.specs.Handbook.Reference.{Reference, Reply, is_odd, perform}
use Rattle.pdp_operand.specs.Phases.Phase.{Phase, State, Stop, Request, Nothing, Ask, Raise, after_reply, and_then, by_request, inner_of, run, state_of, step, stop_at}
use Rattle.pdp_operand.specs.Phases.World.{World, world}
use Rattle.pdp_operand.proofs.Shape.{Shape, perform_is, reply_by, shape_if, shape_of}
use Rattle.pdp_operand.proofs.Shape.Shape.{Apart, Looked, Wrote}

-- the last stamps of core, the first touches, and the log
pub record Notes : Type 0 where
  pub stamps : List (Option Stamp)
  pub first_touches : FirstTouches
  pub log : KeptCycles

abbrev notes_on : BusWorld → Notes
notes_on b = record { stamps = b.stamps; first_touches = b.first_touches; log = b.log }

-- the same with others
abbrev pub bus_noting : BusWorld → Notes → BusWorld
bus_noting b n = record b { stamps = n.stamps; first_touches = n.first_touches; log = n.log }

abbrev world_noting : World → Notes → World
world_noting w n = world w.processor (bus_noting w.bus n)

abbrev pub noting : State → Notes → State
noting s n = state_of s.world.processor (bus_noting s.world.bus n) s.latch

abbrev pub outcome_noting : Result State Stop → Notes → Result State Stop
outcome_noting (Ok s) n = Ok (noting s n)
outcome_noting (Err stop) n = Err (stop_at stop.trap (world_noting stop.world n))

abbrev reply_noting : Reply → Notes → Reply
reply_noting reply n = record { value = reply.value; after = bus_noting reply.after n }

-- the second is the first, but for the notes that are left
pub record Leaves {A : Type 0} (noted : A → Notes → A) (one other : A) : Type 0 where
  pub left : Notes
  pub is : other ≡ noted one left

-- a reference
by_shape : (shape : Shape) (b : BusWorld) (n : Notes) → Leaves reply_noting (reply_by shape b) (reply_by shape (bus_noting b n))
by_shape (Apart cycle io_page value) b n = record { left = notes_on (reply_by (Apart cycle io_page value) (bus_noting b n)).after; is = refl }
by_shape (Looked io_page f k) b n = record { left = notes_on (reply_by (Looked io_page f k) (bus_noting b n)).after; is = refl }
by_shape (Wrote cycle io_page told f k) b n = record { left = notes_on (reply_by (Wrote cycle io_page told f k) (bus_noting b n)).after; is = refl }

same_if : (odd : Bool) (r : Reference) (b : BusWorld) (n : Notes) → shape_if odd r (bus_noting b n) ≡ shape_if odd r b
same_if true r b n = refl
same_if false r b n = refl

same_shape : (r : Reference) (b : BusWorld) (n : Notes) → shape_of r (bus_noting b n) ≡ shape_of r b
unfolding shape_of
same_shape r b n = same_if (is_odd r.kind r.address) r b n

noted_reply : (r : Reference) (b : BusWorld) (n : Notes) → Leaves reply_noting (perform r b) (perform r (bus_noting b n))
noted_reply r b n = rw (perform_is r b, perform_is r (bus_noting b n), same_shape r b n) (by_shape (shape_of r b) b n)

-- phases
abbrev pub LeavesOutcome : Result State Stop → Result State Stop → Type 0
LeavesOutcome = Leaves outcome_noting

settled : (p : Phase) (s : State) (value : Result ℕ Trap) (after : BusWorld) (left : Notes)
    → LeavesOutcome (after_reply p s (record { value = value; after = after }))
    (after_reply p s (record { value = value; after = bus_noting after left }))
settled p s (Ok value) after left = record { left = left; is = refl }
settled p s (Err trap) after left = record { left = left; is = refl }

noted_request : (p : Phase) (s : State) (request : Request) (n : Notes) → LeavesOutcome (by_request p s request) (by_request p (noting s n) request)
noted_request p s Nothing n = record { left = n; is = refl }
noted_request p s (Raise trap) n = record { left = n; is = refl }
noted_request p s (Ask r) n =
    let reply = noted_reply r s.world.bus n in
    rw reply.is (settled p s (perform r s.world.bus).value (perform r s.world.bus).after reply.left)

pub noted_step : (p : Phase) (s : State) (n : Notes) → LeavesOutcome (step p s) (step p (noting s n))
noted_step p s n = noted_request p s (p.request (inner_of s)) n

noted_rest : (ps : List Phase) (r other : Result State Stop) → LeavesOutcome r other
    → ((t : State) (n : Notes) → LeavesOutcome (run ps t) (run ps (noting t n)))
    → LeavesOutcome (and_then r (λ t. run ps t)) (and_then other (λ t. run ps t))
noted_rest ps (Ok t) other so rest = rw so.is (rest t so.left)
noted_rest ps (Err stop) other so rest = rw so.is (record { left = so.left; is = refl })

pub noted_run : (ps : List Phase) (s : State) (n : Notes) → LeavesOutcome (run ps s) (run ps (noting s n))
unfolding run
noted_run [] s n = record { left = n; is = refl }
noted_run (p ∷ ps) s n = noted_rest ps (step p s) (step p (noting s n)) (noted_step p s n) (λ t left. noted_run ps t left)

-- the beginning of a turn
pub noted_beginning : (t : ℕ) (es : List Event) (b : BusWorld) (n : Notes) → Leaves bus_noting (after_beginning t es b).bus (after_beginning t es (bus_noting b n)).bus
noted_beginning t es b n =
    let kept : AccessNotes = access_notes n.stamps n.first_touches in
    let logged = with_log b n.log in
    let left = notes_after (begun_touches t es logged) kept in
    record {
      left = record { stamps = left.stamps; first_touches = left.first_touches; log = n.log };
      is = ap (λ p. p.bus) (begun_carried t es logged kept).is
          ∙ ap (λ p. bus_noting p.bus (record { stamps = left.stamps; first_touches = left.first_touches; log = p.bus.log })) (begun_logged t es b n.log);
    }
