-- The beginning of a turn does the same whatever notes of accesses are kept, and its trace changes them.
use Rattle.std.proofs.Common.{◌≡◌, ℕ, Bool, true, false, List, [], ◌∷◌, ◌++◌, if◌then◌else◌}
use Rattle.std.proofs.Common.{refl, sym, ap, ap₂, ◌∙◌}
use Rattle.pdp_device.specs.Operation.{is_due}
use Rattle.pdp_store.specs.FirstTouches.{first_touches_after}
use Rattle.pdp_store.specs.Stamps.{stamps_after_trace}
use Rattle.pdp_store.specs.TracedAccess.{TracedAccess}
use Rattle.pdp_rk11.proofs.DiskStamps.{stamps_disturb_no_completion}
use Rattle.pdp_unibus.specs.Handbook.Beginning.{Progress, after_event, after_events, at_start, before_disk}
use Rattle.pdp_unibus.specs.Handbook.Beginning.{after_beginning, disk_done, disk_due, in_turn, where_due}
use Rattle.pdp_unibus.specs.Handbook.BusWorld.{BusWorld, disk_world_of, with_disk_world, with_first_touches}
use Rattle.pdp_unibus.specs.Trace.{begun_touches, disk_touches, due_touches, event_touches}
use Rattle.pdp_unibus.specs.Trace.{events_touches}
use Rattle.pdp_unibus.specs.declared.event.Event.{Event}
use Rattle.pdp_unibus.specs.declared.event.Event.TheVariants.{DiskDone}
use Rattle.pdp_unibus.proofs.AccessNotes.{AccessNotes, notes_after, notes_after-append, with_notes}
use Rattle.pdp_unibus.proofs.Beginnings.{dues, dues_are_quiet, holding}

-- a step, and the same over other notes of accesses: the trace changes these, and nothing else
pub record Carried (p q : Progress) (xs ys : List TracedAccess) (notes : AccessNotes) : Type 0 where
  pub is : q ≡ holding p (notes_after xs notes)
  pub trace : ys ≡ xs

carried_disk : (p : Progress) (notes : AccessNotes)
    → Carried (disk_done p) (disk_done (holding p notes)) (disk_touches p.bus) (disk_touches (holding p notes).bus) notes
carried_disk p notes =
    let so = stamps_disturb_no_completion p.bus.turn (disk_world_of p.bus) notes.stamps in
    record {
      is = ap₂ (λ d xs. record p { bus = with_first_touches (with_disk_world (with_notes p.bus notes) d) (first_touches_after xs notes.first_touches) }) so.is so.trace;
      trace = so.trace;
    }

carried_event : (e : Event) (p : Progress) (notes : AccessNotes)
    → Carried (after_event e p) (after_event e (holding p notes))
    (event_touches e p.bus) (event_touches e (holding p notes).bus) notes
unfolding first_touches_after stamps_after_trace
carried_event DiskDone p notes = carried_disk p notes
carried_event _ p notes = record { is = refl; trace = refl }

none_carried : (p : Progress) (notes : AccessNotes) → Carried p (holding p notes) [] [] notes
unfolding first_touches_after stamps_after_trace
none_carried p notes = record { is = refl; trace = refl }

carried_events : (es : List Event) (p : Progress) (notes : AccessNotes)
    → Carried (after_events es p) (after_events es (holding p notes))
    (events_touches es p) (events_touches es (holding p notes)) notes
carried_events [] p notes = none_carried p notes
carried_events (e ∷ es) p notes =
    let xs = event_touches e p.bus in
    let next = after_event e p in
    let first = carried_event e p notes in
    let rest = carried_events es next (notes_after xs notes) in
    let joined = sym (notes_after-append xs (events_touches es next) notes) in
    record {
      is = ap (after_events es) first.is ∙ rest.is ∙ ap (holding (after_events es next)) joined;
      trace = ap₂ ◌++◌ first.trace (ap (events_touches es) first.is ∙ rest.trace);
    }

carried_due : (due : Bool) (p : Progress) (notes : AccessNotes)
    → Carried (where_due due disk_done p) (where_due due disk_done (holding p notes))
    (if due then disk_touches p.bus else [])
    (if due then disk_touches (holding p notes).bus else []) notes
carried_due true p notes = carried_disk p notes
carried_due false p notes = none_carried p notes

carried_before : (t : ℕ) (es : List Event) (w : BusWorld) (notes : AccessNotes)
    → Carried (before_disk t es w) (before_disk t es (with_notes w notes))
    (events_touches es (at_start (in_turn t w)))
    (events_touches es (at_start (in_turn t (with_notes w notes)))) notes
unfolding before_disk dues
carried_before t es w notes =
    let start = at_start (in_turn t w) in
    let so = carried_events es start notes in
    let left = notes_after (events_touches es start) notes in
    record {
      is = ap dues so.is ∙ dues_are_quiet.holds left (after_events es start);
      trace = so.trace;
    }

pub begun_carried : (t : ℕ) (es : List Event) (w : BusWorld) (notes : AccessNotes)
    → Carried (after_beginning t es w) (after_beginning t es (with_notes w notes))
    (begun_touches t es w) (begun_touches t es (with_notes w notes)) notes
unfolding after_beginning begun_touches
begun_carried t es w notes =
    let xs = events_touches es (at_start (in_turn t w)) in
    let before = before_disk t es w in
    let due = is_due before.bus.turn before.bus.io_page.disk.operation in
    let first = carried_before t es w notes in
    let last = carried_due due before (notes_after xs notes) in
    let ys = if due then disk_touches before.bus else [] in
    let joined = sym (notes_after-append xs ys notes) in
    record {
      is = ap disk_due first.is ∙ last.is ∙ ap (holding (where_due due disk_done before)) joined;
      trace = ap₂ ◌++◌ first.trace (ap (λ p. due_touches p.bus) first.is ∙ last.trace);
    }
