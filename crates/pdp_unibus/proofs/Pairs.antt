-- Two beginnings of a turn over words that differ at most in a page that the first never touches.
use Rattle.std.proofs.Common.{◌≡◌, ℕ, Bool, true, false, List, [], ◌∷◌, ◌++◌, refl, ap, ap₂, ◌∙◌, if◌then◌else◌}
use Rattle.pdp_device.specs.Operation.{is_due}
use Rattle.pdp_rk11.proofs.CompletionPairs.{completions_alike}
use Rattle.pdp_store.proofs.Traces.{Avoids-first, Avoids-second}
use Rattle.pdp_store.specs.Parts.{AlikeWords}
use Rattle.pdp_store.specs.TracedAccess.{Avoids, TracedAccess}
use Rattle.pdp_store.specs.declared.part.Part.{Part}
use Rattle.pdp_unibus.specs.Handbook.Beginning.{Progress, after_event, after_events, at_start, before_disk, after_beginning, disk_done, disk_due, in_turn, where_due}
use Rattle.pdp_unibus.specs.Handbook.BusWorld.{BusWorld, disk_world_of, with_disk_world, with_first_touches}
use Rattle.pdp_store.specs.FirstTouches.{first_touches_after}
use Rattle.pdp_unibus.specs.Page.{words_of_part, bus_with_words}
use Rattle.pdp_unibus.specs.Trace.{begun_touches, disk_touches, due_touches, event_touches, events_touches}
use Rattle.pdp_unibus.specs.declared.event.Event.{Event}
use Rattle.pdp_unibus.specs.declared.event.Event.TheVariants.{DiskDone}
use Rattle.pdp_unibus.proofs.Beginnings.{Quiet, dues, dues_are_quiet, over}

-- what a step makes of each, with its touches
pub record Paired (part : Part) (page : ℕ) (p q : Progress) (xs ys : List TracedAccess) : Type 0 where
  pub words : List ℕ
  pub is : q ≡ over part words p
  pub alike : AlikeWords page (words_of_part part p.bus) words
  pub trace : ys ≡ xs

paired_disk : (part : Part) (page : ℕ) (p : Progress) (words : List ℕ) → AlikeWords page (words_of_part part p.bus) words
    → Avoids part page (disk_touches p.bus)
    → Paired part page (disk_done p) (disk_done (over part words p)) (disk_touches p.bus) (disk_touches (over part words p).bus)
paired_disk part page p words alike avoids =
    let pair = completions_alike part page p.bus.turn (disk_world_of p.bus) words alike avoids in
    record {
      words = pair.left;
      is = ap₂ (λ d xs. record p { bus = with_first_touches (with_disk_world (bus_with_words part words p.bus) d) (first_touches_after xs p.bus.first_touches) }) pair.is pair.trace;
      alike = pair.alike;
      trace = pair.trace;
    }

paired_event : (part : Part) (page : ℕ) (e : Event) (p : Progress) (words : List ℕ) → AlikeWords page (words_of_part part p.bus) words
    → Avoids part page (event_touches e p.bus)
    → Paired part page (after_event e p) (after_event e (over part words p)) (event_touches e p.bus) (event_touches e (over part words p).bus)
paired_event part page DiskDone p words alike avoids = paired_disk part page p words alike avoids
paired_event part page _ p words alike avoids =
    record { words = words; is = refl; alike = alike; trace = refl }

paired_events : (part : Part) (page : ℕ) (es : List Event) (p : Progress) (words : List ℕ) → AlikeWords page (words_of_part part p.bus) words
    → Avoids part page (events_touches es p)
    → Paired part page (after_events es p) (after_events es (over part words p)) (events_touches es p) (events_touches es (over part words p))
paired_events part page [] p words alike avoids = record { words = words; is = refl; alike = alike; trace = refl }
paired_events part page (e ∷ es) p words alike avoids =
    let first = paired_event part page e p words alike (Avoids-first part page (event_touches e p.bus) _ avoids) in
    let rest = paired_events part page es (after_event e p) first.words first.alike (Avoids-second part page (event_touches e p.bus) _ avoids) in
    record {
      words = rest.words;
      is = ap (after_events es) first.is ∙ rest.is;
      alike = rest.alike;
      trace = ap₂ ◌++◌ first.trace (ap (events_touches es) first.is ∙ rest.trace);
    }

paired_due : (part : Part) (page : ℕ) (due : Bool) (p : Progress) (words : List ℕ) → AlikeWords page (words_of_part part p.bus) words
    → Avoids part page (if due then disk_touches p.bus else [])
    → Paired part page (where_due due disk_done p) (where_due due disk_done (over part words p))
    (if due then disk_touches p.bus else []) (if due then disk_touches (over part words p).bus else [])
paired_due part page true p words alike avoids = paired_disk part page p words alike avoids
paired_due part page false p words alike avoids = record { words = words; is = refl; alike = alike; trace = refl }

-- what is alike before a quiet step is alike after it
alike_after : (part : Part) (page : ℕ) (f : Progress → Progress) (p : Progress) (words : List ℕ) → Quiet f
    → AlikeWords page (words_of_part part p.bus) words → AlikeWords page (words_of_part part (f p).bus) words
alike_after part page f p words quiet alike = rw (ap (words_of_part part) (quiet.leaves p)) alike

paired_before : (part : Part) (page t : ℕ) (es : List Event) (w : BusWorld) (words : List ℕ) → AlikeWords page (words_of_part part w) words
    → Avoids part page (events_touches es (at_start (in_turn t w)))
    → Paired part page (before_disk t es w) (before_disk t es (bus_with_words part words w))
    (events_touches es (at_start (in_turn t w))) (events_touches es (at_start (in_turn t (bus_with_words part words w))))
unfolding before_disk dues
paired_before part page t es w words alike avoids =
    let events = after_events es (at_start (in_turn t w)) in
    let pair = paired_events part page es (at_start (in_turn t w)) words alike avoids in
    record {
      words = pair.words;
      is = ap dues pair.is ∙ dues_are_quiet.commutes part pair.words events;
      alike = alike_after part page dues events pair.words dues_are_quiet pair.alike;
      trace = pair.trace;
    }

pub begun_alike : (part : Part) (page t : ℕ) (es : List Event) (w : BusWorld) (words : List ℕ) → AlikeWords page (words_of_part part w) words
    → Avoids part page (begun_touches t es w)
    → Paired part page (after_beginning t es w) (after_beginning t es (bus_with_words part words w)) (begun_touches t es w) (begun_touches t es (bus_with_words part words w))
unfolding after_beginning begun_touches
begun_alike part page t es w words alike avoids =
    let touches = events_touches es (at_start (in_turn t w)) in
    let before = before_disk t es w in
    let due = is_due before.bus.turn before.bus.io_page.disk.operation in
    let first = paired_before part page t es w words alike (Avoids-first part page touches _ avoids) in
    let last = paired_due part page due before first.words first.alike (Avoids-second part page touches _ avoids) in
    record {
      words = last.words;
      is = ap disk_due first.is ∙ last.is;
      alike = last.alike;
      trace = ap₂ ◌++◌ first.trace (ap (λ p. due_touches p.bus) first.is ∙ last.trace);
    }
