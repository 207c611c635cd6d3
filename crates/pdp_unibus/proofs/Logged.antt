-- The beginning of a turn does the same whatever log is kept, and leaves it.
use Rattle.std.proofs.Common.{◌≡◌, ◌∙◌, ℕ, Bool, true, false, List, [], ◌∷◌, ap, refl}
use Rattle.pdp_device.specs.Operation.{is_due}
use Rattle.pdp_store.specs.CycleLogs.{KeptCycles}
use Rattle.pdp_unibus.specs.Handbook.Beginning.{Progress, after_event, after_events, at_start, before_disk, after_beginning, disk_done, disk_due, in_turn, where_due}
use Rattle.pdp_unibus.specs.Handbook.BusWorld.{BusWorld, with_log}
use Rattle.pdp_unibus.specs.declared.event.Event.{Event}
use Rattle.pdp_unibus.specs.declared.event.Event.TheVariants.{DiskDone}
use Rattle.pdp_unibus.proofs.Beginnings.{dues, dues_are_quiet, logging}

event_logged : (e : Event) (p : Progress) (log : KeptCycles) → after_event e (logging p log) ≡ logging (after_event e p) log
event_logged DiskDone p log = refl
event_logged _ p log = refl

events_logged : (es : List Event) (p : Progress) (log : KeptCycles) → after_events es (logging p log) ≡ logging (after_events es p) log
events_logged [] p log = refl
events_logged (e ∷ es) p log = ap (after_events es) (event_logged e p log) ∙ events_logged es (after_event e p) log

due_logged : (due : Bool) (p : Progress) (log : KeptCycles) → where_due due disk_done (logging p log) ≡ logging (where_due due disk_done p) log
due_logged true p log = refl
due_logged false p log = refl

before_logged : (t : ℕ) (es : List Event) (w : BusWorld) (log : KeptCycles) → before_disk t es (with_log w log) ≡ logging (before_disk t es w) log
unfolding before_disk dues
before_logged t es w log =
    let start = at_start (in_turn t w) in
    ap dues (events_logged es start log) ∙ dues_are_quiet.logs log (after_events es start)

pub begun_logged : (t : ℕ) (es : List Event) (w : BusWorld) (log : KeptCycles) → after_beginning t es (with_log w log) ≡ logging (after_beginning t es w) log
unfolding after_beginning
begun_logged t es w log =
    let before = before_disk t es w in
    ap disk_due (before_logged t es w log)
    ∙ due_logged (is_due before.bus.turn before.bus.io_page.disk.operation) before log
