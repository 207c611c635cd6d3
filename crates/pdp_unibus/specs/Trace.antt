-- The words that the beginning of a turn touches, in their order: those that the disk's completions
-- touch. No rule of the handbook is here.
use Rattle.std.specs.Prelude.{ℕ, Bool, List, [], ◌∷◌, ◌++◌, if◌then◌else◌}
use Rattle.pdp_device.specs.Operation.{is_due}
use Rattle.pdp_rk11.specs.Trace.{completion_touches}
use Rattle.pdp_store.specs.TracedAccess.{TracedAccess}
use Rattle.pdp_store.specs.declared.part.Part.TheVariants as part
use Rattle.pdp_store.specs.declared.Agent.TheVariants.{Cpu}
use Rattle.pdp_unibus.specs.Handbook.Beginning.{after_event, at_start, before_disk, in_turn}
use Rattle.pdp_unibus.specs.Handbook.BusWorld.{BusWorld, disk_world_of}
use Rattle.pdp_unibus.specs.Handbook.Beginning.{Progress}
use Rattle.pdp_unibus.specs.declared.event.Event.{Event}
use Rattle.pdp_unibus.specs.declared.event.Event.TheVariants.{DiskDone}

-- the processor reads or writes a word of core
abbrev pub processor_touch : Bool → BusWorld → ℕ → TracedAccess
processor_touch writes w k = record {
  turn = w.turn;
  agent = Cpu;
  writes = writes;
  part = part.Core;
  word = k;
}

-- the disk completes
abbrev pub disk_touches : BusWorld → List TracedAccess
disk_touches w = completion_touches w.turn (disk_world_of w)

-- an event: only the disk's touches words
abbrev pub event_touches : Event → BusWorld → List TracedAccess
event_touches DiskDone w = disk_touches w
event_touches _ w = []

abbrev pub events_touches : List Event → Progress → List TracedAccess
events_touches [] p = []
events_touches (e ∷ es) p = event_touches e p.bus ++ events_touches es (after_event e p)

-- the disk's completion, if it is due
abbrev pub due_touches : BusWorld → List TracedAccess
due_touches w = if is_due w.turn w.io_page.disk.operation then disk_touches w else []

-- all accesses to words of core and of drives in the beginning of turn t
unfoldable pub begun_touches : ℕ → List Event → BusWorld → List TracedAccess
begun_touches t events w = events_touches events (at_start (in_turn t w)) ++ due_touches
    (before_disk t events w).bus
