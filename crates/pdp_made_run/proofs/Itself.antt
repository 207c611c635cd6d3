-- Each run goes the same way as itself.
use Rattle.std.proofs.Common.{◌≡◌, ℕ, zero, suc, List, [], ◌∷◌, refl}
use Rattle.pdp_unibus.specs.Handbook.Beginning.{Progress, after_event, at_start, in_turn}
use Rattle.pdp_unibus.specs.Handbook.BusWorld.{BusWorld}
use Rattle.pdp_unibus.specs.declared.event.Event.{Event}
use Rattle.pdp_unibus.specs.declared.event.Event.TheVariants as event
use Rattle.pdp_operand.specs.Phases.World.{World}
use Rattle.pdp_cpu.specs.Handbook.Turn.{at_turn}
use Rattle.pdp_made.specs.Cells.{no_saved_codes}
use Rattle.pdp_made.proofs.Courses.{along_itself}
use Rattle.pdp_made_run.specs.BeginningRows.{BusesAlike, EventsAlike}
use Rattle.pdp_made_run.specs.Origins.{Events, event_data, with_event_data}
use Rattle.pdp_made_run.specs.RunRows.{RunsAlike, before_turn}
use Rattle.pdp_made_run.specs.TurnRows.{TurnsAlike, rows_of_turn}

own_data : (e : Event) → e ≡ with_event_data (event_data e) e
own_data (event.Key key) = refl
own_data event.Tick = refl
own_data event.PrinterDone = refl
own_data event.ReaderDone = refl
own_data event.PunchDone = refl
own_data event.DiskDone = refl
own_data (event.Switches word) = refl
own_data event.Continue = refl

bus_itself : (b : BusWorld) → BusesAlike b b
bus_itself b = record { same_way = refl; core_size = refl; drives_count = refl; drive_sizes = λ n. refl }

events_itself : (es : List Event) (p : Progress) → EventsAlike es es p p
unfolding EventsAlike
events_itself [] p = tt
events_itself (e ∷ es) p = (bus_itself p.bus, own_data e, events_itself es (after_event e p))

pub turn_itself : (t : ℕ) (es : List Event) (w : World) → TurnsAlike t es es w w
turn_itself t es w = record {
  begin = record {
    events = events_itself es (at_start (in_turn t w.bus));
    printer = bus_itself _;
    reader = bus_itself _;
    punch = bus_itself _;
    disk = bus_itself _;
    act = record { same_way = refl; core_size = refl; drives_count = refl; words_size = refl };
  };
  act = along_itself (rows_of_turn t es w) no_saved_codes (at_turn t es w);
}

pub run_itself : (events : Events) (n : ℕ) (w : World) → RunsAlike events events n w w
unfolding RunsAlike
run_itself events zero w = tt
run_itself events (suc n) w = (run_itself events n w, turn_itself n (events n) (before_turn events n w))
