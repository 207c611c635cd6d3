-- What data is made of, with events: a cell that a machine held before, or the data of an event. No
-- rule of the handbook is here.
use Rattle.std.specs.Prelude.{ℕ, ◌≡◌, List, [], ◌∷◌, get_or}
use Rattle.pdp_unibus.specs.declared.event.Event.{Event}
use Rattle.pdp_unibus.specs.declared.event.Event.TheVariants as event
use Rattle.pdp_made.specs.Cells.{Data, DataCell, Same}

-- the events of each turn, in their order
abbrev pub Events : Type 0
Events = ℕ → List Event

-- the data of an event: the byte of a key, or the word of the switches; of every other event 0
abbrev pub event_data : Event → ℕ
event_data (event.Key key) = key
event_data (event.Switches word) = word
event_data e = 0

-- the same event with other data
abbrev pub with_event_data : ℕ → Event → Event
with_event_data value (event.Key key) = event.Key value
with_event_data value (event.Switches word) = event.Switches value
with_event_data value e = e

-- the data of the event of this number in a turn, counted from 0
abbrev pub data_numbered : ℕ → List Event → ℕ
data_numbered n events = event_data (get_or events n event.Continue)

-- An origin: a cell that was held before, or of this turn the event of this number.
pub data Origin : Type 0 where
  Held : DataCell → Origin
  OfEvent : ℕ → ℕ → Origin

-- An origin is the same: the cell holds the same in data d and in data e, or the event has the same
-- data among these events and the others.
abbrev pub SameOrigin : Events → Events → Data → Data → Origin → Type 0
SameOrigin other given d e (Held c) = Same d e c
SameOrigin other given d e (OfEvent t n) =
    data_numbered n (other t) ≡ data_numbered n (given t)

-- each of these origins is
abbrev pub EachOrigin : Events → Events → Data → Data → List Origin → Type 0
EachOrigin other given d e [] = Unit {0}
EachOrigin other given d e (x ∷ xs) = SameOrigin other given d e x
    × EachOrigin other given d e xs

-- the origins of an origin: those of the cell that was held; an event is its own
abbrev pub back_through : (DataCell → List Origin) → Origin → List Origin
back_through made (Held c) = made c
back_through made (OfEvent t n) = OfEvent t n ∷ []

-- a cell of which nothing else is made
abbrev pub still_held : DataCell → List Origin
still_held c = Held c ∷ []
