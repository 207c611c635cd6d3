-- The words of an event [P].
use Rattle.std.specs.Prelude.{ℕ, if◌then◌else◌, List, [], ◌∷◌, codes, Option, None, Some}
use Rattle.std.specs.Option.{option_map}
use Rattle.std.specs.Str.{bytes_eq}
use Rattle.pdp_unibus.specs.declared.event.Event.{Event}
use Rattle.pdp_unibus.specs.declared.event.Event.TheVariants.{Key, Tick, PrinterDone, ReaderDone}
use Rattle.pdp_unibus.specs.declared.event.Event.TheVariants.{PunchDone, DiskDone, Switches}
use Rattle.pdp_unibus.specs.declared.event.Event.TheVariants.{Continue}
use Rattle.pdp_session.specs.Grammar.Arguments.{byte_named, word_named}

-- an event that is a name alone
unfoldable pub event_alone : List ℕ → Option Event
event_alone name =
    if bytes_eq name (codes "tick") then Some Tick
    else if bytes_eq name (codes "printer") then Some PrinterDone
    else if bytes_eq name (codes "reader") then Some ReaderDone
    else if bytes_eq name (codes "punch") then Some PunchDone
    else if bytes_eq name (codes "disk") then Some DiskDone
    else if bytes_eq name (codes "continue") then Some Continue
    else None

-- an event that is a name and a number: `key B`, a byte, and `switches W`, a word, both in octal
unfoldable pub event_with : List ℕ → List ℕ → Option Event
event_with name number =
    if bytes_eq name (codes "key") then option_map Key (byte_named number)
    else if bytes_eq name (codes "switches") then option_map Switches (word_named number)
    else None

abbrev pub event_of : List (List ℕ) → Option Event
event_of (name ∷ []) = event_alone name
event_of (name ∷ number ∷ []) = event_with name number
event_of _ = None
