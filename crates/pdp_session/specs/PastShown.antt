-- The events of the script and the numbers of the setup, as lines [P].
use Rattle.std.specs.Prelude.{ℕ, List, ◌++◌, codes, decimal}
use Rattle.pdp_word.specs.Number.{octal_digits}
use Rattle.pdp_unibus.specs.declared.event.Event.{Event}
use Rattle.pdp_unibus.specs.declared.event.Event.TheVariants.{Key, Tick, PrinterDone, ReaderDone}
use Rattle.pdp_unibus.specs.declared.event.Event.TheVariants.{PunchDone, DiskDone, Switches}
use Rattle.pdp_unibus.specs.declared.event.Event.TheVariants.{Continue}
use Rattle.pdp_script.specs.declared.entry.Entry.{Entry}
use Rattle.pdp_replay.specs.declared.past.setup_numbers.SetupNumbers.{SetupNumbers}
use Rattle.pdp_session.specs.Reply.{list_text, word_text}
use Rattle.pdp_session.specs.declared.version.Version.{Version}
use Rattle.pdp_session.specs.declared.version.Version.TheVariants.{One, Two}

-- an event as in the line that makes it: a byte in three octal digits, a word in six
abbrev pub event_text : Event → List ℕ
event_text (Key byte) = codes "key " ++ octal_digits 3 byte
event_text Tick = codes "tick"
event_text PrinterDone = codes "printer"
event_text ReaderDone = codes "reader"
event_text PunchDone = codes "punch"
event_text DiskDone = codes "disk"
event_text (Switches word) = codes "switches" ++ word_text word
event_text Continue = codes "continue"

-- its number, its turn, and what happens
abbrev pub event_line : Entry → List ℕ
event_line entry = decimal entry.number ++ codes " " ++ decimal entry.turn ++ codes " " ++
    event_text entry.event ++ codes "\n"

abbrev pub events_text : List Entry → List ℕ
events_text entries = list_text (codes "events") event_line entries

abbrev pub version_number : Version → ℕ
version_number One = 1
version_number Two = 2

-- a number in decimal after its name
abbrev pub named_number : List ℕ → ℕ → List ℕ
named_number name number = name ++ decimal number

unfoldable pub setup_line : Version → SetupNumbers → List ℕ
setup_line version setup =
    named_number (codes "setup version ") (version_number version)
    ++ named_number (codes " units ") setup.units
    ++ (codes " start" ++ word_text setup.start)
    ++ named_number (codes " stride ") setup.stride
    ++ named_number (codes " printer ") setup.delays.printer
    ++ named_number (codes " reader ") setup.delays.reader
    ++ named_number (codes " punch ") setup.delays.punch
    ++ named_number (codes " disk ") setup.delays.disk
    ++ named_number (codes " clock ") setup.delays.clock
    ++ named_number (codes " tape ") setup.tape_len
    ++ codes "\n"
