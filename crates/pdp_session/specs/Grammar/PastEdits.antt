-- The edits that can also be asked about [P]: a name, and the words that follow it.
use Rattle.std.specs.Prelude.{ℕ, if◌then◌else◌, List, codes, Option, None, Some}
use Rattle.std.specs.Option.{option_map}
use Rattle.std.specs.Str.{bytes_eq}
use Rattle.pdp_word.specs.Number.{number_of}
use Rattle.pdp_script.specs.declared.script.ScriptEdit.{ScriptEdit}
use Rattle.pdp_script.specs.declared.script.ScriptEdit.TheVariants.{Insert, Alter, Drop}
use Rattle.pdp_replay.specs.declared.past.past_edit.PastEdit.{PastEdit}
use Rattle.pdp_replay.specs.declared.past.past_edit.PastEdit.TheVariants.{Script, Word}
use Rattle.pdp_replay.specs.declared.past.patch.Patch.{Patch}
use Rattle.pdp_replay.specs.declared.past.patch.Patch.TheVariants.{Core, Disk}
use Rattle.pdp_session.specs.declared.version.Version.{Version}
use Rattle.pdp_session.specs.Grammar.Arguments.{◌>>=◌, first_of, one_of, two_of, drive_first}
use Rattle.pdp_session.specs.Grammar.Arguments.{event_named, turn_named, word_named}
use Rattle.pdp_session.specs.Grammar.Events.{event_of}

-- `core A W`: an address and a word, in octal
abbrev pub core_form : List (List ℕ) → Option Patch
core_form arguments = do
  (address, word) ← two_of arguments
  a ← number_of 8 address
  w ← word_named word
  Some (Core a w)

-- `disk I W`, in version 2 `disk D I W`: a drive, the number of a word of it and a word, in octal
abbrev pub disk_form : Version → List (List ℕ) → Option Patch
disk_form version arguments = do
  (d, others) ← drive_first version arguments
  (number, word) ← two_of others
  i ← number_of 8 number
  w ← word_named word
  Some (Disk d i w)

-- `at T event`: a turn, in decimal, and an event
abbrev pub at_form : List (List ℕ) → Option ScriptEdit
at_form arguments = do
  (turn, event) ← first_of arguments
  t ← turn_named turn
  e ← event_of event
  Some (Insert t e)

-- `alter E T event`: the number of an event and a turn, in decimal, and an event
abbrev pub alter_form : List (List ℕ) → Option ScriptEdit
alter_form arguments = do
  (number, others) ← first_of arguments
  (turn, event) ← first_of others
  n ← event_named number
  t ← turn_named turn
  e ← event_of event
  Some (Alter n t e)

-- `drop E`: the number of an event, in decimal
abbrev pub drop_form : List (List ℕ) → Option ScriptEdit
drop_form arguments = do
  number ← one_of arguments
  n ← event_named number
  Some (Drop n)

-- an edit by its name and the words that follow it
unfoldable pub past_edit_with : Version → List ℕ → List (List ℕ) → Option PastEdit
past_edit_with version name arguments =
    if bytes_eq name (codes "core") then option_map Word (core_form arguments)
    else if bytes_eq name (codes "disk") then option_map Word (disk_form version arguments)
    else if bytes_eq name (codes "at") then option_map Script (at_form arguments)
    else if bytes_eq name (codes "alter") then option_map Script (alter_form arguments)
    else if bytes_eq name (codes "drop") then option_map Script (drop_form arguments)
    else None
