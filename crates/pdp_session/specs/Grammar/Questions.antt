-- The questions of the session language [P]: a name, and the words that follow it.
use Rattle.std.specs.Prelude.{ℕ, if◌then◌else◌, List, codes, Option, None, Some}
use Rattle.std.specs.Option.{option_map}
use Rattle.std.specs.Str.{bytes_eq}
use Rattle.pdp_word.specs.Number.{number_of}
use Rattle.pdp_replay.specs.declared.ask.question.Question.{Question}
use Rattle.pdp_replay.specs.declared.ask.question.Question.TheVariants.{Regs, Core, Text, Punched}
use Rattle.pdp_replay.specs.declared.ask.question.Question.TheVariants.{Devices, Pages, Last, Trail}
use Rattle.pdp_replay.specs.declared.ask.question.Question.TheVariants.{Disk}
use Rattle.pdp_session.specs.declared.version.Version.{Version}
use Rattle.pdp_session.specs.Grammar.Arguments.{◌>>=◌, first_of, one_of, two_of, drive_first}
use Rattle.pdp_session.specs.Grammar.Arguments.{turn_named, count_named}

-- the first of some words, in octal, and their count, in decimal
abbrev pub range_named : List (List ℕ) → Option (ℕ × ℕ)
range_named arguments = do
  (first, count) ← two_of arguments
  i ← number_of 8 first
  c ← count_named count
  Some (i, c)

-- `mem N A C`: a turn, in decimal, and the first word by its address
abbrev pub mem_form : List (List ℕ) → Option Question
mem_form arguments = do
  (turn, others) ← first_of arguments
  n ← turn_named turn
  (a, c) ← range_named others
  Some (Core n a c)

-- `dsk N I C`, in version 2 `dsk N D I C`: a turn, in decimal, a drive, and the first word by its
-- number
abbrev pub dsk_form : Version → List (List ℕ) → Option Question
dsk_form version arguments = do
  (turn, others) ← first_of arguments
  n ← turn_named turn
  (d, range) ← drive_first version others
  (i, c) ← range_named range
  Some (Disk n d i c)

-- `last N A`: a turn, in decimal, and an address, in octal
abbrev pub last_form : List (List ℕ) → Option Question
last_form arguments = do
  (turn, address) ← two_of arguments
  n ← turn_named turn
  a ← number_of 8 address
  Some (Last n a)

-- `trail N C`: a turn and a count of turns, in decimal
abbrev pub trail_form : List (List ℕ) → Option Question
trail_form arguments = do
  (turn, count) ← two_of arguments
  n ← turn_named turn
  c ← count_named count
  Some (Trail n c)

-- `regs N`, `text N`, `punched N`, `devices N` and `pages N`: a turn, in decimal
abbrev pub only_turn : List (List ℕ) → Option ℕ
only_turn arguments = do
  turn ← one_of arguments
  turn_named turn

-- a question by its name and the words that follow it
unfoldable pub question_with : Version → List ℕ → List (List ℕ) → Option Question
question_with version name arguments =
    if bytes_eq name (codes "regs") then option_map Regs (only_turn arguments)
    else if bytes_eq name (codes "mem") then mem_form arguments
    else if bytes_eq name (codes "dsk") then dsk_form version arguments
    else if bytes_eq name (codes "text") then option_map Text (only_turn arguments)
    else if bytes_eq name (codes "punched") then option_map Punched (only_turn arguments)
    else if bytes_eq name (codes "devices") then option_map Devices (only_turn arguments)
    else if bytes_eq name (codes "pages") then option_map Pages (only_turn arguments)
    else if bytes_eq name (codes "last") then last_form arguments
    else if bytes_eq name (codes "trail") then trail_form arguments
    else None
