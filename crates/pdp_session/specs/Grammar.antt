-- The grammar of a line [P]: the command that it is, no command if it has no words or is a comment,
-- or the refusal of its form. Ranges are no part of the grammar.
use Rattle.std.specs.Prelude.{ℕ, Bool, ◌==◌, nat_lt, if◌then◌else◌, List, [], ◌∷◌, length}
use Rattle.std.specs.Prelude.{slice_index, codes, Option, None, Some, Result, Ok, Err}
use Rattle.std.specs.Option.{option_map, option_or, ok_or}
use Rattle.std.specs.Str.{bytes_eq}
use Rattle.arrayvec.specs.ArrayVec.{ArrayVec}
use Rattle.pdp_word.specs.Number.{number_of}
use Rattle.pdp_script.specs.declared.faults.Fault.{Fault}
use Rattle.pdp_script.specs.declared.faults.Fault.TheVariants.{BadLine, LineTooLong}
use Rattle.pdp_session.specs.declared.command.Command.{Command}
use Rattle.pdp_session.specs.declared.command.Command.TheVariants.{Edit, UseEightDrives}
use Rattle.pdp_session.specs.declared.command.Command.TheVariants.{ListPatches, Ask}
use Rattle.pdp_session.specs.declared.edit.Edit.TheVariants.{Past, RevertCore, SetTape, SetDelay}
use Rattle.pdp_session.specs.declared.version.Version.{Version}
use Rattle.pdp_session.specs.Grammar.Arguments.{◌>>=◌, first_of, one_of, two_of, drive_first}
use Rattle.pdp_session.specs.Grammar.Arguments.{word_named, bytes_named, device_named, turn_named}
use Rattle.pdp_session.specs.Grammar.PastEdits.{past_edit_with}
use Rattle.pdp_session.specs.Grammar.Questions.{question_with}
use Rattle.pdp_session.specs.Grammar.Words.{words_of_line}
use Rattle.pdp_session.specs.Lines.{longest_line}
pub mod Arguments
pub mod Conditions
pub mod Counts
pub mod Events
pub mod PastEdits
pub mod Questions
pub mod Searches
pub mod StateQuestions
pub mod Words

-- `uncore A`: an address, in octal
abbrev pub uncore_form : List (List ℕ) → Option Command
uncore_form arguments = do
  address ← one_of arguments
  a ← number_of 8 address
  Some (Edit (RevertCore a))

abbrev pub tape_of : List ℕ → ArrayVec ℕ
tape_of bytes = record { items = bytes }

-- `tape B B ..`: bytes, in octal; without any the tape is empty
abbrev pub tape_form : List (List ℕ) → Option Command
tape_form arguments = option_map (λ bytes. Edit (SetTape (tape_of bytes))) (bytes_named arguments)

-- `delay printer N`, also `reader`, `punch`, `disk` and `clock`: so many turns, in decimal
abbrev pub delay_form : List (List ℕ) → Option Command
delay_form arguments = do
  (name, turns) ← two_of arguments
  device ← device_named name
  n ← turn_named turns
  Some (Edit (SetDelay device n))

-- `version 2`, in decimal: no other version can be asked for
abbrev pub version_form : List (List ℕ) → Option Command
version_form arguments = do
  version ← one_of arguments
  number ← number_of 10 version
  if number == 2 then Some UseEightDrives else None

-- `patches`
abbrev pub patches_form : List (List ℕ) → Option Command
patches_form [] = Some ListPatches
patches_form _ = None

-- a command by its name and the words that follow it; a name that is none of these may be that of
-- another edit, or of a question
unfoldable pub command_with : Version → List ℕ → List (List ℕ) → Option Command
command_with version name arguments =
    if bytes_eq name (codes "uncore") then uncore_form arguments
    else if bytes_eq name (codes "tape") then tape_form arguments
    else if bytes_eq name (codes "delay") then delay_form arguments
    else if bytes_eq name (codes "version") then version_form arguments
    else if bytes_eq name (codes "patches") then patches_form arguments
    else option_or (option_map (λ edit. Edit (Past edit)) (past_edit_with version name arguments))
    (option_map Ask (question_with version name arguments))

-- its first byte is `#`
abbrev pub is_comment : List ℕ → Bool
is_comment line = slice_index line 0 == 35

-- no words are no command
abbrev pub command_of : Version → List (List ℕ) → Result (Option Command) Fault
command_of version [] = Ok None
command_of version (name ∷ arguments) =
    ok_or (option_map (λ command. Some command) (command_with version name arguments)) BadLine

-- a line, without what ended it, in this version
unfoldable pub line_means : Version → List ℕ → Result (Option Command) Fault
line_means version line =
    if nat_lt longest_line (length line) then Err LineTooLong
    else if is_comment line then Ok None
    else command_of version (words_of_line line)
