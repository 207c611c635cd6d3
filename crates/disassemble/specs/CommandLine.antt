-- What the words of the command line ask for [P].
use Rattle.std.specs.Prelude.{◌≡◌, ◌≢◌, ◌⊎◌, List, [], Option, Some, None, Result, Ok, Err, codes}
use Rattle.std.specs.Prelude.{true, bytes_eq, if◌then◌else◌}
use Rattle.clap.specs.Words.{App, Kinds, IsAmong, Row, Rule, Text, fault_of, first_of, matches_of}
use Rattle.clap.specs.Words.{new_app, new_rule, with_rule}
use Rattle.clap.specs.declared.builder.action.ArgAction.TheVariants.{SetTrue}
use Rattle.clap.specs.declared.error.kind.ErrorKind.{ErrorKind}
use Rattle.clap.specs.declared.error.kind.ErrorKind.TheVariants.{DisplayHelp, DisplayVersion}
use Rattle.disassemble.specs.declared.answer.Direction.{Direction}
use Rattle.disassemble.specs.declared.answer.Direction.TheVariants.{WordsToText, TextToWords}
use Rattle.disassemble.specs.declared.command_line.TextRequest.{TextRequest}
use Rattle.disassemble.specs.declared.command_line.TextRequest.TheVariants.{Show, Answer}
use Rattle.disassemble.specs.declared.ending.Ending.{Ending}
use Rattle.disassemble.specs.declared.ending.Ending.TheVariants.{BadArguments, NoMemory}

-- --assemble, a flag
abbrev pub assemble_rule : Rule
assemble_rule =
    record (new_rule (codes "assemble")) { long = Some (codes "assemble"); action = Some SetTrue }

-- --assemble, beside -h and --help, -V and --version, which clap knows
abbrev pub text_command : App
text_command =
    let app : App = new_app (codes "disassemble") in
    with_rule (record app { top = record app.top { has_version = true } }) assemble_rule

-- what the value of the flag says
abbrev pub direction_of : Option Text → Direction
direction_of (Some value) = if bytes_eq value (codes "true") then TextToWords else WordsToText
direction_of None = WordsToText

-- an answer about words in which clap finds these faults, of which asking for help or for the
-- release is one
abbrev pub TellsFaults : Kinds → Result TextRequest Ending → Type 0
TellsFaults faults (Ok (Show text)) = IsAmong DisplayHelp faults ⊎ IsAmong DisplayVersion faults
TellsFaults faults (Ok (Answer direction)) = ⊥
TellsFaults faults (Err BadArguments) =
    (kind : ErrorKind) × (kind ≢ DisplayHelp) × (kind ≢ DisplayVersion) × IsAmong kind faults
TellsFaults faults (Err NoMemory) = Unit {0}
TellsFaults faults (Err _) = ⊥

-- an answer about words without a fault, whose options have these rows
abbrev pub IsTextAsked : List Row → Result TextRequest Ending → Type 0
IsTextAsked rows (Ok (Answer direction)) =
    direction ≡ direction_of (first_of (codes "assemble") rows)
IsTextAsked rows _ = ⊥

-- what the program does with these words: faults win
abbrev pub AsksText : List Text → Result TextRequest Ending → Type 0
AsksText words asked =
    TellsFaults (fault_of text_command words) asked
    ⊎ ((fault_of text_command words ≡ []) × IsTextAsked (matches_of text_command words) asked)
