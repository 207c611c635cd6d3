-- What the words of the command line ask for [P].
use Rattle.std.specs.Prelude.{◌≡◌, ◌≢◌, List, [], ◌∷◌, map, Option, Some, None, Result, Ok, Err}
use Rattle.std.specs.Prelude.{◌⊎◌, ◌++◌, Bool, false, true, bytes_eq, codes, is_some, option_map}
use Rattle.std.specs.Prelude.{string_bytes}
use Rattle.clap.specs.Words.{App, Kinds, IsAmong, Row, Rule, Text, fault_of, first_of, matches_of}
use Rattle.clap.specs.Words.{new_app, new_rule, with_rule}
use Rattle.clap.specs.declared.builder.action.ArgAction.TheVariants.{Set, SetTrue}
use Rattle.clap.specs.declared.error.kind.ErrorKind.{ErrorKind}
use Rattle.clap.specs.declared.error.kind.ErrorKind.TheVariants.{DisplayHelp, DisplayVersion}
use Rattle.pdp_program.specs.Numbers.{options_given}
use Rattle.pdp_program.specs.declared.exit.Exit.{Exit}
use Rattle.pdp_program.specs.declared.exit.Exit.TheVariants.{BadArguments, NoMemory}
use Rattle.pdp_program.specs.declared.options.Options.{Options}
use Rattle.pdp_program.specs.declared.command_line.FileNames.{FileNames}
use Rattle.pdp_program.specs.declared.command_line.Request.{Request}
use Rattle.pdp_program.specs.declared.command_line.Request.TheVariants.{Session, Show}
use Rattle.pdp_program.specs.declared.program.Program.{Program}

-- an option of one value, as --units N; N is what help calls the value
abbrev pub option_rule : Text → Rule
option_rule name = record (new_rule name) { long = Some name; action = Some Set; value_names = 1 }

-- the options that name the images of the drives, by drive
abbrev pub drive_options : List Text
drive_options =
    codes "disk" ∷ codes "disk1" ∷ codes "disk2" ∷ codes "disk3"
    ∷ codes "disk4" ∷ codes "disk5" ∷ codes "disk6" ∷ codes "disk7" ∷ []

-- with options of one value more
abbrev pub with_options : List Text → App → App
with_options [] app = app
with_options (name ∷ names) app = with_options names (with_rule app (option_rule name))

-- the options that name files, and those that are numbers
abbrev pub with_files : App → App
with_files app =
    with_rule (with_options drive_options (with_rule app (option_rule (codes "core"))))
    (option_rule (codes "tape"))

abbrev pub with_numbers : App → App
with_numbers app = with_rule (with_rule (with_rule app (option_rule (codes "units"))) (option_rule
    (codes "start"))) (option_rule (codes "stride"))

-- with -V and --version, or without
abbrev pub with_version : Bool → App → App
with_version true app = record app { top = record app.top { has_version = true } }
with_version false app = app

-- with --lines, a flag, or without
abbrev pub lines_rule : Rule
lines_rule =
    record (new_rule (codes "lines")) { long = Some (codes "lines"); action = Some SetTrue }

abbrev pub with_lines : Bool → App → App
with_lines true app = with_rule app lines_rule
with_lines false app = app

-- the options of a program of this name, beside which clap knows -h and --help, and -V and
-- --version if it has these: then it has --lines too
abbrev pub command_line : Bool → Text → App
command_line has_version name =
    with_lines has_version (with_numbers (with_files (with_version has_version (new_app name))))

abbrev pub program_command : Program → App
program_command program = command_line (is_some program.version) program.name.now

-- the rows of all lines of a program
abbrev pub table_of : Program → Text
table_of program = program.lines.rows.now ++ program.more_lines.rows.now

-- whether the value of a flag says that it is given
abbrev pub is_flag_given : Option Text → Bool
is_flag_given (Some value) = bytes_eq value (codes "true")
is_flag_given None = false

-- the options of these rows
abbrev pub options_asked : List Row → Option Options
options_asked rows = options_given (first_of (codes "units") rows) (first_of (codes "start") rows)
    (first_of (codes "stride") rows)

-- the names of the files that the words of these rows give, each if its option is given
pub record AreNamesIn (rows : List Row) (names : FileNames) : Type 0 where
  pub core : option_map string_bytes names.core ≡ first_of (codes "core") rows
  pub drives : map (λ name. option_map string_bytes name) names.drives.items ≡ map
      (λ option. first_of option rows) drive_options
  pub tape : option_map string_bytes names.tape ≡ first_of (codes "tape") rows

-- a fault that is not asking for help or for the release
abbrev pub IsRefused : Kinds → Type 0
IsRefused faults =
    (kind : ErrorKind) × (kind ≢ DisplayHelp) × (kind ≢ DisplayVersion) × IsAmong kind faults

-- an answer about words in which clap finds these faults, of which asking for help or for the
-- release is one
abbrev pub AnswersFaults : Kinds → Result Request Exit → Type 0
AnswersFaults faults (Ok (Show text)) =
    IsAmong DisplayHelp faults ⊎ IsAmong DisplayVersion faults
AnswersFaults faults (Ok (Session options names)) = ⊥
AnswersFaults faults (Err BadArguments) = IsRefused faults
AnswersFaults faults (Err NoMemory) = Unit {0}
AnswersFaults faults (Err _) = ⊥

-- An answer about words without a fault, whose options have these rows, of a program with this
-- table of lines: the table wins over a number that can't be read.
abbrev pub IsAsked : Text → List Row → Result Request Exit → Type 0
IsAsked table rows (Ok (Show text)) =
    (is_flag_given (first_of (codes "lines") rows) ≡ true) × (string_bytes text ≡ table)
IsAsked table rows (Ok (Session options names)) =
    (is_flag_given (first_of (codes "lines") rows) ≡ false) × (options_asked rows ≡ Some options)
    × AreNamesIn rows names
IsAsked table rows (Err BadArguments) =
    (is_flag_given (first_of (codes "lines") rows) ≡ false) × (options_asked rows ≡ None)
IsAsked table rows (Err NoMemory) = Unit {0}
IsAsked table rows (Err _) = ⊥

-- what a program does with these words: faults win
abbrev pub Asks : Program → List Text → Result Request Exit → Type 0
Asks program words asked =
    AnswersFaults (fault_of (program_command program) words) asked
    ⊎ ((fault_of (program_command program) words ≡ [])
    × IsAsked (table_of program) (matches_of (program_command program) words) asked)
