-- What the program has done with its streams when it ends [P].
use Rattle.std.specs.Prelude.{◌≡◌, ℕ, ◌++◌, List, [], Option, Result, Ok, Err, string_bytes}
use Rattle.std.specs.Io.KnownBytes.{Appends}
use Rattle.clap.specs.Words.{Text}
use Rattle.pdp_script.specs.declared.faults.Fault.{Fault}
use Rattle.pdp_io_page.specs.Handbook.Delays.{standard_delays}
use Rattle.pdp_replay.specs.Past.{starting_past}
use Rattle.pdp_replay.specs.Past.Setup.{SetupData}
use Rattle.pdp_session.specs.Language.{Language}
use Rattle.pdp_session.specs.Session.{Session}
use Rattle.pdp_session.specs.Streams.{DrainData, StreamsData}
use Rattle.pdp_program.specs.Exit.{exit_status, line_of, exit_of}
use Rattle.pdp_program.specs.CommandLine.{Asks}
use Rattle.pdp_program.specs.Media.{Contents, AreMediaOf}
use Rattle.pdp_program.specs.declared.command_line.FileNames.{FileNames}
use Rattle.pdp_program.specs.declared.exit.Exit.{Exit}
use Rattle.pdp_program.specs.declared.exit.Exit.TheVariants.{Done, InputOrOutput}
use Rattle.pdp_program.specs.declared.options.Options.{Options}
use Rattle.pdp_program.specs.declared.command_line.Request.{Request}
use Rattle.pdp_program.specs.declared.program.Program.{Program}
use Rattle.pdp_program.specs.declared.command_line.Request.TheVariants.{Show}
use Rattle.pdp_program.specs.declared.command_line.Request.TheVariants.{Session as SessionWith}

-- what a run with these options, images and tape starts from: one drive, no patch, and the standard
-- delays
abbrev pub setup_with : Options → Contents → SetupData
setup_with options media = record {
  units = options.units;
  start = options.start;
  core = media.core;
  disks = media.drives;
  tape = media.tape;
  stride = options.stride;
  drives = 1;
  delays = standard_delays;
  patches = [];
}

-- a text was written whole, or the writer failed after a beginning of it
abbrev pub Shows : List ℕ → DrainData → DrainData → Exit → Type 0
Shows text before after Done = Appends before.written after.written text
Shows text before after InputOrOutput =
    (taken : List ℕ) × (rest : List ℕ) × (text ≡ taken ++ rest)
    × Appends before.written after.written taken
Shows text before after _ = ⊥

-- the session of these options, images and tape was answered in this language, and the program ends
-- as its result says
pub record RunsSession (language : Language) (options : Options) (media : Contents)
    (before after : StreamsData) (exit : Exit) : Type 0 where
  pub answer : Result (Unit {0}) Fault
  pub session : Session language (starting_past (setup_with options media)) before after answer
  pub ends : exit ≡ exit_of answer

-- what is done with what the files hold, or with the exit in place of it: then nothing was read or
-- written
abbrev pub GoesOnWith : Language → Options → Result Contents Exit → StreamsData → StreamsData → Exit
    → Type 0
GoesOnWith language options (Ok media) before after exit =
    RunsSession language options media before after exit
GoesOnWith language options (Err cause) before after exit = (after ≡ before) × (exit ≡ cause)

-- the files were read, and then the session was answered
pub record Starts (language : Language) (contents : Text → Option (List ℕ)) (options : Options)
    (names : FileNames) (before after : StreamsData) (exit : Exit) : Type 0 where
  pub media : Result Contents Exit
  pub is_media : AreMediaOf contents options.units names media
  pub goes : GoesOnWith language options media before after exit

-- what was done if the words ask for this: the known contents of files, and the streams before and
-- after
abbrev pub DoesRequest : Language → (Text → Option (List ℕ)) → Result Request Exit → StreamsData
    → StreamsData → Exit → Type 0
DoesRequest language contents (Ok (Show text)) before after exit =
    (after.input ≡ before.input) × Shows (string_bytes text) before.output after.output exit
DoesRequest language contents (Ok (SessionWith options names)) before after exit =
    Starts language contents options names before after exit
DoesRequest language contents (Err cause) before after exit = (after ≡ before) × (exit ≡ cause)

-- the whole run of a program of this language: what the words ask for was done, and its exit is
-- told
pub record Tells (language : Language) (program : Program) (words : List Text)
    (contents : Text → Option (List ℕ)) (before after : StreamsData) (status : ℕ)
    (line : Option Text) : Type 0 where
  pub asked : Result Request Exit
  pub exit : Exit
  pub asks : Asks program words asked
  pub does : DoesRequest language contents asked before after exit
  pub told_status : status ≡ exit_status exit
  pub told_line : line ≡ line_of program.name.now exit
