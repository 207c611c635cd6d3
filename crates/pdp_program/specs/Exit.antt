-- The exit statuses and the lines on standard error [P].
use Rattle.std.specs.Prelude.{ℕ, ◌≡◌, ◌++◌, Option, Some, None, Result, Ok, Err, codes, option_map}
use Rattle.clap.specs.Words.{Text}
use Rattle.pdp_script.specs.declared.faults.Fault.{Fault}
use Rattle.pdp_script.specs.declared.faults.Fault.TheVariants.{NoMemory as FaultNoMemory, Input}
use Rattle.pdp_script.specs.declared.faults.Fault.TheVariants.{Output, BadImage as FaultBadImage}
use Rattle.pdp_script.specs.declared.faults.Fault.TheVariants.{BadSetup as FaultBadSetup}
use Rattle.pdp_program.specs.declared.exit.ErrorLine.{ErrorLine}
use Rattle.pdp_program.specs.declared.exit.Exit.{Exit}
use Rattle.pdp_program.specs.declared.exit.Exit.TheVariants.{Done, BadArguments, InputOrOutput}
use Rattle.pdp_program.specs.declared.exit.Exit.TheVariants.{NoMemory, BadImage, BadSetup}

abbrev pub exit_status : Exit → ℕ
exit_status Done = 0
exit_status BadArguments = 2
exit_status InputOrOutput = 3
exit_status NoMemory = 4
exit_status BadImage = 5
exit_status BadSetup = 5

-- what went wrong, if anything did
abbrev pub message_of : Exit → Option Text
message_of Done = None
message_of BadArguments = Some (codes "bad arguments")
message_of InputOrOutput = Some (codes "input or output")
message_of NoMemory = Some (codes "refused 1 NoMemory")
message_of BadImage = Some (codes "refused 14 BadImage")
message_of BadSetup = Some (codes "refused 15 BadSetup")

-- a line: the program's name, a colon, a space and what went wrong
abbrev pub error_text : Text → Text → Text
error_text name message = name ++ codes ": " ++ message

-- the line of an exit, and the one that a value of the program shows
abbrev pub line_of : Text → Exit → Option Text
line_of name exit = option_map (error_text name) (message_of exit)

abbrev pub text_shown : ErrorLine → Text
text_shown line = error_text line.program_name.now line.message.now

-- a status and a line that stand in one row of the table of a program of this name
abbrev pub IsListed : Text → ℕ → Option Text → Type 0
IsListed name status line = (exit : Exit) × (status ≡ exit_status exit) × (line ≡ line_of name exit)

-- how the program ends after a session: faults 2 to 11 and 16 are replies, and end none, so the
-- last row is 12 and 13
abbrev pub exit_of : Result (Unit {0}) Fault → Exit
exit_of (Ok x) = Done
exit_of (Err FaultNoMemory) = NoMemory
exit_of (Err FaultBadImage) = BadImage
exit_of (Err FaultBadSetup) = BadSetup
exit_of (Err _) = InputOrOutput

-- the faults that end a session: those of its start, and those of its streams
abbrev pub CanEnd : Result (Unit {0}) Fault → Type 0
CanEnd (Ok x) = Unit {0}
CanEnd (Err FaultNoMemory) = Unit {0}
CanEnd (Err Input) = Unit {0}
CanEnd (Err Output) = Unit {0}
CanEnd (Err FaultBadImage) = Unit {0}
CanEnd (Err FaultBadSetup) = Unit {0}
CanEnd (Err _) = ⊥
