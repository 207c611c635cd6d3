-- The exit statuses and the lines on standard error [P].
use Rattle.std.specs.Prelude.{ℕ, List, [], codes}
use Rattle.std.specs.declared.io.ErrorKind.{ErrorKind}
use Rattle.std.specs.declared.io.ErrorKind.TheVariants.{OutOfMemory}
use Rattle.disassemble.specs.declared.ending.Ending.{Ending}
use Rattle.disassemble.specs.declared.ending.Ending.TheVariants.{Done, BadArguments, InputOrOutput}
use Rattle.disassemble.specs.declared.ending.Ending.TheVariants.{NoMemory}

abbrev pub ending_status : Ending → ℕ
ending_status Done = 0
ending_status BadArguments = 2
ending_status InputOrOutput = 3
ending_status NoMemory = 4

abbrev pub ending_line : Ending → List ℕ
ending_line Done = []
ending_line BadArguments = codes "disassemble: bad arguments"
ending_line InputOrOutput = codes "disassemble: input or output"
ending_line NoMemory = codes "disassemble: no memory"

-- how a failure of a stream ends the run
abbrev pub ending_of : ErrorKind → Ending
ending_of OutOfMemory = NoMemory
ending_of _ = InputOrOutput
