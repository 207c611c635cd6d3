-- When a file has failed [P].
use Rattle.std.specs.Prelude.{Bool, true, false, Result, Ok, Err}
use Rattle.pdp_program.specs.declared.files.FileFailure.{FileFailure}
use Rattle.pdp_program.specs.declared.files.FileFailure.TheVariants.{NoMemory, Unreadable}

-- it couldn't be read; being out of memory for its bytes is no failure of the file
abbrev pub is_unreadable : {T : Type 0} → Result T FileFailure → Bool
is_unreadable (Ok bytes) = false
is_unreadable (Err NoMemory) = false
is_unreadable (Err Unreadable) = true
