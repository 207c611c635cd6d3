-- The completions of the disk, as lines [P].
use Rattle.std.specs.Prelude.{ℕ, Bool, List, Option, None, Some, ◌++◌, ◌*◌, ◌/◌, codes, decimal}
use Rattle.std.specs.Prelude.{length}
use Rattle.std.specs.List.{flat_map}
use Rattle.pdp_word.specs.Number.{octal_digits}
use Rattle.pdp_rk11.specs.Handbook.Completion.{first_word_of_sector}
use Rattle.pdp_rk11.specs.Handbook.Geometry.{drive_in}
use Rattle.pdp_rk11.specs.Handbook.Rk.{error_word}
use Rattle.pdp_rk11.specs.WordsDone.{words_counted}
use Rattle.pdp_rk11.specs.declared.function.Function.{Function}
use Rattle.pdp_rk11.specs.declared.function.Function.TheVariants.{ControlReset, Write, Read}
use Rattle.pdp_rk11.specs.declared.function.Function.TheVariants.{WriteCheck, Seek, ReadCheck}
use Rattle.pdp_rk11.specs.declared.function.Function.TheVariants.{DriveReset, WriteLock}
use Rattle.pdp_rk11.specs.declared.rk.Rk.{Rk}
use Rattle.pdp_replay.specs.declared.ask.disk_completions.DiskCompletion.{DiskCompletion}
use Rattle.pdp_session.specs.Reply.{listed_head, word_text}

-- the name of a function
abbrev pub function_name : Function → List ℕ
function_name ControlReset = codes "control-reset"
function_name Write = codes "write"
function_name Read = codes "read"
function_name WriteCheck = codes "write-check"
function_name Seek = codes "seek"
function_name ReadCheck = codes "read-check"
function_name DriveReset = codes "drive-reset"
function_name WriteLock = codes "write-lock"

-- the turn that began a function, or that it was begun before the turns that were searched
abbrev pub begun_text : Option ℕ → List ℕ
begun_text None = codes "before"
begun_text (Some turn) = decimal turn

-- the turns of a completion
unfoldable pub turns_text : DiskCompletion → List ℕ
turns_text completion =
    decimal completion.turn ++ codes " " ++ begun_text completion.begun ++ codes " "

-- the address of the first word in core: bit 0 of the bus address isn't used
abbrev pub first_core_address : Rk → ℕ
first_core_address rk = rk.address / 2 * 2

-- what was asked for: the function, the drive, the number on it of the first word, and the address
-- of the first word in core
unfoldable pub asked_text : Rk → List ℕ
asked_text rk =
    function_name rk.function ++ codes " " ++ decimal (drive_in rk.disk_address) ++ codes " "
    ++ octal_digits 7 (first_word_of_sector rk) ++ codes " " ++ octal_digits 6
    (first_core_address rk) ++ codes " "

-- what was done, by the controller before and after: how many words, and RKER
unfoldable pub done_text : Rk → Rk → List ℕ
done_text before after =
    decimal (words_counted before after) ++ word_text (error_word after) ++ codes "\n"

-- a completion
abbrev pub transfer_line : DiskCompletion → List ℕ
transfer_line completion =
    turns_text completion ++ asked_text completion.before
    ++ done_text completion.before completion.after

-- how many completions are listed, and whether turns were left that may have more
abbrev pub transfers_head : ℕ → Bool → List ℕ
transfers_head count more = listed_head (codes "transfers") count more

abbrev pub transfers_text : List DiskCompletion → Bool → List ℕ
transfers_text completions more =
    transfers_head (length completions) more ++ flat_map transfer_line completions
