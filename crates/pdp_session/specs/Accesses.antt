-- What some turns have in them, as lines [P].
use Rattle.std.specs.Prelude.{ℕ, Bool, List, [], Option, None, Some, ◌++◌, codes}
use Rattle.std.specs.Prelude.{decimal, length, nat_lt, if◌then◌else◌}
use Rattle.std.specs.List.{flat_map}
use Rattle.pdp_word.specs.Number.{octal_digits}
use Rattle.pdp_word.specs.Physical.{first_register}
use Rattle.pdp_kt11.specs.declared.mode.Mode.{Mode}
use Rattle.pdp_kt11.specs.declared.mode.Mode.TheVariants.{Kernel, Bad1, Bad2, User}
use Rattle.pdp_store.specs.declared.cycle_log.BusCycle.{BusCycle}
use Rattle.pdp_store.specs.declared.cycle_log.CycleKind.{CycleKind}
use Rattle.pdp_store.specs.declared.cycle_log.CycleKind.TheVariants as kind
use Rattle.pdp_replay.specs.declared.ask.accesses.TurnDetail.{TurnDetail}
use Rattle.pdp_replay.specs.declared.ask.accesses.TurnDetail.TheVariants as detail
use Rattle.pdp_replay.specs.declared.ask.accesses.TurnHead.{TurnHead}
use Rattle.pdp_replay.specs.declared.ask.disk_completions.DiskTurn.{DiskTurn}
use Rattle.pdp_replay.specs.declared.ask.text_part.TextKind.{TextKind}
use Rattle.pdp_replay.specs.declared.ask.text_part.TextKind.TheVariants.{Printed, Punched}
use Rattle.pdp_session.specs.PastShown.{event_text}
use Rattle.pdp_session.specs.Reply.{act_text, listed_head, word_text}
use Rattle.pdp_session.specs.Transfers.{asked_text, done_text}

-- a mode by its name; one that the handbook doesn't name, by its two bits
abbrev pub mode_name : Mode → List ℕ
mode_name Kernel = codes "kernel"
mode_name Bad1 = codes "01"
mode_name Bad2 = codes "10"
mode_name User = codes "user"

-- a turn, the mode and PC before it, and its act
unfoldable pub head_line : TurnHead → List ℕ
head_line head =
    decimal head.turn ++ codes " " ++ mode_name head.mode ++ word_text head.pc ++ codes " "
    ++ act_text head.act ++ codes "\n"

abbrev pub output_name : TextKind → List ℕ
output_name Printed = codes "printed "
output_name Punched = codes "punched "

-- a byte that came out, in three octal digits
unfoldable pub output_line : TextKind → ℕ → List ℕ
output_line kind byte = output_name kind ++ octal_digits 3 byte ++ codes "\n"

-- a function of the disk that was completed, as `transfers` has it but for its turns
unfoldable pub completion_line : DiskTurn → List ℕ
completion_line disk =
    codes "disk " ++ asked_text disk.before ++ done_text disk.before disk.after

-- what the processor asked for; `byte` is the write of a byte
abbrev pub kind_name : CycleKind → List ℕ
kind_name kind.Read = codes "read"
kind_name kind.Write = codes "write"
kind_name kind.WriteByte = codes "byte"

-- whether it is core that has the address, and what was read or written there, if anything has it
abbrev pub place_text : ℕ → Option ℕ → List ℕ
place_text address None = []
place_text address (Some word) = if nat_lt address first_register then codes " core" else []

abbrev pub cycle_value_text : Option ℕ → List ℕ
cycle_value_text None = codes " timeout"
cycle_value_text (Some word) = word_text word

unfoldable pub cycle_line : BusCycle → List ℕ
cycle_line cycle =
    kind_name cycle.kind ++ place_text cycle.address cycle.value ++ codes " "
    ++ octal_digits 6 cycle.address ++ cycle_value_text cycle.value ++ codes "\n"

-- one line for each detail
abbrev pub detail_line : TurnDetail → List ℕ
detail_line (detail.Head head) = head_line head
detail_line (detail.Event event) = codes "event " ++ event_text event ++ codes "\n"
detail_line (detail.Output kind byte) = output_line kind byte
detail_line (detail.Completion disk) = completion_line disk
detail_line (detail.Cycle cycle) = cycle_line cycle

-- how many lines there are, and whether turns were left
abbrev pub accesses_head : ℕ → Bool → List ℕ
accesses_head count more = listed_head (codes "accesses") count more

unfoldable pub accesses_text : List TurnDetail → Bool → List ℕ
accesses_text details more = accesses_head (length details) more ++ flat_map detail_line details
