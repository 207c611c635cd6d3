-- What a question must be answered, from the run from power-up alone [P].
use Rattle.std.specs.Prelude.{ℕ, ◌≡◌, ◌+◌, ◌*◌, ◌-◌, ◌/◌, ◌%◌, ◌==◌, ◌<◌, ◌≤◌, ◌&&◌, List, length}
use Rattle.std.specs.Prelude.{map, replicate, take, drop, Result, Ok, Err, nat_le, nat_lt}
use Rattle.std.specs.Prelude.{if◌then◌else◌}
use Rattle.pdp_cpu.specs.Handbook.MachineState.{MachineState}
use Rattle.pdp_unibus.specs.Handbook.Shown.{devices_of, page_registers_of}
use Rattle.pdp_cpu.specs.Handbook.Regs.{regs_of}
use Rattle.pdp_script.specs.Refusal.{result_map}
use Rattle.pdp_unibus.specs.Handbook.LastTurn.{last_turn}
use Rattle.pdp_script.specs.declared.faults.Fault.{Fault}
use Rattle.pdp_script.specs.declared.faults.Fault.TheVariants.{OutsideCore, OddAddress, OutsideDisk}
use Rattle.pdp_script.specs.declared.faults.Fault.TheVariants.{TurnTooLarge, CountOutOfRange}
use Rattle.pdp_script.specs.declared.faults.Fault.TheVariants.{NoSuchDrive}
use Rattle.pdp_script.specs.Script.{ScriptData}
use Rattle.pdp_replay.specs.Past.Edit.{core_word_at}
use Rattle.pdp_replay.specs.Ask.LastWrites.{last_write_at}
use Rattle.pdp_replay.specs.Ask.Limits.{most_words_of_answer}
use Rattle.pdp_replay.specs.Past.{Past}
use Rattle.pdp_replay.specs.Past.Setup.{SetupData, core_size, drive_words}
use Rattle.pdp_replay.specs.Run.States.{at, disk_of, punched_at, state_at, text_at}
use Rattle.pdp_replay.specs.Ask.Trails.{trail_of}
use Rattle.pdp_replay.specs.Ask.VirtualReads.{place_of_read, virtual_addresses, virtual_checked}
use Rattle.pdp_replay.specs.Ask.VirtualReads.{virtual_words}
use Rattle.pdp_replay.specs.Ask.WordsFound.{core_search_checked, disk_search_checked, words_found}
use Rattle.pdp_replay.specs.declared.ask.told.Told.{Told}
use Rattle.pdp_replay.specs.declared.ask.question.Question.{Question}
use Rattle.pdp_replay.specs.declared.ask.question.Question.TheVariants as question
use Rattle.pdp_replay.specs.declared.ask.question.Value.{Value}
use Rattle.pdp_replay.specs.declared.ask.question.Value.TheVariants as value

-- the turn that a question is about
abbrev pub turn_asked : Question → ℕ
turn_asked (question.Regs turn) = turn
turn_asked (question.Core turn address count) = turn
turn_asked (question.Disk turn drive first count) = turn
turn_asked (question.Text turn) = turn
turn_asked (question.Punched turn) = turn
turn_asked (question.Devices turn) = turn
turn_asked (question.Pages turn) = turn
turn_asked (question.Last turn address) = turn
turn_asked (question.Trail turn count) = turn
turn_asked (question.Translate turn mode address) = turn
turn_asked (question.Virtual turn words) = turn
turn_asked (question.FindCore turn wanted) = turn
turn_asked (question.FindDisk turn drive wanted) = turn

-- the first turn whose state the answer needs: that of the first turn listed for a trail, else the
-- one asked about
abbrev pub first_turn_needed : Question → ℕ
first_turn_needed (question.Trail turn count) = turn - count
first_turn_needed q = turn_asked q

-- so many words of core or of a drive, from the word of this number on
abbrev pub words_from : ℕ → ℕ → List ℕ → List ℕ
words_from first count words = take count (drop first words)

-- the answer
unfoldable pub answer : Question → Past → Value
answer (question.Regs turn) p = value.Regs (regs_of (state_at p turn))
answer (question.Core turn address count) p = value.Core (words_from (address / 2) count
    (state_at p turn).bus.core)
answer (question.Disk turn drive first count) p = value.Disk (words_from first count (disk_of
    (state_at p turn) drive))
answer (question.Text turn) p = value.Text (text_at p turn)
answer (question.Punched turn) p = value.Punched (punched_at p turn)
answer (question.Devices turn) p = value.Devices (devices_of (state_at p turn).bus)
answer (question.Pages turn) p = value.Pages (page_registers_of (state_at p turn).bus)
answer (question.Last turn address) p = value.Last (last_write_at p turn (address / 2))
answer (question.Trail turn count) p = value.Trail (trail_of p (turn - count) count)
answer (question.Translate turn mode address) p = value.Translation (place_of_read mode address
    (state_at p turn).bus)
answer (question.Virtual turn words) p = value.Virtual (virtual_words words.mode words.address
    words.count (state_at p turn).bus)
answer (question.FindCore turn wanted) p = value.FoundCore (words_found wanted.pattern
    (wanted.first / 2) (wanted.last / 2) (state_at p turn).bus.core)
answer (question.FindDisk turn drive wanted) p = value.FoundDisk (words_found wanted.pattern
    wanted.first wanted.last (disk_of (state_at p turn) drive))

-- can so many words from this address on be asked for? From one to the most, each in core, and at
-- even addresses
unfoldable pub range_checked : ℕ → ℕ → SetupData → Result (Unit {0}) Fault
range_checked address count s = (
    if nat_le 1 count && nat_le count most_words_of_answer then
    if nat_le (address / 2 + count) (core_size s) then
    if address % 2 == 0 then Ok tt
    else Err OddAddress
    else Err OutsideCore
    else Err CountOutOfRange)

-- can so many words of a drive from this number on be asked for? From one to the most, of a drive
-- that is there, each on the drive
unfoldable pub disk_range_checked : ℕ → ℕ → ℕ → SetupData → Result (Unit {0}) Fault
disk_range_checked drive first count s = (
    if nat_le 1 count && nat_le count most_words_of_answer then
    if nat_lt drive s.drives then
    if nat_le (first + count) drive_words then Ok tt
    else Err OutsideDisk
    else Err NoSuchDrive
    else Err CountOutOfRange)

-- the most turns that a trail lists
abbrev pub most_turns_listed : ℕ
most_turns_listed = 64

-- can so many turns before this one be listed? From one to the most, and no more than there were
abbrev pub trail_checked : ℕ → ℕ → Result (Unit {0}) Fault
trail_checked turn count = (
    if nat_le 1 count && nat_le count most_turns_listed && nat_le count turn then Ok tt
    else Err CountOutOfRange)

-- the range rule of a question, if it has one
abbrev pub range_rule : Question → SetupData → Result (Unit {0}) Fault
range_rule (question.Core turn address count) s = range_checked address count s
range_rule (question.Disk turn drive first count) s = disk_range_checked drive first count s
range_rule (question.Last turn address) s = result_map (λ _. tt) (core_word_at address s)
range_rule (question.Trail turn count) s = trail_checked turn count
range_rule (question.Virtual turn words) s = virtual_checked words
range_rule (question.FindCore turn wanted) s = core_search_checked wanted s
range_rule (question.FindDisk turn drive wanted) s = disk_search_checked drive wanted s
range_rule _ s = Ok tt

-- can the question be asked? Its turn is told first
unfoldable pub question_checked : Question → Past → Result (Unit {0}) Fault
question_checked q p = (if nat_le (turn_asked q) last_turn then range_rule q p.setup else Err
    TurnTooLarge)

-- the answer, or why there is none
unfoldable pub answer_to : Question → Past → Result Value Fault
answer_to q p = result_map (λ _. answer q p) (question_checked q p)

-- what a question asks for is there: its words in a core of so many words, on one of so many drives
-- or at virtual addresses, and its turns before the one asked about
abbrev pub IsWithin : Question → ℕ → ℕ → Type 0
IsWithin (question.Core turn address count) size drives = address / 2 + count ≤ size
IsWithin (question.Disk turn drive first count) size drives = (drive < drives) × (first + count
    ≤ drive_words)
IsWithin (question.Last turn address) size drives = address / 2 < size
IsWithin (question.Trail turn count) size drives = count ≤ turn
IsWithin (question.Virtual turn words) size drives =
    words.address + 2 * words.count ≤ virtual_addresses
IsWithin (question.FindCore turn wanted) size drives =
    (wanted.first ≤ wanted.last) × (wanted.last / 2 < size)
IsWithin (question.FindDisk turn drive wanted) size drives = (drive < drives)
    × (wanted.first ≤ wanted.last) × (wanted.last < drive_words)
IsWithin _ size drives = Unit {0}

-- each drive of these has all words of a drive
abbrev pub AreDrives : List (List ℕ) → Type 0
AreDrives drives = map length drives ≡ replicate (length drives) drive_words

-- the answer, of every past with this script whose machine before the first turn needed is this one
abbrev pub IsAnswerIn : MachineState → ScriptData → Question → Value → Type 0
IsAnswerIn machine script q value = (p : Past) → p.script ≡ script → machine ≡ at p
    (first_turn_needed q) → value ≡ answer q p

-- the value of an answer
abbrev pub value_answered : Result (Told Value) Fault → Result Value Fault
value_answered result = result_map (λ a. a.value) result
