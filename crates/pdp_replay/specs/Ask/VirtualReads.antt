-- What an instruction would read at virtual addresses, without a bus cycle [P].
use Rattle.std.specs.Prelude.{ℕ, ◌≡◌, ◌+◌, ◌*◌, ◌%◌, ◌==◌, ◌&&◌, ◌++◌, zero, suc, List, [], ◌∷◌}
use Rattle.std.specs.Prelude.{Result, Ok, Err, length, nat_le, slice_index, if◌then◌else◌}
use Rattle.pdp_kt11.specs.Handbook.Translation.{translate}
use Rattle.pdp_kt11.specs.declared.mode.Mode.{Mode}
use Rattle.pdp_kt11.specs.declared.place.Abort.{Abort}
use Rattle.pdp_kt11.specs.declared.place.Access.TheVariants.{Read}
use Rattle.pdp_unibus.specs.Handbook.BusWorld.{BusWorld}
use Rattle.pdp_unibus.specs.Handbook.Cycle.{Slave, Core, Device, Nobody, ReadAt, cycle, slave_at}
use Rattle.pdp_io_page.specs.declared.register.Register.{Register}
use Rattle.pdp_script.specs.declared.faults.Fault.{Fault}
use Rattle.pdp_script.specs.declared.faults.Fault.TheVariants.{CountOutOfRange, OddAddress}
use Rattle.pdp_replay.specs.Ask.Limits.{most_words_of_answer}
use Rattle.pdp_replay.specs.declared.ask.virtual_words.Cause.{Cause}
use Rattle.pdp_replay.specs.declared.ask.virtual_words.Cause.TheVariants as because
use Rattle.pdp_replay.specs.declared.ask.virtual_words.Unreadable.{Unreadable}
use Rattle.pdp_replay.specs.declared.ask.virtual_words.VirtualWords.{VirtualWords}

-- the physical address of a virtual one for a read in this mode, or its abort
abbrev pub place_of_read : Mode → ℕ → BusWorld → Result ℕ Abort
place_of_read mode address w = (translate mode address Read w.io_page.mapping).address

-- what a read is told by who answers it, if that is a word of core
abbrev pub core_word_of : Slave → BusWorld → Result ℕ Cause
core_word_of (Core number) w = Ok (slice_index w.core number)
core_word_of (Device register) w = Err because.Device
core_word_of Nobody w = Err because.Timeout

-- the same at a physical address, with who answers it as in a bus cycle
abbrev pub core_word_at_place : Result ℕ Abort → BusWorld → Result ℕ Cause
core_word_at_place (Ok physical) w = core_word_of (slave_at (length w.core) physical) w
core_word_at_place (Err abort) w = Err (because.Abort abort)

-- the same at a virtual address in this mode
unfoldable pub virtual_word : Mode → ℕ → BusWorld → Result ℕ Cause
virtual_word mode address w = core_word_at_place (place_of_read mode address w) w

-- A read at a physical address, or one that is aborted, agrees with what is told of the word there:
-- a word is what a bus cycle reads; without one the cycle times out, a register answers it, or the
-- read is aborted.
abbrev pub AgreesWithCycle : Result ℕ Cause → Result ℕ Abort → BusWorld → Type 0
AgreesWithCycle (Ok word) (Ok physical) w = (cycle (ReadAt physical) w).value ≡ Ok word
AgreesWithCycle (Ok word) (Err abort) w = ⊥
AgreesWithCycle (Err because.Timeout) (Ok physical) w =
    (cycle (ReadAt physical) w).value ≡ Err (record {})
AgreesWithCycle (Err because.Device) (Ok physical) w =
    (register : Register) × (slave_at (length w.core) physical ≡ Device register)
AgreesWithCycle (Err (because.Abort abort)) place w = place ≡ Err abort
AgreesWithCycle (Err cause) (Err abort) w = ⊥

-- so it does at each virtual address, in each mode
abbrev pub VirtualWordsAreRead : Type 0
VirtualWordsAreRead = (mode : Mode) (address : ℕ) (w : BusWorld)
    → AgreesWithCycle (virtual_word mode address w) (place_of_read mode address w) w

-- words with one more, at this address; the first word that can't be read stays the first
abbrev pub with_next_word : Result (List ℕ) Unreadable → ℕ → Result ℕ Cause
    → Result (List ℕ) Unreadable
with_next_word (Ok words) address (Ok word) = Ok (words ++ word ∷ [])
with_next_word (Ok words) address (Err cause) = Err (record { address = address; cause = cause })
with_next_word (Err unreadable) address next = Err unreadable

-- so many words at virtual addresses from this one on, or the first that can't be read
unfoldable pub virtual_words : Mode → ℕ → ℕ → BusWorld → Result (List ℕ) Unreadable
virtual_words mode address zero w = Ok []
virtual_words mode address (suc n) w =
    with_next_word (virtual_words mode address n w) (address + 2 * n)
    (virtual_word mode (address + 2 * n) w)

-- how many virtual addresses (bytes) there are
abbrev pub virtual_addresses : ℕ
virtual_addresses = 0o200000

-- can these words be asked for? From one to the most, none of them past the last address, and at
-- even addresses
unfoldable pub virtual_checked : VirtualWords → Result (Unit {0}) Fault
virtual_checked words = (
    if nat_le 1 words.count && nat_le words.count most_words_of_answer then
    if nat_le (words.address + 2 * words.count) virtual_addresses then
    if words.address % 2 == 0 then Ok tt
    else Err OddAddress
    else Err CountOutOfRange
    else Err CountOutOfRange)
