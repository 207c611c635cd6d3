-- What a command makes of the past [P].
use Rattle.std.specs.Prelude.{ℕ, ◌≡◌, ◌+◌, Bool, false, ◌/◌, ◌%◌, ◌*◌, ◌==◌, List, Option, Some}
use Rattle.std.specs.Prelude.{None, Result, Ok, Err, length, min, nat_le, nat_lt, is_some}
use Rattle.std.specs.Prelude.{slice_get, if◌then◌else◌}
use Rattle.std.specs.Option.{option_map}
use Rattle.indexmap.specs.IndexMap.{insert_entry, shift_remove_entry}
use Rattle.pdp_script.specs.Entries.{entry_of}
use Rattle.pdp_script.specs.Refusal.{edit_answer, for_memory}
use Rattle.pdp_script.specs.Script.{insert_edit, alter_edit, drop_edit, script_edited}
use Rattle.pdp_script.specs.declared.faults.Fault.{Fault}
use Rattle.pdp_script.specs.declared.faults.Fault.TheVariants.{BadImage, OutsideCore, OddAddress}
use Rattle.pdp_script.specs.declared.faults.Fault.TheVariants.{OutsideDisk, NoSuchPatch}
use Rattle.pdp_script.specs.declared.faults.Fault.TheVariants.{TurnTooLarge, NoSuchDrive}
use Rattle.pdp_io_page.specs.Handbook.Delays.{with_delay}
use Rattle.pdp_unibus.specs.Handbook.LastTurn.{last_turn}
use Rattle.pdp_io_page.specs.declared.delays.DelayedDevice.{DelayedDevice}
use Rattle.pdp_unibus.specs.declared.event.Event.{Event}
use Rattle.pdp_store.specs.Parts.{word_at}
use Rattle.pdp_replay.specs.Past.PatchedWords.{is_same_word, patch_of}
use Rattle.pdp_replay.specs.Past.Setup.{SetupData, core_size, drive_words, most_drives, tape_bytes}
use Rattle.pdp_replay.specs.Past.{Past, of_setup, of_script, with_setup}
use Rattle.pdp_replay.specs.declared.past.patch.Patch.{Patch}
use Rattle.pdp_replay.specs.declared.past.patch.Patch.TheVariants as patch
use Rattle.pdp_replay.specs.declared.past.past_edit.PastEdit.{PastEdit}
use Rattle.pdp_replay.specs.declared.past.past_edit.PastEdit.TheVariants.{Script, Word}
use Rattle.pdp_store.specs.declared.part.Part.{Part}
use Rattle.pdp_store.specs.declared.part.Part.TheVariants as part
use Rattle.pdp_store.specs.declared.part.WordAt.{WordAt}

-- the number of the core word at an address: refused outside core, and then at an odd address
unfoldable pub core_word_at : ℕ → SetupData → Result ℕ Fault
core_word_at address s = (
    if nat_lt (address / 2) (core_size s) then
    if address % 2 == 0 then Ok (address / 2)
    else Err OddAddress
    else Err OutsideCore)

-- the number of a word of a drive: refused if there is no such drive, and then past its last word
unfoldable pub disk_word_at : ℕ → ℕ → SetupData → Result ℕ Fault
disk_word_at drive number s = (
    if nat_lt drive s.drives then
    if nat_lt number drive_words then Ok number
    else Err OutsideDisk
    else Err NoSuchDrive)

-- an edit of the word of this number, or the refusal if there is no such word
abbrev pub edited_at : Result ℕ Fault → (ℕ → Result SetupData Fault) → Result SetupData Fault
edited_at (Ok number) edited = edited number
edited_at (Err fault) edited = Err fault

-- a word is patched: one that has a patch keeps its place among the patches, a new one comes last
abbrev pub setup_with_patch : ℕ → SetupData → WordAt → SetupData
setup_with_patch word s at = record s {
  patches = insert_entry is_same_word s.patches at word;
}

abbrev pub with_patch : ℕ → SetupData → WordAt → Result SetupData Fault
with_patch word s at = Ok (setup_with_patch word s at)

abbrev pub past_with_patch : WordAt → ℕ → Past → Past
past_with_patch at word p = with_setup p (setup_with_patch word p.setup at)

unfoldable pub core_edit : ℕ → ℕ → Past → Result Past Fault
core_edit address word p = of_setup p (edited_at (core_word_at address p.setup)
    (λ number. with_patch word p.setup (word_at part.Core number)))

unfoldable pub disk_edit : ℕ → ℕ → ℕ → Past → Result Past Fault
disk_edit drive number word p =
    of_setup p (edited_at (disk_word_at drive number p.setup) (λ number. with_patch word p.setup
    (word_at (part.Drive drive) number)))

-- the word of a patch is patched
abbrev pub patch_edit : Patch → Past → Result Past Fault
patch_edit (patch.Core address word) p = core_edit address word p
patch_edit (patch.Disk drive number word) p = disk_edit drive number word p

-- an edit of the past that can be asked about before it is made
abbrev pub past_edit : PastEdit → Past → Result Past Fault
past_edit (Script edit) p = of_script p (script_edited edit p.script)
past_edit (Word patch) p = patch_edit patch p

-- a word loses its patch, if it has one; the other patches keep their order
abbrev pub without_patch : SetupData → WordAt → Result SetupData Fault
without_patch s at = (
    if is_some (patch_of s.patches at) then Ok (record s {
      patches = shift_remove_entry
          (is_same_word at) s.patches;
    })
    else Err NoSuchPatch)

unfoldable pub revert_edit : ℕ → Past → Result Past Fault
revert_edit address p = of_setup p (edited_at (core_word_at address p.setup)
    (λ number. without_patch p.setup (word_at part.Core number)))

-- there are eight drives from power-up on, whether there were one or eight: this is never refused
-- but for memory
abbrev pub with_eight_drives : SetupData → SetupData
with_eight_drives s = record s { drives = most_drives }

abbrev pub drives_edit : Past → Result Past Fault
drives_edit p = of_setup p (Ok (with_eight_drives p.setup))

-- another paper tape is put into the reader, which is there from power-up on
abbrev pub setup_with_tape : List ℕ → SetupData → Result SetupData Fault
setup_with_tape tape s = (if nat_le (length tape) tape_bytes then Ok (record s { tape = tape }) else
    Err BadImage)

unfoldable pub tape_edit : List ℕ → Past → Result Past Fault
tape_edit tape p = of_setup p (setup_with_tape tape p.setup)

-- the delay of a device is set from power-up on, at most as long as a run can be
abbrev pub with_device_delay : DelayedDevice → ℕ → SetupData → Result SetupData Fault
with_device_delay device delay s = (
    if nat_le delay last_turn then Ok (record s { delays = with_delay device delay s.delays })
    else Err TurnTooLarge)

unfoldable pub delay_edit : DelayedDevice → ℕ → Past → Result Past Fault
delay_edit device delay p = of_setup p (with_device_delay device delay p.setup)

-- an event is put into the script, altered, or taken out
unfoldable pub event_insertion : ℕ → Event → Past → Result Past Fault
event_insertion turn event p = of_script p (insert_edit turn event p.script)

unfoldable pub event_alteration : ℕ → ℕ → Event → Past → Result Past Fault
event_alteration number turn event p = of_script p (alter_edit number turn event p.script)

unfoldable pub event_drop : ℕ → Past → Result Past Fault
event_drop number p = of_script p (drop_edit number p.script)

-- no alteration and no drop of an event is refused as out of memory, and no edit of the tape or of
-- a delay
abbrev pub AlterationNeedsNoMemory : Type 0
AlterationNeedsNoMemory = (number turn : ℕ) (event : Event) (p : Past) → for_memory
    (event_alteration number turn event p) ≡ false

abbrev pub DropNeedsNoMemory : Type 0
DropNeedsNoMemory = (number : ℕ) (p : Past) → for_memory (event_drop number p) ≡ false

abbrev pub TapeNeedsNoMemory : Type 0
TapeNeedsNoMemory = (tape : List ℕ) (p : Past) → for_memory (tape_edit tape p) ≡ false

abbrev pub DelayNeedsNoMemory : Type 0
DelayNeedsNoMemory = (device : DelayedDevice) (delay : ℕ) (p : Past) → for_memory
    (delay_edit device delay p) ≡ false

-- what an insertion answers: one more than the last number that was given, or its refusal
abbrev pub insertion_answer : ℕ → Event → Bool → Past → Result ℕ Fault
insertion_answer turn event refused p = edit_answer (event_insertion turn event p) refused
    (p.script.given + 1)

-- the turn of the event of this number, if there is one
abbrev pub turn_of_event : ℕ → Past → Option ℕ
turn_of_event number p = option_map (λ e. e.turn) (entry_of p.script.entries number)

-- the lesser of the turn of an event as it was and the turn that it is given
abbrev pub lesser_turn : Option ℕ → ℕ → ℕ
lesser_turn (Some old) turn = min old turn
lesser_turn None turn = turn

-- how many patches there are, and the one of this index: of core its address and its word, of a
-- drive the drive and its number
abbrev pub patch_count : Past → ℕ
patch_count p = length p.setup.patches

abbrev pub patch_in : Part → ℕ → ℕ → Patch
patch_in part.Core number word = patch.Core (number * 2) word
patch_in (part.Drive drive) number word = patch.Disk drive number word

abbrev pub patch_shown : WordAt → ℕ → Patch
patch_shown at word = patch_in at.part at.number word

abbrev pub patch_at : Past → ℕ → Option Patch
patch_at p index = option_map (λ p. patch_shown p.0 p.1) (slice_get p.setup.patches index)
