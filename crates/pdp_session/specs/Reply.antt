-- What a reply is as text: lines that each end in LF [P].
use Rattle.std.specs.Prelude.{ℕ, Bool, true, false, ◌*◌, ◌==◌, ◌&&◌, not, nat_le, if◌then◌else◌}
use Rattle.std.specs.Prelude.{List, [], ◌∷◌, ◌++◌, codes, decimal, length, Option, None, Some}
use Rattle.std.specs.Prelude.{Result, Ok, Err, option_to_list, slice_get, slice_index}
use Rattle.std.specs.List.{flat_map}
use Rattle.pdp_word.specs.Number.{octal_digits}
use Rattle.pdp_kt11.specs.declared.place.Abort.{Abort}
use Rattle.pdp_kt11.specs.declared.place.Abort.TheVariants.{Resident, Length, ReadOnly}
use Rattle.pdp_script.specs.Fault.{number_of_fault, name_of_fault}
use Rattle.pdp_script.specs.declared.faults.Fault.{Fault}
use Rattle.pdp_store.specs.declared.Agent.{Agent}
use Rattle.pdp_store.specs.declared.Agent.TheVariants.{Cpu as ByProcessor, Disk as ByDisk}
use Rattle.pdp_cpu.specs.declared.act.Act.{Act}
use Rattle.pdp_cpu.specs.declared.act.Act.TheVariants.{Instr, Trace, Stack, Irq, Idle}
use Rattle.pdp_cpu.specs.declared.regs.Regs.{Regs}
use Rattle.pdp_unibus.specs.Handbook.Shown.{shown_names}
use Rattle.pdp_unibus.specs.declared.show.device_registers.DeviceRegisters.{DeviceRegisters}
use Rattle.pdp_unibus.specs.declared.show.page_registers.PageRegisters.{PageRegisters}
use Rattle.pdp_operand.specs.declared.processor.RunState.{RunState}
use Rattle.pdp_operand.specs.declared.processor.RunState.TheVariants.{Run, Wait, Halted}
use Rattle.pdp_replay.specs.Past.Edit.{patch_shown}
use Rattle.pdp_replay.specs.Past.{Past}
use Rattle.pdp_replay.specs.declared.past.patch.Patch.{Patch}
use Rattle.pdp_replay.specs.declared.past.patch.Patch.TheVariants.{Core, Disk}
use Rattle.pdp_store.specs.declared.part.WordAt.{WordAt}
use Rattle.pdp_replay.specs.declared.ask.find_words.FoundWords.{FoundWords}
use Rattle.pdp_replay.specs.declared.ask.last_write.LastWrite.{LastWrite}
use Rattle.pdp_replay.specs.declared.ask.question.Value.{Value}
use Rattle.pdp_replay.specs.declared.ask.question.Value.TheVariants.{Regs as RegsAre}
use Rattle.pdp_replay.specs.declared.ask.question.Value.TheVariants.{Core as CoreIs, Text as TextIs}
use Rattle.pdp_replay.specs.declared.ask.question.Value.TheVariants.{Punched as PunchedAre}
use Rattle.pdp_replay.specs.declared.ask.question.Value.TheVariants.{Devices as DevicesAre}
use Rattle.pdp_replay.specs.declared.ask.question.Value.TheVariants.{Pages as PagesAre}
use Rattle.pdp_replay.specs.declared.ask.question.Value.TheVariants.{Last as LastIs}
use Rattle.pdp_replay.specs.declared.ask.question.Value.TheVariants.{Trail as TrailIs}
use Rattle.pdp_replay.specs.declared.ask.question.Value.TheVariants.{Disk as DiskIs}
use Rattle.pdp_replay.specs.declared.ask.question.Value.TheVariants.{Translation as TranslationIs}
use Rattle.pdp_replay.specs.declared.ask.question.Value.TheVariants.{Virtual as VirtualAre}
use Rattle.pdp_replay.specs.declared.ask.question.Value.TheVariants.{FoundCore as FoundInCore}
use Rattle.pdp_replay.specs.declared.ask.question.Value.TheVariants.{FoundDisk as FoundOnDrive}
use Rattle.pdp_replay.specs.declared.ask.trail.TrailEntry.{TrailEntry}
use Rattle.pdp_replay.specs.declared.ask.virtual_words.Cause.{Cause}
use Rattle.pdp_replay.specs.declared.ask.virtual_words.Cause.TheVariants as because
use Rattle.pdp_replay.specs.declared.ask.virtual_words.Unreadable.{Unreadable}
use Rattle.pdp_session.specs.declared.reply.states.FoundWhere.{FoundWhere}
use Rattle.pdp_session.specs.declared.reply.states.FoundWhere.TheVariants.{InCore, OnDrive}
use Rattle.pdp_session.specs.declared.reply.Reply.{Reply}
use Rattle.pdp_session.specs.declared.reply.Reply.TheVariants.{Nothing, Done, Inserted, Shown}
use Rattle.pdp_session.specs.declared.reply.Reply.TheVariants.{Listed, NoSuchEdit, Refused}
use Rattle.pdp_session.specs.declared.version.Version.{Version}
use Rattle.pdp_session.specs.declared.version.Version.TheVariants.{One, Two}
use Rattle.pdp_session.specs.Version.{version_of}

-- a name, a word in six octal digits, and the space after it
abbrev pub register_text : List ℕ → ℕ → List ℕ
register_text name word = name ++ codes " " ++ octal_digits 6 word ++ codes " "

abbrev pub state_name : RunState → List ℕ
state_name Run = codes "run"
state_name Wait = codes "wait"
state_name Halted = codes "halted"

abbrev pub regs_line : Regs → List ℕ
regs_line regs =
    register_text (codes "R0") (slice_index regs.r 0)
    ++ register_text (codes "R1") (slice_index regs.r 1)
    ++ register_text (codes "R2") (slice_index regs.r 2)
    ++ register_text (codes "R3") (slice_index regs.r 3)
    ++ register_text (codes "R4") (slice_index regs.r 4)
    ++ register_text (codes "R5") (slice_index regs.r 5)
    ++ register_text (codes "KSP") regs.ksp
    ++ register_text (codes "USP") regs.usp
    ++ register_text (codes "PC") regs.pc
    ++ register_text (codes "PS") regs.ps
    ++ state_name regs.state

abbrev pub refusal_line : Fault → List ℕ
refusal_line fault = codes "refused " ++ decimal (number_of_fault fault) ++ codes " " ++
    name_of_fault fault

abbrev pub refusal_text : Fault → List ℕ
refusal_text fault = refusal_line fault ++ codes "\n"

-- the number of a drive and the space after it; in version 1 there is one drive, and no line names
-- it
abbrev pub drive_text : Version → ℕ → List ℕ
drive_text One drive = []
drive_text Two drive = octal_digits 1 drive ++ codes " "

-- a patch as the line that makes it, in this version
abbrev pub patch_line : Version → Patch → List ℕ
patch_line version (Core address word) =
    codes "core " ++ octal_digits 6 address ++ codes " " ++ octal_digits 6 word ++ codes "\n"
patch_line version (Disk drive number word) =
    codes "disk " ++ drive_text version drive ++ octal_digits 7 number ++ codes " " ++ octal_digits
    6 word ++ codes "\n"

abbrev pub kept_patch_line : Version → WordAt × ℕ → List ℕ
kept_patch_line version entry = patch_line version (patch_shown entry.0 entry.1)

-- what a list is of, and how many lines follow
abbrev pub count_line : List ℕ → ℕ → List ℕ
count_line name count = name ++ codes " " ++ decimal count ++ codes "\n"

-- how many items there are, and a line for each
unfoldable pub list_text : {X : Type 0} → List ℕ → (X → List ℕ) → List X → List ℕ
list_text name line items = count_line name (length items) ++ flat_map line items

-- the line of the item of this index, if there is one
abbrev pub line_at : {X : Type 0} → (X → List ℕ) → List X → ℕ → List ℕ
line_at line items index = flat_map line (option_to_list (slice_get items index))

-- the patches
abbrev pub patches_text : Past → List ℕ
patches_text past = list_text (codes "patches") (kept_patch_line (version_of past))
    past.setup.patches

-- a word in six octal digits, after a space
abbrev pub word_text : ℕ → List ℕ
word_text word = codes " " ++ octal_digits 6 word

abbrev pub word_texts : List ℕ → List ℕ
word_texts [] = []
word_texts (word ∷ words) = word_text word ++ word_texts words

-- the end of a line that says whether there may be more than are listed
abbrev pub more_mark : Bool → List ℕ
more_mark false = codes "\n"
more_mark true = codes " or more\n"

-- what a list is of, how many are listed, and whether there may be more
abbrev pub listed_head : List ℕ → ℕ → Bool → List ℕ
listed_head name count more = name ++ codes " " ++ decimal count ++ more_mark more

-- words, in one line after a name
unfoldable pub words_line : List ℕ → List ℕ → List ℕ
words_line name words = name ++ word_texts words ++ codes "\n"

-- a printing byte, 040 to 176, but no backslash
abbrev pub stands_for_itself : ℕ → Bool
stands_for_itself byte = nat_le 0o40 byte && nat_le byte 0o176 && not (byte == 0o134)

-- any other byte is a backslash and its three octal digits
abbrev pub byte_text : ℕ → List ℕ
byte_text byte = if stands_for_itself byte then byte ∷ [] else codes "\\" ++ octal_digits 3 byte

unfoldable pub byte_texts : List ℕ → List ℕ
byte_texts [] = []
byte_texts (byte ∷ bytes) = byte_text byte ++ byte_texts bytes

-- what comes before the bytes: a name, and how many bytes there are
abbrev pub bytes_head : List ℕ → ℕ → List ℕ
bytes_head name count = name ++ codes " " ++ decimal count ++ codes ":"

-- bytes, in one line after their name and their count
unfoldable pub bytes_line : List ℕ → List ℕ → List ℕ
bytes_line name bytes = bytes_head name (length bytes) ++ byte_texts bytes ++ codes "\n"

-- a name and a word in six octal digits, each after a space
abbrev pub named_word_text : List ℕ → ℕ → List ℕ
named_word_text name word = codes " " ++ name ++ word_text word

-- names, each with its word
abbrev pub named_word_texts : List (List ℕ) → List ℕ → List ℕ
named_word_texts [] words = []
named_word_texts (name ∷ names) [] = []
named_word_texts (name ∷ names) (word ∷ words) =
    named_word_text name word ++ named_word_texts names words

-- the registers of the devices, in one line
unfoldable pub devices_line : DeviceRegisters → List ℕ
devices_line devices =
    codes "devices" ++ named_word_texts shown_names devices.words ++ codes "\n"

-- a name and the words of the eight pages, each after a space
abbrev pub page_words_text : List ℕ → List ℕ → List ℕ
page_words_text name words = codes " " ++ name ++ word_texts words

-- the registers of memory management, in one line
unfoldable pub pages_line : PageRegisters → List ℕ
pages_line pages =
    codes "pages"
    ++ named_word_text (codes "SR0") pages.status0
    ++ named_word_text (codes "SR2") pages.status2
    ++ page_words_text (codes "KPDR") pages.kernel_descriptors
    ++ page_words_text (codes "KPAR") pages.kernel_addresses
    ++ page_words_text (codes "UPDR") pages.user_descriptors
    ++ page_words_text (codes "UPAR") pages.user_addresses
    ++ codes "\n"

abbrev pub agent_name : Agent → List ℕ
agent_name ByProcessor = codes "cpu"
agent_name ByDisk = codes "disk"

-- a last write, in one line, or that there was none
abbrev pub last_line : Option LastWrite → List ℕ
last_line None = codes "last never\n"
last_line (Some write) =
    codes "last " ++ decimal write.turn ++ codes " " ++ agent_name write.agent ++ word_text
    write.word ++ codes "\n"

-- the act of a turn; a vector has three octal digits
abbrev pub act_text : Act → List ℕ
act_text Instr = codes "instr"
act_text Trace = codes "trace"
act_text Stack = codes "stack"
act_text (Irq vector) = codes "irq " ++ octal_digits 3 vector
act_text Idle = codes "idle"

-- a turn, PC before it, and its act
abbrev pub entry_line : TrailEntry → List ℕ
entry_line entry = decimal entry.turn ++ word_text entry.pc ++ codes " " ++ act_text entry.act ++
    codes "\n"

-- the turns of a trail
abbrev pub trail_text : List TrailEntry → List ℕ
trail_text entries = list_text (codes "trail") entry_line entries

-- why memory management doesn't let an access through
abbrev pub abort_name : Abort → List ℕ
abort_name Resident = codes "non-resident"
abort_name Length = codes "length"
abort_name ReadOnly = codes "read-only"

-- the physical address of a virtual one, or the abort, in one line
unfoldable pub translation_line : Result ℕ Abort → List ℕ
translation_line (Ok physical) = codes "translate " ++ octal_digits 6 physical ++ codes "\n"
translation_line (Err abort) = codes "translate abort " ++ abort_name abort ++ codes "\n"

-- why a word can't be read
abbrev pub cause_text : Cause → List ℕ
cause_text (because.Abort abort) = codes "abort " ++ abort_name abort
cause_text because.Timeout = codes "timeout"
cause_text because.Device = codes "device"

-- the first word that can't be read, in one line
unfoldable pub unreadable_line : Unreadable → List ℕ
unreadable_line unreadable = codes "virtual " ++ cause_text unreadable.cause ++ codes " at " ++
    octal_digits 6 unreadable.address ++ codes "\n"

-- the words at virtual addresses, or the first that can't be read
abbrev pub virtual_line : Result (List ℕ) Unreadable → List ℕ
virtual_line (Ok words) = words_line (codes "virtual") words
virtual_line (Err unreadable) = unreadable_line unreadable

-- the search for words of core or of a drive, by its name
abbrev pub search_name : FoundWhere → List ℕ
search_name InCore = codes "find"
search_name OnDrive = codes "finddsk"

-- the address of a word of core by its number
abbrev pub address_text : ℕ → List ℕ
address_text word = octal_digits 6 (word * 2)

-- a word that was found, in one line: of core its address, of a drive its number
abbrev pub found_line : FoundWhere → ℕ → List ℕ
found_line InCore number = address_text number ++ codes "\n"
found_line OnDrive number = octal_digits 7 number ++ codes "\n"

-- the words that were found
unfoldable pub words_found_text : FoundWhere → FoundWords → List ℕ
words_found_text place found =
    listed_head (search_name place) (length found.numbers) found.more
    ++ flat_map (found_line place) found.numbers

-- the answer to a question as text: one row for each kind of question
abbrev pub value_text : Value → List ℕ
value_text (RegsAre regs) = regs_line regs ++ codes "\n"
value_text (CoreIs words) = words_line (codes "mem") words
value_text (DiskIs words) = words_line (codes "dsk") words
value_text (TextIs bytes) = bytes_line (codes "text") bytes
value_text (PunchedAre bytes) = bytes_line (codes "punched") bytes
value_text (DevicesAre devices) = devices_line devices
value_text (PagesAre pages) = pages_line pages
value_text (LastIs last) = last_line last
value_text (TrailIs trail) = trail_text trail
value_text (TranslationIs translated) = translation_line translated
value_text (VirtualAre words) = virtual_line words
value_text (FoundInCore found) = words_found_text InCore found
value_text (FoundOnDrive found) = words_found_text OnDrive found

-- was a line refused that can be refused as a fault alone?
abbrev pub is_refused : Reply → Bool
is_refused (Refused fault) = true
is_refused _ = false

-- a reply as text; a list of patches is that of the past as it is then
unfoldable pub text_of : Reply → Past → List ℕ
text_of Nothing past = []
text_of Done past = codes "ok" ++ codes "\n"
text_of (Inserted number) past = codes "event " ++ decimal number ++ codes "\n"
text_of (Shown value) past = value_text value
text_of Listed past = patches_text past
text_of NoSuchEdit past = codes "refused 17 NoSuchEdit" ++ codes "\n"
text_of (Refused fault) past = refusal_text fault
