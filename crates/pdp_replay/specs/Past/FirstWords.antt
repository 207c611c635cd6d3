-- The words of core and of the drives as of power-up [P].
use Rattle.std.specs.Prelude.{ℕ, ◌≡◌, ◌<◌, List, [], length, map, slice_index, slice_index_or}
use Rattle.std.specs.Prelude.{unwrap_or}
use Rattle.std.specs.List.{All, range_with_len}
use Rattle.pdp_store.specs.Parts.{word_at}
use Rattle.pdp_replay.specs.Past.PatchedWords.{Patches, patch_of}
use Rattle.pdp_replay.specs.Past.Setup.{SetupData, core_size, drive_words, image_of}
use Rattle.pdp_store.specs.declared.part.Part.{Part}
use Rattle.pdp_store.specs.declared.part.Part.TheVariants.{Core, Drive}
use Rattle.pdp_store.specs.declared.part.WordAt.{WordAt}

-- the word of an image, of core or of a drive; 0 past its end
abbrev pub image_word : List ℕ → List (List ℕ) → Part → ℕ → ℕ
image_word core disks Core number = slice_index core number
image_word core disks (Drive drive) number = slice_index (image_of disks drive) number

-- the first value of a core word: its patch, else its image's word, else 0 [7.5]
abbrev pub first_core_word : SetupData → ℕ → ℕ
first_core_word s number = unwrap_or (patch_of s.patches (word_at Core number))
    (slice_index s.core number)

-- and of a word of a drive [7.6]
abbrev pub first_disk_word : SetupData → ℕ → ℕ → ℕ
first_disk_word s drive number = unwrap_or (patch_of s.patches (word_at (Drive drive) number))
    (slice_index (image_of s.disks drive) number)

-- the values of so many words, in the order of their numbers
unfoldable pub words_by_number : (ℕ → ℕ) → ℕ → List ℕ
words_by_number value size = map value (range_with_len 0 size)

-- core as of power-up: the first value of each word of its units
unfoldable pub core_words : SetupData → List ℕ
core_words s = words_by_number (first_core_word s) (core_size s)

-- a drive as of power-up: the first value of each of its words
unfoldable pub disk_words : SetupData → ℕ → List ℕ
disk_words s drive = words_by_number (first_disk_word s drive) drive_words

-- all drives as of power-up, in the order of their numbers
unfoldable pub drives_words : SetupData → List (List ℕ)
drives_words s = map (disk_words s) (range_with_len 0 s.drives)

-- core as of power-up has the words of its units, and a drive all of its own
abbrev pub CoreHasItsSize : Type 0
CoreHasItsSize = (s : SetupData) → length (core_words s) ≡ core_size s

abbrev pub DriveHasItsSize : Type 0
DriveHasItsSize = (s : SetupData) (drive : ℕ) → length (disk_words s drive) ≡ drive_words

-- and each of them is its first value
abbrev pub CoreWordsAreFirstWords : Type 0
CoreWordsAreFirstWords = (s : SetupData) (number : ℕ) → number < core_size s → slice_index
    (core_words s) number ≡ first_core_word s number

abbrev pub DiskWordsAreFirstWords : Type 0
DiskWordsAreFirstWords =
    (s : SetupData) (drive number : ℕ) → number < drive_words → slice_index
    (disk_words s drive) number ≡ first_disk_word s drive number

-- there are as many drives as the setup says, each with its words
abbrev pub DrivesAreByNumber : Type 0
DrivesAreByNumber = (s : SetupData) (drive : ℕ) → drive < s.drives → slice_index_or
    (drives_words s) drive [] ≡ disk_words s drive

abbrev pub DrivesAreSoMany : Type 0
DrivesAreSoMany = (s : SetupData) → length (drives_words s) ≡ s.drives

-- a part has a word of this number: core, or a drive that is there
abbrev pub PartHasWord : SetupData → Part → ℕ → Type 0
PartHasWord s Core number = number < core_size s
PartHasWord s (Drive drive) number = (drive < s.drives) × (number < drive_words)

-- there is such a word
abbrev pub IsThere : SetupData → WordAt → Type 0
IsThere s at = PartHasWord s at.part at.number

-- every patch is of a word that is there
abbrev pub AllThere : SetupData → Patches → Type 0
AllThere s patches = All (λ p. IsThere s p.0) patches
