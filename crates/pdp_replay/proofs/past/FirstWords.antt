-- Core and the drives as of power-up, word by word, and as the code fills them from an image.
use Rattle.std.proofs.Common.{◌≡◌, ℕ, ◌+◌, ◌<◌, ◌≤◌, zero, suc, List, [], ◌∷◌, ◌++◌, None, ap₂, drop, length, map, replicate, refl, ◌∙◌, ap, arith, length-append, sym}
use Rattle.std.specs.Prelude.{slice_index, slice_index_or, unwrap_or}
use Rattle.std.specs.List.{All, range_with_len}
use Rattle.std.proofs.lemmas.List.Elements.{All-tail}
use Rattle.std.proofs.lemmas.Grind.{common_steps}
use Rattle.std.proofs.lemmas.List.{drop-replicate, length-replicate}
use Rattle.std.proofs.lemmas.List.FromFn.{fill_by_all, get_or-map-range_with_len, length-map-range_with_len}
use Rattle.pdp_store.specs.Parts.{word_at}
use Rattle.pdp_store.specs.declared.part.Part.TheVariants as parts
use Rattle.pdp_replay.specs.Past.Setup.{SetupData, core_size, drive_words, image_of}
use Rattle.pdp_replay.specs.Past.FirstWords.{words_by_number, core_words, first_core_word, disk_words, drives_words, first_disk_word}
use Rattle.pdp_replay.specs.Past.PatchedWords.{patch_of}
use Rattle.pdp_replay.specs.Past.Image.{padded_image}

pub length_by_number : (value : ℕ → ℕ) (size : ℕ) → length (words_by_number value size) ≡ size
unfolding words_by_number
length_by_number value size = length-map-range_with_len value 0 size

pub word_by_number : (value : ℕ → ℕ) (size number : ℕ) → number < size → slice_index (words_by_number value size) number ≡ value number
unfolding words_by_number
word_by_number value size number below = get_or-map-range_with_len value 0 size number number 0 below (omega arith)

-- a list with the value of each of so many numbers is the list of them
pub filled_by_number : (value : ℕ → ℕ) (words : List ℕ) (size : ℕ) → length words ≡ size
    → ((number : ℕ) → number < size → slice_index words number ≡ value number) → words ≡ words_by_number value size
unfolding words_by_number
filled_by_number value words size long each = fill_by_all value words size 0 long each

pub core_has_size : (s : SetupData) → length (core_words s) ≡ core_size s
unfolding core_words
core_has_size s = length_by_number (first_core_word s) (core_size s)

pub drive_has_size : (s : SetupData) (drive : ℕ) → length (disk_words s drive) ≡ drive_words
unfolding disk_words
drive_has_size s drive = length_by_number (first_disk_word s drive) drive_words

pub core_word_is : (s : SetupData) (number : ℕ) → number < core_size s → slice_index (core_words s) number ≡ first_core_word s number
unfolding core_words
core_word_is s number below = word_by_number (first_core_word s) (core_size s) number below

pub disk_word_is : (s : SetupData) (drive number : ℕ) → number < drive_words → slice_index (disk_words s drive) number ≡ first_disk_word s drive number
unfolding disk_words
disk_word_is s drive number below = word_by_number (first_disk_word s drive) drive_words number below

-- the drives, by their numbers
pub drives_so_many : (s : SetupData) → length (drives_words s) ≡ s.drives
unfolding drives_words
drives_so_many s = length-map-range_with_len (disk_words s) 0 s.drives

pub drive_by_number : (s : SetupData) (drive : ℕ) → drive < s.drives → slice_index_or (drives_words s) drive [] ≡ disk_words s drive
unfolding drives_words
drive_by_number s drive below = get_or-map-range_with_len (disk_words s) 0 s.drives drive drive [] below (omega arith)

-- if there is one drive, it is drive 0
pub one_drive : (s : SetupData) → s.drives ≡ 1 → drives_words s ≡ disk_words s 0 ∷ []
unfolding drives_words
one_drive s one = rw one refl

-- lists of one length
alike : (words : ℕ → List ℕ) (size : ℕ) → ((number : ℕ) → length (words number) ≡ size) → (first count : ℕ)
    → map length (map words (range_with_len first count)) ≡ replicate count size
alike words size long first zero = refl
alike words size long first (suc count) = ap₂ (λ n ns. n ∷ ns) (long first) (alike words size long (first + 1) count)

pub drives_have_sizes : (s : SetupData) → map length (drives_words s) ≡ replicate s.drives drive_words
unfolding drives_words
drives_have_sizes s = alike (disk_words s) drive_words (drive_has_size s) 0 s.drives

-- the image of a drive is within it, also if there is none
pub image_fits : (disks : List (List ℕ)) (drive : ℕ) → All (λ image. length image ≤ drive_words) disks → length (image_of disks drive) ≤ drive_words
image_fits [] drive fit = omega arith
image_fits (image ∷ disks) zero fit = fit 0 image (omega arith)
image_fits (image ∷ disks) (suc drive) fit = image_fits disks drive (All-tail (λ image. length image ≤ drive_words) image disks fit)

pub length_padded : (n : ℕ) (image : List ℕ) → length image ≤ n → length (padded_image n image) ≡ n
length_padded n image within = rw (length-append, length-replicate) (omega arith)

-- an image fits a list of zeros, and goes over it
pub fits_blank : (n : ℕ) (image words : List ℕ) → words ≡ replicate n 0 → length image ≤ n → length image ≤ length words
fits_blank n image words blank within = rw (blank, length-replicate) within

pub padded_over : (n : ℕ) (image words : List ℕ) → words ≡ replicate n 0 → image ++ drop (length image) words ≡ padded_image n image
padded_over n image words blank = rw blank (ap (λ xs. image ++ xs) (drop-replicate (length image) n 0))

padded_at : (n : ℕ) (image : List ℕ) (number : ℕ) → length image ≤ n → number < n
    → slice_index (padded_image n image) number ≡ slice_index image number
padded_at n image number within below = grind (arith, common_steps)

-- a padded image is the words as of power-up if no word has a patch
filled : (image : List ℕ) (size : ℕ) → length image ≤ size → padded_image size image ≡ words_by_number (λ number. slice_index image number) size
filled image size within =
    filled_by_number _ (padded_image size image) size (length_padded size image within) (λ number below. padded_at size image number within below)

pub core_is_padded : (s : SetupData) → length s.core ≤ core_size s → s.patches ≡ [] → padded_image (core_size s) s.core ≡ core_words s
unfolding core_words
core_is_padded s within none = filled s.core (core_size s) within ∙ rw none refl

-- and so of a drive of which no word has one
pub drive_is_padded : (s : SetupData) (drive : ℕ) → length (image_of s.disks drive) ≤ drive_words
    → ((number : ℕ) → patch_of s.patches (word_at (parts.Drive drive) number) ≡ None) → padded_image drive_words (image_of s.disks drive) ≡ disk_words s drive
unfolding disk_words
drive_is_padded s drive within none =
    filled_by_number (first_disk_word s drive) (padded_image drive_words (image_of s.disks drive)) drive_words (length_padded drive_words (image_of s.disks drive) within)
    (λ number below. padded_at drive_words (image_of s.disks drive) number within below
    ∙ sym (ap (λ found. unwrap_or found (slice_index (image_of s.disks drive) number)) (none number)))

-- what the laws of setups cite
pub ruleset words_of_core = (core_word_is, core_has_size)

pub ruleset words_of_drives = (disk_word_is, drive_has_size, drive_by_number, drives_so_many)
