-- The words of core or of a drive that fit a pattern [P].
use Rattle.std.specs.Prelude.{ℕ, ◌+◌, ◌-◌, ◌/◌, ◌%◌, ◌==◌, ◌&&◌, Bool, List, bit_and, length}
use Rattle.std.specs.Prelude.{Result, Ok, Err, nat_le, nat_lt, slice_index, take, if◌then◌else◌}
use Rattle.std.specs.List.{filter, range_with_len}
use Rattle.pdp_script.specs.declared.faults.Fault.{Fault}
use Rattle.pdp_script.specs.declared.faults.Fault.TheVariants.{CountOutOfRange, OutsideCore}
use Rattle.pdp_script.specs.declared.faults.Fault.TheVariants.{OddAddress, NoSuchDrive, OutsideDisk}
use Rattle.pdp_replay.specs.Past.Setup.{SetupData, core_size, drive_words}
use Rattle.pdp_replay.specs.Ask.Limits.{most_words_of_answer}
use Rattle.pdp_replay.specs.declared.ask.find_words.FoundWords.{FoundWords}
use Rattle.pdp_replay.specs.declared.ask.find_words.WantedWords.{WantedWords}
use Rattle.pdp_replay.specs.declared.ask.find_words.WordPattern.{WordPattern}

-- does a word fit a pattern? It is the pattern's word in the bits of the mask.
abbrev pub fits_pattern : WordPattern → ℕ → Bool
fits_pattern pattern word = bit_and word pattern.mask == bit_and pattern.word pattern.mask

-- does the word of this number?
abbrev pub fits_pattern_at : WordPattern → List ℕ → ℕ → Bool
fits_pattern_at pattern words number = fits_pattern pattern (slice_index words number)

-- the numbers of those that do, of so many words from the one of this number on
unfoldable pub numbers_fitting : WordPattern → List ℕ → ℕ → ℕ → List ℕ
numbers_fitting pattern words first count =
    filter (fits_pattern_at pattern words) (range_with_len first count)

-- the first of these numbers, as many as are listed, and whether there are more
abbrev pub first_found : List ℕ → FoundWords
first_found numbers = record {
  numbers = take most_words_of_answer numbers;
  more = nat_lt most_words_of_answer (length numbers);
}

-- what is found among the words from one number to another, both included
unfoldable pub words_found : WordPattern → ℕ → ℕ → List ℕ → FoundWords
words_found pattern first last words =
    first_found (numbers_fitting pattern words first (last + 1 - first))

-- can these words of core be searched, by their addresses? The first isn't above the last, both are
-- in core, and at even addresses
unfoldable pub core_search_checked : WantedWords → SetupData → Result (Unit {0}) Fault
core_search_checked wanted s = (
    if nat_le wanted.first wanted.last then
    if nat_lt (wanted.last / 2) (core_size s) then
    if wanted.first % 2 == 0 && wanted.last % 2 == 0 then Ok tt
    else Err OddAddress
    else Err OutsideCore
    else Err CountOutOfRange)

-- can these words of a drive be searched, by their numbers? The first isn't above the last, the
-- drive is there, and both are on it
unfoldable pub disk_search_checked : ℕ → WantedWords → SetupData → Result (Unit {0}) Fault
disk_search_checked drive wanted s = (
    if nat_le wanted.first wanted.last then
    if nat_lt drive s.drives then
    if nat_lt wanted.last drive_words then Ok tt
    else Err OutsideDisk
    else Err NoSuchDrive
    else Err CountOutOfRange)
