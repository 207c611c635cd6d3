-- The questions that the search language alone has [P]: a name, and the words that follow it. The
-- turn is in decimal.
use Rattle.std.specs.Prelude.{ℕ, if◌then◌else◌, List, [], ◌∷◌, codes, Option, None, Some}
use Rattle.std.specs.Str.{bytes_eq}
use Rattle.pdp_word.specs.Number.{number_of}
use Rattle.pdp_kt11.specs.declared.mode.Mode.{Mode}
use Rattle.pdp_replay.specs.declared.ask.find_words.WantedWords.{WantedWords}
use Rattle.pdp_replay.specs.declared.ask.question.Question.{Question}
use Rattle.pdp_replay.specs.declared.ask.question.Question.TheVariants.{Translate, Virtual}
use Rattle.pdp_replay.specs.declared.ask.question.Question.TheVariants.{FindCore, FindDisk}
use Rattle.pdp_replay.specs.declared.ask.virtual_words.VirtualWords.{VirtualWords}
use Rattle.pdp_session.specs.declared.version.Version.{Version}
use Rattle.pdp_session.specs.Grammar.Arguments.{◌>>=◌, first_of, two_of, drive_first}
use Rattle.pdp_session.specs.Grammar.Arguments.{turn_named, count_named, mode_named, word_named}

-- `translate N MODE A`: a mode by its name, and a virtual address, in octal
abbrev pub translate_form : List (List ℕ) → Option Question
translate_form arguments = do
  (turn, others) ← first_of arguments
  (name, address) ← two_of others
  n ← turn_named turn
  mode ← mode_named name
  a ← word_named address
  Some (Translate n mode a)

-- so many words at virtual addresses from this one on, in this mode
abbrev pub virtual_range : Mode → ℕ → ℕ → VirtualWords
virtual_range mode address count = record { mode = mode; address = address; count = count }

-- `virtual N MODE A C`: a mode by its name, the virtual address of the first word, in octal, and
-- how many words, in decimal
abbrev pub virtual_form : List (List ℕ) → Option Question
virtual_form arguments = do
  (turn, others) ← first_of arguments
  (name, range) ← first_of others
  (address, count) ← two_of range
  n ← turn_named turn
  mode ← mode_named name
  a ← word_named address
  c ← count_named count
  Some (Virtual n (virtual_range mode a c))

-- a mask that has every bit of a word
abbrev pub all_bits : ℕ
all_bits = 0o177777

-- `mask W`: a word, in octal
unfoldable pub mask_by_name : List ℕ → List ℕ → Option ℕ
mask_by_name name mask = if bytes_eq name (codes "mask") then word_named mask else None

-- what follows a pattern's word: `mask W`, or nothing, if every bit counts
abbrev pub mask_named : List (List ℕ) → Option ℕ
mask_named [] = Some all_bits
mask_named (name ∷ mask ∷ []) = mask_by_name name mask
mask_named _ = None

-- the words from one to another that are this word in the bits of this mask
abbrev pub wanted_words : ℕ → ℕ → ℕ → ℕ → WantedWords
wanted_words first last word mask = record {
  first = first;
  last = last;
  pattern = record { word = word; mask = mask };
}

-- the first and the last of the words that are looked at, a word and its mask, each in octal
abbrev pub wanted_named : List (List ℕ) → Option WantedWords
wanted_named words = do
  (first, others) ← first_of words
  (last, more) ← first_of others
  (word, rest) ← first_of more
  i ← number_of 8 first
  j ← number_of 8 last
  w ← word_named word
  m ← mask_named rest
  Some (wanted_words i j w m)

-- `find N A B W` and `find N A B W mask W`: words of core, by their addresses
abbrev pub find_form : List (List ℕ) → Option Question
find_form arguments = do
  (turn, others) ← first_of arguments
  n ← turn_named turn
  wanted ← wanted_named others
  Some (FindCore n wanted)

-- `finddsk N I J W` and `finddsk N I J W mask W`, in version 2 `finddsk N D I J W` and so on: words
-- of a drive, by their numbers
abbrev pub finddsk_form : Version → List (List ℕ) → Option Question
finddsk_form version arguments = do
  (turn, others) ← first_of arguments
  n ← turn_named turn
  (d, range) ← drive_first version others
  wanted ← wanted_named range
  Some (FindDisk n d wanted)

-- a question by its name and the words that follow it
unfoldable pub state_question_with : Version → List ℕ → List (List ℕ) → Option Question
state_question_with version name arguments =
    if bytes_eq name (codes "translate") then translate_form arguments
    else if bytes_eq name (codes "virtual") then virtual_form arguments
    else if bytes_eq name (codes "find") then find_form arguments
    else if bytes_eq name (codes "finddsk") then finddsk_form version arguments
    else None
