-- What follows a command's name [P].
use Rattle.std.specs.Prelude.{ℕ, min, nat_le, nat_lt, if◌then◌else◌, List, [], ◌∷◌, codes, Option}
use Rattle.std.specs.Prelude.{None, Some}
use Rattle.std.specs.Option.{option_map, option_and_then}
use Rattle.std.specs.Str.{bytes_eq}
use Rattle.pdp_word.specs.Number.{number_of}
use Rattle.pdp_word.specs.Size.{span}
use Rattle.pdp_kt11.specs.declared.mode.Mode.{Mode}
use Rattle.pdp_kt11.specs.declared.mode.Mode.TheVariants.{Kernel, User}
use Rattle.pdp_io_page.specs.declared.delays.DelayedDevice.{DelayedDevice}
use Rattle.pdp_io_page.specs.declared.delays.DelayedDevice.TheVariants.{Printer, Reader, Punch}
use Rattle.pdp_io_page.specs.declared.delays.DelayedDevice.TheVariants.{Disk}
use Rattle.pdp_io_page.specs.declared.delays.DelayedDevice.TheVariants.{Clock}
use Rattle.pdp_word.specs.declared.size.Size.TheVariants.{Word, Byte}
use Rattle.pdp_session.specs.declared.version.Version.{Version}
use Rattle.pdp_session.specs.declared.version.Version.TheVariants.{One, Two}

-- in a `do` block: the first `None` is the block's
abbrev pub ◌>>=◌ : {T U : Type 0} → Option T → (T → Option U) → Option U
◌>>=◌ found next = option_and_then next found

-- the first word and the others
abbrev pub first_of : List (List ℕ) → Option (List ℕ × List (List ℕ))
first_of (first ∷ others) = Some (first, others)
first_of [] = None

-- the word, if there is one
abbrev pub one_of : List (List ℕ) → Option (List ℕ)
one_of (word ∷ []) = Some word
one_of _ = None

-- the words, if there are two
abbrev pub two_of : List (List ℕ) → Option (List ℕ × List ℕ)
two_of (first ∷ second ∷ []) = Some (first, second)
two_of _ = None

-- the largest number that 32 bits hold
abbrev pub largest_number : ℕ
largest_number = 4294967295

-- a word of the machine, in octal: at most 177777
abbrev pub word_named : List ℕ → Option ℕ
word_named text = do
  number ← number_of 8 text
  if nat_lt number (span Word) then Some number else None

-- a byte, in octal: at most 377
abbrev pub byte_named : List ℕ → Option ℕ
byte_named text = do
  number ← number_of 8 text
  if nat_lt number (span Byte) then Some number else None

-- a drive by its number, in octal: one that 8 bits can't hold stands for the largest that they
-- hold, which no drive has
abbrev pub drive_named : List ℕ → Option ℕ
drive_named text = option_map (λ number. min number 255) (number_of 8 text)

-- The drive that some words are about, and the words that say what: in version 2 the first of them
-- is its number, and in version 1 they name none and are about drive 0.
abbrev pub drive_first : Version → List (List ℕ) → Option (ℕ × List (List ℕ))
drive_first One words = Some (0, words)
drive_first Two words = do
  (drive, others) ← first_of words
  d ← drive_named drive
  Some (d, others)

-- bytes, in octal: none if one of the words is no byte
unfoldable pub bytes_named : List (List ℕ) → Option (List ℕ)
bytes_named [] = Some []
bytes_named (word ∷ words) = do
  byte ← byte_named word
  bytes ← bytes_named words
  Some (byte ∷ bytes)

-- a mode of the processor, by its name
unfoldable pub mode_named : List ℕ → Option Mode
mode_named name =
    if bytes_eq name (codes "kernel") then Some Kernel
    else if bytes_eq name (codes "user") then Some User
    else None

-- a device that has a delay, by its name
unfoldable pub device_named : List ℕ → Option DelayedDevice
device_named name =
    if bytes_eq name (codes "printer") then Some Printer
    else if bytes_eq name (codes "reader") then Some Reader
    else if bytes_eq name (codes "punch") then Some Punch
    else if bytes_eq name (codes "disk") then Some Disk
    else if bytes_eq name (codes "clock") then Some Clock
    else None

-- an event by its number, in decimal: one that 32 bits can't hold stands for 0, which no event has
abbrev pub event_named : List ℕ → Option ℕ
event_named text = option_map (λ number. if nat_le number largest_number then number else 0)
    (number_of 10 text)

-- a turn, in decimal: one that 32 bits can't hold stands for the largest that they hold
abbrev pub turn_named : List ℕ → Option ℕ
turn_named text = option_map (λ number. min number largest_number) (number_of 10 text)

-- a count, in decimal: one that 32 bits can't hold stands for the largest that they hold
abbrev pub count_named : List ℕ → Option ℕ
count_named text = option_map (λ number. min number largest_number) (number_of 10 text)

-- two turns, and the words that say what
abbrev pub turns_first : List (List ℕ) → Option (ℕ × ℕ × List (List ℕ))
turns_first words = do
  (from, others) ← first_of words
  (to, what) ← first_of others
  n ← turn_named from
  m ← turn_named to
  Some (n, m, what)
