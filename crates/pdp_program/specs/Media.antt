-- What the files of a session hold [P].
use Rattle.std.specs.Prelude.{◌≡◌, ℕ, ◌+◌, ◌*◌, ◌≤◌, ◌&&◌, nat_le, if◌then◌else◌, List, [], ◌∷◌}
use Rattle.std.specs.Prelude.{length, map, slice_get, take, Option, Some, None, IfSome, Result, Ok}
use Rattle.std.specs.Prelude.{Err, ◌⊎◌, option_map, string_bytes}
use Rattle.clap.specs.Words.{Text}
use Rattle.pdp_script.specs.declared.faults.Fault.TheVariants.{BadImage as FaultBadImage}
use Rattle.pdp_replay.specs.Past.Setup.{most_units, unit_words, drive_words, tape_bytes}
use Rattle.pdp_session.specs.Image.{image_read}
use Rattle.pdp_program.specs.declared.command_line.FileNames.{FileNames}
use Rattle.pdp_program.specs.declared.exit.Exit.{Exit}
use Rattle.pdp_program.specs.declared.exit.Exit.TheVariants.{InputOrOutput, NoMemory, BadImage}
use Rattle.pdp_program.specs.declared.media.Media.{Media}

-- the words of the images of core and of each drive, and the bytes of the tape
pub record Contents : Type 0 where
  pub core : List ℕ
  pub drives : List (List ℕ)
  pub tape : List ℕ

abbrev pub contents_of : Media → Contents
contents_of media = record {
  core = media.core.items;
  drives = map (λ words. words.items) media.drives.items;
  tape = media.tape.items;
}

-- How many bytes are read of a file at most. Of an image these are all bytes that core or a drive
-- has room for, and one word more, which is enough to refuse an image that is too long; of a tape
-- one byte more. Units of core that are out of range are refused anyway: with them an image is read
-- as if core had all its units.
abbrev pub units_read : ℕ → ℕ
units_read units = if nat_le 1 units && nat_le units most_units then units else most_units

abbrev pub most_of_core : ℕ → ℕ
most_of_core units = 2 * (units_read units * unit_words + 1)

abbrev pub most_of_disk : ℕ
most_of_disk = 2 * (drive_words + 1)

abbrev pub most_of_tape : ℕ
most_of_tape = tape_bytes + 1

-- what comes of the name of a file: no bytes if there is no name; else the first bytes that the
-- file is known to have, at most `most` of them, or the exit if it can't be read or there is no
-- memory for its bytes
abbrev pub IsFileOf : (Text → Option (List ℕ)) → ℕ → Option Text → Result (List ℕ) Exit → Type 0
IsFileOf known most None bytes = bytes ≡ Ok []
IsFileOf known most (Some name) (Ok bytes) = (length bytes ≤ most) × IfSome (known name)
    (λ whole. bytes ≡ take most whole)
IsFileOf known most (Some name) (Err InputOrOutput) = Unit {0}
IsFileOf known most (Some name) (Err NoMemory) = Unit {0}
IsFileOf known most (Some name) (Err _) = ⊥

-- each of these bytes is what comes of the name at its place
unfoldable pub EachIsFileOf : (Text → Option (List ℕ)) → ℕ → List (Option Text) → List (List ℕ)
    → Type 0
EachIsFileOf known most [] [] = Unit {0}
EachIsFileOf known most (name ∷ names) (bytes ∷ others) =
    IsFileOf known most name (Ok bytes) × EachIsFileOf known most names others
EachIsFileOf known most _ _ = ⊥

-- what comes of the names of some files: that of each, or the exit if one can't be read or there is
-- no memory
abbrev pub AreFilesOf : (Text → Option (List ℕ)) → ℕ → List (Option Text) → Result (List
    (List ℕ)) Exit → Type 0
AreFilesOf known most names (Ok files) = EachIsFileOf known most names files
AreFilesOf known most names (Err InputOrOutput) = Unit {0}
AreFilesOf known most names (Err NoMemory) = Unit {0}
AreFilesOf known most names (Err _) = ⊥

-- what comes of the bytes of an image: its words, or the exit if their number is odd or there is no
-- memory for them
abbrev pub IsImageOf : List ℕ → Result (List ℕ) Exit → Type 0
IsImageOf bytes (Ok words) = image_read bytes ≡ Ok words
IsImageOf bytes (Err BadImage) = image_read bytes ≡ Err FaultBadImage
IsImageOf bytes (Err NoMemory) = Unit {0}
IsImageOf bytes (Err _) = ⊥

-- one of these images isn't whole words
abbrev pub IsBadAmong : List (List ℕ) → Type 0
IsBadAmong images = (drive : ℕ) × (slice_get (map image_read images) drive ≡ Some
    (Err FaultBadImage))

-- what comes of the bytes of the images of the drives: their words, or the exit if one isn't whole
-- words or there is no memory
abbrev pub AreImagesOf : List (List ℕ) → Result (List (List ℕ)) Exit → Type 0
AreImagesOf images (Ok drives) = map image_read images ≡ map Ok drives
AreImagesOf images (Err BadImage) = IsBadAmong images
AreImagesOf images (Err NoMemory) = Unit {0}
AreImagesOf images (Err _) = ⊥

-- the bytes that were read of the files of these names, for a core of these units
pub record AreBytesOf (known : Text → Option (List ℕ)) (units : ℕ) (names : FileNames)
    (core : List ℕ) (drives : List (List ℕ)) (tape : List ℕ) : Type 0 where
  pub core_read : IsFileOf known (most_of_core units) (option_map string_bytes names.core) (Ok core)
  pub drives_read : AreFilesOf known most_of_disk (map (λ name. option_map string_bytes name)
      names.drives.items) (Ok drives)
  pub tape_read : IsFileOf known most_of_tape (option_map string_bytes names.tape) (Ok tape)

-- all files were read, and what was read of each image is whole words
pub record HoldMedia (known : Text → Option (List ℕ)) (units : ℕ) (names : FileNames)
    (media : Contents) : Type 0 where
  pub core : List ℕ
  pub drives : List (List ℕ)
  pub bytes : AreBytesOf known units names core drives media.tape
  pub core_words : image_read core ≡ Ok media.core
  pub drive_words : map image_read drives ≡ map Ok media.drives

-- all files were read, and what was read of one of the images isn't whole words
pub record HoldBadImage (known : Text → Option (List ℕ)) (units : ℕ) (names : FileNames) : Type 0
  where
    pub core : List ℕ
    pub drives : List (List ℕ)
    pub tape : List ℕ
    pub bytes : AreBytesOf known units names core drives tape
    pub is_bad : (image_read core ≡ Err FaultBadImage) ⊎ IsBadAmong drives

-- what comes of the names of the files: what they hold; or the exit if one can't be read, or else
-- an image isn't whole words, or if it is out of memory
abbrev pub AreMediaOf : (Text → Option (List ℕ)) → ℕ → FileNames → Result Contents Exit → Type 0
AreMediaOf known units names (Ok media) = HoldMedia known units names media
AreMediaOf known units names (Err BadImage) = HoldBadImage known units names
AreMediaOf known units names (Err InputOrOutput) = Unit {0}
AreMediaOf known units names (Err NoMemory) = Unit {0}
AreMediaOf known units names (Err _) = ⊥
