-- How the code fills core and the drives: an image with zeros after it. No public contract names
-- this.
use Rattle.std.specs.Prelude.{ℕ, ◌-◌, List, ◌++◌, length, map, replicate}
use Rattle.std.specs.List.{range_with_len}
use Rattle.pdp_replay.specs.Past.Setup.{drive_words, image_of}

-- an image, and zeros after it up to so many words
abbrev pub padded_image : ℕ → List ℕ → List ℕ
padded_image words image = image ++ replicate (words - length image) 0

-- a drive over its image, and the seven that a run can get beside its first
abbrev pub padded_drive : List (List ℕ) → ℕ → List ℕ
padded_drive disks drive = padded_image drive_words (image_of disks drive)

unfoldable pub more_drives : List (List ℕ) → List (List ℕ)
more_drives disks = map (padded_drive disks) (range_with_len 1 7)
