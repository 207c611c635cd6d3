-- What a run starts from, as plain data [P].
use Rattle.std.specs.Prelude.{ℕ, ◌≡◌, ◌<◌, ◌≤◌, ◌*◌, ◌%◌, ◌==◌, ◌&&◌, Bool, List, [], Result, Ok}
use Rattle.std.specs.Prelude.{Err, length, map, nat_le, slice_index_or, if◌then◌else◌}
use Rattle.std.specs.List.{All, list_all}
use Rattle.std.specs.Global.{Vec}
use Rattle.indexmap.specs.IndexMap.{IndexMap}
use Rattle.std.specs.declared.hash.BuildHasherDefault.{BuildHasherDefault}
use Rattle.std.specs.declared.hash.FoldHasher.{FoldHasher}
use Rattle.pdp_script.specs.declared.faults.Fault.{Fault}
use Rattle.pdp_script.specs.declared.faults.Fault.TheVariants.{BadImage, BadSetup}
use Rattle.pdp_io_page.specs.Handbook.Delays.{standard_delays}
use Rattle.pdp_io_page.specs.declared.delays.Delays.{Delays}
use Rattle.pdp_replay.specs.Past.PatchedWords.{Patches}
use Rattle.pdp_store.specs.declared.part.WordAt.{WordAt}
use Rattle.pdp_checkpoint.specs.Ladder.{widest_stride}
use Rattle.pdp_replay.specs.declared.past.base_setup.DriveCount.{DriveCount}
use Rattle.pdp_replay.specs.declared.past.base_setup.DriveCount.TheVariants.{One, Eight}
use Rattle.pdp_replay.specs.declared.past.base_setup.BaseSetup.{BaseSetup}
use Rattle.pdp_replay.specs.declared.past.setup.Setup.{Setup}
use Rattle.pdp_replay.specs.declared.past.setup_numbers.SetupNumbers.{SetupNumbers}

-- the size of core in units of 4,096 words, the start address, the images of core and, by their
-- numbers, of drives, how many drives there are, the tape, the starting stride, the delays, and the
-- patches: each patched word and its new value, in the order in which they were first given. The
-- image of a drive that isn't there counts for nothing.
pub record SetupData : Type 0 where
  pub units : ℕ
  pub start : ℕ
  pub core : List ℕ
  pub disks : List (List ℕ)
  pub drives : ℕ
  pub tape : List ℕ
  pub stride : ℕ
  pub delays : Delays
  pub patches : Patches

-- the limits of a setup: the units of core and the words of one, the drives of one controller and
-- the words of a drive (203 cylinders of 2 surfaces of 12 sectors of 256 words), and the bytes of a
-- tape [6.4] [6.66] [6.67]
abbrev pub most_units : ℕ
most_units = 31

abbrev pub unit_words : ℕ
unit_words = 4096

abbrev pub most_drives : ℕ
most_drives = 8

abbrev pub drive_words : ℕ
drive_words = 1247232

abbrev pub tape_bytes : ℕ
tape_bytes = 1048576

-- how many words core has
abbrev pub core_size : SetupData → ℕ
core_size s = s.units * unit_words

-- the words of images, and those of the image of a drive, none if it has no image
abbrev pub images_of : List (Vec ℕ) → List (List ℕ)
images_of images = map (λ (image : Vec ℕ). image.items) images

abbrev pub image_of : List (List ℕ) → ℕ → List ℕ
image_of disks drive = slice_index_or disks drive []

-- how many drives a run begins with
abbrev pub first_drives : ℕ
first_drives = 1

-- how many drives a run has: one, or all eight [6.66]
abbrev pub drive_count : DriveCount → ℕ
drive_count One = first_drives
drive_count Eight = most_drives

-- its numbers
abbrev pub setup_numbers : SetupData → SetupNumbers
setup_numbers s = record {
  units = s.units;
  start = s.start;
  stride = s.stride;
  delays = s.delays;
  tape_len = length s.tape;
}

-- a setup with one drive and the standard delays, and without patches
abbrev pub given_setup : Setup → SetupData
given_setup setup = record {
  units = setup.units;
  start = setup.start;
  core = setup.core.items;
  disks = images_of setup.disks.items;
  drives = first_drives;
  tape = setup.tape.items;
  stride = setup.stride;
  delays = standard_delays;
  patches = [];
}

-- what a base setup gives, with this tape, these delays and these patches
abbrev pub setup_of : BaseSetup → List ℕ → Delays → Patches → SetupData
setup_of base_setup tape delays patches = record {
  units = base_setup.units;
  start = base_setup.start;
  core = base_setup.core.items;
  disks = images_of base_setup.disks.items;
  drives = drive_count base_setup.drives;
  tape = tape;
  stride = base_setup.stride;
  delays = delays;
  patches = patches;
}

-- with the standard delays, and without patches
abbrev pub first_setup : BaseSetup → List ℕ → SetupData
first_setup base_setup tape = setup_of base_setup tape standard_delays []

-- with the delays and the patches of an engine
abbrev pub setup_from : BaseSetup → List ℕ → Delays → IndexMap WordAt ℕ
    (BuildHasherDefault FoldHasher) → SetupData
setup_from base_setup tape delays patches = setup_of base_setup tape delays patches.entries

-- this setup has as many units of core and as many drives as a base setup
pub record IsOfSize (base : BaseSetup) (s : SetupData) : Type 0 where
  pub units : s.units ≡ base.units
  pub drives : s.drives ≡ drive_count base.drives

-- units and stride within their limits, and an even start [6.4] [7.1]
abbrev pub has_good_numbers : SetupData → Bool
has_good_numbers s = nat_le 1 s.units && nat_le s.units most_units && s.start % 2 == 0 && nat_le 1
    s.stride && nat_le s.stride widest_stride

-- is an image within a drive?
abbrev pub fits_drive : List ℕ → Bool
fits_drive image = nat_le (length image) drive_words

-- at most eight images of drives, each within a drive
abbrev pub has_good_disks : List (List ℕ) → Bool
has_good_disks disks = nat_le (length disks) most_drives && list_all fits_drive disks

-- core's image within core, the images of drives as they can be, a tape within its limit
abbrev pub has_good_images : SetupData → Bool
has_good_images s = nat_le (length s.core) (core_size s) && has_good_disks s.disks && nat_le
    (length s.tape) tape_bytes

-- what a run can start from, or why not
unfoldable pub setup_checked : SetupData → Result SetupData Fault
setup_checked s = (if has_good_numbers s then if has_good_images s then Ok s else Err BadImage else
    Err BadSetup)

-- what is kept of a setup that a run can start from
pub record IsGood (s : SetupData) : Type 0 where
  pub units : s.units ≤ most_units
  pub some : 0 < s.stride
  pub widest : s.stride ≤ widest_stride
  pub core : length s.core ≤ core_size s
  pub disks : All (λ image. length image ≤ drive_words) s.disks
