-- An RK05 drive and its disk addresses: PDP-11 Peripherals Handbook, RK11 and RK05 (203 cylinders
-- of 2 surfaces of 12 sectors of 256 words).
use Rattle.std.specs.Prelude.{ℕ, ◌+◌, ◌*◌, ◌/◌, ◌%◌}
use Rattle.pdp_word.specs.Bits.{field}
use Rattle.pdp_rk11.specs.Handbook.Bits.{rkda_cylinder, rkda_drive, rkda_surface}

abbrev pub cylinders : ℕ
cylinders = 203

abbrev pub surfaces : ℕ
surfaces = 2

abbrev pub sectors_of_track : ℕ
sectors_of_track = 12

abbrev pub words_of_sector : ℕ
words_of_sector = 256

abbrev pub sectors_of_cylinder : ℕ
sectors_of_cylinder = 24

-- 203 cylinders of 2 surfaces of 12 sectors [6.67]
abbrev pub sectors_of_drive : ℕ
sectors_of_drive = 4872

-- a disk address has room for 256 cylinders
abbrev pub sectors_named : ℕ
sectors_named = 6144

-- bit 16 of a bus address, of which RKBA has those below it and RKCS the others
abbrev pub address_bit_16 : ℕ
address_bit_16 = 0o200000

-- the words that RKWC 0 asks for, and the most [6.90]
abbrev pub most_words_asked : ℕ
most_words_asked = 0o200000

-- the parts of a disk address, RKDA: 15-13 drive, 12-5 cylinder, 4 surface, 3-0 sector [6.40]
-- [6.53]
abbrev pub drive_in : ℕ → ℕ
drive_in address = field 13 3 address

abbrev pub cylinder_in : ℕ → ℕ
cylinder_in address = field 5 8 address

abbrev pub surface_in : ℕ → ℕ
surface_in address = field 4 1 address

abbrev pub sector_in : ℕ → ℕ
sector_in address = field 0 4 address

-- the number on its drive of the sector that an address names [6.67]
abbrev pub sector_number : ℕ → ℕ
sector_number address =
    (cylinder_in address * surfaces + surface_in address) * sectors_of_track + sector_in address

-- the address of the sector of this number on a drive; after the last sector it is cylinder 203,
-- surface 0, sector 0 [6.95]
abbrev pub address_of_sector : ℕ → ℕ → ℕ
address_of_sector drive number =
    drive * rkda_drive + number / sectors_of_cylinder * rkda_cylinder
    + number / sectors_of_track % surfaces * rkda_surface + number % sectors_of_track
