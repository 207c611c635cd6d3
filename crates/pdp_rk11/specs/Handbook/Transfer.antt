-- A transfer between core and a drive, as one equation over both lists: PDP-11 Peripherals
-- Handbook, RK11 (the zero fill of a sector [P]).
use Rattle.std.specs.Prelude.{ℕ, ◌+◌, ◌-◌, ◌*◌, ◌/◌, ◌==◌, Bool, not, List, Option, Some, None}
use Rattle.std.specs.Prelude.{slice_index, if◌then◌else◌}
use Rattle.pdp_store.specs.declared.Stamp.{Stamp}
use Rattle.pdp_rk11.specs.Handbook.Geometry.{words_of_sector}
use Rattle.pdp_rk11.specs.Moves.{any_below, moved_items, moved_to_one}
use Rattle.pdp_rk11.specs.declared.transfer.Transfer.{Transfer}

-- the word of core, and the word of the drive, of move i: counted from 0, below the transfer's
-- count [6.91]
abbrev pub core_word : Transfer → ℕ → ℕ
core_word t i = if t.no_increment then t.core_start else t.core_start + i

abbrev pub disk_word : Transfer → ℕ → ℕ
disk_word t i = t.disk_start + i

-- a list of core's length with a value moved to the word of core of each move: if many go to one
-- word, the last stays [6.91]
abbrev pub moved_to_core : {A : Type 0} → Transfer → (ℕ → A) → List A → List A
moved_to_core t value xs =
    if t.no_increment then moved_to_one t.core_start t.count value xs else moved_items t.core_start
    t.count value xs

-- core, and its stamps, after a read
abbrev pub core_after_read : Transfer → List ℕ → List ℕ → List ℕ
core_after_read t disk core = moved_to_core t (λ i. slice_index disk (disk_word t i)) core

abbrev pub stamps_read : Transfer → Stamp → List (Option Stamp) → List (Option Stamp)
stamps_read t stamp stamps = moved_to_core t (λ i. Some stamp) stamps

-- how many words are left of the sector in which it ends, if it ends inside of one [6.93]
abbrev pub rest_of_sector : Transfer → ℕ
rest_of_sector t = (t.count + (words_of_sector - 1)) / words_of_sector * words_of_sector - t.count

-- the drive after a write: the words moved there, and zeros to the end of the last sector [6.93]
abbrev pub moved_to_disk : Transfer → List ℕ → List ℕ → List ℕ
moved_to_disk t core disk = moved_items t.disk_start t.count (λ i. slice_index core
    (core_word t i)) disk

abbrev pub disk_written : Transfer → List ℕ → List ℕ → List ℕ
disk_written t core disk = moved_items (disk_word t t.count) (rest_of_sector t) (λ i. 0)
    (moved_to_disk t core disk)

-- the same stamps, but none for `count` words from a first one on
abbrev pub without_stamps : ℕ → ℕ → List (Option Stamp) → List (Option Stamp)
without_stamps first count stamps = moved_items first count (λ i. None) stamps

-- the last stamps of the drive after a write, if it has any: what the disk writes there takes no
-- stamp, so the words that it writes have none, and all others theirs
abbrev pub stamps_written : Transfer → List (Option Stamp) → List (Option Stamp)
stamps_written t stamps =
    without_stamps (disk_word t t.count) (rest_of_sector t)
    (without_stamps t.disk_start t.count stamps)

-- whether core and drive differ in any of the words that are compared [6.76] [6.92]
abbrev pub is_different : Transfer → List ℕ → List ℕ → Bool
is_different t core disk =
    any_below t.count (λ i. not (slice_index core (core_word t i) == slice_index disk
    (disk_word t i)))
