-- The sizes of the drives in each state of a run.
use Rattle.std.proofs.Common.{◌≡◌, ◌∙◌, ℕ, zero, suc, ◌<◌, List, [], ◌∷◌, ap, arith, length, map, refl, replicate, slice_index_or, sym}
use Rattle.pdp_cpu.proofs.DriveSizes.{turn_keeps_drives}
use Rattle.pdp_script.specs.Entries.{events_at}
use Rattle.pdp_replay.specs.Ask.Answer.{AreDrives}
use Rattle.pdp_replay.specs.Past.{Past}
use Rattle.pdp_replay.specs.Past.Setup.{drive_words}
use Rattle.pdp_replay.specs.Run.States.{disk_of, first_world, state_at}
use Rattle.pdp_replay.proofs.past.FirstWords.{drives_have_sizes}

-- each drive has its size in each state
pub drives_keep_sizes : (p : Past) (n : ℕ) → map length (state_at p n).bus.drives ≡ replicate p.setup.drives drive_words
unfolding state_at first_world
drives_keep_sizes p zero = drives_have_sizes p.setup
drives_keep_sizes p (suc n) = turn_keeps_drives n (events_at p.script.entries n) (state_at p n) ∙ drives_keep_sizes p n

-- one of so many lists of one length, and how many there are
pub length_of_drive : (drives : List (List ℕ)) (count size drive : ℕ) → map length drives ≡ replicate count size → drive < count
    → length (slice_index_or drives drive []) ≡ size
length_of_drive drives zero size drive is below = absurd (omega arith)
length_of_drive [] (suc count) size drive is below = absurd (cc is)
length_of_drive (words ∷ drives) (suc count) size zero is below = cc is
length_of_drive (words ∷ drives) (suc count) size (suc drive) is below = length_of_drive drives count size drive (cc is) (omega arith)

pub drives_counted : (drives : List (List ℕ)) (count size : ℕ) → map length drives ≡ replicate count size → length drives ≡ count
drives_counted [] zero size is = refl
drives_counted [] (suc count) size is = absurd (cc is)
drives_counted (words ∷ drives) zero size is = absurd (cc is)
drives_counted (words ∷ drives) (suc count) size is = ap suc (drives_counted drives count size (cc is))

pub drive_keeps_size : (p : Past) (n drive : ℕ) → drive < p.setup.drives → length (disk_of (state_at p n) drive) ≡ drive_words
drive_keeps_size p n drive below =
    length_of_drive (state_at p n).bus.drives p.setup.drives drive_words drive (drives_keep_sizes p n) below

-- the drives of a state have all their words, by how many they are
pub are_drives : (p : Past) (n : ℕ) → AreDrives (state_at p n).bus.drives
are_drives p n =
    let sizes = drives_keep_sizes p n in
    sizes ∙ ap (λ count. replicate count drive_words) (sym (drives_counted (state_at p n).bus.drives p.setup.drives drive_words sizes))

pub drives_keep_count : (p : Past) (n : ℕ) → length (state_at p n).bus.drives ≡ p.setup.drives
drives_keep_count p n = drives_counted (state_at p n).bus.drives p.setup.drives drive_words (drives_keep_sizes p n)

pub drive_is_whole : (drives : List (List ℕ)) (drive : ℕ) → AreDrives drives → drive < length drives → length (slice_index_or drives drive []) ≡ drive_words
drive_is_whole drives drive are below = length_of_drive drives (length drives) drive_words drive are below
