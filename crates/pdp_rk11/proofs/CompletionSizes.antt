-- A completion keeps the lengths of core, of its stamps and of each drive.
use Rattle.std.proofs.Common.{◌≡◌, ℕ, List, [], refl, sym, ◌∙◌, ap, length, map, slice_index_or, slice_set}
use Rattle.std.proofs.lemmas.List.{length-map, map-set, set-get_or}
use Rattle.pdp_store.specs.TracedAccess.{TracedAccess}
use Rattle.pdp_rk11.specs.Handbook.Completion.{DiskWorld, rk_completed, drive_of, lists_after}
use Rattle.pdp_rk11.specs.Handbook.Geometry.{drive_in}
use Rattle.pdp_rk11.specs.Trace.{SameSizes}
use Rattle.pdp_rk11.specs.Handbook.Transfer.{disk_word, disk_written, moved_to_disk, rest_of_sector}
use Rattle.pdp_rk11.specs.declared.function.Function.{Function}
use Rattle.pdp_rk11.specs.declared.function.Function.TheVariants.{ControlReset, Write, Read, WriteCheck, Seek, ReadCheck, DriveReset, WriteLock}
use Rattle.pdp_rk11.specs.declared.transfer.Transfer.{Transfer}
use Rattle.pdp_rk11.proofs.Done.{Done, Quiet, Moved, done, transfer_in}
use Rattle.pdp_rk11.proofs.Fronts.{length-moved_to_core}
use Rattle.pdp_rk11.proofs.Moves.{length-moved}

pub length-disk_written : (t : Transfer) (core disk : List ℕ) → length (disk_written t core disk) ≡ length disk
length-disk_written t core disk =
    length-moved (disk_word t t.count) (rest_of_sector t) (λ i. 0) (moved_to_disk t core disk) ∙ length-moved t.disk_start t.count _ disk

-- drives keep their lengths if one of them is exchanged for a list of its length
same_lengths : (drives : List (List ℕ)) (drive : ℕ) (words : List ℕ) → length words ≡ length (slice_index_or drives drive [])
    → map length (slice_set drives drive words) ≡ map length drives
same_lengths drives drive words size =
    map-set length drives drive words
    ∙ ap (λ n. slice_set (map length drives) drive n) size
    ∙ sym (map-set length drives drive (slice_index_or drives drive []))
    ∙ ap (λ xs. map length xs) (set-get_or drives drive [])

sizes_by_function : (f : Function) (t : Transfer) (turn : ℕ) (w : DiskWorld) → SameSizes w (lists_after f t turn w)
sizes_by_function ControlReset t turn w = record { core = refl; stamps = refl; drives = refl }
sizes_by_function Write t turn w = record {
  core = refl;
  stamps = refl;
  drives =
      same_lengths w.drives (drive_in w.rk.disk_address) (disk_written t w.core (drive_of w)) (length-disk_written t w.core (drive_of w));
}
sizes_by_function Read t turn w = record {
  core = length-moved_to_core t _ w.core;
  stamps = length-moved_to_core t _ w.stamps;
  drives = refl;
}
sizes_by_function WriteCheck t turn w = record { core = refl; stamps = refl; drives = refl }
sizes_by_function Seek t turn w = record { core = refl; stamps = refl; drives = refl }
sizes_by_function ReadCheck t turn w = record { core = refl; stamps = refl; drives = refl }
sizes_by_function DriveReset t turn w = record { core = refl; stamps = refl; drives = refl }
sizes_by_function WriteLock t turn w = record { core = refl; stamps = refl; drives = refl }

sizes_of : {turn : ℕ} {w v : DiskWorld} {xs : List TracedAccess} → Done turn w xs v → SameSizes w v
sizes_of (Quiet rk) = record { core = refl; stamps = refl; drives = refl }
sizes_of {turn} {w} (Moved rk) =
    let same = sizes_by_function w.rk.function (transfer_in w) turn w in
    record { core = same.core; stamps = same.stamps; drives = same.drives }

pub completed_sizes : (turn : ℕ) (w : DiskWorld) → SameSizes w (rk_completed turn w)
completed_sizes turn w = sizes_of (done turn w)

pub drives_count : (turn : ℕ) (w : DiskWorld) → length (rk_completed turn w).drives ≡ length w.drives
drives_count turn w =
    sym (length-map (rk_completed turn w).drives length)
    ∙ ap (λ ns. length ns) (completed_sizes turn w).drives
    ∙ length-map w.drives length
