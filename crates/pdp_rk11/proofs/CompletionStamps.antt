-- Each last stamp after a completion is that of the last write to the word in the completion's trace.
use Rattle.std.proofs.Common.{◌≡◌, ◌==◌, ℕ, zero, suc, ◌<◌, Bool, true, false, List, Option, Some, None, refl, sym, ◌∙◌, ap, arith, length, slice_index_or, slice_set, if◌then◌else◌, get_or-set_same, get_or-set_other}
use Rattle.std.proofs.lemmas.Bool.{eqb-false, eqb-true}
use Rattle.pdp_store.specs.TracedAccess.{TracedAccess, last_write}
use Rattle.pdp_store.specs.declared.Stamp.{Stamp}
use Rattle.pdp_store.proofs.Traces.{last_write-append}
use Rattle.pdp_rk11.specs.Handbook.Completion.{DiskWorld, rk_completed, lists_after, stamp_of_disk}
use Rattle.pdp_rk11.specs.Handbook.Geometry.{drive_in}
use Rattle.pdp_rk11.specs.Trace.{completion_touches, fill_touches, joined_lists, move_touches, transfer_touches}
use Rattle.pdp_rk11.specs.Handbook.Transfer.{core_word, moved_to_core, rest_of_sector}
use Rattle.pdp_rk11.specs.declared.function.Function.{Function}
use Rattle.pdp_rk11.specs.declared.function.Function.TheVariants.{ControlReset, Write, Read, WriteCheck, Seek, ReadCheck, DriveReset, WriteLock}
use Rattle.pdp_rk11.specs.declared.transfer.Transfer.{Transfer}
use Rattle.pdp_rk11.proofs.Done.{Done, Quiet, Moved, done, transfer_in}
use Rattle.pdp_rk11.proofs.Fronts.{front, length-moved_to_core, no_move, one_more_move}

-- if no part of a trace writes core, the last write is the one before
none_written : (f : ℕ → List TracedAccess) (k : ℕ) (before : Option Stamp) → ((i : ℕ) (last : Option Stamp) → last_write (f i) k last ≡ last)
    → (n : ℕ) → last_write (joined_lists f n) k before ≡ before
none_written f k before init zero = refl
none_written f k before init (suc n) =
    last_write-append (joined_lists f n) (f n) k before ∙ init n (last_write (joined_lists f n) k before) ∙ none_written f k before init n

stamped : (stamps : List (Option Stamp)) (j k : ℕ) (stamp : Option Stamp) (same : Bool) → (j == k) ≡ same → k < length stamps
    → slice_index_or (slice_set stamps j stamp) k None ≡ (if same then stamp else slice_index_or stamps k None)
stamped stamps j k stamp true is within = rw (eqb-true _ _ is) (get_or-set_same _ _ _ _ within)
stamped stamps j k stamp false is within = get_or-set_other stamps j k stamp None (λ equal. eqb-false j k is (sym equal))

abbrev stamp_of_move : ℕ → ℕ → Option Stamp
stamp_of_move turn i = Some (stamp_of_disk turn)

-- a read, move by move
read_stamps : (t : Transfer) (drive turn : ℕ) (stamps : List (Option Stamp)) (k : ℕ) → k < length stamps → (n : ℕ)
    → slice_index_or (moved_to_core (front t n) (stamp_of_move turn) stamps) k None
    ≡ last_write (joined_lists (move_touches Read t drive turn) n) k (slice_index_or stamps k None)
read_stamps t drive turn stamps k within zero = ap (λ xs. slice_index_or xs k None) (no_move t (stamp_of_move turn) stamps)
read_stamps t drive turn stamps k within (suc n) =
    let inside : k < length (moved_to_core (front t n) (stamp_of_move turn) stamps) =
    omega (arith, length-moved_to_core (front t n) (stamp_of_move turn) stamps) in
    ap (λ xs. slice_index_or xs k None) (one_more_move t n (stamp_of_move turn) stamps)
    ∙ stamped (moved_to_core (front t n) (stamp_of_move turn) stamps) (core_word t n) k (Some (stamp_of_disk turn)) _ refl inside
    ∙ ap (λ (last : Option Stamp). if core_word t n == k then Some (stamp_of_disk turn) else last) (read_stamps t drive turn stamps k within n)
    ∙ sym (last_write-append (joined_lists (move_touches Read t drive turn) n) (move_touches Read t drive turn n) k (slice_index_or stamps k None))

-- the fill of a sector writes no word of core
fill_writes_none : (f : Function) (t : Transfer) (drive turn k : ℕ) (before : Option Stamp)
    → last_write (fill_touches f t drive turn) k before ≡ before
fill_writes_none ControlReset t drive turn k before = refl
fill_writes_none Write t drive turn k before = none_written _ k before (λ i last. refl) (rest_of_sector t)
fill_writes_none Read t drive turn k before = refl
fill_writes_none WriteCheck t drive turn k before = refl
fill_writes_none Seek t drive turn k before = refl
fill_writes_none ReadCheck t drive turn k before = refl
fill_writes_none DriveReset t drive turn k before = refl
fill_writes_none WriteLock t drive turn k before = refl

moves_stamp : (f : Function) (t : Transfer) (drive turn : ℕ) (w : DiskWorld) (k : ℕ) → k < length w.stamps
    → slice_index_or (lists_after f t turn w).stamps k None
    ≡ last_write (joined_lists (move_touches f t drive turn) t.count) k (slice_index_or w.stamps k None)
moves_stamp ControlReset t drive turn w k within = sym (none_written _ k _ (λ i last. refl) t.count)
moves_stamp Write t drive turn w k within = sym (none_written _ k _ (λ i last. refl) t.count)
moves_stamp Read t drive turn w k within = read_stamps t drive turn w.stamps k within t.count
moves_stamp WriteCheck t drive turn w k within = sym (none_written _ k _ (λ i last. refl) t.count)
moves_stamp Seek t drive turn w k within = sym (none_written _ k _ (λ i last. refl) t.count)
moves_stamp ReadCheck t drive turn w k within = sym (none_written _ k _ (λ i last. refl) t.count)
moves_stamp DriveReset t drive turn w k within = sym (none_written _ k _ (λ i last. refl) t.count)
moves_stamp WriteLock t drive turn w k within = sym (none_written _ k _ (λ i last. refl) t.count)

stamps_by_function : (f : Function) (t : Transfer) (drive turn : ℕ) (w : DiskWorld) (k : ℕ) → k < length w.stamps
    → slice_index_or (lists_after f t turn w).stamps k None
    ≡ last_write (transfer_touches f t drive turn) k (slice_index_or w.stamps k None)
stamps_by_function f t drive turn w k within =
    moves_stamp f t drive turn w k within
    ∙ sym (fill_writes_none f t drive turn k _)
    ∙ sym (last_write-append (joined_lists (move_touches f t drive turn) t.count) (fill_touches f t drive turn) k (slice_index_or w.stamps k None))

stamps_of : {turn : ℕ} {w v : DiskWorld} {xs : List TracedAccess} → Done turn w xs v → (k : ℕ) → k < length w.stamps
    → slice_index_or v.stamps k None ≡ last_write xs k (slice_index_or w.stamps k None)
stamps_of (Quiet rk) k within = refl
stamps_of {turn} {w} (Moved rk) k within =
    stamps_by_function w.rk.function (transfer_in w) (drive_in w.rk.disk_address) turn w k within

pub completed_stamps : (turn : ℕ) (w : DiskWorld) (k : ℕ) → k < length w.stamps
    → slice_index_or (rk_completed turn w).stamps k None ≡ last_write (completion_touches turn w) k (slice_index_or w.stamps k None)
completed_stamps turn w = stamps_of (done turn w)
