-- A completion does the same whatever last stamps core has, and its trace leaves its stamps on them.
use Rattle.std.proofs.Common.{◌≡◌, ◌∙◌, ◌&&◌, ℕ, zero, suc, Bool, true, false, List, [], Option, Some, None, refl, sym, ap, length, slice_set, if◌then◌else◌}
use Rattle.pdp_device.specs.Operation.{is_under_way}
use Rattle.pdp_store.specs.TracedAccess.{TracedAccess}
use Rattle.pdp_store.specs.declared.Stamp.{Stamp}
use Rattle.pdp_rk11.specs.Handbook.Completion.{DiskWorld, rk_completed, drive_of, lists_after, stamp_of_disk, world_finished, run_unless_refused, refusal, rk_transferred, registers_after, with_rk, run_function, is_write_check}
use Rattle.pdp_rk11.specs.Handbook.Geometry.{drive_in}
use Rattle.pdp_rk11.specs.Trace.{StampsDisturbNoCompletion, completion_touches, disk_world_with_stamps, fill_touches, joined_lists, move_touches, transfer_touches, touches_unless_refused}
use Rattle.pdp_rk11.specs.Handbook.Transfer.{core_word, is_different, moved_to_core, rest_of_sector, stamps_read}
use Rattle.pdp_rk11.specs.declared.failure.Failure.{Failure}
use Rattle.pdp_rk11.specs.declared.function.Function.{Function}
use Rattle.pdp_rk11.specs.declared.function.Function.TheVariants.{ControlReset, Write, Read, WriteCheck, Seek, ReadCheck, DriveReset, WriteLock}
use Rattle.pdp_rk11.specs.declared.transfer.Transfer.{Transfer}
use Rattle.pdp_rk11.proofs.Done.{transfer_in}
use Rattle.pdp_rk11.proofs.Fronts.{front, no_move, one_more_move}
use Rattle.pdp_store.specs.Stamps.{stamps_after_trace}
use Rattle.pdp_store.proofs.Stamps.{stamps_after_trace-append}

-- parts of a trace that write no word of core
none_put : (f : ℕ → List TracedAccess) (stamps : List (Option Stamp)) → ((i : ℕ) → stamps_after_trace (f i) stamps ≡ stamps)
    → (n : ℕ) → stamps_after_trace (joined_lists f n) stamps ≡ stamps
unfolding stamps_after_trace
none_put f stamps none zero = refl
none_put f stamps none (suc n) =
    stamps_after_trace-append (joined_lists f n) (f n) stamps ∙ ap (stamps_after_trace (f n)) (none_put f stamps none n) ∙ none n

-- a read, move by move
read_puts : (t : Transfer) (drive turn : ℕ) (stamps : List (Option Stamp)) (n : ℕ)
    → stamps_after_trace (joined_lists (move_touches Read t drive turn) n) stamps
    ≡ moved_to_core (front t n) (λ i. Some (stamp_of_disk turn)) stamps
unfolding stamps_after_trace
read_puts t drive turn stamps zero = sym (no_move t (λ i. Some (stamp_of_disk turn)) stamps)
read_puts t drive turn stamps (suc n) =
    stamps_after_trace-append (joined_lists (move_touches Read t drive turn) n) (move_touches Read t drive turn n) stamps
    ∙ ap (λ zs. slice_set zs (core_word t n) (Some (stamp_of_disk turn))) (read_puts t drive turn stamps n)
    ∙ sym (one_more_move t n (λ i. Some (stamp_of_disk turn)) stamps)

-- what a function leaves of the stamps
abbrev pub stamps_by : Function → Transfer → ℕ → List (Option Stamp) → List (Option Stamp)
stamps_by Read t turn stamps = stamps_read t (stamp_of_disk turn) stamps
stamps_by _ t turn stamps = stamps

moves_put : (f : Function) (t : Transfer) (drive turn : ℕ) (stamps : List (Option Stamp))
    → stamps_after_trace (joined_lists (move_touches f t drive turn) t.count) stamps ≡ stamps_by f t turn stamps
unfolding stamps_after_trace
moves_put ControlReset t drive turn stamps = none_put _ stamps (λ i. refl) t.count
moves_put Write t drive turn stamps = none_put _ stamps (λ i. refl) t.count
moves_put Read t drive turn stamps = read_puts t drive turn stamps t.count
moves_put WriteCheck t drive turn stamps = none_put _ stamps (λ i. refl) t.count
moves_put Seek t drive turn stamps = none_put _ stamps (λ i. refl) t.count
moves_put ReadCheck t drive turn stamps = none_put _ stamps (λ i. refl) t.count
moves_put DriveReset t drive turn stamps = none_put _ stamps (λ i. refl) t.count
moves_put WriteLock t drive turn stamps = none_put _ stamps (λ i. refl) t.count

fill_puts_none : (f : Function) (t : Transfer) (drive turn : ℕ) (stamps : List (Option Stamp))
    → stamps_after_trace (fill_touches f t drive turn) stamps ≡ stamps
unfolding stamps_after_trace
fill_puts_none ControlReset t drive turn stamps = refl
fill_puts_none Write t drive turn stamps = none_put _ stamps (λ i. refl) (rest_of_sector t)
fill_puts_none Read t drive turn stamps = refl
fill_puts_none WriteCheck t drive turn stamps = refl
fill_puts_none Seek t drive turn stamps = refl
fill_puts_none ReadCheck t drive turn stamps = refl
fill_puts_none DriveReset t drive turn stamps = refl
fill_puts_none WriteLock t drive turn stamps = refl

transfer_puts : (f : Function) (t : Transfer) (drive turn : ℕ) (stamps : List (Option Stamp))
    → stamps_after_trace (transfer_touches f t drive turn) stamps ≡ stamps_by f t turn stamps
transfer_puts f t drive turn stamps =
    stamps_after_trace-append (joined_lists (move_touches f t drive turn) t.count) (fill_touches f t drive turn) stamps
    ∙ fill_puts_none f t drive turn _ ∙ moves_put f t drive turn stamps

lists_restamped : (f : Function) (t : Transfer) (turn : ℕ) (w : DiskWorld) (stamps : List (Option Stamp))
    → lists_after f t turn (disk_world_with_stamps w stamps) ≡ disk_world_with_stamps (lists_after f t turn w) (stamps_by f t turn stamps)
lists_restamped ControlReset t turn w stamps = refl
lists_restamped Write t turn w stamps = refl
lists_restamped Read t turn w stamps = refl
lists_restamped WriteCheck t turn w stamps = refl
lists_restamped Seek t turn w stamps = refl
lists_restamped ReadCheck t turn w stamps = refl
lists_restamped DriveReset t turn w stamps = refl
lists_restamped WriteLock t turn w stamps = refl

-- what a function does with words
transferred : (turn : ℕ) (w : DiskWorld) (stamps : List (Option Stamp))
    → world_finished (rk_transferred turn (disk_world_with_stamps w stamps))
    ≡ disk_world_with_stamps (world_finished (rk_transferred turn w)) (stamps_by w.rk.function (transfer_in w) turn stamps)
unfolding rk_transferred
transferred turn w stamps =
    let t = transfer_in w in
    let different = is_write_check w.rk.function && is_different t w.core (drive_of w) in
    ap (λ v. world_finished (with_rk v (registers_after (length (drive_of w)) t different w.rk)))
    (lists_restamped w.rk.function t turn w stamps)

same_by : (f : Function) (turn : ℕ) (w v : DiskWorld) (stamps : List (Option Stamp)) → w.rk.function ≡ f → stamps_by f (transfer_in w) turn stamps ≡ stamps
    → disk_world_with_stamps v stamps ≡ disk_world_with_stamps v (stamps_by w.rk.function (transfer_in w) turn stamps)
same_by f turn w v stamps is same =
    ap (disk_world_with_stamps v) (sym same ∙ ap (λ g. stamps_by g (transfer_in w) turn stamps) (sym is))

by_function : (f : Function) (turn : ℕ) (w : DiskWorld) (stamps : List (Option Stamp)) → w.rk.function ≡ f
    → world_finished (run_function f turn (disk_world_with_stamps w stamps))
    ≡ disk_world_with_stamps (world_finished (run_function f turn w)) (stamps_by w.rk.function (transfer_in w) turn stamps)
by_function ControlReset turn w stamps is = same_by ControlReset turn w (world_finished (run_function ControlReset turn w)) stamps is refl
by_function Write turn w stamps is = transferred turn w stamps
by_function Read turn w stamps is = transferred turn w stamps
by_function WriteCheck turn w stamps is = transferred turn w stamps
by_function Seek turn w stamps is = same_by Seek turn w (world_finished (run_function Seek turn w)) stamps is refl
by_function ReadCheck turn w stamps is = transferred turn w stamps
by_function DriveReset turn w stamps is = same_by DriveReset turn w (world_finished (run_function DriveReset turn w)) stamps is refl
by_function WriteLock turn w stamps is = same_by WriteLock turn w (world_finished (run_function WriteLock turn w)) stamps is refl

unless : (failure : Option Failure) (turn : ℕ) (w : DiskWorld) (stamps : List (Option Stamp))
    → world_finished (run_unless_refused failure turn (disk_world_with_stamps w stamps))
    ≡ disk_world_with_stamps (world_finished (run_unless_refused failure turn w)) (stamps_after_trace (touches_unless_refused failure turn w) stamps)
unfolding stamps_after_trace
unless (Some failure) turn w stamps = refl
unless None turn w stamps =
    by_function w.rk.function turn w stamps refl
    ∙ ap (disk_world_with_stamps (world_finished (run_function w.rk.function turn w)))
    (sym (transfer_puts w.rk.function (transfer_in w) (drive_in w.rk.disk_address) turn stamps))

completed_restamped : (turn : ℕ) (w : DiskWorld) (stamps : List (Option Stamp))
    → rk_completed turn (disk_world_with_stamps w stamps) ≡ disk_world_with_stamps (rk_completed turn w) (stamps_after_trace (completion_touches turn w) stamps)
unfolding rk_completed completion_touches stamps_after_trace
completed_restamped turn w stamps = by_state (is_under_way w.rk.operation) where
  by_state : (under_way : Bool)
      → (if under_way then world_finished (run_unless_refused (refusal w.rk (length w.drives)) turn (disk_world_with_stamps w stamps)) else disk_world_with_stamps w stamps)
      ≡ disk_world_with_stamps (if under_way then world_finished (run_unless_refused (refusal w.rk (length w.drives)) turn w) else w)
      (stamps_after_trace (if under_way then touches_unless_refused (refusal w.rk (length w.drives)) turn w else []) stamps)
  by_state true = unless (refusal w.rk (length w.drives)) turn w stamps
  by_state false = refl

touches_unless : (failure : Option Failure) (turn : ℕ) (w : DiskWorld) (stamps : List (Option Stamp))
    → touches_unless_refused failure turn (disk_world_with_stamps w stamps) ≡ touches_unless_refused failure turn w
touches_unless (Some failure) turn w stamps = refl
touches_unless None turn w stamps = refl

completion_touches_same : (turn : ℕ) (w : DiskWorld) (stamps : List (Option Stamp))
    → completion_touches turn (disk_world_with_stamps w stamps) ≡ completion_touches turn w
unfolding completion_touches
completion_touches_same turn w stamps = by_state (is_under_way w.rk.operation) where
  by_state : (under_way : Bool)
      → (if under_way then touches_unless_refused (refusal w.rk (length w.drives)) turn (disk_world_with_stamps w stamps) else [])
      ≡ (if under_way then touches_unless_refused (refusal w.rk (length w.drives)) turn w else [])
  by_state true = touches_unless (refusal w.rk (length w.drives)) turn w stamps
  by_state false = refl

pub stamps_disturb_no_completion : StampsDisturbNoCompletion
stamps_disturb_no_completion turn w stamps = record {
  is = completed_restamped turn w stamps;
  trace = completion_touches_same turn w stamps;
}
