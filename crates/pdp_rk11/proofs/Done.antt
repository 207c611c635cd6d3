-- What a completion comes to: no list changes and no word is touched, or it is a transfer.
use Rattle.std.proofs.Common.{◌≡◌, ℕ, Bool, true, false, List, [], Option, Some, None, refl, length, if◌then◌else◌}
use Rattle.pdp_device.specs.Operation.{is_under_way}
use Rattle.pdp_store.specs.TracedAccess.{TracedAccess}
use Rattle.pdp_rk11.specs.Handbook.Completion.{DiskWorld, rk_completed, drive_of, world_finished, lists_after, run_unless_refused, refusal, transfer_of, rk_transferred, with_rk, run_function}
use Rattle.pdp_rk11.specs.Handbook.Geometry.{drive_in}
use Rattle.pdp_rk11.specs.Trace.{completion_touches, touches_unless_refused, transfer_touches}
use Rattle.pdp_rk11.specs.declared.failure.Failure.{Failure}
use Rattle.pdp_rk11.specs.declared.function.Function.{Function}
use Rattle.pdp_rk11.specs.declared.function.Function.TheVariants.{ControlReset, Write, Read, WriteCheck, Seek, ReadCheck, DriveReset, WriteLock}
use Rattle.pdp_rk11.specs.declared.rk.Rk.{Rk}
use Rattle.pdp_rk11.specs.declared.transfer.Transfer.{Transfer}

-- the transfer that a world is about to do
abbrev pub transfer_in : DiskWorld → Transfer
transfer_in w = transfer_of w.rk (length w.core) (length (drive_of w))

-- a trace and a world that a completion may leave, whatever its registers
pub data Done (turn : ℕ) (w : DiskWorld) : List TracedAccess → DiskWorld → Type 0 where
  Quiet : (rk : Rk) → Done turn w [] (with_rk w rk)
  Moved : (rk : Rk)
      → Done turn w (transfer_touches w.rk.function (transfer_in w) (drive_in w.rk.disk_address) turn)
      (with_rk (lists_after w.rk.function (transfer_in w) turn w) rk)

done_by_function : (f : Function) (turn : ℕ) (w : DiskWorld) → w.rk.function ≡ f
    → Done turn w (transfer_touches w.rk.function (transfer_in w) (drive_in w.rk.disk_address) turn) (world_finished (run_function f turn w))
unfolding rk_transferred
done_by_function ControlReset turn w is = rw is (Moved _)
done_by_function Write turn w is = Moved _
done_by_function Read turn w is = Moved _
done_by_function WriteCheck turn w is = Moved _
done_by_function Seek turn w is = rw is (Moved _)
done_by_function ReadCheck turn w is = Moved _
done_by_function DriveReset turn w is = rw is (Moved _)
done_by_function WriteLock turn w is = rw is (Moved _)

done_unless : (failure : Option Failure) (turn : ℕ) (w : DiskWorld)
    → Done turn w (touches_unless_refused failure turn w) (world_finished (run_unless_refused failure turn w))
done_unless (Some failure) turn w = Quiet _
done_unless None turn w = done_by_function w.rk.function turn w refl

pub done : (turn : ℕ) (w : DiskWorld) → Done turn w (completion_touches turn w) (rk_completed turn w)
unfolding rk_completed completion_touches
done turn w = by_state (is_under_way w.rk.operation) where
  by_state : (under_way : Bool)
      → Done turn w (if under_way then touches_unless_refused (refusal w.rk (length w.drives)) turn w else [])
      (if under_way then world_finished (run_unless_refused (refusal w.rk (length w.drives)) turn w) else w)
  by_state true = done_unless (refusal w.rk (length w.drives)) turn w
  by_state false = Quiet w.rk

-- if nothing is under way, a completion does nothing
pub completed_at_rest : (turn : ℕ) (w : DiskWorld) → is_under_way w.rk.operation ≡ false → rk_completed turn w ≡ w
unfolding rk_completed
completed_at_rest turn w rest = rw rest refl

pub touches_at_rest : (turn : ℕ) (w : DiskWorld) → is_under_way w.rk.operation ≡ false → completion_touches turn w ≡ []
unfolding completion_touches
touches_at_rest turn w rest = rw rest refl
