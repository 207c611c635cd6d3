-- What a completion does to ready and enable and to the operation.
use Rattle.std.proofs.Common.{◌≡◌, ℕ, true, false, Option, Some, None, length, refl, ap}
use Rattle.pdp_device.specs.ReadyEnable.{with_ready}
use Rattle.pdp_device.specs.Operation.{is_under_way}
use Rattle.pdp_device.specs.declared.operation.Operation.TheVariants.{Idle}
use Rattle.pdp_rk11.specs.Handbook.Completion.{DiskWorld, rk_completed, run_unless_refused, refusal, registers_after, rk_transferred, run_function}
use Rattle.pdp_rk11.specs.declared.failure.Failure.{Failure}
use Rattle.pdp_rk11.specs.declared.function.Function.{Function}
use Rattle.pdp_rk11.specs.declared.function.Function.TheVariants.{ControlReset, Write, Read, WriteCheck, Seek, ReadCheck, DriveReset, WriteLock}

transferred_leaves : (turn : ℕ) (w : DiskWorld) → (rk_transferred turn w).rk.ready_enable ≡ w.rk.ready_enable
unfolding rk_transferred registers_after
transferred_leaves turn w = refl

worked_leaves : (function : Function) (turn : ℕ) (w : DiskWorld) → (run_function function turn w).rk.ready_enable ≡ w.rk.ready_enable
worked_leaves ControlReset turn w = refl
worked_leaves Write turn w = transferred_leaves turn w
worked_leaves Read turn w = transferred_leaves turn w
worked_leaves WriteCheck turn w = transferred_leaves turn w
worked_leaves Seek turn w = refl
worked_leaves ReadCheck turn w = transferred_leaves turn w
worked_leaves DriveReset turn w = refl
worked_leaves WriteLock turn w = refl

performed_leaves : (refused : Option Failure) (turn : ℕ) (w : DiskWorld) → (run_unless_refused refused turn w).rk.ready_enable ≡ w.rk.ready_enable
performed_leaves None turn w = worked_leaves w.rk.function turn w
performed_leaves (Some failure) turn w = refl

-- ready again, if something was under way
pub completed_ready_enable : (turn : ℕ) (w : DiskWorld) → is_under_way w.rk.operation ≡ true
    → (rk_completed turn w).rk.ready_enable ≡ with_ready true w.rk.ready_enable
unfolding rk_completed
completed_ready_enable turn w busy = rw busy (ap (with_ready true) (performed_leaves (refusal w.rk (length w.drives)) turn w))

pub completed_operation : (turn : ℕ) (w : DiskWorld) → is_under_way w.rk.operation ≡ true → (rk_completed turn w).rk.operation ≡ Idle
unfolding rk_completed
completed_operation turn w busy = rw busy refl

-- nothing happens if nothing is under way
pub completed_idle : (turn : ℕ) (w : DiskWorld) → is_under_way w.rk.operation ≡ false → rk_completed turn w ≡ w
unfolding rk_completed
completed_idle turn w idle = rw idle refl
