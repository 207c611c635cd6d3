-- How far RKWC counts in a completion.
use Rattle.std.proofs.Common.{◌≡◌, ◌∙◌, ℕ, ◌+◌, ◌-◌, ◌*◌, ◌/◌, ◌%◌, ◌<◌, ◌≤◌, ◌==◌, Bool, true, false, Option, Some, None, ap, arith, if◌then◌else◌, length, min, refl, subst, sym}
use Rattle.std.proofs.lemmas.Bool.{eqb-true, eqb-false}
use Rattle.pdp_device.specs.Operation.{is_under_way}
use Rattle.pdp_rk11.specs.Handbook.Completion.{DiskWorld, drive_of, refusal, rk_completed, rk_finished, rk_transferred, run_function, run_unless_refused, transfer_of, registers_after, stop_of, words_asked, world_finished}
use Rattle.pdp_rk11.specs.Handbook.Geometry.{most_words_asked}
use Rattle.pdp_rk11.specs.WordsDone.{WordsAreCounted, is_transfer, words_by_failure, words_counted, words_of_function, words_unless_refused}
use Rattle.pdp_rk11.specs.declared.failure.Failure.{Failure}
use Rattle.pdp_rk11.specs.declared.function.Function.{Function}
use Rattle.pdp_rk11.specs.declared.function.Function.TheVariants as function
use Rattle.pdp_rk11.specs.declared.rk.Rk.{Rk}

-- RKWC after so many words
counted_up : (asked count : ℕ) → asked + count < most_words_asked → (asked + count) % most_words_asked - asked ≡ count
counted_up asked count below =
    let same : (asked + count) % most_words_asked ≡ asked + count = omega (arith, below) in
    omega (arith, same)

by_stop : (asked count left : ℕ) (all : Bool) (run_out : Bool) → (count == most_words_asked - asked) ≡ all → (count == left) ≡ run_out
    → asked < most_words_asked → count ≤ most_words_asked - asked
    → words_by_failure (stop_of count (most_words_asked - asked) left) asked ((asked + count) % most_words_asked) ≡ count
by_stop asked count left true run_out all out below most =
    rw all (sym (eqb-true count (most_words_asked - asked) all))
by_stop asked count left false true all out below most =
    let other = eqb-false count (most_words_asked - asked) all in
    rw (all, out) (counted_up asked count (omega (arith, other, below, most)))
by_stop asked count left false false all out below most =
    let other = eqb-false count (most_words_asked - asked) all in
    rw (all, out) (counted_up asked count (omega (arith, other, below, most)))

-- a transfer
transferred : (turn : ℕ) (w : DiskWorld) → w.rk.word_count < most_words_asked
    → words_by_failure (rk_finished (rk_transferred turn w).rk).failure w.rk.word_count (rk_finished (rk_transferred turn w).rk).word_count
    ≡ (transfer_of w.rk (length w.core) (length (drive_of w))).count
unfolding rk_transferred registers_after transfer_of
transferred turn w below =
    by_stop w.rk.word_count _ _ _ _ refl refl below (omega arith)

-- what is left of a function that nothing forbids
abbrev left_by : Function → ℕ → DiskWorld → Rk
left_by f turn w = (world_finished (run_function f turn w)).rk

by_function : (f : Function) (turn : ℕ) (w : DiskWorld) → w.rk.word_count < most_words_asked
    → (if is_transfer f then words_by_failure (left_by f turn w).failure w.rk.word_count (left_by f turn w).word_count else 0)
    ≡ (if is_transfer f then (transfer_of w.rk (length w.core) (length (drive_of w))).count else 0)
by_function function.ControlReset turn w below = refl
by_function function.Write turn w below = transferred turn w below
by_function function.Read turn w below = transferred turn w below
by_function function.WriteCheck turn w below = transferred turn w below
by_function function.Seek turn w below = refl
by_function function.ReadCheck turn w below = transferred turn w below
by_function function.DriveReset turn w below = refl
by_function function.WriteLock turn w below = refl

none_moved : (transfer : Bool) (n : ℕ) → (if transfer then n - n else 0) ≡ 0
none_moved true n = omega arith
none_moved false n = refl

by_refusal : (refused : Option Failure) (turn : ℕ) (w : DiskWorld) → w.rk.word_count < most_words_asked
    → words_counted w.rk (world_finished (run_unless_refused refused turn w)).rk ≡ words_unless_refused refused w
by_refusal (Some failure) turn w below = none_moved (is_transfer w.rk.function) w.rk.word_count
by_refusal None turn w below = by_function w.rk.function turn w below

pub words_are_counted : WordsAreCounted
unfolding rk_completed
words_are_counted turn w below busy = rw busy (by_refusal (refusal w.rk (length w.drives)) turn w below)
