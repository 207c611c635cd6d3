-- How many words a function moves or compares: PDP-11 Peripherals Handbook, RK11.
use Rattle.std.specs.Prelude.{ℕ, ◌-◌, ◌<◌, ◌≡◌, Bool, true, false, Option, Some, None, length}
use Rattle.std.specs.Prelude.{if◌then◌else◌}
use Rattle.pdp_device.specs.Operation.{is_under_way}
use Rattle.pdp_rk11.specs.Handbook.Completion.{DiskWorld, drive_of, refusal, rk_completed}
use Rattle.pdp_rk11.specs.Handbook.Completion.{transfer_of}
use Rattle.pdp_rk11.specs.Handbook.Geometry.{most_words_asked}
use Rattle.pdp_rk11.specs.declared.failure.Failure.{Failure}
use Rattle.pdp_rk11.specs.declared.function.Function.{Function}
use Rattle.pdp_rk11.specs.declared.function.Function.TheVariants.{Write, Read, WriteCheck}
use Rattle.pdp_rk11.specs.declared.function.Function.TheVariants.{ReadCheck}
use Rattle.pdp_rk11.specs.declared.rk.Rk.{Rk}

-- which functions move or compare words [6.85]
abbrev pub is_transfer : Function → Bool
is_transfer Write = true
is_transfer Read = true
is_transfer WriteCheck = true
is_transfer ReadCheck = true
is_transfer _ = false

abbrev pub words_unless_refused : Option Failure → DiskWorld → ℕ
words_unless_refused (Some failure) w = 0
words_unless_refused None w = if is_transfer w.rk.function
    then (transfer_of w.rk (length w.core) (length (drive_of w))).count else 0

-- how many words the function that is under way moves or compares; none if it is refused
abbrev pub words_of_function : DiskWorld → ℕ
words_of_function w = words_unless_refused (refusal w.rk (length w.drives)) w

-- as many as RKWC counted, or all that were asked for
abbrev pub words_by_failure : Option Failure → ℕ → ℕ → ℕ
words_by_failure (Some failure) asked left = left - asked
words_by_failure None asked left = most_words_asked - asked

-- the same number, told by the controller before a completion and after it
abbrev pub words_counted : Rk → Rk → ℕ
words_counted before after = if is_transfer before.function
    then words_by_failure after.failure before.word_count after.word_count else 0

-- a law of completions: that is how many the function moves or compares
abbrev pub WordsAreCounted : Type 0
WordsAreCounted =
    (turn : ℕ) (w : DiskWorld) → w.rk.word_count < most_words_asked
    → is_under_way w.rk.operation ≡ true
    → words_counted w.rk (rk_completed turn w).rk ≡ words_of_function w
