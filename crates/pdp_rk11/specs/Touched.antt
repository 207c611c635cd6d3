-- What a transfer adds to the first touches of core and of its drive, move by move. No rule of the
-- handbook is here.
use Rattle.std.specs.Prelude.{ℕ, zero, suc, ◌+◌, ◌/◌, List, Option, map, min, if◌then◌else◌}
use Rattle.pdp_store.specs.FirstTouches.{FirstTouches, first_touches_of, touch_page}
use Rattle.pdp_store.specs.Unchanged.{SameWritten}
use Rattle.pdp_store.specs.declared.Stamp.{Stamp}
use Rattle.pdp_rk11.specs.Handbook.Transfer.{core_word, disk_word, rest_of_sector}
use Rattle.pdp_rk11.specs.declared.function.Function.{Function}
use Rattle.pdp_rk11.specs.declared.function.Function.TheVariants.{Write, Read, WriteCheck}
use Rattle.pdp_rk11.specs.declared.function.Function.TheVariants.{ReadCheck}
use Rattle.pdp_rk11.specs.declared.transfer.Transfer.{Transfer}

-- a store that still has its words and their stamps, from what is seen of it
abbrev pub KeepsWritten : {C : Type 0} → (C → List ℕ) → (C → List (Option Stamp)) → C → C → Type 0
KeepsWritten words stamps before after =
    SameWritten (words after) (words before) (stamps after) (stamps before)

-- the first touches of a core and of drives, from what is seen of each
abbrev pub stored_touches : {C D : Type 0} → (C → List ℕ) → (D → List ℕ) → C → List D
    → FirstTouches
stored_touches touches drive_touches core drives =
    first_touches_of (touches core) (map drive_touches drives)

-- the first touches of core after move i in a turn: a read check touches no word of core
abbrev pub core_touched : Function → Transfer → ℕ → ℕ → List ℕ → List ℕ
core_touched Read t turn i first_touches = touch_page first_touches (core_word t i / 256) turn
core_touched Write t turn i first_touches = touch_page first_touches (core_word t i / 256) turn
core_touched WriteCheck t turn i first_touches = touch_page first_touches (core_word t i / 256) turn
core_touched _ t turn i first_touches = first_touches

-- the first touches of the drive after move i in a turn
abbrev pub disk_touched : Function → Transfer → ℕ → ℕ → List ℕ → List ℕ
disk_touched Read t turn i first_touches = touch_page first_touches (disk_word t i / 256) turn
disk_touched Write t turn i first_touches = touch_page first_touches (disk_word t i / 256) turn
disk_touched WriteCheck t turn i first_touches = touch_page first_touches (disk_word t i / 256) turn
disk_touched ReadCheck t turn i first_touches = touch_page first_touches (disk_word t i / 256) turn
disk_touched _ t turn i first_touches = first_touches

-- the first touches after the steps 0, 1 and so on below a number
unfoldable pub after_steps : (ℕ → List ℕ → List ℕ) → ℕ → List ℕ → List ℕ
after_steps step zero first_touches = first_touches
after_steps step (suc n) first_touches = step n (after_steps step n first_touches)

-- the first touches of a list after an access to word i of those from a start on
abbrev pub run_touched : ℕ → ℕ → ℕ → List ℕ → List ℕ
run_touched start turn i first_touches = touch_page first_touches ((start + i) / 256) turn

-- how many words of core the moves of a transfer name: one if the address is not incremented
abbrev pub words_named : Transfer → ℕ
words_named t = if t.no_increment then min t.count 1 else t.count

-- the first touches of the drive after the zero in word i of the rest of the last sector
abbrev pub fill_touched : Transfer → ℕ → ℕ → List ℕ → List ℕ
fill_touched t turn i first_touches =
    touch_page first_touches ((disk_word t t.count + i) / 256) turn

-- only a write fills its last sector
abbrev pub fill_first_touches : Function → Transfer → ℕ → List ℕ → List ℕ
fill_first_touches Write t turn first_touches =
    after_steps (fill_touched t turn) (rest_of_sector t) first_touches
fill_first_touches _ t turn first_touches = first_touches

-- the first touches of core, and of the drive, after all moves and the zeros
abbrev pub core_after : Function → Transfer → ℕ → List ℕ → List ℕ
core_after function t turn first_touches =
    after_steps (core_touched function t turn) t.count first_touches

abbrev pub disk_after : Function → Transfer → ℕ → List ℕ → List ℕ
disk_after function t turn first_touches =
    fill_first_touches function t turn
    (after_steps (disk_touched function t turn) t.count first_touches)
