-- Rows of the completion of the disk: PDP-11 Peripherals Handbook, RK11. The registers of the
-- controller are no data.
use Rattle.std.specs.Prelude.{ℕ, zero, suc, ◌==◌, List, [], ◌∷◌, Option, Some, None, length}
use Rattle.std.specs.Prelude.{if◌then◌else◌}
use Rattle.pdp_device.specs.Operation.{is_under_way}
use Rattle.pdp_rk11.specs.Handbook.Completion.{DiskWorld, refusal}
use Rattle.pdp_rk11.specs.Handbook.Geometry.{drive_in}
use Rattle.pdp_rk11.specs.Handbook.Transfer.{core_word, disk_word, rest_of_sector}
use Rattle.pdp_rk11.specs.Laws.{transfer_in}
use Rattle.pdp_rk11.specs.Moves.{item_after}
use Rattle.pdp_rk11.specs.declared.failure.Failure.{Failure}
use Rattle.pdp_rk11.specs.declared.function.Function.{Function}
use Rattle.pdp_rk11.specs.declared.function.Function.TheVariants.{Write, Read}
use Rattle.pdp_rk11.specs.declared.transfer.Transfer.{Transfer}
use Rattle.pdp_made.specs.Cells.{Half, DataCell, CoreByte, DriveByte}

-- item k of a list, after so many values were moved to one item: the last of them stays
abbrev pub item_after_all : {A : Type 0} → ℕ → ℕ → (ℕ → A) → ℕ → A → A
item_after_all item zero value k x = x
item_after_all item (suc n) value k x = if k == item then value n else x

-- after a read a word of core is made of the drive's word that was moved there last, if any was
-- [6.75] [6.91]
abbrev pub core_moved : Transfer → ℕ → ℕ → Half → List DataCell
core_moved t number k half = (
    if t.no_increment then item_after_all t.core_start t.count (λ i. DriveByte number
    (disk_word t i) half ∷ []) k (CoreByte k half ∷ [])
    else item_after t.core_start t.count (λ i. DriveByte number
    (disk_word t i) half ∷ []) k (CoreByte k half ∷ []))

-- after a write a word of the drive is made of core's word that was moved there, or of nothing to
-- the end of the last sector [6.74] [6.93]
abbrev pub drive_written : Transfer → ℕ → ℕ → Half → List DataCell
drive_written t number k half =
    item_after (disk_word t t.count) (rest_of_sector t) (λ i. []) k
    (item_after t.disk_start t.count (λ i. CoreByte (core_word t i) half ∷ []) k
    (DriveByte number k half ∷ []))

-- what a function makes of core and of the drives, with the drive of this number: only a read and a
-- write move words [6.74] [6.75] [6.76] [6.77]
abbrev pub made_by_function : Function → Transfer → ℕ → DataCell → List DataCell
made_by_function Read t number (CoreByte k half) = core_moved t number k half
made_by_function Write t number (DriveByte n k half) =
    if n == number then drive_written t number k half else DriveByte n k half ∷ []
made_by_function function t number c = c ∷ []

-- a function that fails one of its tests does nothing [6.80]
abbrev pub made_unless_refused : Option Failure → DiskWorld → DataCell → List DataCell
made_unless_refused (Some failure) w c = c ∷ []
made_unless_refused None w c =
    made_by_function w.rk.function (transfer_in w) (drive_in w.rk.disk_address) c

-- what the completion of what is under way makes; if nothing is, it does nothing [6.58] [6.72]
abbrev pub made_by_completion : DiskWorld → DataCell → List DataCell
made_by_completion w c =
    if is_under_way w.rk.operation then made_unless_refused (refusal w.rk (length w.drives)) w c
    else c ∷ []
