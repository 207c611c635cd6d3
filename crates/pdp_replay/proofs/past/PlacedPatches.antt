-- The word that a patch is for, or why there is none.
use Rattle.std.proofs.Common.{◌≡◌, ℕ, Err, Ok, refl}
use Rattle.pdp_script.specs.declared.faults.Fault.{Fault}
use Rattle.pdp_store.specs.Parts.{word_at}
use Rattle.pdp_store.specs.declared.part.Part.TheVariants as parts
use Rattle.pdp_replay.specs.Past.{Past}
use Rattle.pdp_replay.specs.Past.Edit.{core_edit, core_word_at, disk_edit, disk_word_at, past_with_patch, patch_edit}
use Rattle.pdp_replay.specs.declared.past.patch.Patch.TheVariants.{Core, Disk}

pub core_placed : (address word number : ℕ) (p : Past) → core_word_at address p.setup ≡ Ok number → patch_edit (Core address word) p ≡ Ok (past_with_patch (word_at parts.Core number) word p)
unfolding core_edit
core_placed address word number p is = rw is refl

pub core_refused : (address word : ℕ) (p : Past) (fault : Fault) → core_word_at address p.setup ≡ Err fault → patch_edit (Core address word) p ≡ Err fault
unfolding core_edit
core_refused address word p fault is = rw is refl

pub disk_placed : (drive i word number : ℕ) (p : Past) → disk_word_at drive i p.setup ≡ Ok number
    → patch_edit (Disk drive i word) p ≡ Ok (past_with_patch (word_at (parts.Drive drive) number) word p)
unfolding disk_edit
disk_placed drive i word number p is = rw is refl

pub disk_refused : (drive i word : ℕ) (p : Past) (fault : Fault) → disk_word_at drive i p.setup ≡ Err fault → patch_edit (Disk drive i word) p ≡ Err fault
unfolding disk_edit
disk_refused drive i word p fault is = rw is refl
