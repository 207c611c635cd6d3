use Rattle.std.proofs.Common.{◌∙◌, sym}
use Rattle.std.proofs.lemmas.Result.{err_from_is_err_and}
use Rattle.pdp_replay.proofs.past.PlacedPatches.{core_placed, core_refused, disk_placed, disk_refused}
use Rattle.pdp_replay.proofs.past.patch.Patch.place.Goals as goal

pub returns-in_err-number-in-Core-clause-past : goal.returns-in_err-number-in-Core-clause-past
returns-in_err-number-in-Core-clause-past c = λ p size.
    let (fault, is, same) = err_from_is_err_and c.from_residual.result c.from_residual.ensures.1 in
    let told = c.core_word.ensures.number p.setup size.units ∙ c.in_err-number-in-Core.was in
    rw (c.in-Core.is, is, same) (core_refused c.in-Core.address c.in-Core.word p c.in_err-number-in-Core.field-0.0 told)

pub returns-in_err-number-in-Disk-clause-past : goal.returns-in_err-number-in-Disk-clause-past
returns-in_err-number-in-Disk-clause-past c = λ p size.
    let (fault, is, same) = err_from_is_err_and c.from_residual-in_err-number-in-Disk.result c.from_residual-in_err-number-in-Disk.ensures.1 in
    let told = c.disk_word.ensures.word p.setup (size.drives ∙ sym c.count.ensures) ∙ c.in_err-number-in-Disk.was in
    rw (c.in-Disk.is, is, same) (disk_refused c.in-Disk.drive c.in-Disk.number c.in-Disk.word p c.in_err-number-in-Disk.field-0.0 told)

pub returns-in_ok-number-in-Core-clause-past : goal.returns-in_ok-number-in-Core-clause-past
returns-in_ok-number-in-Core-clause-past c = λ p size.
    let told = c.core_word.ensures.number p.setup size.units ∙ c.in_ok-number-in-Core.was in
    rw c.in-Core.is (core_placed c.in-Core.address c.in-Core.word c.in_ok-number-in-Core.field-0 p told)

pub returns-in_ok-number-in-Disk-clause-past : goal.returns-in_ok-number-in-Disk-clause-past
returns-in_ok-number-in-Disk-clause-past c = λ p size.
    let told = c.disk_word.ensures.word p.setup (size.drives ∙ sym c.count.ensures) ∙ c.in_ok-number-in-Disk.was in
    rw c.in-Disk.is (disk_placed c.in-Disk.drive c.in-Disk.number c.in-Disk.word c.in_ok-number-in-Disk.field-0 p told)
