use Rattle.std.proofs.Common.{length, ap, arith}
use Rattle.pdp_store.specs.Pages.{PagedWords}
use Rattle.pdp_store.proofs.DriveBackings.{length-words_read}
use Rattle.pdp_store.proofs.paged_drive.PagedDriveStore.len.Goals as goal

pub returns-clause-words : goal.returns-clause-words
returns-clause-words c =
    let s = c.self.inside in
    let all = length-words_read s.pages.value.items s.backings.items s.own.items in
    let same = ap (λ (v : PagedWords). length v.words) c.self.view_is in
    omega (arith, s.own.ok.0)
