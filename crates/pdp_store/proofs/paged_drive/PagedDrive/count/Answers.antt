use Rattle.std.proofs.Common.{ap, arith}
use Rattle.pdp_store.specs.Pages.{PagedWords}
use Rattle.pdp_store.proofs.DriveTaken.{count_own, count_places}
use Rattle.pdp_store.proofs.paged_drive.PagedDrive.count.Goals as goal

pub returns-clause-bases : goal.returns-clause-bases
returns-clause-bases c =
    let s = c.self.inside in
    let bases = ap (λ (v : PagedWords). v.bases) c.self.view_is in
    let many = count_places s.pages.value.items s.backings.items _ bases in
    omega (arith, s.backings.ok.0)

pub returns-clause-words : goal.returns-clause-words
returns-clause-words c =
    let s = c.self.inside in
    let all = count_own s.pages.value.items s.backings.items s.own.items _ (ap (λ (v : PagedWords). v.words) c.self.view_is) in
    omega (arith, s.backings.ok.0, c.self.invariant.words)
