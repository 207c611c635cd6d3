use Rattle.std.proofs.Common.{Vec, Global, length, sym, ◌∙◌, ap}
use Rattle.pdp_store.specs.Pages.{PagedWords, SharedPage}
use Rattle.pdp_store.specs.DriveBackings.{drive_from_pages}
use Rattle.pdp_store.proofs.DriveTaken.{renewed}
use Rattle.pdp_store.proofs.paged_drive.PagedDrive.kept.Goals as goal

pub returns-in-Ok-clause-kept : goal.returns-in-Ok-clause-kept
returns-in-Ok-clause-kept c =
    let s = c.self.inside in
    let still = c.self.invariant.unchanged c.if-self.false in
    sym c.self.view_is
    ∙ renewed s.pages.value.items s.backings.items s.own.items s.given (length s.backings.items) s.touches still.0 c.self.invariant.words still.1
    ∙ ap (λ (v : PagedWords). drive_from_pages s.pages.value.items v.given v.first_touches) c.self.view_is
    ∙ ap (λ (v : Vec SharedPage Global). drive_from_pages v.items c.args.self.now.given c.args.self.now.first_touches) (sym c.in-Ok.ensures.cases)
