use Rattle.std.proofs.Common.{length, ap, arith, ◌∙◌}
use Rattle.pdp_store.specs.Pages.{PagedWords}
use Rattle.pdp_store.specs.DriveBackings.{drive_from_pages}
use Rattle.pdp_store.proofs.Pages.{length-words_of}
use Rattle.pdp_store.proofs.DriveTaken.{count_own, fields-renewed, renewed}
use Rattle.pdp_store.proofs.paged_drive.PagedDrive.renew.Goals as goal

pub invariant_of-self : goal.invariant_of-self
invariant_of-self c =
    let s = c.self.inside in
    let all = count_own s.pages.value.items s.backings.items s.own.items _ (ap (λ (v : PagedWords). v.words) c.self.view_is) in
    let size = length-words_of c.args.pages.value.items in
    fields-renewed c.args.pages.value.items _ s.own.items c.args.given (length s.backings.items) (omega (arith, c.requires.words, c.self.invariant.words)) c.self.invariant.words c.share_all.ensures (omega arith) c.requires.stamps

pub returns : goal.returns
returns c =
    let s = c.self.inside in
    let all = count_own s.pages.value.items s.backings.items s.own.items _ (ap (λ (v : PagedWords). v.words) c.self.view_is) in
    let size = length-words_of c.args.pages.value.items in
    renewed c.args.pages.value.items _ s.own.items c.args.given (length s.backings.items) s.touches (omega (arith, c.requires.words, c.self.invariant.words)) c.self.invariant.words c.share_all.ensures
    ∙ ap (λ (v : PagedWords). drive_from_pages c.args.pages.value.items c.args.given v.first_touches) c.self.view_is
