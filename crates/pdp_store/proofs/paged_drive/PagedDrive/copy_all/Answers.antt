use Rattle.std.proofs.Common.{◌∙◌, ap, arith}
use Rattle.pdp_store.specs.Pages.{PagedWords}
use Rattle.pdp_store.specs.DriveBackings.{drive_from_pages}
use Rattle.pdp_store.proofs.Pages.{length-words_of}
use Rattle.pdp_store.proofs.DriveTaken.{all-copied, count_own, fields-copied}
use Rattle.pdp_store.proofs.paged_drive.PagedDrive.copy_all.Goals as goal

pub copy_each-requires-clause-own : goal.copy_each-requires-clause-own
copy_each-requires-clause-own c =
    let s = c.self.inside in
    let all = count_own s.pages.value.items s.backings.items s.own.items _ (ap (λ (v : PagedWords). v.words) c.self.view_is) in
    let size = length-words_of c.args.pages.now in
    omega (arith, c.requires.words)

pub copy_each-requires-clause-backings : goal.copy_each-requires-clause-backings
copy_each-requires-clause-backings c =
    let s = c.self.inside in
    let all = count_own s.pages.value.items s.backings.items s.own.items _ (ap (λ (v : PagedWords). v.words) c.self.view_is) in
    let size = length-words_of c.args.pages.now in
    omega (arith, c.requires.words, c.self.invariant.words)

pub invariant_of-self : goal.invariant_of-self
invariant_of-self c =
    let s = c.self.inside in
    fields-copied s.pages.value.items c.args.pages.now _ s.backings.items _ s.own.items s.given s.changed c.self.invariant c.copy_each.ensures.backings c.copy_each.ensures.own

pub returns : goal.returns
returns c =
    let s = c.self.inside in
    all-copied s.pages.value.items c.args.pages.now _ _ s.given s.touches c.copy_each.ensures.backings c.copy_each.ensures.own
    ∙ ap (λ (v : PagedWords). drive_from_pages c.args.pages.now v.given v.first_touches) c.self.view_is
