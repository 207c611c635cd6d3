use Rattle.std.proofs.Common.{Some, ◌≡◌, map, sym, ◌∙◌, ap}
use Rattle.pdp_store.specs.Pages.{PagedWords, serials, serials_taken, given_after}
use Rattle.pdp_store.proofs.DriveTaken.{given_after-held, serials_taken-held}
use Rattle.pdp_store.proofs.paged_drive.shared_pages.PagedDriveSharedPaging.take_pages.Goals as goal

pub returns-in-Some-clause-serials : goal.returns-in-Some-clause-serials
returns-in-Some-clause-serials c =
    let now = c.args.self.now in
    let bases : now.bases ≡ map Some (serials c.in-Some.pages.value.items) = ap (λ (v : PagedWords). v.bases) c.in-Some.ensures.kept in
    sym (ap (λ held. serials_taken held now.given) bases ∙ serials_taken-held (serials c.in-Some.pages.value.items) now.given)

pub returns-in-Some-clause-given : goal.returns-in-Some-clause-given
returns-in-Some-clause-given c =
    let now = c.args.self.now in
    let bases : now.bases ≡ map Some (serials c.in-Some.pages.value.items) = ap (λ (v : PagedWords). v.bases) c.in-Some.ensures.kept in
    sym (ap (λ held. given_after held now.given) bases ∙ given_after-held (serials c.in-Some.pages.value.items) now.given)
