use Rattle.std.proofs.Common.{sym, ◌∙◌, ap, arith}
use Rattle.std.proofs.lemmas.List.{get_or_read}
use Rattle.pdp_store.specs.declared.paged_drive.Backing.TheVariants.{Written}
use Rattle.pdp_store.specs.Pages.{PagedWords}
use Rattle.pdp_store.specs.Bases.{given_there}
use Rattle.pdp_store.proofs.DriveTaken.{base_there, count_places, given_kept}
use Rattle.pdp_store.proofs.paged_drive.PagedDrive.given_past.Goals as goal

pub index-requires : goal.index-requires
index-requires c =
    let s = c.self.inside in
    let bases = ap (λ (v : PagedWords). v.bases) c.self.view_is in
    let many = count_places s.pages.value.items s.backings.items _ bases in
    omega (arith, s.backings.ok.0)

pub returns-in-Written : goal.returns-in-Written
returns-in-Written c =
    let s = c.self.inside in
    let bases = ap (λ (v : PagedWords). v.bases) c.self.view_is in
    let many = count_places s.pages.value.items s.backings.items _ bases in
    let held = get_or_read s.backings.items _ _ (omega arith) c.index.ensures Written in
    c.next_given.ensures
    ∙ ap (λ b. given_there b c.args.given) (sym (base_there s.pages.value.items s.backings.items _ c.args.place Written bases (omega arith) (sym c.in-Written.is ∙ held)))

pub returns-in_default : goal.returns-in_default
returns-in_default c =
    let s = c.self.inside in
    let bases = ap (λ (v : PagedWords). v.bases) c.self.view_is in
    let many = count_places s.pages.value.items s.backings.items _ bases in
    let held = get_or_read s.backings.items _ _ (omega arith) c.index.ensures Written in
    given_kept c.index.result.now s.pages.value.items c.args.place c.args.given c.in_default.not-Written (λ is. c.self.invariant.shared _ (sym held ∙ is))
    ∙ ap (λ b. given_there b c.args.given) (sym (base_there s.pages.value.items s.backings.items _ c.args.place c.index.result.now bases (omega arith) held))
