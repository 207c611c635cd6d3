use Rattle.std.proofs.Common.{Vec, Global, get_or, refl, sym, ◌∙◌, ap, arith}
use Rattle.std.proofs.lemmas.List.{get_or_read}
use Rattle.std.proofs.lemmas.Option.{slice_get_read}
use Rattle.pdp_store.specs.declared.page.Page.{Page}
use Rattle.pdp_store.specs.declared.paged_drive.Backing.TheVariants.{Written}
use Rattle.pdp_store.specs.Pages.{PagedWords, SharedPage}
use Rattle.pdp_store.specs.Pieces.{piece}
use Rattle.pdp_store.proofs.DriveTaken.{count_places, piece-own, piece-shared}
use Rattle.pdp_store.proofs.paged_drive.PagedDrive.words_at.Goals as goal

pub index-requires : goal.index-requires
index-requires c =
    let s = c.self.inside in
    let bases = ap (λ (v : PagedWords). v.bases) c.self.view_is in
    let many = count_places s.pages.value.items s.backings.items _ bases in
    omega (arith, s.backings.ok.0)

pub index-requires-in-Shared : goal.index-requires-in-Shared
index-requires-in-Shared c =
    let s = c.self.inside in
    let bases = ap (λ (v : PagedWords). v.bases) c.self.view_is in
    let many = count_places s.pages.value.items s.backings.items _ bases in
    let held = get_or_read s.backings.items _ _ (omega arith) c.index.ensures Written in
    let inside = c.self.invariant.shared _ (sym held ∙ c.in-Shared.is) in
    rw c.deref.ensures (omega (arith, s.pages.value.ok.0))

pub returns-in-Shared : goal.returns-in-Shared
returns-in-Shared c =
    let s = c.self.inside in
    let bases = ap (λ (v : PagedWords). v.bases) c.self.view_is in
    let many = count_places s.pages.value.items s.backings.items _ bases in
    let held = get_or_read s.backings.items _ _ (omega arith) c.index.ensures Written in
    let k = c.args.place in
    let there = c.index-in-Shared.result.now in
    let is = sym held ∙ c.in-Shared.is in
    let inside = c.self.invariant.shared _ is in
    let at = slice_get_read s.pages.value.items _ k there refl inside (c.index-in-Shared.ensures ∙ ap (λ (v : Vec SharedPage Global). get_or v.items k there) c.deref.ensures) in
    c.deref-in-Shared-2.ensures.value
    ∙ ap (λ (p : Page). p.words.items) c.deref-in-Shared.ensures
    ∙ piece-shared s.pages.value.items s.backings.items s.own.items k there c.self.invariant.words (omega arith) is at
    ∙ ap (λ (v : PagedWords). piece k v.words) c.self.view_is

pub part-requires : goal.part-requires
part-requires c =
    let s = c.self.inside in
    let bases = ap (λ (v : PagedWords). v.bases) c.self.view_is in
    let many = count_places s.pages.value.items s.backings.items _ bases in
    rw c.deref-2.ensures.value (omega (arith, c.self.invariant.words))

pub returns : goal.returns
returns c =
    let s = c.self.inside in
    let bases = ap (λ (v : PagedWords). v.bases) c.self.view_is in
    let many = count_places s.pages.value.items s.backings.items _ bases in
    let held = get_or_read s.backings.items _ _ (omega arith) c.index.ensures Written in
    let k = c.args.place in
    c.part.ensures ∙ ap (λ xs. piece k xs) c.deref-2.ensures.value
    ∙ piece-own s.pages.value.items s.backings.items s.own.items k c.self.invariant.words (omega arith) (λ is. c.in_default.not-Shared (held ∙ is))
    ∙ ap (λ (v : PagedWords). piece k v.words) c.self.view_is
