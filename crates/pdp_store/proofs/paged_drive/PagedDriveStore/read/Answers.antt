use Rattle.std.proofs.Common.{◌%◌, Vec, Global, get_or, ◌≡◌, ◌/◌, length, slice_index, refl, sym, ◌∙◌, ap, arith}
use Rattle.std.proofs.lemmas.List.{get_or_read}
use Rattle.std.proofs.lemmas.Option.{slice_get_read}
use Rattle.pdp_store.specs.declared.paged_drive.Backing.TheVariants.{Written}
use Rattle.pdp_store.specs.declared.page.Page.{Page}
use Rattle.pdp_store.specs.Pages.{page_words, PagedWords, SharedPage}
use Rattle.pdp_store.proofs.DriveBackings.{within_own, read_shared, read_own}
use Rattle.pdp_store.proofs.paged_drive.PagedDriveStore.read.Goals as goal

pub index-requires : goal.index-requires
index-requires c =
    let s = c.self.inside in
    let within = within_own s.pages.value.items s.backings.items s.own.items _ _ (ap (λ (v : PagedWords). v.words) c.self.view_is) c.requires in
    omega (arith, s.backings.ok.0, c.self.invariant.words)

pub index-requires-in-Shared : goal.index-requires-in-Shared
index-requires-in-Shared c =
    let s = c.self.inside in
    let within = within_own s.pages.value.items s.backings.items s.own.items _ _ (ap (λ (v : PagedWords). v.words) c.self.view_is) c.requires in
    let held = get_or_read s.backings.items _ _ (omega (arith, c.self.invariant.words)) c.index.ensures Written in
    let inside = c.self.invariant.shared _ (sym held ∙ c.in-Shared.is) in
    rw c.deref.ensures (omega (arith, s.pages.value.ok.0))

pub index-requires-in_default : goal.index-requires-in_default
index-requires-in_default c =
    let s = c.self.inside in
    let within = within_own s.pages.value.items s.backings.items s.own.items _ _ (ap (λ (v : PagedWords). v.words) c.self.view_is) c.requires in
    omega (arith, s.own.ok.0)

pub returns-in-Shared : goal.returns-in-Shared
returns-in-Shared c =
    let s = c.self.inside in
    let within = within_own s.pages.value.items s.backings.items s.own.items _ _ (ap (λ (v : PagedWords). v.words) c.self.view_is) c.requires in
    let held = get_or_read s.backings.items _ _ (omega (arith, c.self.invariant.words)) c.index.ensures Written in
    let inside = c.self.invariant.shared _ (sym held ∙ c.in-Shared.is) in
    let page = slice_get_read s.pages.value.items _ _ _ refl inside (c.index-in-Shared.ensures ∙ ap (λ (v : Vec SharedPage Global). get_or v.items (c.args.i / 256) c.index-in-Shared.result.now) c.deref.ensures) in
    let there = c.index-in-Shared.result.now in
    let full : length (page_words there) ≡ 256 = there.value.full in
    get_or_read (page_words there) _ _ (omega arith) (c.index-in-Shared-2.ensures ∙ ap (λ (v : Page). get_or v.words.items (c.args.i % 256) c.index-in-Shared-2.result.now) c.deref-in-Shared.ensures) 0
    ∙ sym (read_shared s.pages.value.items s.backings.items s.own.items _ there within (sym held ∙ c.in-Shared.is) page)
    ∙ ap (λ (v : PagedWords). slice_index v.words c.args.i) c.self.view_is

pub returns-in_default : goal.returns-in_default
returns-in_default c =
    let s = c.self.inside in
    let within = within_own s.pages.value.items s.backings.items s.own.items _ _ (ap (λ (v : PagedWords). v.words) c.self.view_is) c.requires in
    let held = get_or_read s.backings.items _ _ (omega (arith, c.self.invariant.words)) c.index.ensures Written in
    get_or_read s.own.items _ _ within c.index-in_default.ensures 0
    ∙ sym (read_own s.pages.value.items s.backings.items s.own.items _ within (λ is. c.in_default.not-Shared (held ∙ is)))
    ∙ ap (λ (v : PagedWords). slice_index v.words c.args.i) c.self.view_is
