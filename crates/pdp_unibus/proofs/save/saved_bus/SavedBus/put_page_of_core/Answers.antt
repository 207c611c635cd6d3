use Rattle.std.proofs.Common.{◌∙◌, ◌/◌, ap, arith, refl, slice_set, sym}
use Rattle.std.proofs.lemmas.List.{map-set}
use Rattle.pdp_store.proofs.PageLists.{IsChanged, there_within}
use Rattle.pdp_store.specs.PageLists.{pages_shared}
use Rattle.pdp_store.specs.Pages.{SharedPage}
use Rattle.pdp_store.specs.Parts.{word_at}
use Rattle.pdp_store.specs.declared.part.Part.{Part}
use Rattle.pdp_unibus.specs.SavedBusData.{SavedBusData, saved_bus_with_word}
use Rattle.pdp_unibus.proofs.PatchedPages.{core_patch, page_put, stamped_still}
use Rattle.pdp_unibus.proofs.SavedDrives.{alike_saved_buses}
use Rattle.pdp_unibus.proofs.save.saved_bus.SavedBus.put_page_of_core.Goals as goal

pub index_mut-requires : goal.index_mut-requires
index_mut-requires c =
    let p = c.args.page.now in
    let (there, page) = core_patch _ c.args.self.now p c.self.view_is c.requires.part_is c.requires.patch in
    omega (arith, there_within c.self.inside.core.items p.at.number there, c.self.inside.core.ok.0)

pub invariant_of-self : goal.invariant_of-self
invariant_of-self c =
    let p = c.args.page.now in
    let ps = c.self.inside.core.items in
    let k = p.at.number / 256 in
    let new = c.args.shared in
    let (there, page) = core_patch _ c.args.self.now p c.self.view_is c.requires.part_is c.requires.patch in
    let is : IsChanged ps (slice_set ps k new) k p.page = map-set (λ (q : SharedPage). q.value) ps k new ∙ ap (slice_set (pages_shared ps) k) c.requires.same in
    let put = page_put ps (slice_set ps k new) p.at.number p.value p.page is there c.self.invariant.1 page in
    (c.self.invariant.0, stamped_still ps (slice_set ps k new) p.at.number p.value put c.self.invariant.1)

pub returns : goal.returns
unfolding saved_bus_with_word
returns c =
    let p = c.args.page.now in
    let ps = c.self.inside.core.items in
    let k = p.at.number / 256 in
    let new = c.args.shared in
    let (there, page) = core_patch _ c.args.self.now p c.self.view_is c.requires.part_is c.requires.patch in
    let is : IsChanged ps (slice_set ps k new) k p.page = map-set (λ (q : SharedPage). q.value) ps k new ∙ ap (slice_set (pages_shared ps) k) c.requires.same in
    let put = page_put ps (slice_set ps k new) p.at.number p.value p.page is there c.self.invariant.1 page in
    alike_saved_buses _ _ refl put.words put.stamps refl refl refl
    ∙ ap (λ (v : SavedBusData). record v { core = slice_set v.core p.at.number p.value }) c.self.view_is
    ∙ ap (λ (x : Part). saved_bus_with_word (word_at x p.at.number) p.value c.args.self.now) (sym c.requires.part_is)
