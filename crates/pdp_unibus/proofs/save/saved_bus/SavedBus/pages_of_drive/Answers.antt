use Rattle.std.proofs.Common.{◌∙◌, [], ap, arith, slice_index_or, slice_set}
use Rattle.pdp_unibus.specs.SavedBusData.{SavedBusData}
use Rattle.pdp_unibus.specs.PatchedPages.{AreNewPages}
use Rattle.pdp_unibus.specs.SavedDrives.{pages_words}
use Rattle.pdp_unibus.proofs.PatchedPages.{drive_patch, drive_put, drive_within, none_there}
use Rattle.pdp_unibus.proofs.SavedDrives.{list_there, words_there}
use Rattle.pdp_unibus.proofs.save.saved_bus.SavedBus.pages_of_drive.Goals as goal

pub index-requires : goal.index-requires
index-requires c =
    let p = c.args.page.now in
    let (there, page) = drive_patch _ c.args.self.now p c.args.number c.self.view_is c.requires.part c.requires.page in
    let below = list_there pages_words c.self.inside.drives.items c.args.number p.at.number there in
    omega (arith, below, c.self.inside.drives.ok.0)

pub with_page-requires : goal.with_page-requires
with_page-requires c =
    let p = c.args.page.now in
    let lists = c.self.inside.drives.items in
    let (there, page) = drive_patch _ c.args.self.now p c.args.number c.self.view_is c.requires.part c.requires.page in
    let below = list_there pages_words lists c.args.number p.at.number there in
    drive_within lists c.args.number p.at.number c.index.result.now c.index.ensures below there

pub returns : goal.returns
unfolding AreNewPages
returns c =
    let p = c.args.page.now in
    let k = c.args.number in
    let lists = c.self.inside.drives.items in
    let old = c.index.result.now in
    let (there, page) = drive_patch _ c.args.self.now p k c.self.view_is c.requires.part c.requires.page in
    let below = list_there pages_words lists k p.at.number there in
    let put = drive_put lists k p.at.number p.value old c.in_ok-pages.pages p.page c.self.invariant.0 c.index.ensures below there page c.in_ok-pages.ensures in
    record {
      part_is = c.requires.part;
      patch = c.requires.page;
      words =
          put.words ∙ ap (λ ws. slice_set ws p.at.number p.value) (words_there lists k old c.index.ensures below)
          ∙ ap (λ (v : SavedBusData). slice_set (slice_index_or v.drives k []) p.at.number p.value) c.self.view_is;
      stamps = put.stamps ∙ none_there lists k old c.self.invariant.0 c.index.ensures below;
    }
