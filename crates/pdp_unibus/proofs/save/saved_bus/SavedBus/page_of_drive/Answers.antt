use Rattle.std.proofs.Common.{[], ◌<◌, length, slice_index_or, subst, sym}
use Rattle.pdp_unibus.specs.SavedBusData.{SavedBusData}
use Rattle.pdp_unibus.specs.SavedDrives.{pages_words}
use Rattle.pdp_unibus.proofs.PatchedPages.{none_there}
use Rattle.pdp_unibus.proofs.SavedDrives.{list_there}
use Rattle.pdp_unibus.proofs.save.saved_bus.SavedBus.page_of_drive.Goals as goal

pub patch_one-requires-clause-unstamped : goal.patch_one-requires-clause-unstamped
patch_one-requires-clause-unstamped c =
    let old = c.self.inside.drives.items in
    let k = c.args.number in
    let below = list_there pages_words old k c.args.word
    (subst (λ (v : SavedBusData). c.args.word < length (slice_index_or v.drives k [])) (sym c.self.view_is) c.requires) in
    none_there old k c.index-pages.result.now c.self.invariant.0 c.index-pages.ensures below
