use Rattle.std.proofs.Common.{◌∙◌, [], ap, arith, refl, slice_index_or, slice_set, sym}
use Rattle.std.proofs.lemmas.List.{map-set}
use Rattle.pdp_store.specs.Parts.{word_at}
use Rattle.pdp_store.specs.declared.part.Part.{Part}
use Rattle.pdp_unibus.specs.SavedBusData.{SavedBusData, saved_bus_with_word}
use Rattle.pdp_unibus.specs.SavedDrives.{pages_words}
use Rattle.pdp_unibus.proofs.PatchedPages.{drive_patch}
use Rattle.pdp_unibus.proofs.SavedDrives.{alike_saved_buses, list_there, put_unstamped}
use Rattle.pdp_unibus.proofs.save.saved_bus.SavedBus.put_list_of_drive.Goals as goal

pub index_mut-requires : goal.index_mut-requires
index_mut-requires c =
    let p = c.args.page.now in
    let (there, page) = drive_patch _ c.args.self.now p c.args.number c.self.view_is c.requires.part_is c.requires.patch in
    let below = list_there pages_words c.self.inside.drives.items c.args.number p.at.number there in
    omega (arith, below, c.self.inside.drives.ok.0)

pub invariant_of-self : goal.invariant_of-self
invariant_of-self c =
    (put_unstamped c.self.inside.drives.items c.args.number c.args.pages c.self.invariant.0 c.requires.stamps, c.self.invariant.1)

pub returns : goal.returns
unfolding saved_bus_with_word
returns c =
    let p = c.args.page.now in
    let k = c.args.number in
    let drives = map-set pages_words c.self.inside.drives.items k c.args.pages
    ∙ ap (slice_set _ k) c.requires.words in
    alike_saved_buses _ _ refl refl refl drives refl refl
    ∙ ap (λ (v : SavedBusData). record v { drives = slice_set v.drives k (slice_set (slice_index_or c.args.self.now.drives k []) p.at.number p.value) }) c.self.view_is
    ∙ ap (λ (x : Part). saved_bus_with_word (word_at x p.at.number) p.value c.args.self.now) (sym c.requires.part_is)
