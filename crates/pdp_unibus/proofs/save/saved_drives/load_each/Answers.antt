use Rattle.std.proofs.Common.{rules, ◌<◌, ◌∙◌, length}
use Rattle.pdp_unibus.specs.SavedDrives.{pages_stamps, pages_words}
use Rattle.pdp_unibus.proofs.SavedDrives.{one_loaded}
use Rattle.pdp_unibus.proofs.save.saved_drives.load_each.Goals as goal

pub loop-number-preserved : goal.loop-number-preserved
loop-number-preserved g c =
    let (words, stamps, first_touches, as_many, as_many_pages, as_many_first) = c.loop-number.invariant in
    let number = c.loop-number.number in
    let drives = c.loop-number.drives.items in
    let below : number < length drives = search rules in
    let there : number < length c.args.pages.now.items = search rules in
    let first : number < length c.args.drives.now.items = search rules in (
      one_loaded g.D.Store.words pages_words c.args.pages.now.items c.args.drives.now.items drives c.load_one.new.drives.items number
          words below there first c.load_one.ensures.words,
      one_loaded g.D.Store.stamps pages_stamps c.args.pages.now.items c.args.drives.now.items drives c.load_one.new.drives.items number
          stamps below there first c.load_one.ensures.stamps,
      c.load_one.ensures.first_touches ∙ first_touches,
      c.load_one.ensures.count ∙ as_many,
      as_many_pages,
      as_many_first,
    )
