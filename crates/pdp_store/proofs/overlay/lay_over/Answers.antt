use Rattle.std.proofs.Common.{◌≡◌, refl, subst, sym}
use Rattle.pdp_store.specs.Overlays.{laid_to}
use Rattle.pdp_store.specs.Pages.{page_stamps, stamps_of}
use Rattle.pdp_store.proofs.PageRuns.{put_ends}
use Rattle.pdp_store.proofs.Overlays.{all_pages_laid, page_is_part, room_to_lay}
use Rattle.pdp_store.proofs.overlay.lay_over.Goals as goal

pub lay_page-at-requires : goal.lay_page-at-requires
unfolding stamps_of
lay_page-at-requires c =
    room_to_lay c.args.turn c.loop-page.page-index c.loop-page.at c.args.pages.now c.args.stamps.now c.loop-page.stamps (page_stamps c.page-item.result) c.page-item.result
    c.loop-page.invariant.here c.requires c.loop-page.invariant.laid c.loop-page-test.true c.page-item.is refl

pub loop-page-preserved : goal.loop-page-preserved
unfolding stamps_of
loop-page-preserved c =
    let at = c.loop-page.at in
    let pages = c.args.pages.now in
    let before = c.loop-page.invariant in
    let end = c.lay_page-at.ensures.end in
    record {
      here = put_ends page_stamps pages c.loop-page.page-index at _ (page_stamps c.page-item.result) c.page-item.result end before.here c.loop-page-test.true c.page-item.is refl;
      laid = subst (λ n. c.lay_page-at.new.stamps ≡ laid_to n c.args.turn c.args.stamps.now (stamps_of pages)) (sym end)
          (c.lay_page-at.ensures.laid c.args.stamps.now (stamps_of pages) c.requires
          (λ k within. page_is_part c.loop-page.page-index at k pages (page_stamps c.page-item.result) c.page-item.result before.here c.loop-page-test.true c.page-item.is refl within)
          before.laid);
    }

pub returns : goal.returns
unfolding stamps_of
returns c =
    let before = c.loop-page.invariant in
    all_pages_laid c.args.turn c.loop-page.page-index c.loop-page.at c.args.pages.now c.args.stamps.now c.loop-page.stamps before.here c.requires c.loop-page-test.false before.laid
