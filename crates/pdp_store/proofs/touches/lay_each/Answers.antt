use Rattle.std.proofs.Common.{◌∙◌, ap, length}
use Rattle.pdp_store.proofs.TouchOverlays.{length-laid_touches, page_laid_more, pages_all_laid, read_there}
use Rattle.pdp_store.proofs.touches.lay_each.Goals as goal

pub loop-page-preserved : goal.loop-page-preserved
loop-page-preserved c =
    page_laid_more c.args.from c.args.to c.args.firsts.now c.args.over.now c.loop-page.firsts c.loop-page.page _ _ _
    c.loop-page-test.true c.requires c.loop-page.invariant
    c.kept_before-over.ensures (read_there c.loop-page.firsts c.loop-page.page 0) c.touch_over.ensures

pub returns : goal.returns
returns c =
    let laid = pages_all_laid c.args.from c.args.to c.args.firsts.now c.args.over.now c.loop-page.firsts c.loop-page.page c.loop-page-test.false c.requires c.loop-page.invariant in
    record {
      count = ap length laid ∙ length-laid_touches c.args.from c.args.to c.args.firsts.now c.args.over.now c.requires;
      laid = laid;
    }
