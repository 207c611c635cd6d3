use Rattle.std.proofs.Common.{◌≡◌, length, arith, refl}
use Rattle.std.proofs.lemmas.Option.{slice_get_read}
use Rattle.pdp_store.proofs.PageRuns.{one_base_more, all_bases}
use Rattle.pdp_store.proofs.page_runs.put_bases.Goals as goal

pub loop-place-preserved : goal.loop-place-preserved
loop-place-preserved c =
    one_base_more c.args.pages.now c.loop-place.bases.items c.loop-place.written.items c.loop-place.place c.of.result c.index-pages-place.result c.loop-place.invariant
    c.loop-place-test.true (slice_get_read c.args.pages.now (length c.args.pages.now) c.loop-place.place c.index-pages-place.result refl c.loop-place-test.true c.index-pages-place.is) c.of.ensures

pub returns : goal.returns
returns c =
    let end : c.loop-place.place ≡ length c.args.pages.now = omega arith in
    all_bases c.args.pages.now c.loop-place.bases.items c.loop-place.written.items (rw (← end) c.loop-place.invariant)
