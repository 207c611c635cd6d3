use Rattle.std.proofs.Common.{◌<◌, length}
use Rattle.std.proofs.lemmas.List.{length-map}
use Rattle.pdp_store.specs.PageLists.{pages_shared}
use Rattle.pdp_store.proofs.PageLists.{one_more_shared}
use Rattle.pdp_store.proofs.page_lists.shared.Goals as goal

pub loop-page-preserved : goal.loop-page-preserved
loop-page-preserved c =
    let within : c.loop-page.page-index < length (pages_shared c.args.pages.now) = rw length-map c.loop-page-test.true in
    rw c.in_ok-push.ensures.items (one_more_shared c.args.pages.now c.loop-page.list.items c.loop-page.page-index c.page-item.result c.in_ok-clone.field-0
    c.loop-page.invariant c.loop-page-test.true within c.page-item.is c.in_ok-clone.ensures.cases)
