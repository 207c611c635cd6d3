use Rattle.std.proofs.Common.{◌≡◌, take}
use Rattle.pdp_store.specs.PageLists.{pages_shared}
use Rattle.pdp_store.proofs.page_lists.shared.Given as goal

abbrev pub invariant-loop-page : goal.invariant-loop-page
invariant-loop-page l = pages_shared l.list.items ≡ take l.page-index (pages_shared l.pages)
