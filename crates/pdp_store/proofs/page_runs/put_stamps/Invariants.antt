-- the last stamps of the pages so far are put, and what was there is left after them
use Rattle.std.proofs.Common.{◌≡◌, ◌++◌, drop, length, take}
use Rattle.std.specs.List.{flat_map}
use Rattle.pdp_store.specs.Pages.{page_stamps}
use Rattle.pdp_store.proofs.page_runs.put_stamps.Given as goal

abbrev pub invariant-loop-page : goal.invariant-loop-page
invariant-loop-page l = record {
  here : l.at ≡ length (flat_map page_stamps (take l.page-index l.pages));
  items : l.stamps ≡ flat_map page_stamps (take l.page-index l.pages) ++ drop l.at l.initial.stamps;
}
