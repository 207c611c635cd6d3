use Rattle.std.proofs.Common.{◌≡◌, length, take}
use Rattle.std.specs.List.{flat_map}
use Rattle.pdp_store.specs.Overlays.{laid_to}
use Rattle.pdp_store.specs.Pages.{page_stamps, stamps_of}
use Rattle.pdp_store.proofs.overlay.lay_over.Given as goal

abbrev pub invariant-loop-page : goal.invariant-loop-page
invariant-loop-page l = record {
  here : l.at ≡ length (flat_map page_stamps (take l.page-index l.pages));
  laid : l.stamps ≡ laid_to l.at l.turn l.initial.stamps (stamps_of l.pages);
}
