-- the words of the places so far are put, with the bases that fit them, and what was there is left after them
use Rattle.std.proofs.Common.{◌≡◌, ◌++◌, drop, length, take}
use Rattle.std.specs.List.{flat_map}
use Rattle.pdp_store.specs.Overlays.{stamps_over}
use Rattle.pdp_store.specs.Pages.{page_words, stamps_of}
use Rattle.pdp_store.proofs.Overlays.{AreFieldsSoFar}
use Rattle.pdp_store.proofs.overlay.put_places_over.Given as goal

abbrev pub invariant-loop-place : goal.invariant-loop-place
invariant-loop-place l = record {
  here : l.at ≡ length (flat_map page_words (take l.place l.pages));
  items : l.words ≡ flat_map page_words (take l.place l.pages) ++ drop l.at l.initial.words;
  fields : AreFieldsSoFar l.place l.initial.words l.stamps l.pages (stamps_over l.turn l.stamps (stamps_of l.pages)) l.bases.items l.written.items;
}
