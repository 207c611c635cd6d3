-- the words of the pages so far are put, and what was there is left after them
use Rattle.std.proofs.Common.{◌≡◌, ◌++◌, drop, length, take}
use Rattle.std.specs.List.{flat_map}
use Rattle.pdp_store.specs.Pages.{page_words}
use Rattle.pdp_store.proofs.page_runs.put_words.Given as goal

abbrev pub invariant-loop-page : goal.invariant-loop-page
invariant-loop-page l = record {
  here : l.at ≡ length (flat_map page_words (take l.page-index l.pages));
  items : l.words ≡ flat_map page_words (take l.page-index l.pages) ++ drop l.at l.initial.words;
}
