use Rattle.std.proofs.Common.{◌≡◌, ◌*◌, take}
use Rattle.pdp_store.specs.Pages.{words_of}
use Rattle.pdp_store.proofs.page_runs.have_words.Given as goal

abbrev pub invariant-loop-place : goal.invariant-loop-place
invariant-loop-place l = take (l.place * 256) l.words ≡ words_of (take l.place l.pages)
