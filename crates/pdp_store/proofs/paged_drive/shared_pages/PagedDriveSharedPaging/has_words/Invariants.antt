-- the places so far have the words of their pages
use Rattle.std.proofs.Common.{◌≡◌, ◌*◌, take}
use Rattle.pdp_store.specs.Pages.{words_of}
use Rattle.pdp_store.proofs.paged_drive.shared_pages.PagedDriveSharedPaging.has_words.Given as goal

abbrev pub invariant-loop-place : goal.invariant-loop-place
invariant-loop-place l = take (l.place * 256) l.self.words ≡ words_of (take l.place l.pages.value.items)
