-- A page of 256 words with one word changed, put into each saved bus that has this page alike.
use Rattle.std.specs.Prelude.{ℕ, ◌≡◌, ◌/◌, ◌%◌, List, [], Option, slice_index_or}
use Rattle.std.specs.Prelude.{if◌then◌else◌, length, nat_lt, slice_set}
use Rattle.pdp_store.specs.Parts.{words_of_drive}
use Rattle.pdp_store.specs.Pages.{SharedPage, next_given, next_serial, page_stamps, page_serial}
use Rattle.pdp_store.specs.Pages.{page_words}
use Rattle.pdp_store.specs.Pieces.{piece}
use Rattle.pdp_store.specs.declared.Stamp.{Stamp}
use Rattle.pdp_store.specs.declared.part.Part.{Part}
use Rattle.pdp_store.specs.declared.part.Part.TheVariants as part
use Rattle.pdp_store.specs.declared.part.WordAt.{WordAt}
use Rattle.pdp_unibus.specs.SavedBusData.{SavedBusData, SavedBusHasWord, saved_words}
use Rattle.pdp_unibus.specs.SavedDrives.{PageList, pages_stamps, pages_words}
use Rattle.pdp_unibus.specs.declared.save.saved_bus.patched_page.PatchedPage.{PatchedPage}
use Rattle.pdp_unibus.specs.declared.save.saved_bus.patched_page.NewPages.{NewPages}
use Rattle.pdp_unibus.specs.declared.save.saved_bus.patched_page.NewPages.TheVariants.{Core, Drive}

-- the last stamps of the words of a part: a drive has none
abbrev pub saved_stamps : Part → SavedBusData → List (Option Stamp)
saved_stamps part.Core c = c.stamps
saved_stamps (part.Drive number) c = []

-- in the page of this word, this saved bus has the words and the last stamps of the other
pub record HasPageOf (at : WordAt) (other c : SavedBusData) : Type 0 where
  pub words : piece (at.number / 256) (saved_words at.part c)
      ≡ piece (at.number / 256) (saved_words at.part other)
  pub stamps : piece (at.number / 256) (saved_stamps at.part c)
      ≡ piece (at.number / 256) (saved_stamps at.part other)

-- the page of this word in a list of words, with this value in the word and with its last stamps
pub record IsPageWith (word value : ℕ) (words : List ℕ) (stamps_before : List (Option Stamp))
    (page : SharedPage) : Type 0 where
  pub changed : page_words page ≡ slice_set (piece (word / 256) words) (word % 256) value
  pub stamps : page_stamps page ≡ piece (word / 256) stamps_before

-- the drive of this number numbers the page, or core if there is no such drive: the page has its
-- next serial. So many were given before by core and by each drive
abbrev pub IsNumberedBy : ℕ → ℕ → List ℕ → SharedPage → Type 0
IsNumberedBy number core drives page = page_serial page
    ≡ next_serial (slice_index_or drives number core)

-- how many are given then, by core and by each drive
abbrev pub given_by_core : ℕ → ℕ → List ℕ → ℕ
given_by_core number core drives = if nat_lt number (length drives) then core else next_given core

abbrev pub given_by_drives : ℕ → List ℕ → List ℕ
given_by_drives number drives = slice_set drives number
    (next_given (slice_index_or drives number 0))

-- a patched page is for this word and this value
pub record IsPatchOf (at : WordAt) (value : ℕ) (p : PatchedPage) : Type 0 where
  pub at_is : p.at ≡ at
  pub value_is : p.value ≡ value

-- except for its word, it is the page of this saved bus
pub record IsPatchIn (c : SavedBusData) (p : PatchedPage) : Type 0 where
  pub there : SavedBusHasWord p.at c
  pub page : IsPageWith p.at.number p.value (saved_words p.at.part c) (saved_stamps p.at.part c)
      p.page

-- another owner of the patched page, for this saved bus's core
pub record IsNewPage (p : PatchedPage) (c : SavedBusData) (page : SharedPage) : Type 0 where
  pub part_is : p.at.part ≡ part.Core
  pub patch : IsPatchIn c p
  pub same : page.value ≡ p.page.value

-- a list of pages for this drive of the saved bus: its words, except for the one of the patch, and
-- no stamps
pub record IsNewList (p : PatchedPage) (c : SavedBusData) (number : ℕ) (pages : PageList) : Type 0
  where
    pub part_is : p.at.part ≡ part.Drive number
    pub patch : IsPatchIn c p
    pub words : pages_words pages ≡ slice_set (words_of_drive c.drives number) p.at.number p.value
    pub stamps : pages_stamps pages ≡ []

-- what takes the place of the patched page in this saved bus
unfoldable pub AreNewPages : PatchedPage → SavedBusData → NewPages → Type 0
AreNewPages p c (Core page) = IsNewPage p c page
AreNewPages p c (Drive number pages) = IsNewList p c number pages
