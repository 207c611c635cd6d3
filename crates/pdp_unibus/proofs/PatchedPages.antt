-- A patched page in place of the page that a saved bus has.
use Rattle.std.proofs.Common.{◌≡◌, ◌∙◌, ℕ, ◌/◌, ◌%◌, ◌<◌, List, [], Option, ap, arith, get_or, length, length-set, map, slice_set, subst, sym}
use Rattle.std.proofs.lemmas.List.{get_or-map}
use Rattle.std.specs.Prelude.{slice_index_or}
use Rattle.pdp_store.specs.Pages.{SharedPage, stamps_of, words_of}
use Rattle.pdp_store.specs.Pieces.{piece}
use Rattle.pdp_store.specs.Stored.{HasLastOfEachOrNone}
use Rattle.pdp_store.specs.declared.Stamp.{Stamp}
use Rattle.pdp_store.specs.declared.part.Part.TheVariants as parts
use Rattle.pdp_store.proofs.PageLists.{IsChanged, stamps_with_page, there_within, words_with_page}
use Rattle.pdp_unibus.specs.SavedBusData.{SavedBusData, SavedBusHasWord, saved_words}
use Rattle.pdp_unibus.specs.PatchedPages.{IsPageWith, IsPatchIn, saved_stamps}
use Rattle.pdp_unibus.specs.SavedDrives.{AreUnstamped, PageList, pages_stamps, pages_words}
use Rattle.pdp_unibus.proofs.SavedDrives.{words_there}
use Rattle.pdp_unibus.specs.declared.save.saved_bus.patched_page.PatchedPage.{PatchedPage}

-- a patch of core, or of the drive of a number, in a saved bus that is the other
pub core_patch : (v c : SavedBusData) (p : PatchedPage) → v ≡ c → p.at.part ≡ parts.Core → IsPatchIn c p
    → (p.at.number < length v.core) × IsPageWith p.at.number p.value v.core v.stamps p.page
unfolding SavedBusHasWord
core_patch v c p view is patch =
    let there = subst (λ x. p.at.number < length (saved_words x c)) is patch.there in
    let page = subst (λ x. IsPageWith p.at.number p.value (saved_words x c) (saved_stamps x c) p.page) is patch.page in
    subst (λ (x : SavedBusData). (p.at.number < length x.core) × IsPageWith p.at.number p.value x.core x.stamps p.page) (sym view) (there, page)

pub drive_patch : (v c : SavedBusData) (p : PatchedPage) (number : ℕ) → v ≡ c → p.at.part ≡ parts.Drive number → IsPatchIn c p
    → (p.at.number < length (slice_index_or v.drives number [])) × IsPageWith p.at.number p.value (slice_index_or v.drives number []) [] p.page
unfolding SavedBusHasWord
drive_patch v c p number view is patch =
    let there = subst (λ x. p.at.number < length (saved_words x c)) is patch.there in
    let page = subst (λ x. IsPageWith p.at.number p.value (saved_words x c) (saved_stamps x c) p.page) is patch.page in
    subst (λ (x : SavedBusData). (p.at.number < length (slice_index_or x.drives number [])) × IsPageWith p.at.number p.value (slice_index_or x.drives number []) [] p.page)
    (sym view) (there, page)

-- a list of pages with the patched page at its place
pub record IsPut (pages list : List SharedPage) (word value : ℕ) : Type 0 where
  pub words : words_of list ≡ slice_set (words_of pages) word value
  pub stamps : stamps_of list ≡ stamps_of pages

pub page_put : (pages list : List SharedPage) (word value : ℕ) (page : SharedPage) → IsChanged pages list (word / 256) page
    → word < length (words_of pages) → HasLastOfEachOrNone (words_of pages) (stamps_of pages)
    → IsPageWith word value (words_of pages) (stamps_of pages) page → IsPut pages list word value
page_put pages list word value page is inside stamped patch = record {
  words = words_with_page pages list word value page is inside patch.changed;
  stamps = stamps_with_page pages list (word / 256) page is (there_within pages word inside) stamped patch.stamps;
}

pub stamped_still : (pages list : List SharedPage) (word value : ℕ) → IsPut pages list word value
    → HasLastOfEachOrNone (words_of pages) (stamps_of pages) → HasLastOfEachOrNone (words_of list) (stamps_of list)
stamped_still pages list word value put stamped = λ some.
    ap length put.stamps ∙ stamped (subst (λ (xs : List (Option Stamp)). 0 < length xs) put.stamps some)
    ∙ sym (ap length put.words ∙ length-set (words_of pages) word value)

-- the pages of a drive have no stamps
pub none_there : (xs : List PageList) (k : ℕ) (pages : PageList) → AreUnstamped xs → pages ≡ get_or xs k pages → k < length xs → pages_stamps pages ≡ []
none_there xs k pages none there below =
    ap pages_stamps there ∙ sym (get_or-map pages_stamps xs k pages [] below) ∙ ap (λ zs. get_or zs k []) none
    ∙ get_or-map (λ _. []) xs k pages [] below

pub none_stamped : (words : List ℕ) (stamps : List (Option Stamp)) → stamps ≡ [] → HasLastOfEachOrNone words stamps
none_stamped words stamps none = λ some. absurd (omega (arith, subst (λ (xs : List (Option Stamp)). 0 < length xs) none some))

-- a patched page in the list of a drive
pub drive_put : (lists : List PageList) (k word value : ℕ) (old new : PageList) (page : SharedPage) → AreUnstamped lists
    → old ≡ get_or lists k old → k < length lists → word < length (slice_index_or (map pages_words lists) k [])
    → IsPageWith word value (slice_index_or (map pages_words lists) k []) [] page
    → IsChanged old.value.items new.value.items (word / 256) page → IsPut old.value.items new.value.items word value
drive_put lists k word value old new page unstamped there below inside patch is =
    let none = none_there lists k old unstamped there below in
    let words = words_there lists k old there below in
    let these : IsPageWith word value (pages_words old) (pages_stamps old) page = record {
      changed = patch.changed ∙ ap (λ xs. slice_set (piece (word / 256) xs) (word % 256) value) (sym words);
      stamps = patch.stamps ∙ ap (piece (word / 256)) (sym none);
    } in
    page_put old.value.items new.value.items word value page is (subst (λ xs. word < length xs) (sym words) inside)
    (none_stamped (pages_words old) (pages_stamps old) none) these

-- the place of a word is one of the pages of its drive
pub drive_within : (lists : List PageList) (k word : ℕ) (old : PageList) → old ≡ get_or lists k old → k < length lists
    → word < length (slice_index_or (map pages_words lists) k []) → word / 256 < length old.value.items
drive_within lists k word old there below inside =
    there_within old.value.items word (subst (λ xs. word < length xs) (sym (words_there lists k old there below)) inside)
