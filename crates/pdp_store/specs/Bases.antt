-- The fields of a store that is taken as pages: its words and last stamps, and for each place of
-- 256 words a base, and a mark if a word was written since.
use Rattle.std.specs.Prelude.{ℕ, ◌≡◌, ◌<◌, ◌*◌, Bool, true, false, Option, Some, None, List, []}
use Rattle.std.specs.Prelude.{◌∷◌, ◌++◌, length, map, take, drop, slice_get}
use Rattle.pdp_store.specs.declared.Stamp.{Stamp}
use Rattle.pdp_store.specs.declared.base.Base.{Base}
use Rattle.pdp_store.specs.declared.base.Base.TheVariants.{Shared, Numbered}
use Rattle.pdp_store.specs.Pages.{SharedPage, page_words, page_stamps, PagedStored, page_serial}
use Rattle.pdp_store.specs.Pages.{serials, next_serial, next_given, serials_taken, given_after}
use Rattle.pdp_store.specs.Pages.{words_of, stamps_of}
use Rattle.pdp_store.specs.Pieces.{piece}

-- the serial of the page
abbrev pub serial_of : Base → ℕ
serial_of (Shared page) = page_serial page
serial_of (Numbered serial) = serial

-- a base made of this page
pub record IsBaseOf (base : Base) (page : SharedPage) : Type 0 where
  pub serial : serial_of base ≡ page_serial page
  pub same : (other : SharedPage) → base ≡ Shared other → other.value ≡ page.value

-- a page of these words and last stamps, under this serial
pub record IsPageOf (page : SharedPage) (words : List ℕ) (stamps : List (Option Stamp))
    (serial : ℕ) : Type 0 where
  pub has_words : page_words page ≡ words
  pub has_stamps : page_stamps page ≡ stamps
  pub has_serial : page_serial page ≡ serial

-- a base that has these words and last stamps, if it is a page
abbrev pub Holds : Base → List ℕ → List (Option Stamp) → Type 0
Holds base words stamps = (page : SharedPage) → base ≡ Shared page → (page_words page ≡ words) ×
    (page_stamps page ≡ stamps)

-- the serial of the base of each place, if it isn't marked
unfoldable pub bases_of : List Bool → List Base → List (Option ℕ)
bases_of [] bases = []
bases_of (mark ∷ marks) [] = []
bases_of (true ∷ marks) (base ∷ bases) = None ∷ bases_of marks bases
bases_of (false ∷ marks) (base ∷ bases) = Some (serial_of base) ∷ bases_of marks bases

-- the serial that a place is taken under, and how many are given then
abbrev pub serial_there : Option ℕ → ℕ → ℕ
serial_there None given = next_serial given
serial_there (Some serial) given = serial

abbrev pub given_there : Option ℕ → ℕ → ℕ
given_there None given = next_given given
given_there (Some serial) given = given

-- fields of one store: a base that isn't marked, if it is a page, has the words of its place
pub record AreFields (words : List ℕ) (stamps : List (Option Stamp)) (bases : List Base)
    (marks : List Bool) : Type 0 where
  pub places : length marks ≡ length bases
  pub all_words : length words ≡ length bases * 256
  pub all_stamps : 0 < length stamps → length stamps ≡ length words
  pub held : (k : ℕ) (base : Base) → slice_get marks k ≡ Some false → slice_get bases k ≡ Some base
      → Holds base (piece k words) (piece k stamps)

-- bases made of these pages, none of them marked
pub record AreBases (pages : List SharedPage) (bases : List Base) (marks : List Bool) : Type 0 where
  pub count : length bases ≡ length pages
  pub places : length marks ≡ length pages
  pub serials : bases_of marks bases ≡ map Some (serials pages)
  pub same : (k : ℕ) (base : Base) (page : SharedPage) → slice_get bases k ≡ Some base
      → slice_get pages k ≡ Some page → IsBaseOf base page

-- the same of the first places alone, if there is a base and a mark for each page
pub record AreBasesBelow (n : ℕ) (pages : List SharedPage) (bases : List Base)
    (marks : List Bool) : Type 0 where
  pub count : length bases ≡ length pages
  pub places : length marks ≡ length pages
  pub unmarked : (k : ℕ) → k < n → slice_get marks k ≡ Some false
  pub same : (k : ℕ) (base : Base) (page : SharedPage) → k < n → slice_get bases k ≡ Some base
      → slice_get pages k ≡ Some page → IsBaseOf base page

-- the pages of the first n places as they are taken, if so many serials were given before them, and
-- then with theirs
pub record AreTakenBelow (n : ℕ) (pages : List SharedPage) (given : ℕ) (store : PagedStored) : Type
    0 where
  pub words_so_far : words_of pages ≡ take (n * 256) store.words
  pub stamps_so_far : stamps_of pages ≡ take (n * 256) store.stamps
  pub serials_so_far : serials pages ++ serials_taken (drop n store.bases) given
      ≡ serials_taken store.bases store.given
  pub given_so_far : given_after (drop n store.bases) given ≡ given_after store.bases store.given

-- the pages of every place
pub record AreAllTaken (pages : List SharedPage) (given : ℕ) (store : PagedStored) : Type 0 where
  pub all_words : words_of pages ≡ store.words
  pub all_stamps : stamps_of pages ≡ store.stamps
  pub all_serials : serials pages ≡ serials_taken store.bases store.given
  pub all_given : given ≡ given_after store.bases store.given
