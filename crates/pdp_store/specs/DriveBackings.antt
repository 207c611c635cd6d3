-- What the places of a drive hold, if a drive reads a place from its page until a word there is
-- written.
use Rattle.std.specs.Prelude.{ℕ, ◌++◌, take, drop, ◌≡◌, ◌<◌, ◌*◌, ◌/◌, ◌%◌, ◌^◌, Bool, false}
use Rattle.std.specs.Prelude.{Option, Some, None, List, [], length, map, slice_get, slice_index}
use Rattle.std.specs.Prelude.{slice_index_or, replicate}
use Rattle.std.specs.List.{range_with_len}
use Rattle.pdp_store.specs.declared.paged_drive.Backing.{Backing}
use Rattle.pdp_store.specs.declared.paged_drive.Backing.TheVariants.{Shared, Written, Copied}
use Rattle.pdp_store.specs.Pages.{SharedPage, page_words, page_serial, PagedWords, given_after}
use Rattle.pdp_store.specs.Pages.{stamps_of, serials, serials_taken, words_of}

-- the serial of a page, if there is one
abbrev pub serial_in : Option SharedPage → Option ℕ
serial_in None = None
serial_in (Some page) = Some (page_serial page)

-- word i of a drive, which stands in its own words unless its place is shared; and the base of a
-- place
abbrev pub word_from : Backing → Option SharedPage → List ℕ → ℕ → ℕ
word_from Shared (Some page) own i = slice_index (page_words page) (i % 256)
word_from Shared None own i = slice_index own i
word_from Written page own i = slice_index own i
word_from (Copied serial) page own i = slice_index own i

abbrev pub base_from : Backing → Option SharedPage → Option ℕ
base_from Shared page = serial_in page
base_from Written page = None
base_from (Copied serial) page = Some serial

-- what place k is read from
abbrev pub backing_at : List Backing → ℕ → Backing
backing_at backings k = slice_index_or backings k Written

abbrev pub word_read : List SharedPage → List Backing → List ℕ → ℕ → ℕ
word_read pages backings own i = word_from (backing_at backings (i / 256)) (slice_get pages
    (i / 256)) own i

abbrev pub base_at : List SharedPage → List Backing → ℕ → Option ℕ
base_at pages backings k = base_from (backing_at backings k) (slice_get pages k)

-- the words of a drive, as reads give them, and the bases of its places
unfoldable pub words_read : List SharedPage → List Backing → List ℕ → List ℕ
words_read pages backings own = map (word_read pages backings own) (range_with_len 0 (length own))

unfoldable pub bases_held : List SharedPage → List Backing → List (Option ℕ)
bases_held pages backings = map (base_at pages backings) (range_with_len 0 (length backings))

-- a drive has 256 words of its own for each place; a shared place has its page in the list, and
-- these pages have no stamps; and if no place changed since the list was taken or loaded, each is
-- shared
pub record AreDriveFields (pages : List SharedPage) (backings : List Backing) (own : List ℕ)
    (given : ℕ) (changed : Bool) : Type 0 where
  pub words : length own ≡ length backings * 256
  pub range : given < 2 ^ 64
  pub shared : (k : ℕ) → backing_at backings k ≡ Shared → k < length pages
  pub stamps : stamps_of pages ≡ []
  pub unchanged : changed ≡ false → (length pages ≡ length backings) × (backings ≡ replicate
      (length backings) Shared)

-- the words with those of a page in place k
unfoldable pub with_part : ℕ → List ℕ → List ℕ → List ℕ
with_part k part xs = take (k * 256) xs ++ (part ++ drop 256 (drop (k * 256) xs))

-- the words of a drive's own, after those of place k were copied there, if it was shared
abbrev pub own_with_copy : Backing → Option SharedPage → ℕ → List ℕ → List ℕ
own_with_copy Shared None k own = own
own_with_copy Shared (Some page) k own = with_part k (page_words page) own
own_with_copy Written page k own = own
own_with_copy (Copied serial) page k own = own

-- a drive that reads each place from these pages, if it has given so many serials
abbrev pub drive_from_pages : List SharedPage → ℕ → List ℕ → PagedWords
drive_from_pages pages given first_touches = record {
  words = words_of pages;
  bases = map Some
      (serials pages);
  given = given;
  first_touches = first_touches;
}

-- a place that has the words of this page among the drive's own
abbrev pub copied_from : SharedPage → Backing
copied_from page = Copied (page_serial page)

-- pages that are taken of a drive of these words and these bases, and how many serials are given
-- after that
pub record AreTaken (pages : List SharedPage) (after : ℕ) (words : List ℕ) (bases : List
    (Option ℕ)) (given : ℕ) : Type 0 where
  pub has_words : words_of pages ≡ words
  pub has_stamps : stamps_of pages ≡ []
  pub has_serials : serials pages ≡ serials_taken bases given
  pub is_after : after ≡ given_after bases given

-- `count` pages of zeros without stamps, each with the first serial
pub record AreZeros (count : ℕ) (pages : List SharedPage) : Type 0 where
  pub zeros : words_of pages ≡ replicate (count * 256) 0
  pub no_stamps : stamps_of pages ≡ []
  pub first : serials pages ≡ replicate count 1
