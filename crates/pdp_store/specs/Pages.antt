-- Pages of 256 words, shared between a store and what was taken of it.
use Rattle.std.specs.Prelude.{ℕ, ◌≡◌, ◌+◌, ◌/◌, Bool, if◌then◌else◌, Option, Some, None, List, []}
use Rattle.std.specs.Prelude.{◌∷◌, map, min, nat_lt, replicate, slice_set}
use Rattle.std.specs.List.{flat_map}
use Rattle.std.specs.declared.alloc.Global.{Global}
use Rattle.std.specs.declared.rc.Rc.{Rc}
use Rattle.pdp_store.specs.Stored.{no_touch_in}
use Rattle.pdp_store.specs.declared.Stamp.{Stamp}
use Rattle.pdp_store.specs.declared.page.Page.{Page}

-- a page that several share
abbrev pub SharedPage : Type 0
SharedPage = Rc Page Global

abbrev pub page_words : SharedPage → List ℕ
page_words page = page.value.words.items

abbrev pub page_stamps : SharedPage → List (Option Stamp)
page_stamps page = page.value.stamps.value.items

abbrev pub page_serial : SharedPage → ℕ
page_serial page = page.value.serial

-- the words of pages, one page after the other, and their last stamps; and the serial of each page
unfoldable pub words_of : List SharedPage → List ℕ
words_of pages = flat_map page_words pages

unfoldable pub stamps_of : List SharedPage → List (Option Stamp)
stamps_of pages = flat_map page_stamps pages

abbrev pub serials : List SharedPage → List ℕ
serials pages = map page_serial pages

-- a store whose words can be taken as pages: its words, their last stamps and the first touches of
-- its pages as of any store; at each place of 256 words the serial of its base, which is the page
-- last taken or loaded there while no word there was written since; and how many serials it has
-- given
pub record PagedStored : Type 0 where
  pub words : List ℕ
  pub stamps : List (Option Stamp)
  pub bases : List (Option ℕ)
  pub given : ℕ
  pub first_touches : List ℕ

-- a store of so many words as it is made: all zero, none written yet, and nothing taken or loaded
abbrev pub blank_paged : ℕ → Bool → PagedStored
blank_paged len stamped = record {
  words = replicate len 0;
  stamps = if stamped then replicate len None else [];
  bases = replicate (len / 256) None;
  given = 0;
  first_touches = no_touch_in len;
}

-- a drive, which keeps no stamps: its words, and bases, serials and first touches as above
pub record PagedWords : Type 0 where
  pub words : List ℕ
  pub bases : List (Option ℕ)
  pub given : ℕ
  pub first_touches : List ℕ

abbrev pub blank_words : ℕ → PagedWords
blank_words len = record {
  words = replicate len 0;
  bases = replicate (len / 256) None;
  given = 0;
  first_touches = no_touch_in len;
}

-- a drive as it is made if one page of zeros, the first that it numbers, is the base of each place
abbrev pub blank_drive : ℕ → PagedWords
blank_drive len = record {
  words = replicate len 0;
  bases = replicate (len / 256) (Some 1);
  given = 1;
  first_touches = no_touch_in len;
}

-- the most serials that a store gives
abbrev pub most_serials : ℕ
most_serials = 18446744073709551615

-- the serial that is given after so many: each number once, from 1 up, and 0 when there are no more
abbrev pub next_serial : ℕ → ℕ
next_serial given = if nat_lt given most_serials then given + 1 else 0

-- how many are given then
abbrev pub next_given : ℕ → ℕ
next_given given = min (given + 1) most_serials

-- the serials of the pages that are taken: each base keeps its own, and each other place has the
-- next one
unfoldable pub serials_taken : List (Option ℕ) → ℕ → List ℕ
serials_taken [] given = []
serials_taken (Some serial ∷ bases) given = serial ∷ serials_taken bases given
serials_taken (None ∷ bases) given = next_serial given ∷ serials_taken bases (next_given given)

-- how many serials are given then
unfoldable pub given_after : List (Option ℕ) → ℕ → ℕ
given_after [] given = given
given_after (Some serial ∷ bases) given = given_after bases given
given_after (None ∷ bases) given = given_after bases (next_given given)

-- a word was written: its place has no base then
abbrev pub without_base : List (Option ℕ) → ℕ → List (Option ℕ)
without_base bases i = slice_set bases (i / 256) None

-- this page is the other one with its word i changed, its stamps kept, under the serial that comes
-- after so many
pub record IsPatched (page patched : Page) (i word given : ℕ) : Type 0 where
  pub words : patched.words.items ≡ slice_set page.words.items i word
  pub stamps : patched.stamps.value.items ≡ page.stamps.value.items
  pub serial : patched.serial ≡ next_serial given
