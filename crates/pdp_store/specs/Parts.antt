-- The words of core and of the drives, by the part where they are. No rule of the handbook is here.
use Rattle.std.specs.Prelude.{ℕ, ◌≡◌, ◌≢◌, ◌/◌, Bool, true, false, Option, Some, None, List, []}
use Rattle.std.specs.Prelude.{length, nat_eq, slice_index, slice_index_or, slice_set}
use Rattle.pdp_store.specs.declared.part.Part.{Part}
use Rattle.pdp_store.specs.declared.part.Part.TheVariants.{Core, Drive}
use Rattle.pdp_store.specs.declared.part.WordAt.{WordAt}

-- the drive of this number, or core if there is no number
abbrev pub part_of : Option ℕ → Part
part_of None = Core
part_of (Some number) = Drive number

-- are these the same part?
abbrev pub is_same_part : Part → Part → Bool
is_same_part Core Core = true
is_same_part (Drive number) (Drive other) = nat_eq number other
is_same_part _ _ = false

-- the word of this number in a part
abbrev pub word_at : Part → ℕ → WordAt
word_at part number = record { part = part; number = number }

-- the words of the drive of a number, of those that there are: none of one that isn't there
abbrev pub words_of_drive : List (List ℕ) → ℕ → List ℕ
words_of_drive drives number = slice_index_or drives number []

-- the words of a part: none of a drive that isn't there
abbrev pub words_in : Part → List ℕ → List (List ℕ) → List ℕ
words_in Core core drives = core
words_in (Drive number) core drives = words_of_drive drives number

-- core, and the drives, if the words of a part are these
abbrev pub core_with : Part → List ℕ → List ℕ → List ℕ
core_with Core words core = words
core_with (Drive number) words core = core

abbrev pub drives_with : Part → List ℕ → List (List ℕ) → List (List ℕ)
drives_with Core words drives = drives
drives_with (Drive number) words drives = slice_set drives number words

-- two lists of words that differ at most in this page of 256 words
pub record AlikeWords (page : ℕ) (xs ys : List ℕ) : Type 0 where
  pub size : length ys ≡ length xs
  pub words : (k : ℕ) → k / 256 ≢ page → slice_index ys k ≡ slice_index xs k

-- two lists with the same words in this page
abbrev pub SameWords : ℕ → List ℕ → List ℕ → Type 0
SameWords page xs ys = (k : ℕ) → k / 256 ≡ page → slice_index xs k ≡ slice_index ys k
