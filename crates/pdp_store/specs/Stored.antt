-- A store as callers see it (stamps are [P]).
use Rattle.std.specs.Prelude.{◌≡◌, ◌<◌, ◌+◌, ◌/◌, ℕ, Bool, if◌then◌else◌, Option, None, List, []}
use Rattle.std.specs.Prelude.{length, replicate, slice_set}
use Rattle.pdp_store.specs.FirstTouches.{never}
use Rattle.pdp_store.specs.declared.Stamp.{Stamp}

-- a store is its list of words, with the stamp of the last write to each, and the first touch of
-- each page; a store without stamps has none in `stamps`
pub record Stored : Type 0 where
  pub words : List ℕ
  pub stamps : List (Option Stamp)
  pub first_touches : List ℕ

-- there is a last stamp, or None, for each word, if there are any
abbrev pub HasLastOfEachOrNone : List ℕ → List (Option Stamp) → Type 0
HasLastOfEachOrNone words stamps = 0 < length stamps → length stamps ≡ length words

-- the first touches of `len` words: no page was touched, and the last page may have fewer words
abbrev pub no_touch_in : ℕ → List ℕ
no_touch_in len = replicate ((len + 255) / 256) never

-- a store of so many words, as it is made: all zero, none written yet
abbrev pub blank_store : ℕ → Bool → Stored
blank_store len stamped = record {
  words = replicate len 0;
  stamps = if stamped then replicate len None else [];
  first_touches = no_touch_in len;
}

-- the store with this word and this last stamp in place i, and all else as it was
abbrev pub with_word : Stored → ℕ → ℕ → Option Stamp → Stored
with_word store i word last =
    record store { words = slice_set store.words i word; stamps = slice_set store.stamps i last }
