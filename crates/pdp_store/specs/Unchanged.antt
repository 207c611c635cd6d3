-- What of a store is as it was. No rule of the handbook is here.
use Rattle.std.specs.Prelude.{◌≡◌, ℕ, List, Option}
use Rattle.pdp_store.specs.declared.Stamp.{Stamp}

-- its words and their last stamps
pub record SameWritten (words words_before : List ℕ) (stamps stamps_before : List
    (Option Stamp)) : Type 0 where
  pub same_words : words ≡ words_before
  pub same_stamps : stamps ≡ stamps_before

-- and the first touches of its pages too
pub record SameStored (words words_before : List ℕ) (stamps stamps_before : List (Option Stamp))
    (first_touches first_touches_before : List ℕ) : Type 0 where
  pub same_words : words ≡ words_before
  pub same_stamps : stamps ≡ stamps_before
  pub same_first_touches : first_touches ≡ first_touches_before
