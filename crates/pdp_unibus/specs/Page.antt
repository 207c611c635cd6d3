-- Pages of 256 words of core or of a drive, on the bus. No rule of the handbook is here.
use Rattle.std.specs.Prelude.{ℕ, ◌≡◌, List}
use Rattle.pdp_store.specs.Parts.{AlikeWords, SameWords, core_with, drives_with, words_in}
use Rattle.pdp_store.specs.declared.part.Part.{Part}
use Rattle.pdp_unibus.specs.Handbook.BusWorld.{BusWorld}

-- the words of a part
abbrev pub words_of_part : Part → BusWorld → List ℕ
words_of_part part w = words_in part w.core w.drives

-- the bus with other words in a part
abbrev pub bus_with_words : Part → List ℕ → BusWorld → BusWorld
bus_with_words part words w = record w {
  core = core_with part words w.core;
  drives = drives_with part words w.drives;
}

-- two buses that differ at most in the words of this page of this part
pub record AlikeOutside (part : Part) (page : ℕ) (b c : BusWorld) : Type 0 where
  pub words : List ℕ
  pub is : c ≡ bus_with_words part words b
  pub alike : AlikeWords page (words_of_part part b) words

-- two buses with the same words in this page of this part
abbrev pub SamePage : Part → ℕ → BusWorld → BusWorld → Type 0
SamePage part page b c = SameWords page (words_of_part part b) (words_of_part part c)
