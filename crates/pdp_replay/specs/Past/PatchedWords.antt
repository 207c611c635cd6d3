-- The words that can have a patch, by which patches are kept [P]: those of core and of the drives.
use Rattle.std.specs.Prelude.{ℕ, ◌&&◌, Bool, Option, List, nat_eq}
use Rattle.std.specs.Map.{lookup}
use Rattle.pdp_store.specs.Parts.{is_same_part}
use Rattle.pdp_store.specs.declared.part.WordAt.{WordAt}

-- patched words with their values, in the order in which they were first given one
abbrev pub Patches : Type 0
Patches = List (WordAt × ℕ)

-- are these the same word?
abbrev pub is_same_word : WordAt → WordAt → Bool
is_same_word at other = is_same_part at.part other.part && nat_eq at.number other.number

-- the value that a word is patched to, if it is
abbrev pub patch_of : Patches → WordAt → Option ℕ
patch_of patches at = lookup (is_same_word at) patches
