-- What attributes cite: lemmas by their subject, and definitions that are opened together, as an
-- `unfolding` of a name opens all that stands on the name's own line.
use Rattle.pdp_rk11.proofs.Moves.{moved_none, moved_more, moved_to_one_none, moved_to_one_last}
use Rattle.pdp_rk11.proofs.Names.{map_length, map_get, map_with, moved_length}
use Rattle.pdp_rk11.specs.Handbook.Completion.{rk_completed, stamps_completed}

-- for goals on what is seen of a list of drives, one by one
pub ruleset maps = (map_length, map_get, map_with)

-- for goals on what is left of the words or the stamps if some are moved, each to its own place
pub ruleset memory_moves = (moved_none, moved_more, moved_length)

-- for goals on what is left if all words are moved to one place
pub ruleset moves_to_one = (moved_to_one_none, moved_to_one_last)

-- opens the completion of an operation and that of the stamps
unfoldable pub completions : Type 0
unfolding rk_completed stamps_completed
completions = Unit {0}
