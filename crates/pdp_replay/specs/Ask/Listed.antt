-- What turns have, listed turn by turn, at most 256 of it [P].
use Rattle.std.specs.Prelude.{ℕ, ◌+◌, ◌++◌, zero, suc, List, [], Option, option_map}
use Rattle.std.specs.Prelude.{option_to_list, slice_get}
use Rattle.pdp_replay.specs.Ask.Searches.{turn_reached}

-- what the n turns from this one on have, in their order
unfoldable pub in_turns : {A : Type 0} → (ℕ → Option A) → ℕ → ℕ → List A
in_turns had first zero = []
in_turns had first (suc n) = in_turns had first n ++ option_to_list (had (first + n))

-- the turn that a list of what the turns before turn `to` have ends at: the one after that of the
-- 256th item, or `to` if there are fewer
abbrev pub list_end : {A : Type 0} → (A → ℕ) → List A → ℕ → ℕ
list_end turn_of items to = turn_reached (option_map turn_of (slice_get items 255)) to
