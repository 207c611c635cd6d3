-- The writes to a word of core, turn by turn.
use Rattle.std.proofs.Common.{◌≡◌, ◌∙◌, ℕ, ◌-◌, ◌≤◌, ◌++◌, List, Option, None, Some, append-nil, arith, option_map, option_to_list, refl}
use Rattle.pdp_replay.specs.Past.{Past}
use Rattle.pdp_replay.specs.Ask.Searches.{EndsAfter}
use Rattle.pdp_replay.specs.Ask.Writes.{IsNextWrite, turn_after_write, write_in, writes_in_turns}
use Rattle.pdp_replay.specs.declared.ask.last_write.LastWrite.{LastWrite}
use Rattle.pdp_replay.proofs.ask.ListedTurns.{listed_further, skipped_to}

-- with the next write more
pub next_listed : (p : Past) (number first turn now to : ℕ) (write : Option LastWrite) (xs ys : List LastWrite) → first ≤ turn → turn ≤ now
    → IsNextWrite p number turn now write → now ≡ turn_after_write write to → xs ≡ writes_in_turns p number first (turn - first)
    → ys ≡ xs ++ option_to_list write → ys ≡ writes_in_turns p number first (now - first)
next_listed p number first turn now to None xs ys least order none end listed more =
    more ∙ append-nil xs ∙ skipped_to (write_in p number) first turn now xs least order none listed
next_listed p number first turn now to (Some write) xs ys least order next end listed more =
    let on = next.0.least in
    listed_further (write_in p number) first write.turn now (Some write) xs ys (omega (arith, least, on)) end next.1
    (skipped_to (write_in p number) first turn write.turn xs least on next.0.none listed) more

-- a search for one write ends after its turn, if there is one
pub ends_after_write : (write : Option LastWrite) (now to : ℕ) → now ≡ turn_after_write write to → EndsAfter now (option_map (λ w. w.turn) write)
ends_after_write None now to end = refl
ends_after_write (Some write) now to end = end
