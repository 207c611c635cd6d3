-- Searches for the first of some turns that has a property [P].
use Rattle.std.specs.Prelude.{ℕ, zero, suc, ◌≡◌, ◌+◌, ◌<◌, ◌≤◌, Bool, true, false, Option, Some}
use Rattle.std.specs.Prelude.{None, Result, Ok, Err, max, min, nat_le, if◌then◌else◌}
use Rattle.pdp_unibus.specs.Handbook.LastTurn.{last_turn}
use Rattle.pdp_script.specs.declared.faults.Fault.{Fault}
use Rattle.pdp_script.specs.declared.faults.Fault.TheVariants.{TurnTooLarge, CountOutOfRange}
use Rattle.pdp_replay.specs.Timeline.{Timeline}

-- no turn from one on and before another has the property
abbrev pub HoldsNowhere : (ℕ → Bool) → ℕ → ℕ → Type 0
HoldsNowhere holds from to = (turn : ℕ) → from ≤ turn → turn < to → holds turn ≡ false

-- turn t is the first from one on and before another that has the property
pub record IsFirstTurn (holds : ℕ → Bool) (from to t : ℕ) : Type 0 where
  pub least : from ≤ t
  pub most : t < to
  pub there : holds t ≡ true
  pub none : HoldsNowhere holds from t

-- this is the first turn from one on and before another that has the property; None if none has it
abbrev pub IsFirst : (ℕ → Bool) → ℕ → ℕ → Option ℕ → Type 0
IsFirst holds from to (Some t) = IsFirstTurn holds from to t
IsFirst holds from to None = HoldsNowhere holds from to

-- the turn that was found before; otherwise this turn, if it has the property
abbrev pub or_turn : Option ℕ → Bool → ℕ → Option ℕ
or_turn (Some t) there turn = Some t
or_turn None true turn = Some turn
or_turn None false turn = None

-- the same turn, computed: the first of `n` turns from one on that has the property
unfoldable pub first_turn_of : (ℕ → Bool) → ℕ → ℕ → Option ℕ
first_turn_of holds from zero = None
first_turn_of holds from (suc n) =
    or_turn (first_turn_of holds from n) (holds (from + n)) (from + n)

-- can turns from one on and before another be searched?
abbrev pub search_checked : ℕ → ℕ → Result (Unit {0}) Fault
search_checked from to = (
    if nat_le from last_turn then
    if nat_le to last_turn then
    if nat_le from to then Ok tt
    else Err CountOutOfRange
    else Err TurnTooLarge
    else Err TurnTooLarge)

-- the turn that a search ends at: the one after what it found, or the one before which it looks
abbrev pub turn_reached : Option ℕ → ℕ → ℕ
turn_reached (Some t) to = t + 1
turn_reached None to = to

-- a part of a search that came to this turn came to the one after what it found, if it found one
abbrev pub EndsAfter : ℕ → Option ℕ → Type 0
EndsAfter turn found = turn ≡ turn_reached found turn

-- A search of this timeline ran at most one stride of turns more than those from its first turn, or
-- from the known one if that is earlier, to the turn that it ended at.
abbrev pub IsWithinSearch : ℕ → Timeline → Timeline → Type 0
IsWithinSearch from before after = after.turns + min from before.known + 1
    ≤ before.turns + max from after.turn + before.stride
