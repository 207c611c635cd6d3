-- What every call that asks something of a run tells, and where it leaves the machine.
use Rattle.std.specs.Prelude.{ℕ, ◌≡◌, ◌+◌, max, true}
use Rattle.pdp_replay.specs.Timeline.{Timeline}
use Rattle.pdp_replay.specs.declared.ask.told.Told.{Told}

-- how many turns were run for it, the known turn and the stride after it
pub record IsToldOf {T : Type 0} (told : Told T) (before after : Timeline) : Type 0 where
  pub ran : after.turns ≡ before.turns + told.ran
  pub known : told.known ≡ after.known
  pub stride : told.stride ≡ after.stride

-- the machine is at this turn, which is known now
pub record IsAtTurn (turn : ℕ) (before after : Timeline) : Type 0 where
  pub there : after.turn ≡ turn
  pub known : after.known ≡ max before.known turn
  pub current : after.current ≡ true
