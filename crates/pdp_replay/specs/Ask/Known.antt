-- What is known of a run, and how many turns a question may run [P].
use Rattle.std.specs.Prelude.{ℕ, ◌≡◌, ◌+◌, ◌-◌, ◌*◌, ◌/◌, ◌≤◌, length, min, max, nat_lt}
use Rattle.std.specs.Prelude.{if◌then◌else◌}
use Rattle.pdp_script.specs.Script.{ScriptData}
use Rattle.pdp_unibus.specs.Handbook.LastTurn.{last_turn}
use Rattle.pdp_replay.specs.Ask.Answer.{turn_asked, first_turn_needed, AreDrives, IsWithin}
use Rattle.pdp_replay.specs.Run.KeptRuns.{CanGoOn, IsKeptRun, resumed_at}
use Rattle.pdp_replay.specs.Past.{Past}
use Rattle.pdp_replay.specs.Past.Setup.{core_size}
use Rattle.pdp_replay.specs.declared.run.kept_run.KeptRun.{KeptRun}
use Rattle.pdp_replay.specs.Timeline.{Timeline}
use Rattle.pdp_replay.specs.Run.Strides.{IsStride}
use Rattle.pdp_replay.specs.declared.ask.question.Question.{Question}

-- A question about this timeline, about turn `asked` and with an answer that needs the turns from
-- `first` on, ran at most one stride of turns more than those or than those past what was known, if
-- `turns` is the count of turns after it.
abbrev pub IsWithinBound : ℕ → ℕ → Timeline → ℕ → Type 0
IsWithinBound first asked t turns = turns + min first t.known + 1 ≤ t.turns + asked + t.stride

-- where a question about this timeline goes on from, to this turn: from the machine or from the
-- best checkpoint of the lesser of that turn and the known one, the later of the two
abbrev pub resumed_from : Timeline → ℕ → ℕ
resumed_from t to = resumed_at t.current t.turn (min to t.known / t.stride * t.stride) to

-- the turn of the next state to keep
abbrev pub next_kept : Timeline → ℕ
next_kept t = (t.known / t.stride + 1) * t.stride

-- A question came to the machine's turn, answered or refused for memory. That turn is known then,
-- also if memory was refused later, and the machine is in the run's state of it. But if memory was
-- refused for the state that is to be kept of that turn, only the turn before it is known, and the
-- machine is in no state of the run.
pub record IsCome (before after : Timeline) : Type 0 where
  pub known : after.known ≡ max before.known (if after.current then after.turn else after.turn - 1)
  pub current : after.current ≡ nat_lt after.turn (next_kept after)

-- What needs the turns from this one on went on from the machine, if that was in a state of the
-- run, or from a checkpoint, and came to the turn that was asked about, or to an earlier one if
-- memory was refused: what was come to stays known.
pub record RunsFrom (first : ℕ) (before after : Timeline) : Type 0 where
  pub resumed : after.turns + resumed_from before first ≤ before.turns + after.turn
  pub come : IsCome before after

-- What every question about this turn leaves, answered or refused: the past stays, the known turn
-- never falls and rises to that turn at most, and the stride is that of the highest turn known.
pub record LeavesPast (asked : ℕ) (before after : Timeline) : Type 0 where
  pub past : after.past ≡ before.past
  pub counted : before.turns ≤ after.turns
  pub known_least : before.known ≤ after.known
  pub known_most : after.known ≤ max before.known asked
  pub highest : after.highest ≡ max before.highest after.known
  pub doubled : IsStride after.past.setup.stride after.highest after.stride

-- a question can be answered from what is kept of a run with this script: what it asks for is there
pub record CanAnswer (q : Question) (script : ScriptData) (r : KeptRun) : Type 0 where
  pub past : Past
  pub same : past.script ≡ script
  pub run : IsKeptRun past r
  pub within : IsWithin q (core_size past.setup) past.setup.drives
  pub limit : turn_asked q ≤ last_turn

-- what a question asks for is there in a run whose machine is before the first turn that its answer
-- needs, and can go on
pub record CanRead (q : Question) (r : KeptRun) : Type 0 where
  pub within : IsWithin q (length r.machine.state.world.bus.core) (length
      r.machine.state.world.bus.drives)
  pub drives : AreDrives r.machine.state.world.bus.drives
  pub here : r.machine.state.turn ≡ first_turn_needed q
  pub limit : turn_asked q ≤ last_turn
  pub ready : CanGoOn r
