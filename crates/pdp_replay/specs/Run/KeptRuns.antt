-- The run that an engine keeps, between its calls and on the way.
use Rattle.std.specs.Prelude.{ℕ, ◌≡◌, ◌+◌, ◌*◌, ◌-◌, ◌/◌, ◌^◌, ◌<◌, ◌≤◌, ◌&&◌, Bool, true, false}
use Rattle.std.specs.Prelude.{◌++◌, List, [], ◌∷◌, Some, length, max, min, nat_le, nat_lt}
use Rattle.std.specs.Prelude.{if◌then◌else◌}
use Rattle.std.specs.List.{All, filter}
use Rattle.pdp_store.specs.FirstTouches.{FirstTouches, all_first_touches_before, first_touches_of}
use Rattle.pdp_store.specs.FirstTouches.{never}
use Rattle.pdp_checkpoint.specs.Formers.{FormerData, IsFormerAfter}
use Rattle.pdp_checkpoint.specs.Ladder.{AreCheckpoints, LadderData, best_of, checkpoint_of, next_of}
use Rattle.pdp_checkpoint.specs.Patched.{patched_to}
use Rattle.pdp_checkpoint.specs.declared.checkpoint.Checkpoint.{Checkpoint}
use Rattle.pdp_cpu.specs.Drives.{state_with_drives}
use Rattle.pdp_cpu.specs.KeptTexts.{kept_before}
use Rattle.pdp_cpu.specs.Saved.{state_cut}
use Rattle.pdp_cpu.specs.SavedOutput.{output_from}
use Rattle.pdp_cpu.specs.Handbook.MachineState.{MachineState, MachineWithTexts}
use Rattle.pdp_script.specs.Entries.{events_at}
use Rattle.pdp_script.specs.Script.{ScriptData}
use Rattle.pdp_replay.specs.Run.FirstTouches.{first_touch_of}
use Rattle.pdp_replay.specs.Run.Checkpoints.{AreKept, IsInRun, KeepsTexts}
use Rattle.pdp_replay.specs.Past.{Past}
use Rattle.pdp_replay.specs.Run.States.{at}
use Rattle.pdp_replay.specs.Run.Strides.{IsStride}
use Rattle.pdp_replay.specs.declared.run.kept_run.KeptRun.{KeptRun}
use Rattle.pdp_store.specs.declared.part.WordAt.{WordAt}

-- a machine on its way through a run: it is in the run's state of its turn, and keeps what came out
-- before that turn and before the known one
pub record IsUnderWay (p : Past) (known : ℕ) (m : MachineWithTexts) : Type 0 where
  pub here : m.state ≡ at p m.state.turn
  pub texts : KeepsTexts p (max known m.state.turn) m

-- a meter counted so many turns; at 18,446,744,073,709,551,615 it stays there
abbrev pub MetersTurns : ℕ → ℕ → ℕ → Type 0
MetersTurns turns before after = after ≡ min (before + turns) (max before (2 ^ 64 - 1))

-- it counted at least so many
abbrev pub CountsTurns : ℕ → ℕ → ℕ → Type 0
CountsTurns turns before after = min (before + turns) (max before (2 ^ 64 - 1)) ≤ after

-- A machine was run from one state to another, of turn `to` at the latest, and a meter from one
-- count to another: it counted each turn that was run.
pub record RunsUpTo (to : ℕ) (before after : MachineWithTexts) (metered counted : ℕ) : Type 0 where
  pub least : before.state.turn ≤ after.state.turn
  pub most : after.state.turn ≤ to
  pub ran : MetersTurns (after.state.turn - before.state.turn) metered counted

-- no turn from this one on and before that one has events
abbrev pub IsWithoutEvents : Past → ℕ → ℕ → Type 0
IsWithoutEvents p from to = (turn : ℕ) → from ≤ turn → turn < to → events_at p.script.entries turn
    ≡ []

-- what is kept is that of this run; and if the machine is said to be in a state of it, it is
pub record IsKeptRun (p : Past) (r : KeptRun) : Type 0 where
  pub kept : AreKept p r.known r.machine r.ladder
  pub current : r.is_current ≡ true → IsInRun p r.known r.machine

-- so it is of some run, or of one with this script
pub record IsSomeRun (r : KeptRun) : Type 0 where
  pub past : Past
  pub run : IsKeptRun past r

pub record IsRunOf (script : ScriptData) (r : KeptRun) : Type 0 where
  pub past : Past
  pub same : past.script ≡ script
  pub run : IsKeptRun past r

-- what is kept is that of this run, and the machine is in a state of it, of a turn up to the known
-- one
pub record IsOnWay (p : Past) (r : KeptRun) : Type 0 where
  pub kept : AreKept p r.known r.machine r.ladder
  pub here : r.machine.state ≡ at p r.machine.state.turn
  pub reached : r.machine.state.turn ≤ r.known

-- so it is of some run with this script
pub record IsOnWayOf (script : ScriptData) (r : KeptRun) : Type 0 where
  pub past : Past
  pub same : past.script ≡ script
  pub way : IsOnWay past r

-- what is kept is still that of each run with this script that it was of
abbrev pub KeepsRun : ScriptData → KeptRun → KeptRun → Type 0
KeepsRun script before after = (p : Past) → p.script ≡ script → IsKeptRun p before
    → IsKeptRun p after

-- also if the machine is in a state of it; and the machine still is
abbrev pub LeavesKept : ScriptData → KeptRun → KeptRun → Type 0
LeavesKept script before after = (p : Past) → p.script ≡ script → IsOnWay p before
    → IsKeptRun p after

abbrev pub GoesOn : ScriptData → KeptRun → KeptRun → Type 0
GoesOn script before after = (p : Past) → p.script ≡ script → IsOnWay p before → IsOnWay p after

-- is the machine in a state of the run, of a turn up to this one?
abbrev pub is_current_by : KeptRun → ℕ → Bool
is_current_by r turn = r.is_current && nat_le r.machine.state.turn turn

-- where a run goes on from, to this turn, if the machine is at `turn` and the best checkpoint is
-- that of `kept`: from the machine, if it is in a state of the run and `turn` is from `kept` to
-- there, otherwise from the checkpoint
abbrev pub resumed_at : Bool → ℕ → ℕ → ℕ → ℕ
resumed_at current turn kept to = if nat_le kept turn && (current && nat_le turn to) then turn else
    kept

abbrev pub resumed_turn : KeptRun → ℕ → ℕ
resumed_turn r to = resumed_at r.is_current r.machine.state.turn (best_of r.ladder
    (min to r.known) * r.ladder.stride) to

-- the machine was taken to where a run goes on from, to this turn, or to a state that is kept
-- between there and this turn. That is less than one stride before the turn or the known one. What
-- is kept and known and the count of turns stay
pub record IsResumed (to : ℕ) (before after : KeptRun) : Type 0 where
  pub turn : resumed_turn before to ≤ after.machine.state.turn
  pub most : after.machine.state.turn ≤ to
  pub near : min to before.known < after.machine.state.turn + before.ladder.stride
  pub ladder : after.ladder ≡ before.ladder
  pub known : after.known ≡ before.known
  pub meter : after.meter ≡ before.meter

-- a run can go on: its machine is in a state of it, of a turn up to the known one and before the
-- next turn whose state is to be kept
pub record CanGoOn (r : KeptRun) : Type 0 where
  pub reached : r.machine.state.turn ≤ r.known
  pub short : r.machine.state.turn < next_of r.ladder
  pub current : r.is_current ≡ true

-- a run came to the machine's turn, at the latest the next one whose state is to be kept. Up to the
-- known turn, which was known before or is the greatest up to there, each multiple of the stride
-- has its state. The machine is in a state of the run, unless memory was refused for that of its
-- turn, which is to be kept.
pub record ComesTo (before after : KeptRun) : Type 0 where
  pub within : after.machine.state.turn ≤ next_of after.ladder
  pub known : after.known ≡ max before.known (min after.machine.state.turn
      (next_of after.ladder - 1))
  pub ahead : next_of before.ladder ≤ next_of after.ladder
  pub current : after.is_current ≡ nat_lt after.machine.state.turn (next_of after.ladder)

-- the stride still is the one that belongs to the highest turn known
abbrev pub KeepsStride : KeptRun → KeptRun → Type 0
KeepsStride before after =
    (start high : ℕ) → IsStride start (max high before.known) before.ladder.stride → IsStride start
    (max high after.known) after.ladder.stride

-- a run went on from one turn towards another, whether it came there or memory was refused
pub record Advances (from to : ℕ) (before after : KeptRun) : Type 0 where
  pub come : ComesTo before after
  pub turn_most : after.machine.state.turn ≤ to
  pub known_least : before.known ≤ after.known
  pub known_most : after.known ≤ max before.known to
  pub stride : KeepsStride before after
  pub ran : after.meter + from ≤ before.meter + after.machine.state.turn
  pub counted : before.meter ≤ after.meter

-- a run's meter counted each turn that its machine went on
abbrev pub MetersWay : KeptRun → KeptRun → Type 0
MetersWay before after = MetersTurns (after.machine.state.turn - before.machine.state.turn)
    before.meter after.meter

-- a run came to this turn, which is known now, and is before the next turn whose state is to be
-- kept
pub record ArrivesAt (to : ℕ) (before after : KeptRun) : Type 0 where
  pub turn : after.machine.state.turn ≡ to
  pub short : after.machine.state.turn < next_of after.ladder
  pub known : after.known ≡ max before.known to

-- how far a patch of a word reaches: to the first touch that is kept of its page, at most to the
-- known turn
abbrev pub reached_by : WordAt → KeptRun → ℕ
reached_by at r = min r.known (first_touch_of at.part (at.number / 256) r.machine.first_touches)

-- what is left of a run for a former run, without its states: what came out of it in this turn and
-- later, and up to which turn it was known; edits may change the events of turns up to `edited`
abbrev pub left_run : ℕ → ℕ → KeptRun → FormerData
left_run turn edited r = record {
  states = [];
  output = output_from turn r.machine;
  edited = edited;
  known = r.known;
}

-- the former runs after states of turns above this one were set aside
abbrev pub AreFormersAfter : ℕ → ℕ → KeptRun → KeptRun → Type 0
AreFormersAfter turn edited before after =
    All (IsFormerAfter turn (before.ladder.kept ++ before.ladder.near) before.ladder.formers
    (Some (left_run turn edited before))) after.ladder.formers

-- a word was given this value in what is kept up to the turn that its patch reaches, the rest was
-- set aside, and the machine is in no state of the run
pub record IsPatchedRun (at : WordAt) (word : ℕ) (before after : KeptRun) : Type 0 where
  pub known : after.known ≡ reached_by at before
  pub turn : after.machine.state.turn ≡ before.machine.state.turn
  pub current : after.is_current ≡ false
  pub ladder : after.ladder ≡ patched_to after.known at word after.ladder.formers before.ladder
  pub formers : AreFormersAfter after.known 0 before after
  pub count : length after.ladder.kept
      ≡ min (length before.ladder.kept) (after.known / before.ladder.stride + 1)
  pub checkpoints : AreCheckpoints after.ladder
  pub text : after.machine.kept_text ≡ kept_before after.known before.machine.kept_text
  pub punched : after.machine.kept_punched ≡ kept_before after.known before.machine.kept_punched
  pub first_touches : after.machine.first_touches
      ≡ all_first_touches_before after.known before.machine.first_touches
  pub world : after.machine.state.world ≡ before.machine.state.world
  pub meter : after.meter ≡ before.meter
  pub small : after.known ≤ never

-- the state of turn 0 alone, and no former run
abbrev pub cut_to_first : LadderData → LadderData
cut_to_first l = record l { kept = filter (λ c. nat_le c.turn 0) l.kept; near = []; formers = [] }

-- a run with these states between its checkpoints
abbrev pub with_near : List Checkpoint → KeptRun → KeptRun
with_near near r = record r { ladder = record r.ladder { near = near } }

-- a run with these former runs
abbrev pub with_formers : List FormerData → KeptRun → KeptRun
with_formers formers r = record r { ladder = record r.ladder { formers = formers } }

-- the state with these drives behind those that are there
abbrev pub with_more_drives : List (List ℕ) → MachineState → MachineState
with_more_drives drives m = state_with_drives (m.world.bus.drives ++ drives) m

-- the first touches with these of more drives
abbrev pub with_more_first_touches : List (List ℕ) → FirstTouches → FirstTouches
with_more_first_touches more f = first_touches_of f.core (f.drives ++ more)

-- with these drives more, and the first touches of their pages, a run begins anew: its first state
-- alone is kept, all that came out and all touches were dropped, and nothing is known
pub record BeginsAnew (drives touches : List (List ℕ)) (before after : KeptRun) : Type 0 where
  pub kept : after.ladder.kept ≡ checkpoint_of (with_more_drives drives before.machine.state) ∷ []
  pub near : after.ladder.near ≡ []
  pub formers : after.ladder.formers ≡ []
  pub checkpoints : AreCheckpoints after.ladder
  pub state : after.machine.state
      ≡ state_cut (length after.machine.kept_text) (length after.machine.kept_punched)
      (with_more_drives drives before.machine.state)
  pub text : after.machine.kept_text ≡ kept_before 0 before.machine.kept_text
  pub punched : after.machine.kept_punched ≡ kept_before 0 before.machine.kept_punched
  pub first_touches : after.machine.first_touches
      ≡ all_first_touches_before 0 (with_more_first_touches touches before.machine.first_touches)
  pub known : after.known ≡ 0

-- this turn is the known one now: what came out in it and later was dropped, and the first touches
-- of these turns
abbrev pub IsForgottenFrom : ℕ → KeptRun → KeptRun → Type 0
IsForgottenFrom turn before after = after ≡ record before {
  known = turn;
  machine = record before.machine {
    state = state_cut (length (kept_before turn before.machine.kept_text))
        (length (kept_before turn before.machine.kept_punched)) before.machine.state;
    kept_text = kept_before turn before.machine.kept_text;
    kept_punched = kept_before turn before.machine.kept_punched;
    first_touches = all_first_touches_before turn before.machine.first_touches;
    text_room = after.machine.text_room;
    punched_room = after.machine.punched_room;
  };
}

-- all that came out and all touches were dropped, nothing is known any more, and the machine is in
-- no state of the run
pub record IsForgotten (before after : KeptRun) : Type 0 where
  pub known : after.known ≡ 0
  pub turn : after.machine.state.turn ≡ before.machine.state.turn
  pub current : after.is_current ≡ false
  pub text : after.machine.kept_text ≡ kept_before 0 before.machine.kept_text
  pub punched : after.machine.kept_punched ≡ kept_before 0 before.machine.kept_punched
  pub first_touches : after.machine.first_touches
      ≡ all_first_touches_before 0 before.machine.first_touches
  pub meter : after.meter ≡ before.meter
