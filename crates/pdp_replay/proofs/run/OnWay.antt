-- A run on its way, after a part of it, a turn, and the load of a checkpoint.
use Rattle.std.proofs.Common.{◌≡◌, ◌∙◌, Err, Ok, OnErr, OnOk, Result, refl, ℕ, ◌+◌, ◌*◌, ◌/◌, ◌<◌, ◌≤◌, ◌++◌, List, Some, ap, arith, max, slice_get, sym}
use Rattle.std.proofs.Math.Nat.{lt-div-mul-add}
use Rattle.pdp_checkpoint.proofs.Checkpoints.{checkpoints_beside}
use Rattle.pdp_checkpoint.specs.Ladder.{LadderData, checkpoint_of, near_with, next_of}
use Rattle.pdp_checkpoint.specs.declared.checkpoint.Checkpoint.{Checkpoint}
use Rattle.pdp_cpu.specs.Saved.{saved_machine, state_on}
use Rattle.pdp_cpu.specs.Handbook.MachineState.{MachineState, MachineWithTexts, after_turn, printed_kept, punched_kept}
use Rattle.pdp_script.specs.Entries.{events_at}
use Rattle.pdp_script.specs.Script.{ScriptData}
use Rattle.pdp_unibus.specs.declared.event.Event.{Event}
use Rattle.pdp_word.specs.declared.memory.NoMemory.{NoMemory}
use Rattle.pdp_store.specs.FirstTouches.{first_touches_after}
use Rattle.pdp_cpu.specs.Handbook.Turn.{turn_trace}
use Rattle.pdp_replay.specs.Run.KeptRuns.{IsOnWay, IsUnderWay, with_near}
use Rattle.pdp_replay.specs.Run.Checkpoints.{AreKept, AreStatesOf, IsKeptState}
use Rattle.pdp_replay.specs.Past.{Past}
use Rattle.pdp_replay.specs.Run.States.{at}
use Rattle.pdp_replay.specs.declared.run.kept_run.KeptRun.{KeptRun}
use Rattle.pdp_replay.proofs.run.Checkpoints.{found_resumes, near_taken_on}
use Rattle.pdp_replay.proofs.run.Lowered.{texts_stay}
use Rattle.pdp_replay.proofs.run.StateSizes.{at_is_built}
use Rattle.pdp_replay.proofs.run.UnderWay.{way_of_run}
use Rattle.pdp_replay.proofs.run.Ways.{way_on_with_room}

-- a run that was settled where its machine came to
pub on_way_settled : (p : Past) (known : ℕ) (m : MachineWithTexts) (r : KeptRun) → IsUnderWay p known m → AreKept p r.known r.machine r.ladder
    → r.machine ≡ m → r.known ≡ max known m.state.turn → IsOnWay p r
on_way_settled p known m r way kept same is = record {
  kept = kept;
  here = rw same way.here;
  reached = rw same (omega (arith, is));
}

-- a run whose machine made room and ran its next turn
pub way_stepped : (p : Past) (script : ScriptData) (r : KeptRun) (ready now : MachineWithTexts) (turn : ℕ) (events : List Event) → p.script ≡ script → IsOnWay p r
    → ready.state ≡ r.machine.state → ready.kept_text ≡ r.machine.kept_text → ready.kept_punched ≡ r.machine.kept_punched → ready.first_touches ≡ r.machine.first_touches
    → turn ≡ ready.state.turn → events ≡ events_at script.entries turn
    → now.state ≡ after_turn events ready.state → now.kept_text ≡ printed_kept events ready → now.kept_punched ≡ punched_kept events ready
    → now.first_touches ≡ first_touches_after (turn_trace ready.state.turn events ready.state.world) ready.first_touches → IsUnderWay p r.known now
way_stepped p script r ready now turn events same on state text punched first_touches is due after printed also touched =
    let here : events ≡ events_at p.script.entries ready.state.turn =
    due ∙ ap (events_at script.entries) is ∙ ap (λ (s : ScriptData). events_at s.entries ready.state.turn) (sym same) in
    way_on_with_room p r.known r.machine ready now events (way_of_run p r on) state text punched first_touches here after printed also touched

-- the state that is to be kept next is of a turn above the known one
pub known_below_next : (p : Past) (known : ℕ) (l : LadderData) → AreStatesOf p known l → known < next_of l
known_below_next p known l are =
    let high : known < known / l.stride * l.stride + l.stride = lt-div-mul-add are.checkpoints.positive in
    let next : next_of l ≡ (known / l.stride + 1) * l.stride = ap (λ n. n * l.stride) are.count in
    omega (arith, next, high)

-- a machine that was made one of the checkpoints is at the turn of that
pub turn_loaded : (p : Past) (r : KeptRun) (now : MachineWithTexts) (i : ℕ) (c : Checkpoint) → AreKept p r.known r.machine r.ladder
    → slice_get (r.ladder.kept ++ r.ladder.near) i ≡ Some c → now.state ≡ state_on r.machine c.saved → now.state.turn ≡ c.turn
turn_loaded p r now i c kept found state =
    ap (λ (s : MachineState). s.turn) (state ∙ found_resumes p r.known r.machine r.ladder i c kept found)

-- a run whose machine was made one of the checkpoints
pub on_way_loaded : (p : Past) (r : KeptRun) (now : KeptRun) (i : ℕ) (c : Checkpoint) → AreKept p r.known r.machine r.ladder
    → slice_get (r.ladder.kept ++ r.ladder.near) i ≡ Some c → c.turn ≤ r.known → now.known ≡ r.known → now.ladder ≡ r.ladder
    → now.machine.state ≡ state_on r.machine c.saved → now.machine.kept_text ≡ r.machine.kept_text → now.machine.kept_punched ≡ r.machine.kept_punched
    → now.machine.first_touches ≡ r.machine.first_touches → IsOnWay p now
on_way_loaded p r now i c kept found le known ladder state text punched first_touches =
    let here : now.machine.state ≡ at p c.turn = state ∙ found_resumes p r.known r.machine r.ladder i c kept found in
    let turn : now.machine.state.turn ≡ c.turn = ap (λ (s : MachineState). s.turn) here in
    let states : AreStatesOf p now.known now.ladder = rw (known, ladder) kept.states in
    record {
      kept = record {
        states = states;
        texts = rw known (texts_stay p r.known r.machine now.machine kept.texts text punched first_touches);
        built = at_is_built p c.turn now.machine here;
      };
      here = here ∙ ap (at p) (sym turn);
      reached = omega (arith, turn, le, known);
    }

-- a run that keeps its machine's state between its checkpoints
pub on_way_near : (p : Past) (r now : KeptRun) (near : List Checkpoint) → now ≡ with_near near r → near ≡ near_with r.ladder.near (checkpoint_of r.machine.state)
    → IsOnWay p r → IsOnWay p now
on_way_near p r now near is taken on =
    let states = on.kept.states in
    let here : IsKeptState p r.known (checkpoint_of r.machine.state) = record { saved = ap saved_machine on.here; within = on.reached } in
    rw (is, taken) (record {
      kept = record {
        states = record {
          states = states.states;
          checkpoints = checkpoints_beside r.ladder _ _ states.checkpoints;
          count = states.count;
          near = near_taken_on p r.known r.ladder.near (checkpoint_of r.machine.state) states.near here;
          formers = states.formers;
        };
        texts = on.kept.texts;
        built = on.kept.built;
      };
      here = on.here;
      reached = on.reached;
    })

-- the states between the checkpoints are all that such a run may have more, whether there was memory
-- for one or not
pub near_kept : (r : KeptRun) (m : MachineWithTexts) (l : LadderData) (result : Result (Unit {0}) NoMemory) → m ≡ r.machine
    → OnOk result (l ≡ record r.ladder { near = near_with r.ladder.near (checkpoint_of r.machine.state) }) → OnErr result (l ≡ r.ladder)
    → record r { machine = m; ladder = l } ≡ with_near l.near r
near_kept r m l (Ok value) same taken refused = rw (same, taken) refl
near_kept r m l (Err fault) same taken refused = rw (same, refused) refl

pub on_way_kept : (p : Past) (r : KeptRun) (m : MachineWithTexts) (l : LadderData) (result : Result (Unit {0}) NoMemory) → m ≡ r.machine
    → OnOk result (l ≡ record r.ladder { near = near_with r.ladder.near (checkpoint_of r.machine.state) }) → OnErr result (l ≡ r.ladder)
    → IsOnWay p r → IsOnWay p (record r { machine = m; ladder = l })
on_way_kept p r m l (Ok value) same taken refused on = rw (same, taken) (on_way_near p r _ _ refl refl on)
on_way_kept p r m l (Err fault) same taken refused on = rw (same, refused) on
