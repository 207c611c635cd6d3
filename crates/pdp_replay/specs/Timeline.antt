-- An engine as a contract sees it.
use Rattle.std.specs.Prelude.{ℕ, ◌/◌, ◌≤◌, ◌&&◌, Bool, true, false, List, min, nat_le, unwrap_or}
use Rattle.std.specs.Prelude.{Result, Ok, Err}
use Rattle.pdp_script.specs.Refusal.{past_left}
use Rattle.pdp_unibus.specs.Handbook.LastTurn.{last_turn}
use Rattle.pdp_script.specs.declared.faults.Fault.{Fault}
use Rattle.pdp_script.specs.Restore.{turn_before}
use Rattle.pdp_script.specs.declared.script.EventBefore.{EventBefore}
use Rattle.pdp_io_page.specs.declared.delays.DelayedDevice.{DelayedDevice}
use Rattle.pdp_io_page.specs.declared.delays.Delays.{Delays}
use Rattle.pdp_unibus.specs.declared.event.Event.{Event}
use Rattle.pdp_store.specs.declared.part.Part.{Part}
use Rattle.pdp_store.specs.declared.part.Part.TheVariants as part
use Rattle.pdp_replay.specs.Past.Edit.{core_edit, disk_edit, drives_edit, revert_edit, tape_edit}
use Rattle.pdp_replay.specs.Past.Edit.{delay_edit, event_insertion, event_alteration, event_drop}
use Rattle.pdp_replay.specs.Past.Edit.{turn_of_event, lesser_turn, with_patch}
use Rattle.pdp_replay.specs.Past.Restored.{past_with_delays, past_with_event_restored}
use Rattle.pdp_replay.specs.Past.Restored.{past_with_tape, past_with_word_restored}
use Rattle.pdp_replay.specs.Run.FirstTouches.{first_touch}
use Rattle.pdp_replay.specs.Past.{Past, of_setup, past_without_events}
use Rattle.pdp_replay.specs.Past.Setup.{SetupData, IsGood}
use Rattle.pdp_replay.specs.Past.FirstWords.{AllThere}
use Rattle.pdp_replay.specs.Run.KeptRuns.{IsKeptRun}
use Rattle.pdp_replay.specs.Run.Strides.{IsStride}
use Rattle.pdp_store.specs.declared.part.WordAt.{WordAt}
use Rattle.pdp_replay.specs.declared.past.patch.WordBefore.{WordBefore}
use Rattle.pdp_replay.specs.declared.run.kept_run.KeptRun.{KeptRun}

-- the past, the known turn, the highest that it has been, the stride, the turns run so far, and the
-- machine's turn with whether the machine is in the run's state of it
pub record Timeline : Type 0 where
  pub past : Past
  pub known : ℕ
  pub highest : ℕ
  pub stride : ℕ
  pub turns : ℕ
  pub turn : ℕ
  pub current : Bool

-- an engine as it is made
abbrev pub new_timeline : SetupData → Timeline
new_timeline s = record {
  past = past_without_events s;
  known = 0;
  highest = 0;
  stride = s.stride;
  turns =
      0;
  turn = 0;
  current = true;
}

-- the known turn after an edit that reaches back to this turn; a refused edit leaves it
abbrev pub known_left : ℕ → Result Past Fault → Bool → ℕ → ℕ
known_left reached (Err fault) refused known = known
known_left reached (Ok past) true known = known
known_left reached (Ok past) false known = min known reached

-- whether the machine is in a state of the run after an edit; a refused edit leaves it
abbrev pub current_left : Bool → Result Past Fault → Bool → Bool → Bool
current_left still (Err fault) refused current = current
current_left still (Ok past) true current = current
current_left still (Ok past) false current = still

-- an engine after an edit of the script that reaches back to this turn: the past and the known turn
-- change, and a machine at a later turn is in no state of the run any more
abbrev pub after_edit : ℕ → Result Past Fault → Bool → Timeline → Timeline
after_edit reached due refused t = record t {
  past = past_left due refused t.past;
  known = known_left reached due refused t.known;
  current = current_left (t.current && nat_le t.turn (min t.known reached)) due refused t.current;
}

-- an engine after an edit of what is there from power-up, which reaches back to this turn: the
-- machine is in no state of the run any more, however early its turn
abbrev pub after_setup_edit : ℕ → Result Past Fault → Bool → Timeline → Timeline
after_setup_edit reached due refused t = record t {
  past = past_left due refused t.past;
  known = known_left reached due refused t.known;
  current = current_left false due refused t.current;
}

-- how far back a patch of a word of a part reaches: to the first touch of its page below the known
-- turn, to the known turn if there is none
abbrev pub reached_in : Part → ℕ → Timeline → ℕ
reached_in part number t = first_touch t.past part (number / 256) t.known

-- an engine after a word was given this value as of power-up
abbrev pub word_patched : WordAt → ℕ → Bool → Timeline → Timeline
word_patched at word refused t =
    after_setup_edit (reached_in at.part at.number t)
    (of_setup t.past (with_patch word t.past.setup at)) refused t

-- an engine after each edit; `refused` is whether memory was refused for it
abbrev pub core_edited : ℕ → ℕ → Bool → Timeline → Timeline
core_edited address word refused t =
    after_setup_edit (reached_in part.Core (address / 2) t) (core_edit address word t.past) refused
    t

abbrev pub disk_edited : ℕ → ℕ → ℕ → Bool → Timeline → Timeline
disk_edited drive number word refused t =
    after_setup_edit (reached_in (part.Drive drive) number t) (disk_edit drive number word t.past)
    refused t

-- an engine whose machine was taken to the state of turn 0
abbrev pub timeline_restarted : Timeline → Timeline
timeline_restarted t = record t { turn = 0; current = true }

-- an engine after it was to get eight drives: its machine is in the state of turn 0, also if memory
-- was refused
abbrev pub drives_given : Bool → Timeline → Timeline
drives_given refused t = record (timeline_restarted t) {
  past = past_left (drives_edit t.past) refused t.past;
  known = known_left 0 (drives_edit t.past) refused t.known;
}

abbrev pub core_reverted : ℕ → Bool → Timeline → Timeline
core_reverted address refused t =
    after_setup_edit (reached_in part.Core (address / 2) t) (revert_edit address t.past) refused t

abbrev pub tape_replaced : List ℕ → Timeline → Timeline
tape_replaced tape t = after_setup_edit 0 (tape_edit tape t.past) false t

abbrev pub delay_set : DelayedDevice → ℕ → Timeline → Timeline
delay_set device delay t = after_setup_edit 0 (delay_edit device delay t.past) false t

abbrev pub event_inserted : ℕ → Event → Bool → Timeline → Timeline
event_inserted turn event refused t = after_edit turn (event_insertion turn event t.past) refused t

abbrev pub event_altered : ℕ → ℕ → Event → Timeline → Timeline
event_altered number turn event t =
    after_edit (lesser_turn (turn_of_event number t.past) turn) (event_alteration number turn event
    t.past) false t

abbrev pub event_dropped : ℕ → Timeline → Timeline
event_dropped number t = after_edit (unwrap_or (turn_of_event number t.past) 0)
    (event_drop number t.past) false t

-- how far back it reaches if a script gets back what it had of an event: to the lesser of the turn
-- of the event and the one that it had, and no further than the last if there is neither
abbrev pub turn_restored : EventBefore → Past → ℕ
turn_restored before p = min (unwrap_or (turn_of_event before.number p) last_turn) (unwrap_or
    (turn_before before) last_turn)

-- an engine whose past got back what it had of an event, of a word, or of the tape or the delays
abbrev pub event_restored : EventBefore → Bool → Timeline → Timeline
event_restored before refused t =
    after_edit (turn_restored before t.past) (Ok (past_with_event_restored before t.past)) refused t

abbrev pub word_restored : WordBefore → Bool → Timeline → Timeline
word_restored before refused t =
    after_setup_edit (reached_in before.at.part before.at.number t)
    (Ok (past_with_word_restored before t.past)) refused t

abbrev pub tape_restored : List ℕ → Timeline → Timeline
tape_restored tape t = after_setup_edit 0 (Ok (past_with_tape tape t.past)) false t

abbrev pub delays_restored : Delays → Timeline → Timeline
delays_restored delays t = after_setup_edit 0 (Ok (past_with_delays delays t.past)) false t

-- what every engine keeps: a setup that a run can start from, patches of words that are there, what
-- it knows, the stride that belongs to the highest turn known, and of the run all that ought to be
-- kept
pub record IsEngine (p : Past) (highest : ℕ) (r : KeptRun) : Type 0 where
  pub good : IsGood p.setup
  pub there : AllThere p.setup p.setup.patches
  pub reached : r.known ≤ highest
  pub limit : highest ≤ last_turn
  pub stride : IsStride p.setup.stride highest r.ladder.stride
  pub run : IsKeptRun p r
