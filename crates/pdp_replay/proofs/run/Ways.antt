-- A machine on its way through a run: what making room and a turn leave of that.
use Rattle.std.proofs.Common.{◌≡◌, ◌∙◌, ℕ, List, ap, max, subst, sym}
use Rattle.pdp_cpu.specs.Handbook.MachineState.{MachineState, MachineWithTexts, after_turn, printed_kept, punched_kept}
use Rattle.pdp_script.specs.Entries.{events_at}
use Rattle.pdp_unibus.specs.declared.event.Event.{Event}
use Rattle.pdp_store.specs.FirstTouches.{first_touches_after}
use Rattle.pdp_cpu.specs.Handbook.Turn.{turn_trace}
use Rattle.pdp_replay.specs.Run.KeptRuns.{IsUnderWay}
use Rattle.pdp_replay.specs.Run.Checkpoints.{KeepsTexts}
use Rattle.pdp_replay.specs.Past.{Past}
use Rattle.pdp_replay.specs.Run.States.{at}
use Rattle.pdp_replay.proofs.run.Lowered.{texts_stay}
use Rattle.pdp_replay.proofs.run.UnderWay.{way_on}

-- a machine in the same state, with the same bytes kept
pub way_stays : (p : Past) (known : ℕ) (m now : MachineWithTexts) → IsUnderWay p known m
    → now.state ≡ m.state → now.kept_text ≡ m.kept_text → now.kept_punched ≡ m.kept_punched → now.first_touches ≡ m.first_touches → IsUnderWay p known now
way_stays p known m now way same text punched first_touches =
    let texts : KeepsTexts p (max known now.state.turn) m = subst (λ (s : MachineState). KeepsTexts p (max known s.turn) m) (sym same) way.texts in
    record {
      here = same ∙ way.here ∙ ap (λ (s : MachineState). at p s.turn) (sym same);
      texts = texts_stay p (max known now.state.turn) m now texts text punched first_touches;
    }

-- one turn on, once there was room for it
pub way_on_with_room : (p : Past) (known : ℕ) (m ready now : MachineWithTexts) (events : List Event) → IsUnderWay p known m
    → ready.state ≡ m.state → ready.kept_text ≡ m.kept_text → ready.kept_punched ≡ m.kept_punched → ready.first_touches ≡ m.first_touches
    → events ≡ events_at p.script.entries ready.state.turn
    → now.state ≡ after_turn events ready.state → now.kept_text ≡ printed_kept events ready → now.kept_punched ≡ punched_kept events ready
    → now.first_touches ≡ first_touches_after (turn_trace ready.state.turn events ready.state.world) ready.first_touches → IsUnderWay p known now
way_on_with_room p known m ready now events way same text punched first_touches is state printed also touched =
    way_on p known ready now events (way_stays p known m ready way same text punched first_touches) is state printed also touched
