-- A machine on its way through a run: what a turn leaves of that, and how it begins and ends.
use Rattle.std.proofs.Common.{◌≡◌, ◌∙◌, ℕ, ◌+◌, List, ap, arith, max, subst, sym}
use Rattle.pdp_cpu.specs.Handbook.MachineState.{MachineState, MachineWithTexts, after_turn, printed_kept, punched_kept}
use Rattle.pdp_script.specs.Entries.{events_at}
use Rattle.pdp_unibus.specs.declared.event.Event.{Event}
use Rattle.pdp_checkpoint.specs.Ladder.{LadderData}
use Rattle.pdp_store.specs.FirstTouches.{first_touches_after}
use Rattle.pdp_cpu.specs.Handbook.Turn.{turn_trace}
use Rattle.pdp_replay.specs.Run.KeptRuns.{IsKeptRun, IsOnWay, IsUnderWay}
use Rattle.pdp_replay.specs.Run.Checkpoints.{AreKept, AreStatesOf, IsInRun, KeepsTexts}
use Rattle.pdp_replay.specs.Past.{Past}
use Rattle.pdp_replay.specs.Run.States.{at}
use Rattle.pdp_replay.specs.declared.run.kept_run.KeptRun.{KeptRun}
use Rattle.pdp_replay.proofs.run.Lowered.{texts_turned}
use Rattle.pdp_replay.proofs.run.StateSizes.{at_is_built}
use Rattle.pdp_replay.proofs.run.States.{at_next}

-- one turn on
pub way_on : (p : Past) (known : ℕ) (m now : MachineWithTexts) (events : List Event) → IsUnderWay p known m → events ≡ events_at p.script.entries m.state.turn
    → now.state ≡ after_turn events m.state → now.kept_text ≡ printed_kept events m → now.kept_punched ≡ punched_kept events m → now.first_touches ≡ first_touches_after (turn_trace m.state.turn events m.state.world) m.first_touches → IsUnderWay p known now
way_on p known m now events way is state text punched first_touches =
    let n : ℕ = m.state.turn in
    let here : now.state ≡ at p (n + 1) =
    state ∙ ap (λ e. after_turn e m.state) is ∙ ap (after_turn (events_at p.script.entries n)) way.here ∙ sym (at_next p n) in
    let turn : now.state.turn ≡ n + 1 = ap (λ (s : MachineState). s.turn) here in
    let texts : KeepsTexts p (max (max known n) (n + 1)) now =
    texts_turned p (max known n) n m now way.texts (omega arith) way.here (text ∙ ap (λ e. printed_kept e m) is) (punched ∙ ap (λ e. punched_kept e m) is)
    (first_touches ∙ ap (λ e. first_touches_after (turn_trace n e m.state.world) m.first_touches) is) in
    let same : max (max known n) (n + 1) ≡ max known now.state.turn = omega (arith, turn) in
    record {
      here = here ∙ ap (at p) (sym turn);
      texts = subst (λ k. KeepsTexts p k now) same texts;
    }

-- a run whose machine is in one of its states is on its way
pub way_of_run : (p : Past) (r : KeptRun) → IsOnWay p r → IsUnderWay p r.known r.machine
way_of_run p r on =
    let reached = on.reached in
    let same : r.known ≡ max r.known r.machine.state.turn = omega (arith, reached) in
    record { here = on.here; texts = subst (λ k. KeepsTexts p k r.machine) same on.kept.texts }

-- what is kept where the machine came to a turn up to which the states are those of the run
pub kept_on_way : (p : Past) (known now : ℕ) (m : MachineWithTexts) (l : LadderData) → AreStatesOf p now l → IsUnderWay p known m → now ≡ max known m.state.turn → AreKept p now m l
kept_on_way p known now m l states way is = record {
  states = states;
  texts = subst (λ k. KeepsTexts p k m) (sym is) way.texts;
  built = at_is_built p m.state.turn m way.here;
}

-- where it came to is a state of the run up to the known turn that is raised to there
pub way_in_run : (p : Past) (known : ℕ) (m : MachineWithTexts) → IsUnderWay p known m → IsInRun p (max known m.state.turn) m
way_in_run p known m way = record { here = way.here; reached = omega arith }

-- a run whose machine is in one of its states is kept
pub kept_of_way : (p : Past) (r : KeptRun) → IsOnWay p r → IsKeptRun p r
kept_of_way p r on = record { kept = on.kept; current = λ yes. record { here = on.here; reached = on.reached } }
