-- A turn of a machine, seen without the first touches in its world.
use Rattle.std.proofs.Common.{◌≡◌, ℕ, List, ◌∙◌, ap, length}
use Rattle.pdp_store.specs.FirstTouches.{no_first_touches}
use Rattle.pdp_unibus.specs.declared.event.Event.{Event}
use Rattle.pdp_cpu.specs.KeptTexts.{kept_over}
use Rattle.pdp_cpu.specs.Handbook.MachineState.{MachineState, MachineWithTexts}
use Rattle.pdp_cpu.specs.Turns.TurnRun.{RunsTouched, RunsTurn}
use Rattle.pdp_cpu.proofs.Carried.{first_touches_seen, state_seen, turn_carried}

pub turn_seen : (events : List Event) (m new : MachineWithTexts) (metered counts : ℕ) → m.state.world.bus.first_touches ≡ no_first_touches
    → RunsTouched events m new metered counts → RunsTurn events m new metered counts
turn_seen events m new metered counts none runs =
    let carried = turn_carried m.state.turn events m.state.world m.first_touches in
    record {
      turn = state_seen events m.state new.state m.first_touches new.first_touches none runs.none_in_world runs.turn;
      kept_text = runs.kept_text ∙ ap (λ out. kept_over m.state.turn out (length m.state.text) m.kept_text) carried.printed;
      kept_punched = runs.kept_punched ∙ ap (λ out. kept_over m.state.turn out (length m.state.punched) m.kept_punched) carried.punched;
      first_touches =
          first_touches_seen m.state.turn events m.state.world new.state.world m.first_touches new.first_touches
          (ap (λ (s : MachineState). s.world) runs.turn);
      counted = runs.counted;
    }
