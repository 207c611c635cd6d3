-- What a turn of a machine leaves.
use Rattle.std.specs.Prelude.{ℕ, ◌≡◌, List}
use Rattle.pdp_store.specs.FirstTouches.{first_touches_after, no_first_touches}
use Rattle.pdp_unibus.specs.declared.event.Event.{Event}
use Rattle.pdp_cpu.specs.Meters.{Counts}
use Rattle.pdp_cpu.specs.Handbook.MachineState.{MachineWithTexts, after_turn, printed_kept}
use Rattle.pdp_cpu.specs.Handbook.MachineState.{punched_kept}
use Rattle.pdp_cpu.specs.Handbook.MachineState.{touched_machine}
use Rattle.pdp_cpu.specs.Handbook.Turn.{turn_trace}

-- a machine ran its next turn with these events, and a meter counted it
pub record RunsTurn (events : List Event) (before after : MachineWithTexts)
    (metered counts : ℕ) : Type 0 where
  pub turn : after.state ≡ after_turn events before.state
  pub kept_text : after.kept_text ≡ printed_kept events before
  pub kept_punched : after.kept_punched ≡ punched_kept events before
  pub first_touches : after.first_touches ≡ first_touches_after
      (turn_trace before.state.turn events before.state.world) before.first_touches
  pub counted : Counts 1 metered counts

-- the same of the machine with its first touches in the world of its state
pub record RunsTouched (events : List Event) (before after : MachineWithTexts)
    (metered counts : ℕ) : Type 0 where
  pub turn : (touched_machine after).state ≡ after_turn events (touched_machine before).state
  pub none_in_world : after.state.world.bus.first_touches ≡ no_first_touches
  pub kept_text : after.kept_text ≡ printed_kept events (touched_machine before)
  pub kept_punched : after.kept_punched ≡ punched_kept events (touched_machine before)
  pub counted : Counts 1 metered counts
