-- The states of a run keep no first touches, and no log.
use Rattle.std.proofs.Common.{◌≡◌, ◌∙◌, ℕ, zero, suc, List, ap, refl, sym}
use Rattle.pdp_store.specs.CycleLogs.{no_log}
use Rattle.pdp_store.specs.FirstTouches.{no_first_touches}
use Rattle.pdp_store.proofs.FirstTouches.{no_first_touches_after}
use Rattle.pdp_unibus.specs.declared.event.Event.{Event}
use Rattle.pdp_operand.specs.Phases.World.{World}
use Rattle.pdp_cpu.proofs.Carried.{turn_carried}
use Rattle.pdp_cpu.proofs.Logged.{turn_keeps_no_log}
use Rattle.pdp_cpu.specs.Handbook.MachineState.{world_with_first_touches}
use Rattle.pdp_cpu.specs.Handbook.Turn.{one_turn, turn_trace}
use Rattle.pdp_script.specs.Entries.{events_at}
use Rattle.pdp_replay.specs.Past.{Past}
use Rattle.pdp_replay.specs.Run.States.{first_world, state_at}

turn_is_bare : (t : ℕ) (events : List Event) (w : World) → w.bus.first_touches ≡ no_first_touches → (one_turn t events w).bus.first_touches ≡ no_first_touches
turn_is_bare t events w none =
    let so = turn_carried t events w no_first_touches in
    let same : world_with_first_touches w no_first_touches ≡ w = ap (world_with_first_touches w) (sym none) in
    ap (λ u. u.bus.first_touches) (sym (ap (one_turn t events) same) ∙ so.world_is) ∙ no_first_touches_after (turn_trace t events w)

pub state_is_bare : (p : Past) (n : ℕ) → (state_at p n).bus.first_touches ≡ no_first_touches
unfolding state_at first_world
state_is_bare p zero = refl
state_is_bare p (suc n) = turn_is_bare n (events_at p.script.entries n) (state_at p n) (state_is_bare p n)

pub state_is_unlogged : (p : Past) (n : ℕ) → (state_at p n).bus.log ≡ no_log
unfolding state_at first_world
state_is_unlogged p zero = refl
state_is_unlogged p (suc n) = turn_keeps_no_log n (events_at p.script.entries n) (state_at p n) (state_is_unlogged p n)
