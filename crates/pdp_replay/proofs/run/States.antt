-- The states of a run: the first, and that of the next turn.
use Rattle.std.proofs.Common.{◌≡◌, ℕ, ◌+◌, refl, add-one}
use Rattle.pdp_cpu.specs.Handbook.MachineState.{after_turn}
use Rattle.pdp_script.specs.Entries.{events_at}
use Rattle.pdp_replay.specs.Past.{Past}
use Rattle.pdp_replay.specs.Run.States.{state_at, text_at, punched_at, at, first_state}

pub at_first : (p : Past) → at p 0 ≡ first_state p.setup
unfolding state_at text_at punched_at
at_first p = refl

pub at_next : (p : Past) (n : ℕ) → at p (n + 1) ≡ after_turn (events_at p.script.entries n) (at p n)
unfolding state_at text_at punched_at
at_next p n = rw add-one refl
