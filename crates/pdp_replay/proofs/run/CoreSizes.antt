-- The size of core in each state of a run.
use Rattle.std.proofs.Common.{◌≡◌, ℕ, zero, suc, length, ◌∙◌}
use Rattle.pdp_cpu.proofs.TurnLaws.{turn_keeps_words}
use Rattle.pdp_script.specs.Entries.{events_at}
use Rattle.pdp_replay.specs.Past.{Past}
use Rattle.pdp_replay.specs.Past.Setup.{core_size}
use Rattle.pdp_replay.specs.Run.States.{first_world, state_at}
use Rattle.pdp_replay.proofs.past.FirstWords.{core_has_size}

pub core_keeps_size : (p : Past) (n : ℕ) → length (state_at p n).bus.core ≡ core_size p.setup
unfolding state_at first_world
core_keeps_size p zero = core_has_size p.setup
core_keeps_size p (suc n) =
    turn_keeps_words n (events_at p.script.entries n) (state_at p n) ∙ core_keeps_size p n
