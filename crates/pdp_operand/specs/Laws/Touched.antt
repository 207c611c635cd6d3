-- Whose the touches of a course are. No rule of the handbook is here.
use Rattle.std.specs.Prelude.{ℕ, ◌≡◌, ◌<◌}
use Rattle.pdp_store.specs.TracedAccess.{TracedAccess}
use Rattle.pdp_store.specs.declared.part.Part.TheVariants.{Core}
use Rattle.pdp_store.specs.declared.Agent.TheVariants.{Cpu}

-- a touch by the processor in this turn, of one of the first so many words of core
pub record IsByProcessor (turn words : ℕ) (x : TracedAccess) : Type 0 where
  pub turn_is : x.turn ≡ turn
  pub by_processor : x.agent ≡ Cpu
  pub of_core : x.part ≡ Core
  pub in_core : x.word < words
