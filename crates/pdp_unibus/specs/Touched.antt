-- Whose the touches of a turn are. No rule of the handbook is here.
use Rattle.std.specs.Prelude.{ℕ, ◌≡◌, ◌<◌, false}
use Rattle.pdp_store.specs.TracedAccess.{TracedAccess, is_core}
use Rattle.pdp_store.specs.declared.part.Part.TheVariants.{Core}
use Rattle.pdp_store.specs.declared.Agent.TheVariants.{Disk}

-- a touch in this turn: in core, of one of its first so many words; on a drive, by the disk
pub record IsOfTurn (turn words : ℕ) (x : TracedAccess) : Type 0 where
  pub turn_is : x.turn ≡ turn
  pub in_core : x.part ≡ Core → x.word < words
  pub by_disk : is_core x.part ≡ false → x.agent ≡ Disk
