-- First touches apart from a bus.
use Rattle.std.specs.Prelude.{ℕ, ◌≡◌, List, Vec, length, map}
use Rattle.std.specs.declared.alloc.Global.{Global}
use Rattle.pdp_store.specs.FirstTouches.{FirstTouches}

-- the turns of a list of first touches
abbrev pub turns_in : Vec ℕ Global → List ℕ
turns_in turns = turns.items

-- these first touches are of as many pages of core and of as many drives, each with as many pages
pub record HasPagesOf (over under : FirstTouches) : Type 0 where
  pub core : length over.core ≡ length under.core
  pub drives : map length over.drives ≡ map length under.drives
