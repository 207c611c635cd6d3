-- The drives of a bus, exchanged for others [P].
use Rattle.std.specs.Prelude.{ℕ, List}
use Rattle.pdp_unibus.specs.Handbook.BusWorld.{BusWorld}

-- the bus with drives of these words
abbrev pub with_drives : BusWorld → List (List ℕ) → BusWorld
with_drives w drives = record w { drives = drives }
