-- The last stamp of a word as a store or a page keeps it.
use Rattle.std.specs.Prelude.{ℕ, Option, Some, None}
use Rattle.pdp_store.specs.declared.Stamp.{Stamp}
use Rattle.pdp_store.specs.declared.Agent.{Agent}
use Rattle.pdp_store.specs.declared.Agent.TheVariants.{Cpu, Disk}
use Rattle.pdp_store.specs.declared.last_stamp.WhenWritten.{WhenWritten}
use Rattle.pdp_store.specs.declared.last_stamp.WhenWritten.TheVariants.{Never, ByCpu, ByDisk}

-- the stamp of a write in this turn, by the one named
abbrev pub stamp_of_write : WhenWritten → Option Stamp
stamp_of_write Never = None
stamp_of_write (ByCpu turn) = Some (record { turn = turn; agent = Cpu })
stamp_of_write (ByDisk turn) = Some (record { turn = turn; agent = Disk })

-- the write in this turn by this agent, and the one that left this stamp
abbrev pub when_by : ℕ → Agent → WhenWritten
when_by turn Cpu = ByCpu turn
when_by turn Disk = ByDisk turn

abbrev pub when_stamped : Option Stamp → WhenWritten
when_stamped None = Never
when_stamped (Some stamp) = when_by stamp.turn stamp.agent
