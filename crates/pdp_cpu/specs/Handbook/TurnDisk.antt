-- The disk in a turn: PDP-11 Peripherals Handbook, RK11; the order of a turn is [P].
use Rattle.std.specs.Prelude.{ℕ, List}
use Rattle.pdp_unibus.specs.declared.event.Event.{Event}
use Rattle.pdp_operand.specs.Phases.World.{World}
use Rattle.pdp_rk11.specs.declared.rk.Rk.{Rk}
use Rattle.pdp_cpu.specs.Handbook.Turn.{beginning}

-- the disk's controller when turn t has begun: after its events and the completions that are due,
-- and before its act
unfoldable pub disk_begun : ℕ → List Event → World → Rk
disk_begun t events w = (beginning t events w).bus.io_page.disk
