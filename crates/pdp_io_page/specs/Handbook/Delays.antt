-- How long operations take, in turns, and when the clock ticks by itself [P].
use Rattle.std.specs.Prelude.{ℕ, ◌%◌, ◌==◌, ◌&&◌, nat_lt, Bool}
use Rattle.pdp_io_page.specs.declared.delays.Delays.{Delays}
use Rattle.pdp_io_page.specs.declared.delays.DelayedDevice.{DelayedDevice}
use Rattle.pdp_io_page.specs.declared.delays.DelayedDevice.TheVariants.{Printer, Reader, Punch}
use Rattle.pdp_io_page.specs.declared.delays.DelayedDevice.TheVariants.{Disk}
use Rattle.pdp_io_page.specs.declared.delays.DelayedDevice.TheVariants.{Clock}

-- the delays of a machine for which none is given; the clock doesn't tick by itself
abbrev pub standard_delays : Delays
standard_delays = record { printer = 1; reader = 4; punch = 4; disk = 10; clock = 0 }

-- the delay of one device is set [6.57]
abbrev pub with_delay : DelayedDevice → ℕ → Delays → Delays
with_delay Printer delay d = record d { printer = delay }
with_delay Reader delay d = record d { reader = delay }
with_delay Punch delay d = record d { punch = delay }
with_delay Disk delay d = record d { disk = delay }
with_delay Clock delay d = record d { clock = delay }

-- whether the clock ticks by itself in turn t: in the positive multiples of its period, if that is
-- above 0 [8.1]
abbrev pub is_tick : ℕ → ℕ → Bool
is_tick t period = nat_lt 0 period && nat_lt 0 t && t % period == 0
