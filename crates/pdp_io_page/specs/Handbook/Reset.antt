-- The I/O page at power-up, and what RESET leaves of it: DEC PDP-11/40 Processor Handbook (1972),
-- Instruction set, RESET (power-up and what RESET leaves are [P]).
use Rattle.std.specs.Prelude.{false}
use Rattle.pdp_console.specs.Kl.{kl_reset, init_kl}
use Rattle.pdp_console.specs.Kw.{init_kw}
use Rattle.pdp_tape.specs.Pc11.{pc11_reset, init_pc11}
use Rattle.pdp_rk11.specs.Handbook.Rk.{init_rk, rk_reset}
use Rattle.pdp_kt11.specs.Handbook.Kt.{kt_reset, kt_at_power_up}
use Rattle.pdp_kt11.specs.declared.mode.Mode.TheVariants.{Kernel}
use Rattle.pdp_io_page.specs.declared.io_page.IoPage.{IoPage}
use Rattle.pdp_io_page.specs.declared.delays.Delays.{Delays}
use Rattle.pdp_io_page.specs.declared.priority.Priority.TheVariants.{Level0}

-- the I/O page as of power-up: every bit of the program status word, of the mapping registers and
-- of the switches 0, the devices as after RESET [7.2] [7.4] [7.7]
abbrev pub io_page_at_power_up : Delays → IoPage
io_page_at_power_up delays = record {
  status = record {
    mode = Kernel;
    previous = Kernel;
    priority = Level0;
    trace_bit = false;
    codes = record { n = false; z = false; v = false; c = false };
  };
  mapping = kt_at_power_up;
  console = init_kl;
  clock = init_kw;
  paper_tape = init_pc11;
  disk = init_rk;
  delays = delays;
  switches = 0;
}

-- RESET: each device is initialised, and SR0 is cleared, so mapping is off; the program status, the
-- pages, SR2, the delays and the switches stay [6.108]
unfoldable pub io_page_reset : IoPage → IoPage
io_page_reset b = record b {
  mapping = kt_reset b.mapping;
  console = kl_reset b.console;
  clock = init_kw;
  paper_tape = pc11_reset b.paper_tape;
  disk = rk_reset b.disk;
}
