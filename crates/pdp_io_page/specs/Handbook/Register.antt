-- Registers on the bus, and who owns them: PDP-11 Peripherals Handbook, KL11, KW11-L, PC11 and
-- RK11; DEC PDP-11/40 Processor Handbook (1972), Switch register, Processor status word and Memory
-- management. How bytes are written is [P].
use Rattle.std.specs.Prelude.{ℕ, ◌+◌, ◌-◌, ◌*◌, ◌%◌, ◌==◌, ◌&&◌, nat_le, Bool, true, Option, Some}
use Rattle.std.specs.Prelude.{option_map, if◌then◌else◌}
use Rattle.pdp_kt11.specs.Handbook.Kt.{kt_register_at, kt_value, kt_written}
use Rattle.pdp_console.specs.Kl.{kl_read, kl_register_at, kl_value, kl_written}
use Rattle.pdp_console.specs.Kw.{kw_value, kw_written}
use Rattle.pdp_console.specs.declared.kl.KlRegister.TheVariants.{PrinterBuffer}
use Rattle.pdp_tape.specs.Pc11.{pc11_read, pc11_register_at, pc11_value, pc11_written}
use Rattle.pdp_tape.specs.declared.pc11.Pc11Register.TheVariants.{PunchBuffer}
use Rattle.pdp_rk11.specs.Handbook.Rk.{rk_register_at, rk_value, rk_written}
use Rattle.pdp_io_page.specs.Handbook.Status.{status_word, status_written}
use Rattle.pdp_io_page.specs.declared.io_page.IoPage.{IoPage}
use Rattle.pdp_io_page.specs.declared.register.Register.{Register}
use Rattle.pdp_io_page.specs.declared.register.Register.TheVariants.{Clock, Console, Disk, Mapping}
use Rattle.pdp_io_page.specs.declared.register.Register.TheVariants.{PaperTape, Switches}
use Rattle.pdp_io_page.specs.declared.register.Register.TheVariants.{ProgramStatus}

-- the owners: a device has its registers from its first address on; the program status word is at
-- 777776 [2.8] [6.35] [6.36] [6.37] [6.38] [6.39] [6.40] [6.41] [6.42] [6.43] [6.44] [6.45] [6.46]
-- [6.47] [6.48] [6.52]
abbrev pub register_of_word : ℕ → Option Register
register_of_word address = (
    if nat_le 0o777400 address && nat_le address 0o777412 then option_map Disk (rk_register_at
    (address - 0o777400)) else
    if address == 0o777546 then Some Clock else
    if nat_le 0o777550 address && nat_le address 0o777556 then option_map PaperTape
    (pc11_register_at (address - 0o777550)) else
    if nat_le 0o777560 address && nat_le address 0o777566 then option_map Console (kl_register_at
    (address - 0o777560)) else
    if address == 0o777570 then Some Switches else
    if address == 0o777776 then Some ProgramStatus else option_map Mapping (kt_register_at address))

-- the register that has an address in its word [6.29]
unfoldable pub register_at : ℕ → Option Register
register_at address = register_of_word (address - address % 2)

-- what a read gives, with so many drives [6.48] [6.52]
unfoldable pub value_in : Register → ℕ → IoPage → ℕ
value_in (Console r) drives b = kl_value r b.console
value_in Clock drives b = kw_value b.clock
value_in (PaperTape r) drives b = pc11_value r b.paper_tape
value_in (Disk r) drives b = rk_value r drives b.disk
value_in Switches drives b = b.switches
value_in (Mapping r) drives b = kt_value r b.mapping
value_in ProgramStatus drives b = status_word b.status

-- what a read does
unfoldable pub after_read : Register → IoPage → IoPage
after_read (Console r) b = record b { console = kl_read r b.console }
after_read Clock b = b
after_read (PaperTape r) b = record b { paper_tape = pc11_read r b.paper_tape }
after_read (Disk r) b = b
after_read Switches b = b
after_read (Mapping r) b = b
after_read ProgramStatus b = b

-- what a write of a word does in a turn; the switches can't be written [6.48] [6.52] [6.57]
unfoldable pub after_write : Register → ℕ → ℕ → IoPage → IoPage
after_write (Console r) word turn b = record b {
  console = kl_written r word turn b.delays.printer
      b.console;
}
after_write Clock word turn b = record b { clock = kw_written word b.clock }
after_write (PaperTape r) word turn b =
    record b { paper_tape = pc11_written r word turn b.delays.reader b.delays.punch b.paper_tape }
after_write (Disk r) word turn b = record b { disk = rk_written r word turn b.delays.disk b.disk }
after_write Switches word turn b = b
after_write (Mapping r) word turn b = record b { mapping = kt_written r word b.mapping }
after_write ProgramStatus word turn b = record b { status = status_written word b.status }

-- the word with the byte of this address replaced: the even address is the low half [1.4]
abbrev pub word_with_byte : ℕ → ℕ → ℕ → ℕ
word_with_byte word address byte =
    (if address % 2 == 0 then word - word % 256 + byte else byte * 256 + word % 256)

-- whether a write of a byte at an address does anything: at the odd address of the printer's and
-- the punch's buffer it does nothing [6.32]
abbrev pub is_byte_written : Register → ℕ → Bool
is_byte_written (Console PrinterBuffer) address = address % 2 == 0
is_byte_written (PaperTape PunchBuffer) address = address % 2 == 0
is_byte_written _ address = true

-- what a write of a byte does: the word is written with the other half as a read would give it,
-- without the effect of a read, with so many drives; so a byte of the program status word sets what
-- its half has [2.10] [6.30] [6.32]
unfoldable pub after_byte : Register → ℕ → ℕ → ℕ → ℕ → IoPage → IoPage
after_byte register drives address byte turn b =
    if is_byte_written register address then after_write register (word_with_byte
    (value_in register drives b) address byte) turn b else b
