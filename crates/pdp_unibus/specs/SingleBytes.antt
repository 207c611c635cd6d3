-- Why one byte is enough of what comes out in the beginning of a turn: once the printer or the
-- punch has completed, nothing is under way. No public contract names this.
use Rattle.std.specs.Prelude.{◌≡◌, true, false, is_some}
use Rattle.pdp_device.specs.Operation.{is_under_way}
use Rattle.pdp_unibus.specs.declared.beginning.Output.{Output}
use Rattle.pdp_io_page.specs.declared.io_page.IoPage.{IoPage}

-- so it is with a board and what came out so far
pub record IsSingle (b : IoPage) (output : Output) : Type 0 where
  pub printed : is_some output.printed ≡ true → is_under_way b.console.printer.operation ≡ false
  pub punched : is_some output.punched ≡ true → is_under_way b.paper_tape.punch.operation ≡ false

-- a step leaves it so, whatever came out
abbrev pub StaysSingle : IoPage → IoPage → Type 0
StaysSingle before after = (output : Output) → IsSingle before output → IsSingle after output
