-- What the bus keeps of its devices, so that a turn in which nothing comes of them asks none.
use Rattle.std.specs.Prelude.{◌≡◌, ℕ, ◌<◌, false}
use Rattle.pdp_device.specs.Operation.{is_due}
use Rattle.pdp_io_page.specs.Handbook.Delays.{is_tick}
use Rattle.pdp_io_page.specs.Handbook.Source.{has_request}
use Rattle.pdp_io_page.specs.declared.io_page.IoPage.{IoPage}
use Rattle.pdp_io_page.specs.declared.watch.Watch.{Watch}

-- in turn t the clock doesn't tick by itself, and no operation is due
pub record IsQuiet (t : ℕ) (b : IoPage) : Type 0 where
  pub clock : is_tick t b.delays.clock ≡ false
  pub printer : is_due t b.console.printer.operation ≡ false
  pub reader : is_due t b.paper_tape.reader.operation ≡ false
  pub punch : is_due t b.paper_tape.punch.operation ≡ false
  pub disk : is_due t b.disk.operation ≡ false

-- every turn after this one and before the watch wakes is quiet, and if it tells no request there
-- is none
pub record IsWatched (turn : ℕ) (b : IoPage) (watch : Watch) : Type 0 where
  pub quiet : (t : ℕ) → turn < t → t < watch.wake → IsQuiet t b
  pub silent : watch.requested ≡ false → has_request b ≡ false
