-- What the law of the one rule of requests says: each name is the law's sentence [P].
use Rattle.std.specs.Prelude.{◌≡◌, true}
use Rattle.pdp_device.specs.Request.{request_after}
use Rattle.pdp_device.specs.ReadyEnable.{wants_interrupt}
use Rattle.pdp_device.specs.declared.ready_enable.ReadyEnable.{ReadyEnable}
use Rattle.pdp_unibus.specs.Handbook.Beginning.{Progress, after_event}
use Rattle.pdp_io_page.specs.Handbook.Reset.{io_page_at_power_up}
use Rattle.pdp_io_page.specs.Laws.{RegisterUse, io_page_after_use}
use Rattle.pdp_io_page.specs.declared.io_page.IoPage.{IoPage}
use Rattle.pdp_io_page.specs.declared.delays.Delays.{Delays}
use Rattle.pdp_unibus.specs.declared.event.Event.{Event}

-- a ready/enable pair that requests does so on its condition
abbrev pub IsSound : ReadyEnable → Type 0
IsSound c = c.request ≡ true → wants_interrupt c ≡ true

-- a request is there afterwards exactly if the condition holds, and either it was there or the
-- condition has just come to hold; and it stands on its condition again
pub record GoesByTheRule (before after : ReadyEnable) : Type 0 where
  pub request : after.request ≡ request_after (wants_interrupt before) (wants_interrupt after)
      before.request
  pub sound : IsSound after

-- so it goes with a ready/enable pair of the I/O page, whichever register is read or written, and
-- whatever happens to the devices; at power-up it is sound
pub record RequestsGoByTheRule (ready_enable : IoPage → ReadyEnable) : Type 0 where
  pub uses : (u : RegisterUse) (b : IoPage) → IsSound (ready_enable b) → GoesByTheRule
      (ready_enable b) (ready_enable (io_page_after_use u b))
  pub events : (e : Event) (p : Progress) → IsSound (ready_enable p.bus.io_page)
      → GoesByTheRule (ready_enable p.bus.io_page) (ready_enable (after_event e p).bus.io_page)
  pub power : (delays : Delays) → IsSound (ready_enable (io_page_at_power_up delays))

-- of the keyboard, the printer, the punch and the disk
abbrev pub keyboard_ready_enable : IoPage → ReadyEnable
keyboard_ready_enable b = b.console.keyboard.ready_enable

abbrev pub printer_ready_enable : IoPage → ReadyEnable
printer_ready_enable b = b.console.printer.ready_enable

abbrev pub punch_ready_enable : IoPage → ReadyEnable
punch_ready_enable b = b.paper_tape.punch.ready_enable

abbrev pub disk_ready_enable : IoPage → ReadyEnable
disk_ready_enable b = b.disk.ready_enable
