-- What can interrupt the processor: PDP-11 Peripherals Handbook, KL11, KW11-L, PC11 and RK11 (which
-- of two at one level goes first is [P]).
use Rattle.std.specs.Prelude.{ℕ, Bool, ◌&&◌, Option, Some, None, List, [], ◌∷◌, if◌then◌else◌}
use Rattle.std.specs.List.{find, list_any}
use Rattle.pdp_console.specs.Kl.{keyboard_served, printer_served}
use Rattle.pdp_console.specs.Kw.{kw_served}
use Rattle.pdp_tape.specs.Pc11.{punch_served, reader_served}
use Rattle.pdp_rk11.specs.Handbook.Rk.{rk_served}
use Rattle.pdp_io_page.specs.Handbook.Status.{is_above}
use Rattle.pdp_io_page.specs.declared.io_page.IoPage.{IoPage}
use Rattle.pdp_io_page.specs.declared.priority.Priority.{Priority}
use Rattle.pdp_io_page.specs.declared.priority.Priority.TheVariants.{Level4, Level5, Level6}
use Rattle.pdp_io_page.specs.declared.source.Source.{Source}
use Rattle.pdp_io_page.specs.declared.source.Source.TheVariants.{Keyboard, Printer, Reader, Punch}
use Rattle.pdp_io_page.specs.declared.source.Source.TheVariants.{Clock, Disk}

-- the level at which a source requests [6.100] [6.101] [6.102] [6.103] [6.104] [6.105]
abbrev pub level_of : Source → Priority
level_of Clock = Level6
level_of Disk = Level5
level_of _ = Level4

-- where its vector is [5.17] [6.100] [6.101] [6.102] [6.103] [6.104] [6.105]
abbrev pub vector_of : Source → ℕ
vector_of Keyboard = 0o60
vector_of Printer = 0o64
vector_of Reader = 0o70
vector_of Punch = 0o74
vector_of Clock = 0o100
vector_of Disk = 0o220

-- the order in which they go: by levels, and then by the profile [6.100] [6.101] [6.102] [6.103]
-- [6.104] [6.105]
abbrev pub order : List Source
order = Clock ∷ Disk ∷ Keyboard ∷ Printer ∷ Reader ∷ Punch ∷ []

-- a source, if it requests with a level above the priority
abbrev pub alone_above : (Source → Bool) → Priority → Source → Option Source
alone_above is_requesting priority s = if is_requesting s && is_above (level_of s) priority then
    Some s else None

-- of those that request, the first with a level above the priority
abbrev pub first_above : (Source → Bool) → Priority → Option Source
first_above is_requesting priority = find (λ s. is_requesting s && is_above
    (level_of s) priority) order

-- whether a source requests
unfoldable pub requests : IoPage → Source → Bool
requests b Clock = b.clock.request
requests b Disk = b.disk.ready_enable.request
requests b Keyboard = b.console.keyboard.ready_enable.request
requests b Printer = b.console.printer.ready_enable.request
requests b Reader = b.paper_tape.reader.request
requests b Punch = b.paper_tape.punch.ready_enable.request

-- whether any does
abbrev pub has_request : IoPage → Bool
has_request b = list_any (requests b) order

-- the source that interrupts a processor of this priority [5.4]
unfoldable pub chosen_source : Priority → IoPage → Option Source
chosen_source priority b = first_above (requests b) priority

-- the source's request is served: that request goes, and nothing else changes [5.7] [6.106]
unfoldable pub io_page_served : Source → IoPage → IoPage
io_page_served Clock b = record b { clock = kw_served b.clock }
io_page_served Disk b = record b { disk = rk_served b.disk }
io_page_served Keyboard b = record b { console = keyboard_served b.console }
io_page_served Printer b = record b { console = printer_served b.console }
io_page_served Reader b = record b { paper_tape = reader_served b.paper_tape }
io_page_served Punch b = record b { paper_tape = punch_served b.paper_tape }
