-- What the laws of requests say: each name is the law's sentence (PDP-11 Peripherals Handbook,
-- Unibus; the order at one level is [P]).
use Rattle.std.specs.Prelude.{◌≡◌, ◌≢◌, ◌↔◌, ℕ, ◌==◌, Bool, true, false, ◌&&◌, ◌||◌, nat_lt, Some}
use Rattle.std.specs.Prelude.{None}
use Rattle.pdp_io_page.specs.Handbook.Reset.{io_page_reset}
use Rattle.pdp_io_page.specs.Handbook.Source.{first_above, has_request, level_of, requests}
use Rattle.pdp_io_page.specs.Handbook.Source.{io_page_served}
use Rattle.pdp_io_page.specs.Handbook.Status.{is_above, priority_bits}
use Rattle.pdp_io_page.specs.declared.io_page.IoPage.{IoPage}
use Rattle.pdp_io_page.specs.declared.priority.Priority.{Priority}
use Rattle.pdp_io_page.specs.declared.source.Source.{Source}
use Rattle.pdp_io_page.specs.declared.source.Source.TheVariants.{Keyboard, Printer, Reader, Punch}
use Rattle.pdp_io_page.specs.declared.source.Source.TheVariants.{Clock, Disk}

-- the place of a source among those of its level
abbrev pub place_in_level : Source → ℕ
place_in_level Keyboard = 0
place_in_level Printer = 1
place_in_level Reader = 2
place_in_level Punch = 3
place_in_level Clock = 0
place_in_level Disk = 0

-- whether a source goes before another: its level is higher, or it is the same and its place is
-- lower
abbrev pub goes_before : Source → Source → Bool
goes_before s t =
    is_above (level_of s) (level_of t)
    || (priority_bits (level_of s) == priority_bits (level_of t) && nat_lt (place_in_level s)
    (place_in_level t))

-- a source requests, with a level above the priority
abbrev pub RequestsAbove : (Source → Bool) → Priority → Source → Type 0
RequestsAbove is_requesting priority s = (is_requesting s ≡ true) × (is_above (level_of s) priority
    ≡ true)

-- a source is chosen exactly if it requests above the priority and no other that does goes before
-- it, whichever sources request
abbrev pub TheFirstIsChosen : Type 0
TheFirstIsChosen = (is_requesting : Source → Bool) (priority : Priority) (s : Source)
    → (first_above is_requesting priority ≡ Some s)
    ↔ (RequestsAbove is_requesting priority s
    × ((t : Source) → RequestsAbove is_requesting priority t → goes_before t s ≡ false))

-- none is chosen exactly if none requests above the priority
abbrev pub NoneIsChosenWhereNoneIsAbove : Type 0
NoneIsChosenWhereNoneIsAbove = (is_requesting : Source → Bool) (priority : Priority)
    → (first_above is_requesting priority ≡ None) ↔ ((s : Source) → ¬ RequestsAbove is_requesting
    priority s)

-- some source requests exactly if that is told
abbrev pub RequestsAreTold : Type 0
RequestsAreTold = (b : IoPage) → (has_request b ≡ false) ↔ ((s : Source) → requests b s ≡ false)

-- a source that was served doesn't request
abbrev pub ServedSourcesAreSilent : Type 0
ServedSourcesAreSilent = (s : Source) (b : IoPage) → requests (io_page_served s b) s ≡ false

-- the others request as before
abbrev pub OthersGoOnRequesting : Type 0
OthersGoOnRequesting = (s t : Source) (b : IoPage) → t ≢ s → requests (io_page_served s b) t
    ≡ requests b t

-- after RESET no source requests
abbrev pub ResetDropsRequests : Type 0
ResetDropsRequests = (b : IoPage) → has_request (io_page_reset b) ≡ false
