-- What the laws of turns speak of. No rule of the handbook is here.
use Rattle.std.specs.Prelude.{ℕ, zero, suc, ◌+◌, ◌≡◌, ◌≢◌, All, List, Option}
use Rattle.pdp_unibus.specs.declared.event.Event.{Event}
use Rattle.pdp_unibus.specs.declared.event.Event.TheVariants.{Continue}
use Rattle.pdp_unibus.specs.Handbook.BusWorld.{BusWorld}
use Rattle.pdp_operand.specs.Laws.Count.{course_length}
use Rattle.pdp_store.specs.CycleLogs.{KeptCycles}
use Rattle.pdp_store.specs.Stamps.{stamps_after_trace}
use Rattle.pdp_store.specs.declared.Stamp.{Stamp}
use Rattle.pdp_store.specs.declared.part.Part.{Part}
use Rattle.pdp_unibus.specs.Page.{AlikeOutside, SamePage}
use Rattle.pdp_operand.specs.declared.processor.Processor.{Processor}
use Rattle.pdp_operand.specs.Phases.World.{World, world}
use Rattle.pdp_cpu.specs.Handbook.MachineState.{world_with_log, world_with_stamps}
use Rattle.pdp_cpu.specs.Handbook.Turn.{course_at, at_turn, one_turn, printed_in, punched_in}
use Rattle.pdp_cpu.specs.Handbook.Turn.{turn_act, turn_trace}
use Rattle.pdp_cpu.specs.Handbook.TurnDisk.{disk_begun}

-- how many phases turn t runs
unfoldable pub turn_phases : ℕ → List Event → World → ℕ
turn_phases t events w = course_length (course_at (at_turn t events w)) (at_turn t events w)

-- turn t with these events, of the processor p on bus b, and on bus c: it ends in the same way on
-- both, with the same trace and the same bytes printed and punched, and leaves each its own words
-- of the page
pub record Undisturbed (part : Part) (page t : ℕ) (events : List Event) (p : Processor)
    (b c : BusWorld) : Type 0 where
  pub processor : (one_turn t events (world p b)).processor ≡ (one_turn t events
      (world p c)).processor
  pub bus : AlikeOutside part page (one_turn t events (world p b)).bus (one_turn t events
      (world p c)).bus
  pub trace : turn_trace t events (world p b) ≡ turn_trace t events (world p c)
  pub printed : printed_in t events (world p b) ≡ printed_in t events (world p c)
  pub punched : punched_in t events (world p b) ≡ punched_in t events (world p c)
  pub page_of_one : SamePage part page b (one_turn t events (world p b)).bus
  pub page_of_other : SamePage part page c (one_turn t events (world p c)).bus

-- none of these events is Continue
abbrev pub NoneContinues : List Event → Type 0
NoneContinues events = All (λ event. event ≢ Continue) events

-- the world after n turns from turn t on, each with its events
abbrev pub world_after : (ℕ → List Event) → ℕ → ℕ → World → World
world_after events t zero w = w
world_after events t (suc n) w = one_turn (t + n) (events (t + n)) (world_after events t n w)

-- the processor, its status and the mapping registers are those of the first world
pub record Stays (v w : World) : Type 0 where
  pub processor : w.processor ≡ v.processor
  pub status : w.bus.io_page.status ≡ v.bus.io_page.status
  pub mapping : w.bus.io_page.mapping ≡ v.bus.io_page.mapping

-- the disk, the words of core with their stamps, and the words of the drives are those of the first
-- world
pub record WordsStay (v w : World) : Type 0 where
  pub disk : w.bus.io_page.disk ≡ v.bus.io_page.disk
  pub core : w.bus.core ≡ v.bus.core
  pub stamps : w.bus.stamps ≡ v.bus.stamps
  pub drives : w.bus.drives ≡ v.bus.drives

-- turn t with these events in a world, and in the same world with other last stamps of core: the
-- writes of its trace leave their stamps on these, and nothing else differs
pub record StampsDisturbNothing (t : ℕ) (events : List Event) (w : World)
    (stamps : List (Option Stamp)) : Type 0 where
  pub world_is : one_turn t events (world_with_stamps w stamps) ≡ world_with_stamps
      (one_turn t events w) (stamps_after_trace (turn_trace t events w) stamps)
  pub trace : turn_trace t events (world_with_stamps w stamps) ≡ turn_trace t events w
  pub act : turn_act t events (world_with_stamps w stamps) ≡ turn_act t events w
  pub printed : printed_in t events (world_with_stamps w stamps) ≡ printed_in t events w
  pub punched : punched_in t events (world_with_stamps w stamps) ≡ punched_in t events w

-- turn t with these events in a world, and in the same world with another log: the cycles of the
-- turn are put into it, and nothing else differs
pub record LogsDisturbNothing (t : ℕ) (events : List Event) (w : World)
    (log : KeptCycles) : Type 0 where
  pub left : KeptCycles
  pub world_is : one_turn t events (world_with_log w log) ≡ world_with_log
      (one_turn t events w) left
  pub act : turn_act t events (world_with_log w log) ≡ turn_act t events w
  pub disk : disk_begun t events (world_with_log w log) ≡ disk_begun t events w
  pub printed : printed_in t events (world_with_log w log) ≡ printed_in t events w
  pub punched : punched_in t events (world_with_log w log) ≡ punched_in t events w
