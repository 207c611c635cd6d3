-- Steps of phases that refer: what is left to show of the phase is what it makes of the reply.
use Rattle.std.proofs.Common.{◌≡◌, ℕ, List, Result, Ok, Err, refl, sym, subst}
use Rattle.pdp_word.specs.declared.codes.Codes.{Codes}
use Rattle.pdp_word.specs.declared.size.Size.{Size}
use Rattle.pdp_kt11.specs.declared.mode.Mode.{Mode}
use Rattle.pdp_store.specs.CycleLogs.{KeptCycles}
use Rattle.pdp_unibus.specs.Handbook.BusWorld.{BusWorld}
use Rattle.pdp_action.specs.declared.trap.Trap.{Trap}
use Rattle.pdp_operand.specs.Handbook.Reference.{perform}
use Rattle.pdp_operand.specs.Phases.Phase.{Phase, State, after_answer, after_reply, inner_of, state_of, with_inner}
use Rattle.pdp_made.specs.Cells.{Data, DataCell, SameShape, bus_with, data_of, data_on, latch_with_data, processor_with, with_data}
use Rattle.pdp_made.specs.PhaseRows.{CellsTell, TellsEnds, of_itself}
use Rattle.pdp_made.specs.ReferenceRows.{Halves, changed_if_placed, halves_referred, place_of_write}
use Rattle.pdp_made.proofs.Frames.{lost, lost_tells, on_same}
use Rattle.pdp_made.proofs.Halves.{HalvesTell}
use Rattle.pdp_made.proofs.Readings.{ValuesTell, read_at, read_keeps_data, read_tells}
use Rattle.pdp_made.proofs.Writings.{BusTells, RepliesTell, put_here, put_there, write_tells}

module _ (p : Phase) (made : DataCell → List DataCell) (saved : Codes) (s : State) (d : Data) (log : KeptCycles) (shape : SameShape d (data_of saved s)) where
  -- the state after a reference that left this bus, with other data and as it is
  abbrev pub there_with : BusWorld → State
  there_with there = state_of (processor_with d.words s.world.processor) there (latch_with_data d s.latch)

  abbrev pub here_with : BusWorld → State
  here_with after = state_of s.world.processor after s.latch

  -- the data after the phase resumed with this value
  abbrev pub there_after : BusWorld → ℕ → Data
  there_after there value = data_of d.saved (with_inner there (p.resume (inner_of (there_with there)) value))

  abbrev pub here_after : BusWorld → ℕ → Data
  here_after after value = data_of saved (with_inner after (p.resume (inner_of (here_with after)) value))

  -- both failed
  failed : (there after : BusWorld) → data_on there ≡ d.bus → data_on after ≡ data_on s.world.bus
      → CellsTell of_itself d (data_of saved s) (record (lost d) { bus = data_on there }) (record (lost (data_of saved s)) { bus = data_on after })
  failed there after there_same here_same =
      on_same of_itself d (data_of saved s) (lost d) (lost (data_of saved s)) (data_on there) (data_on after) d.words s.world.processor.words there_same here_same refl refl
      (lost_tells d (data_of saved s))

  module _ (size : Size) (mode : Mode) (address : ℕ)
      (resumed : (there after : BusWorld) (b a : ℕ) → data_on there ≡ d.bus → data_on after ≡ data_on s.world.bus
      → HalvesTell d (data_of saved s) (halves_referred size mode address s.world.bus) b a
      → CellsTell made d (data_of saved s) (there_after there b) (here_after after a)) where
    answered : (there after : BusWorld) (other value : Result ℕ Trap) → data_on there ≡ d.bus → data_on after ≡ data_on s.world.bus
        → ValuesTell d (data_of saved s) (halves_referred size mode address s.world.bus) other value
        → TellsEnds made of_itself saved d.saved d (data_of saved s) (after_answer p (here_with after) value) (after_answer p (there_with there) other)
    answered there after (Ok b) (Ok a) there_same here_same tells = resumed there after b a there_same here_same tells
    answered there after (Ok b) (Err trap) there_same here_same tells = tt
    answered there after (Err trap) (Ok a) there_same here_same tells = tt
    answered there after (Err trap) (Err left) there_same here_same tells = failed there after there_same here_same

    pub read_step : TellsEnds made of_itself saved d.saved d (data_of saved s)
        (after_reply p s (perform (read_at size mode address) s.world.bus))
        (after_reply p (with_data d log s) (perform (read_at size mode address) (bus_with d.bus log s.world.bus)))
    read_step = answered (perform (read_at size mode address) (bus_with d.bus log s.world.bus)).after (perform (read_at size mode address) s.world.bus).after _ _
        (read_keeps_data size mode address (bus_with d.bus log s.world.bus)) (read_keeps_data size mode address s.world.bus)
        (read_tells d log s.world.bus (data_of saved s) shape.core_size shape.drives_count mode address size)

  module _ (from : Halves) (size : Size) (mode : Mode) (address one other : ℕ) (new : HalvesTell d (data_of saved s) from other one) where
    abbrev pub bus_made : DataCell → List DataCell
    bus_made c = changed_if_placed size s.world.bus (place_of_write mode address s.world.bus) from c

    module _ (resumed : (there after : BusWorld) (at : ℕ) → BusTells d (data_of saved s) bus_made (data_on there) (data_on after)
        → CellsTell made d (data_of saved s) (there_after there at) (here_after after at)) where
      written : (there after : BusWorld) (other_value value : Result ℕ Trap)
          → RepliesTell d log s.world.bus (data_of saved s) bus_made other_value value there after
          → TellsEnds made of_itself saved d.saved d (data_of saved s) (after_answer p (here_with after) value) (after_answer p (there_with there) other_value)
      written there after (Ok b) (Ok a) tells =
          subst (λ at. CellsTell made d (data_of saved s) (there_after there at) (here_after after a)) (sym tells.same_place) (resumed there after a tells.tells)
      written there after (Ok b) (Err trap) tells = tt
      written there after (Err trap) (Ok a) tells = tt
      written there after (Err trap) (Err left) tells = failed there after tells.there_kept tells.here_kept

      pub write_step : TellsEnds made of_itself saved d.saved d (data_of saved s)
          (after_reply p s (perform (put_here d log s.world.bus (data_of saved s) shape.core_size shape.drives_count from one other new mode address size) s.world.bus))
          (after_reply p (with_data d log s) (perform (put_there d log s.world.bus (data_of saved s) shape.core_size shape.drives_count from one other new mode address size) (bus_with d.bus log s.world.bus)))
      write_step = written _ _ _ _ (write_tells d log s.world.bus (data_of saved s) shape.core_size shape.drives_count from one other new mode address size)
