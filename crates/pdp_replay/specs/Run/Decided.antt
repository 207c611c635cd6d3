-- Whether two saved machines meet, and whether two scripts have the same events, decided.
use Rattle.std.specs.Prelude.{ℕ, Bool, List, length}
use Rattle.pdp_unibus.specs.declared.event.Event.{Event}
use Rattle.pdp_cpu.specs.Saved.{SavedMachineData, SavedMeet}
use Rattle.pdp_replay.specs.Run.Discrete.{◌>>=◌, is_yes, lists_of, numbers, pairs_of, part}
use Rattle.pdp_replay.specs.Run.DiscreteParts.{events, io_pages, processors}

-- two saved machines meet, or they don't
unfoldable pub saved_meeting : (here there : SavedMachineData) → Dec (SavedMeet here there)
saved_meeting here there = do
  turn ← part (λ m. m.turn) (numbers here.turn there.turn)
  processor ← part (λ m. m.processor) (processors here.processor there.processor)
  io_page ← part (λ m i. (m.bus i).io_page) (io_pages here.bus.io_page there.bus.io_page)
  core ← part (λ m i. (m.bus i).core) (lists_of numbers here.bus.core there.bus.core)
  drives ← part (λ m i. (m.bus i).drives)
      (lists_of (lists_of numbers) here.bus.drives there.bus.drives)
  bytes_read ← part (λ m i. (m.bus i).bytes_read)
      (numbers here.bus.bytes_read there.bus.bytes_read)
  bus_turn ← part (λ m i. (m.bus i).turn) (numbers here.bus.turn there.bus.turn)
  size ← part (λ m. m.size) (numbers (length here.bus.stamps) (length there.bus.stamps))
  yes (record {
    turn = turn;
    processor = processor;
    bus = λ i. record {
      io_page = io_page i;
      core = core i;
      stamps = here.bus.stamps;
      drives = drives i;
      bytes_read = bytes_read i;
      turn = bus_turn i;
    };
    size = size;
  })

-- whether they meet
unfoldable pub do_meet : SavedMachineData → SavedMachineData → Bool
do_meet here there = is_yes (saved_meeting here there)

-- whether two scripts have the same events in the same turns
unfoldable pub are_same_events : List (ℕ × Event) → List (ℕ × Event) → Bool
are_same_events some other = is_yes (lists_of (pairs_of numbers events) some other)
