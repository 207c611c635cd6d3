-- What the reader moves in the beginning of a turn.
use Rattle.std.proofs.Common.{◌≡◌, ◌∙◌, ℕ, ◌&&◌, ◌||◌, Bool, true, false, not, List, Option, Some, None, is_some, refl, sym, ap, true≢false, if◌then◌else◌}
use Rattle.pdp_device.specs.Operation.{is_due, is_under_way}
use Rattle.pdp_device.specs.declared.operation.Operation.{Operation}
use Rattle.pdp_tape.specs.Reader.{read_over, takes_byte}
use Rattle.pdp_tape.specs.declared.reader.Reader.{Reader as PaperReader}
use Rattle.pdp_unibus.specs.Handbook.Beginning.{Progress, after_event}
use Rattle.pdp_unibus.specs.Handbook.BusWorld.{BusWorld}
use Rattle.pdp_unibus.specs.Handbook.Tape.{next_byte}
use Rattle.pdp_unibus.specs.declared.event.Event.{Event}
use Rattle.pdp_unibus.specs.declared.event.Event.TheVariants as event
use Rattle.pdp_made.specs.Cells.{DataCell, Buffer, Reader, TapeByte}
use Rattle.pdp_made_run.specs.BeginningRows.{byte_taken, made_by_event, made_if}
use Rattle.pdp_made_run.specs.Origins.{Origin, still_held}
use Rattle.pdp_turn_moves.specs.Beginnings.{ends_reading, reader_moved, reader_told}
use Rattle.pdp_turn_moves.proofs.DiskTold.{buffer_left, tape_left as tape_stays}
use Rattle.pdp_turn_moves.proofs.Ends.{AllHeld}

-- what a completion of the reader sees
pub record ReaderPart : Type 0 where
  pub reader : PaperReader
  pub tape : List ℕ
  pub bytes_read : ℕ

abbrev pub part_of : BusWorld → ReaderPart
part_of b = record { reader = b.io_page.paper_tape.reader; tape = b.tape; bytes_read = b.bytes_read }

abbrev pub operation_of : ReaderPart → Operation
operation_of x = x.reader.operation

-- its buffer, and the bytes of the tape
abbrev pub IsRead : DataCell → Type 0
IsRead (Buffer Reader) = Unit {0}
IsRead (TapeByte k) = Unit {0}
IsRead c = ⊥

-- what it makes of these
abbrev pub read_by : ReaderPart → DataCell → List Origin
read_by x (Buffer Reader) =
    if takes_byte x.reader then byte_taken x.bytes_read (next_byte x.tape x.bytes_read) else still_held (Buffer Reader)
read_by x c = still_held c

held_taken : (k : ℕ) (next : Option ℕ) → AllHeld IsRead (byte_taken k next)
held_taken k (Some byte) = (tt, tt)
held_taken k None = (tt, (tt, tt))

held_by : (busy : Bool) (k : ℕ) (next : Option ℕ) → AllHeld IsRead (if busy then byte_taken k next else still_held (Buffer Reader))
held_by true k next = held_taken k next
held_by false k next = (tt, tt)

pub closed : (x : ReaderPart) (c : DataCell) → IsRead c → AllHeld IsRead (read_by x c)
closed x (Buffer Reader) mine = held_by (takes_byte x.reader) x.bytes_read (next_byte x.tape x.bytes_read)
closed x (TapeByte k) mine = (tt, tt)
closed x _ mine = absurd mine

pub idle : (x : ReaderPart) → is_under_way (operation_of x) ≡ false → (c : DataCell) → IsRead c → read_by x c ≡ still_held c
idle x none (Buffer Reader) mine = ap (λ busy. if busy then byte_taken x.bytes_read (next_byte x.tape x.bytes_read) else still_held (Buffer Reader)) none
idle x none (TapeByte k) mine = refl
idle x none _ mine = absurd mine

disk_leaves : (e : Event) → ends_reading e ≡ false → (own : Origin) (b : BusWorld) → made_by_event e own b (Buffer Reader) ≡ still_held (Buffer Reader)
disk_leaves event.ReaderDone is own b = absurd (true≢false is)
disk_leaves event.DiskDone is own b = buffer_left b Reader
disk_leaves _ is own b = refl

tape_left : (e : Event) (own : Origin) (b : BusWorld) (k : ℕ) → made_by_event e own b (TapeByte k) ≡ still_held (TapeByte k)
tape_left event.DiskDone own b k = tape_stays b k
tape_left _ own b k = refl

pub others : (e : Event) → ends_reading e ≡ false → (own : Origin) (b : BusWorld) (c : DataCell) → IsRead c → made_by_event e own b c ≡ still_held c
others e is own b (Buffer Reader) mine = disk_leaves e is own b
others e is own b (TapeByte k) mine = tape_left e own b k
others e is own b _ mine = absurd mine

pub done : (e : Event) → ends_reading e ≡ true → (own : Origin) (b : BusWorld) (c : DataCell) → IsRead c → made_by_event e own b c ≡ read_by (part_of b) c
done event.ReaderDone is own b (Buffer Reader) mine = refl
done event.ReaderDone is own b (TapeByte k) mine = refl
done event.ReaderDone is own b _ mine = absurd mine
done _ is own b c mine = absurd (true≢false (sym is))

pub kept : (e : Event) → ends_reading e ≡ false → (p : Progress) → part_of (after_event e p).bus ≡ part_of p.bus
kept event.ReaderDone is p = absurd (true≢false is)
kept _ is p = refl

-- after a completion nothing is under way
over_idle : (next : Option ℕ) (r : PaperReader) → is_under_way (read_over next r).operation ≡ false
over_idle (Some byte) r = refl
over_idle None r = refl

completed : (busy : Bool) (next : Option ℕ) (r : PaperReader) → is_under_way r.operation ≡ busy → is_under_way (if busy then read_over next r else r).operation ≡ false
completed true next r is = over_idle next r
completed false next r is = is

completed_at : (busy : Bool) (next : Option ℕ) (r : PaperReader) → is_under_way r.operation ≡ busy → is_under_way (if is_under_way r.operation then read_over next r else r).operation ≡ false
completed_at busy next r is = ap (λ (b : Bool). is_under_way (if b then read_over next r else r).operation) is ∙ completed busy next r is

pub ended : (e : Event) → ends_reading e ≡ true → (p : Progress) → is_under_way (operation_of (part_of (after_event e p).bus)) ≡ false
ended event.ReaderDone is p =
    completed_at (is_under_way p.bus.io_page.paper_tape.reader.operation) (next_byte p.bus.tape p.bus.bytes_read) p.bus.io_page.paper_tape.reader refl
ended _ is p = absurd (true≢false (sym is))

-- what is told of the byte
read_told : (busy now : Bool) (k : ℕ) (next : Option ℕ)
    → reader_told (if busy && now then Some (record { number = k; at_end = not (is_some next) }) else None)
    ≡ (if now then (if busy then byte_taken k next else still_held (Buffer Reader)) else still_held (Buffer Reader))
read_told true true k (Some byte) = refl
read_told true true k None = refl
read_told true false k next = refl
read_told false true k next = refl
read_told false false k next = refl

pub reader_is_told : (t : ℕ) (done : Bool) (b : BusWorld)
    → reader_told (reader_moved t done b) ≡ made_if (done || is_due t b.io_page.paper_tape.reader.operation) (read_by (part_of b)) (Buffer Reader)
reader_is_told t done b =
    read_told (takes_byte b.io_page.paper_tape.reader) (done || is_due t b.io_page.paper_tape.reader.operation) b.bytes_read (next_byte b.tape b.bytes_read)
