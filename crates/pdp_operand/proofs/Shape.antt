-- What a reference comes to. Nothing else opens `perform` and `touches`.
use Rattle.std.proofs.Common.{◌≡◌, ◌∙◌, ℕ, ◌<◌, ◌*◌, ◌/◌, Bool, true, false, List, [], refl, Ok, Err, Option, None, Some, Result, length, slice_index, nat_lt, if◌then◌else◌, ltb-true, length-set}
use Rattle.pdp_kt11.specs.declared.place.Access.TheVariants.{Read, Write}
use Rattle.pdp_unibus.specs.Handbook.BusWorld.{BusWorld, with_io_page, with_mapping}
use Rattle.pdp_io_page.specs.declared.io_page.IoPage.{IoPage}
use Rattle.pdp_unibus.specs.Handbook.Cycle.{Slave, Core, Device, Nobody, Answer, device_slave, slave_at, read_from, write_to, write_byte_to, core_read, core_stored, told_read, told_write, told_byte_write}
use Rattle.pdp_io_page.specs.Handbook.Register.{register_at, value_in, after_byte, after_read, after_write, word_with_byte}
use Rattle.pdp_io_page.specs.declared.register.Register.{Register}
use Rattle.pdp_operand.specs.Handbook.Reference.{Kind, ReadWord, ReadByte, WriteWord, WriteByte, Reference, Reply, half_at, reply_of, at_place, perform, is_odd, translation, access_of}
use Rattle.pdp_kt11.specs.declared.place.Abort.{Abort}
use Rattle.pdp_operand.specs.Laws.Trace.{touch_at, touches_if_placed, touches}
use Rattle.pdp_store.specs.CycleLogs.{KeptCycles, log_with}
use Rattle.pdp_store.specs.Parts.{core_with, drives_with}
use Rattle.pdp_store.specs.TracedAccess.{TracedAccess}
use Rattle.pdp_store.specs.declared.cycle_log.BusCycle.{BusCycle}
use Rattle.pdp_store.specs.declared.part.Part.{Part}
use Rattle.pdp_store.specs.declared.part.Part.TheVariants as parts
use Rattle.pdp_unibus.specs.Page.{words_of_part, bus_with_words}
use Rattle.pdp_action.specs.declared.trap.Trap.{Trap}
use Rattle.pdp_action.specs.declared.trap.Trap.TheVariants.{BusTimeout, MappingAbort, OddAddress}

-- what a reference does, besides the I/O page that it leaves: no word of core answers, and the log is told of a cycle if there
-- is one; or a word is read, and told through a function; or a word is written, from what it was, which the log is told so
pub data Shape : Type 0 where
  Apart : Option BusCycle → IoPage → Result ℕ Trap → Shape
  Looked : IoPage → (ℕ → ℕ) → ℕ → Shape
  Wrote : BusCycle → IoPage → ℕ → (ℕ → ℕ) → ℕ → Shape

-- a log after a cycle, if there is one
abbrev pub log_after : Option BusCycle → KeptCycles → KeptCycles
log_after None log = log
log_after (Some cycle) log = log_with cycle log

abbrev pub reply_by : Shape → BusWorld → Reply
reply_by (Apart cycle io_page value) b = record { value = value; after = record b { io_page = io_page; log = log_after cycle b.log } }
reply_by (Looked io_page f k) b = record { value = Ok (f (slice_index b.core k)); after = with_io_page (core_read b k) io_page }
reply_by (Wrote cycle io_page told f k) b =
    record { value = Ok told; after = with_io_page (core_stored b k (f (slice_index b.core k)) cycle) io_page }

abbrev pub touches_by : Shape → BusWorld → List TracedAccess
touches_by (Apart cycle io_page value) b = []
touches_by (Looked io_page f k) b = touch_at Read b (Core k)
touches_by (Wrote cycle io_page told f k) b = touch_at Write b (Core k)

abbrev pub InCore : ℕ → Shape → Type 0
InCore words (Apart cycle io_page value) = Unit {0}
InCore words (Looked io_page f k) = k < words
InCore words (Wrote cycle io_page told f k) = k < words

-- of a bus with so many drives
abbrev pub shape_at : Kind → ℕ → ℕ → ℕ → IoPage → Slave → Shape
shape_at ReadWord physical turn drives io_page (Core k) = Looked io_page (λ word. word) k
shape_at ReadByte physical turn drives io_page (Core k) = Looked io_page (half_at physical) k
shape_at (WriteWord word) physical turn drives io_page (Core k) = Wrote (told_write (k * 2) (Some word)) io_page physical (λ _. word) k
shape_at (WriteByte byte) physical turn drives io_page (Core k) = Wrote (told_byte_write physical (Some byte)) io_page physical (λ word. word_with_byte word physical byte) k
shape_at ReadWord physical turn drives io_page (Device r) = Apart (Some (told_read physical (Some (value_in r drives io_page)))) (after_read r io_page) (Ok (value_in r drives io_page))
shape_at ReadByte physical turn drives io_page (Device r) = Apart (Some (told_read physical (Some (value_in r drives io_page)))) (after_read r io_page) (Ok (half_at physical (value_in r drives io_page)))
shape_at (WriteWord word) physical turn drives io_page (Device r) = Apart (Some (told_write physical (Some word))) (after_write r word turn io_page) (Ok physical)
shape_at (WriteByte byte) physical turn drives io_page (Device r) = Apart (Some (told_byte_write physical (Some byte))) (after_byte r drives physical byte turn io_page) (Ok physical)
shape_at ReadWord physical turn drives io_page Nobody = Apart (Some (told_read physical None)) io_page (Err BusTimeout)
shape_at ReadByte physical turn drives io_page Nobody = Apart (Some (told_read physical None)) io_page (Err BusTimeout)
shape_at (WriteWord word) physical turn drives io_page Nobody = Apart (Some (told_write physical None)) io_page (Err BusTimeout)
shape_at (WriteByte byte) physical turn drives io_page Nobody = Apart (Some (told_byte_write physical None)) io_page (Err BusTimeout)

abbrev pub shape_by : Kind → ℕ → ℕ → ℕ → IoPage → Result ℕ Abort → Shape
shape_by kind words turn drives io_page (Ok physical) = shape_at kind physical turn drives io_page (slave_at words physical)
shape_by kind words turn drives io_page (Err abort) = Apart None io_page (Err MappingAbort)

-- of a reference to an odd address or not, with the I/O page that the translation leaves
abbrev pub shape_if : Bool → Reference → BusWorld → Shape
shape_if true r b = Apart None b.io_page (Err OddAddress)
shape_if false r b =
    shape_by r.kind (length b.core) b.turn (length b.drives) (with_mapping b (translation r b).after).io_page (translation r b).address

unfoldable pub shape_of : Reference → BusWorld → Shape
shape_of r b = shape_if (is_odd r.kind r.address) r b

abbrev answer_by : Kind → ℕ → BusWorld → Slave → Answer
answer_by ReadWord physical b slave = read_from physical slave b
answer_by ReadByte physical b slave = read_from physical slave b
answer_by (WriteWord word) physical b slave = write_to physical slave word b
answer_by (WriteByte byte) physical b slave = write_byte_to slave physical byte b

reply_at : (kind : Kind) (physical : ℕ) (b : BusWorld) (slave : Slave)
    → reply_of kind physical (answer_by kind physical b slave) ≡ reply_by (shape_at kind physical b.turn (length b.drives) b.io_page slave) b
reply_at ReadWord physical b (Core k) = refl
reply_at ReadWord physical b (Device r) = refl
reply_at ReadWord physical b Nobody = refl
reply_at ReadByte physical b (Core k) = refl
reply_at ReadByte physical b (Device r) = refl
reply_at ReadByte physical b Nobody = refl
reply_at (WriteWord word) physical b (Core k) = refl
reply_at (WriteWord word) physical b (Device r) = refl
reply_at (WriteWord word) physical b Nobody = refl
reply_at (WriteByte byte) physical b (Core k) = refl
reply_at (WriteByte byte) physical b (Device r) = refl
reply_at (WriteByte byte) physical b Nobody = refl

placed : (kind : Kind) (b : BusWorld) (place : Result ℕ Abort)
    → at_place kind b place ≡ reply_by (shape_by kind (length b.core) b.turn (length b.drives) b.io_page place) b
placed ReadWord b (Ok physical) = reply_at ReadWord physical b (slave_at (length b.core) physical)
placed ReadByte b (Ok physical) = reply_at ReadByte physical b (slave_at (length b.core) physical)
placed (WriteWord word) b (Ok physical) = reply_at (WriteWord word) physical b (slave_at (length b.core) physical)
placed (WriteByte byte) b (Ok physical) = reply_at (WriteByte byte) physical b (slave_at (length b.core) physical)
placed kind b (Err abort) = refl

-- the I/O page of a shape is the one that it leaves: the one before counts for nothing
on_io_page : (shape : Shape) (b : BusWorld) (io_page : IoPage) → reply_by shape (with_io_page b io_page) ≡ reply_by shape b
on_io_page (Apart cycle after value) b io_page = refl
on_io_page (Looked after f k) b io_page = refl
on_io_page (Wrote cycle after told f k) b io_page = refl

performed : (odd : Bool) (r : Reference) (b : BusWorld)
    → (if odd then record { value = Err OddAddress; after = b } else at_place r.kind (with_mapping b (translation r b).after) (translation r b).address)
    ≡ reply_by (shape_if odd r b) b
performed true r b = refl
performed false r b =
    placed r.kind (with_mapping b (translation r b).after) (translation r b).address
    ∙ on_io_page (shape_if false r b) b (with_mapping b (translation r b).after).io_page

pub perform_is : (r : Reference) (b : BusWorld) → perform r b ≡ reply_by (shape_of r b) b
unfolding perform shape_of
perform_is r b = performed (is_odd r.kind r.address) r b

touched_at : (kind : Kind) (physical : ℕ) (b : BusWorld) (io_page : IoPage) (slave : Slave)
    → touch_at (access_of kind) b slave ≡ touches_by (shape_at kind physical b.turn (length b.drives) io_page slave) b
touched_at ReadWord physical b io_page (Core k) = refl
touched_at ReadWord physical b io_page (Device r) = refl
touched_at ReadByte physical b io_page (Core k) = refl
touched_at ReadByte physical b io_page (Device r) = refl
touched_at (WriteWord word) physical b io_page (Core k) = refl
touched_at (WriteWord word) physical b io_page (Device r) = refl
touched_at (WriteByte byte) physical b io_page (Core k) = refl
touched_at (WriteByte byte) physical b io_page (Device r) = refl
touched_at ReadWord physical b io_page Nobody = refl
touched_at ReadByte physical b io_page Nobody = refl
touched_at (WriteWord word) physical b io_page Nobody = refl
touched_at (WriteByte byte) physical b io_page Nobody = refl

touched_by : (kind : Kind) (b : BusWorld) (io_page : IoPage) (place : Result ℕ Abort)
    → touches_if_placed kind b place ≡ touches_by (shape_by kind (length b.core) b.turn (length b.drives) io_page place) b
touched_by kind b io_page (Ok physical) = touched_at kind physical b io_page (slave_at (length b.core) physical)
touched_by kind b io_page (Err abort) = refl

touched_if : (odd : Bool) (r : Reference) (b : BusWorld)
    → (if odd then [] else touches_if_placed r.kind b (translation r b).address) ≡ touches_by (shape_if odd r b) b
touched_if true r b = refl
touched_if false r b = touched_by r.kind b (with_mapping b (translation r b).after).io_page (translation r b).address

pub touches_is : (r : Reference) (b : BusWorld) → touches r b ≡ touches_by (shape_of r b) b
unfolding touches shape_of
touches_is r b = touched_if (is_odd r.kind r.address) r b

in_core_apart : (kind : Kind) (physical turn drives words : ℕ) (io_page : IoPage) (register : Option Register)
    → InCore words (shape_at kind physical turn drives io_page (device_slave register))
in_core_apart ReadWord physical turn drives words io_page (Some r) = tt
in_core_apart ReadByte physical turn drives words io_page (Some r) = tt
in_core_apart (WriteWord word) physical turn drives words io_page (Some r) = tt
in_core_apart (WriteByte byte) physical turn drives words io_page (Some r) = tt
in_core_apart ReadWord physical turn drives words io_page None = tt
in_core_apart ReadByte physical turn drives words io_page None = tt
in_core_apart (WriteWord word) physical turn drives words io_page None = tt
in_core_apart (WriteByte byte) physical turn drives words io_page None = tt

in_core_at : (kind : Kind) (physical turn drives words : ℕ) (io_page : IoPage) (below : Bool) → nat_lt (physical / 2) words ≡ below
    → InCore words (shape_at kind physical turn drives io_page (if below then Core (physical / 2) else device_slave (register_at physical)))
in_core_at ReadWord physical turn drives words io_page true is = ltb-true _ _ is
in_core_at ReadByte physical turn drives words io_page true is = ltb-true _ _ is
in_core_at (WriteWord word) physical turn drives words io_page true is = ltb-true _ _ is
in_core_at (WriteByte byte) physical turn drives words io_page true is = ltb-true _ _ is
in_core_at kind physical turn drives words io_page false is = in_core_apart kind physical turn drives words io_page (register_at physical)

in_core_by : (kind : Kind) (words turn drives : ℕ) (io_page : IoPage) (place : Result ℕ Abort) → InCore words (shape_by kind words turn drives io_page place)
in_core_by kind words turn drives io_page (Ok physical) = in_core_at kind physical turn drives words io_page _ refl
in_core_by kind words turn drives io_page (Err abort) = tt

in_core_if : (odd : Bool) (r : Reference) (b : BusWorld) → InCore (length b.core) (shape_if odd r b)
in_core_if true r b = tt
in_core_if false r b =
    in_core_by r.kind (length b.core) b.turn (length b.drives) (with_mapping b (translation r b).after).io_page (translation r b).address

pub shape_in_core : (r : Reference) (b : BusWorld) → InCore (length b.core) (shape_of r b)
unfolding shape_of
shape_in_core r b = in_core_if (is_odd r.kind r.address) r b

-- the same words elsewhere, and so many words in it
same_core : (part : Part) (b : BusWorld) (words : List ℕ) → length words ≡ length (words_of_part part b)
    → length (core_with part words b.core) ≡ length b.core
same_core parts.Core b words same = same
same_core (parts.Drive number) b words same = refl

same_drives : (part : Part) (b : BusWorld) (words : List ℕ) → length (drives_with part words b.drives) ≡ length b.drives
same_drives parts.Core b words = refl
same_drives (parts.Drive number) b words = length-set b.drives number words

alike_if : (odd : Bool) (part : Part) (r : Reference) (b : BusWorld) (words : List ℕ) → length words ≡ length (words_of_part part b)
    → shape_if odd r (bus_with_words part words b) ≡ shape_if odd r b
alike_if true part r b words same = refl
alike_if false part r b words same = rw (same_core part b words same, same_drives part b words) refl

-- a shape depends on the length of core and on the number of drives, and on no word of them
pub shape_alike : (part : Part) (r : Reference) (b : BusWorld) (words : List ℕ) → length words ≡ length (words_of_part part b)
    → shape_of r (bus_with_words part words b) ≡ shape_of r b
unfolding shape_of
shape_alike part r b words same = alike_if (is_odd r.kind r.address) part r b words same
