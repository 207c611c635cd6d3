-- The cycles that a phase runs on the bus. A write leaves each word of core that they don't write.
use Rattle.std.proofs.Common.{◌≡◌, ◌∙◌, ℕ, ◌*◌, ◌/◌, ◌<◌, ◌==◌, Bool, true, false, List, [], ◌∷◌, ◌++◌, Option, Some, None, Ok, Err, Result, refl, sym, ap, arith, append_assoc, length, nat_lt, slice_index, true≢false, if◌then◌else◌}
use Rattle.std.proofs.lemmas.Bool.{eqb-true, lt-ltb}
use Rattle.pdp_word.specs.Physical.{first_register}
use Rattle.pdp_word.specs.declared.size.Size.{Size}
use Rattle.pdp_word.specs.declared.size.Size.TheVariants.{Word, Byte}
use Rattle.pdp_kt11.specs.declared.mode.Mode.{Mode}
use Rattle.pdp_kt11.specs.declared.place.Abort.{Abort}
use Rattle.pdp_console.specs.declared.kl.KlRegister.TheVariants.{KeyboardStatus, KeyboardBuffer, PrinterStatus, PrinterBuffer}
use Rattle.pdp_tape.specs.declared.pc11.Pc11Register.TheVariants.{ReaderStatus, ReaderBuffer, PunchStatus, PunchBuffer}
use Rattle.pdp_store.specs.declared.cycle_log.BusCycle.{BusCycle}
use Rattle.pdp_io_page.specs.Handbook.Register.{register_at}
use Rattle.pdp_io_page.specs.declared.io_page.IoPage.{IoPage}
use Rattle.pdp_io_page.specs.declared.register.Register.{Register}
use Rattle.pdp_io_page.specs.declared.register.Register.TheVariants as register
use Rattle.pdp_unibus.specs.Handbook.BusWorld.{BusWorld, with_mapping}
use Rattle.pdp_unibus.specs.Handbook.Cycle.{Core, device_slave, told_byte_write, told_read, told_write}
use Rattle.pdp_operand.specs.Handbook.Reference.{Reference, Reply, is_odd, reference_to, translation}
use Rattle.pdp_operand.specs.Phases.Phase.{Phase, State, Stop, Request, Nothing, Ask, Raise, after_reply, by_request, inner_of}
use Rattle.pdp_operand.proofs.Shape.{Shape, perform_is, reply_by, shape_at, shape_by, shape_if, shape_of}
use Rattle.pdp_operand.proofs.Shape.Shape.{Apart, Looked, Wrote}
use Rattle.pdp_made.specs.Cells.{Half, Low, High, DataCell, CoreByte}
use Rattle.pdp_made.specs.ReferenceRows.{Halves, changed_by_reference, changed_if_placed, core_changed, device_changed, halves_put, slave_changed}
use Rattle.pdp_made.proofs.Writings.{put_kind}
use Rattle.pdp_moves.specs.Moves.{is_cell_among}
use Rattle.pdp_turn_moves.specs.ActMoves.{both_halves_of, cells_of_cycle, cells_written}

-- the cycle of a reference, if it has one
abbrev pub cycles_told : Shape → BusWorld → List BusCycle
cycles_told (Apart None io_page value) b = []
cycles_told (Apart (Some cycle) io_page value) b = cycle ∷ []
cycles_told (Looked io_page f k) b = told_read (k * 2) (Some (slice_index b.core k)) ∷ []
cycles_told (Wrote cycle io_page told f k) b = cycle ∷ []

abbrev pub cycles_of_request : Request → BusWorld → List BusCycle
cycles_of_request Nothing b = []
cycles_of_request (Raise trap) b = []
cycles_of_request (Ask r) b = cycles_told (shape_of r b) b

-- and of a phase
abbrev pub cycles_of_phase : Phase → State → List BusCycle
cycles_of_phase p s = cycles_of_request (p.request (inner_of s)) s.world.bus

-- no cycle of these wrote this half of a word of core
abbrev pub Spares : List BusCycle → ℕ → Half → Type 0
Spares cycles k half = is_cell_among (cells_written cycles) (CoreByte k half) ≡ false

among_next : (same : Bool) (xs ys : List DataCell) (c : DataCell) → (if same then true else is_cell_among (xs ++ ys) c) ≡ false
    → (is_cell_among (xs ++ ys) c ≡ false → (is_cell_among xs c ≡ false) × (is_cell_among ys c ≡ false))
    → ((if same then true else is_cell_among xs c) ≡ false) × (is_cell_among ys c ≡ false)
among_next true xs ys c misses rest = absurd (true≢false misses)
among_next false xs ys c misses rest = rest misses

among_split : (xs ys : List DataCell) (c : DataCell) → is_cell_among (xs ++ ys) c ≡ false → (is_cell_among xs c ≡ false) × (is_cell_among ys c ≡ false)
among_split [] ys c misses = (refl, misses)
among_split (x ∷ xs) ys c misses = among_next _ xs ys c misses (λ other. among_split xs ys c other)

written_append : (xs ys : List BusCycle) → cells_written (xs ++ ys) ≡ cells_written xs ++ cells_written ys
written_append [] ys = refl
written_append (x ∷ xs) ys =
    ap (λ (cells : List DataCell). cells_of_cycle x.kind x.address x.value ++ cells) (written_append xs ys)
    ∙ sym (append_assoc (cells_of_cycle x.kind x.address x.value) (cells_written xs) (cells_written ys))

pub spares_split : (xs ys : List BusCycle) (k : ℕ) (half : Half) → Spares (xs ++ ys) k half → Spares xs k half × Spares ys k half
spares_split xs ys k half spares =
    among_split (cells_written xs) (cells_written ys) (CoreByte k half)
    (sym (ap (λ cells. is_cell_among cells (CoreByte k half)) (written_append xs ys)) ∙ spares)

-- A write to a word of core
both_among : (j k : ℕ) (half : Half) → (k == j) ≡ true → is_cell_among (both_halves_of j ++ []) (CoreByte k half) ≡ true
both_among j k Low is = rw is refl
both_among j k High is = rw is refl

halves : (j : ℕ) → j * 2 / 2 ≡ j
halves j = omega arith

word_among : (j k value : ℕ) (half : Half) → (k == j) ≡ true → k * 2 < first_register
    → is_cell_among (cells_written (told_write (j * 2) (Some value) ∷ [])) (CoreByte k half) ≡ true
word_among j k value half is below =
    let same : k ≡ j = eqb-true k j is in
    let low : j * 2 < first_register = rw (← same) below in
    rw (lt-ltb (j * 2) first_register low, halves j) (both_among j k half is)

byte_among : (physical k value : ℕ) (half : Half) → (k == physical / 2) ≡ true → k * 2 < first_register
    → is_cell_among (cells_written (told_byte_write physical (Some value) ∷ [])) (CoreByte k half) ≡ true
byte_among physical k value half is below =
    let same : k ≡ physical / 2 = eqb-true k (physical / 2) is in
    let low : physical < first_register = omega (arith, same, below) in
    rw (lt-ltb physical first_register low) (both_among (physical / 2) k half is)

-- the word that is written is another
module _ (put : List DataCell) (cycles : List BusCycle) (k j : ℕ) (half : Half) (among : (k == j) ≡ true → is_cell_among (cells_written cycles) (CoreByte k half) ≡ true) where
  other_left : (same : Bool) → (k == j) ≡ same → Spares cycles k half → (if same then put else CoreByte k half ∷ []) ≡ CoreByte k half ∷ []
  other_left true is spares = absurd (true≢false (sym (among is) ∙ spares))
  other_left false is spares = refl

module _ (value : ℕ) (b : BusWorld) (io_page : IoPage) (from : Halves) (k : ℕ) (half : Half) (below : k * 2 < first_register) where
  core_left : (size : Size) (physical : ℕ) → Spares (cycles_told (shape_at (put_kind size value) physical b.turn (length b.drives) io_page (Core (physical / 2))) b) k half
      → core_changed size physical (physical / 2) from (CoreByte k half) ≡ CoreByte k half ∷ []
  core_left Word physical spares = other_left (from half) (told_write (physical / 2 * 2) (Some value) ∷ []) k (physical / 2) half (λ is. word_among (physical / 2) k value half is below) (k == physical / 2) refl spares
  core_left Byte physical spares = other_left (halves_put Byte physical (λ other. CoreByte (physical / 2) other ∷ []) from half) (told_byte_write physical (Some value) ∷ []) k (physical / 2) half (λ is. byte_among physical k value half is below) (k == physical / 2) refl spares

  -- to a register
  device_left : (size : Size) (physical : ℕ) (r : Register) → device_changed size physical r from (CoreByte k half) ≡ CoreByte k half ∷ []
  device_left size physical register.ProgramStatus = refl
  device_left size physical (register.Console KeyboardStatus) = refl
  device_left size physical (register.Console KeyboardBuffer) = refl
  device_left size physical (register.Console PrinterStatus) = refl
  device_left size physical (register.Console PrinterBuffer) = refl
  device_left size physical register.Clock = refl
  device_left size physical (register.PaperTape ReaderStatus) = refl
  device_left size physical (register.PaperTape ReaderBuffer) = refl
  device_left size physical (register.PaperTape PunchStatus) = refl
  device_left size physical (register.PaperTape PunchBuffer) = refl
  device_left size physical (register.Disk number) = refl
  device_left size physical register.Switches = refl
  device_left size physical (register.Mapping number) = refl

  apart_left : (size : Size) (physical : ℕ) (r : Option Register) → slave_changed size physical (device_slave r) from (CoreByte k half) ≡ CoreByte k half ∷ []
  apart_left size physical (Some r) = device_left size physical r
  apart_left size physical None = refl

  slave_left : (size : Size) (physical : ℕ) (in_core : Bool)
      → Spares (cycles_told (shape_at (put_kind size value) physical b.turn (length b.drives) io_page (if in_core then Core (physical / 2) else device_slave (register_at physical))) b) k half
      → slave_changed size physical (if in_core then Core (physical / 2) else device_slave (register_at physical)) from (CoreByte k half) ≡ CoreByte k half ∷ []
  slave_left size physical true spares = core_left size physical spares
  slave_left size physical false spares = apart_left size physical (register_at physical)

  placed_left : (size : Size) (place : Result ℕ Abort) → Spares (cycles_told (shape_by (put_kind size value) (length b.core) b.turn (length b.drives) io_page place) b) k half
      → changed_if_placed size b place from (CoreByte k half) ≡ CoreByte k half ∷ []
  placed_left size (Ok physical) spares = slave_left size physical (nat_lt (physical / 2) (length b.core)) spares
  placed_left size (Err abort) spares = refl

-- what a phase makes a cell of: a phase that can't go on changes no data
abbrev pub left_by : (DataCell → List DataCell) → Result State Stop → DataCell → List DataCell
left_by made (Ok t) c = made c
left_by made (Err stop) c = c ∷ []

pub left_so : (made : DataCell → List DataCell) (c : DataCell) → made c ≡ c ∷ [] → (one : Result State Stop) → left_by made one c ≡ c ∷ []
left_so made c same (Ok t) = same
left_so made c same (Err stop) = refl

-- A reference that writes
module _ (mode : Mode) (address value : ℕ) (p : Phase) (s : State) (from : Halves) (k : ℕ) (half : Half) (below : k * 2 < first_register) where
  abbrev writing_at : Size → Reference
  writing_at size = reference_to mode (put_kind size value) address

  odd_left : (size : Size) (odd : Bool) → Spares (cycles_told (shape_if odd (writing_at size) s.world.bus) s.world.bus) k half
      → left_by (changed_by_reference size mode address s.world.bus from) (after_reply p s (reply_by (shape_if odd (writing_at size) s.world.bus) s.world.bus)) (CoreByte k half) ≡ CoreByte k half ∷ []
  odd_left size true spares = refl
  odd_left Word false spares =
      left_so (changed_by_reference Word mode address s.world.bus from) (CoreByte k half)
      (placed_left value s.world.bus (with_mapping s.world.bus (translation (writing_at Word) s.world.bus).after).io_page from k half below Word (translation (writing_at Word) s.world.bus).address spares)
      (after_reply p s (reply_by (shape_if false (writing_at Word) s.world.bus) s.world.bus))
  odd_left Byte false spares =
      left_so (changed_by_reference Byte mode address s.world.bus from) (CoreByte k half)
      (placed_left value s.world.bus (with_mapping s.world.bus (translation (writing_at Byte) s.world.bus).after).io_page from k half below Byte (translation (writing_at Byte) s.world.bus).address spares)
      (after_reply p s (reply_by (shape_if false (writing_at Byte) s.world.bus) s.world.bus))

  pub reference_left : (size : Size) → Spares (cycles_of_request (Ask (writing_at size)) s.world.bus) k half
      → left_by (changed_by_reference size mode address s.world.bus from) (by_request p s (Ask (writing_at size))) (CoreByte k half) ≡ CoreByte k half ∷ []
  unfolding shape_of
  reference_left size spares =
      ap (λ (reply : Reply). left_by (changed_by_reference size mode address s.world.bus from) (after_reply p s reply) (CoreByte k half)) (perform_is (writing_at size) s.world.bus)
      ∙ odd_left size (is_odd (writing_at size).kind (writing_at size).address) spares
