-- The moves of writes.
use Rattle.std.proofs.Common.{◌≡◌, ◌∙◌, ℕ, ◌==◌, Bool, true, false, List, [], ◌∷◌, Result, Ok, Err, length, refl, append-nil}
use Rattle.pdp_word.specs.declared.size.Size.{Size}
use Rattle.pdp_kt11.specs.declared.mode.Mode.{Mode}
use Rattle.pdp_kt11.specs.declared.place.Abort.{Abort}
use Rattle.pdp_console.specs.declared.kl.KlRegister.TheVariants.{PrinterBuffer}
use Rattle.pdp_tape.specs.declared.pc11.Pc11Register.TheVariants.{ReaderStatus, PunchBuffer}
use Rattle.pdp_io_page.specs.declared.register.Register.{Register}
use Rattle.pdp_io_page.specs.declared.register.Register.TheVariants as register
use Rattle.pdp_unibus.specs.Handbook.BusWorld.{BusWorld}
use Rattle.pdp_unibus.specs.Handbook.Cycle.{Slave, Core, Device, Nobody, slave_at}
use Rattle.pdp_operand.specs.Handbook.Operand.{size_of_fill}
use Rattle.pdp_operand.specs.Phases.Phase.{State}
use Rattle.pdp_operand.specs.declared.place.Fill.{Fill}
use Rattle.pdp_operand.specs.declared.place.Place.{Place}
use Rattle.pdp_operand.specs.declared.place.Place.TheVariants.{Reg, Mem}
use Rattle.pdp_made.specs.Cells.{Negative, Zero, Overflow, Carry, Printer, Reader, Punch}
use Rattle.pdp_made.specs.Cells.{DataCell, CoreByte, CodeNow, Buffer}
use Rattle.pdp_made.specs.OperandRows.{changed_by_write, halves_of_result}
use Rattle.pdp_made.specs.PhaseRows.{of_itself}
use Rattle.pdp_made.specs.ReferenceRows.{Halves, buffer_put, changed_by_reference, changed_if_placed, each_code, halves_filled, halves_of, halves_put, of_nothing, place_of_write, slave_changed, whole_of}
use Rattle.pdp_moves.specs.Built.{operand_moves, slave_moves, write_moves}
use Rattle.pdp_moves.specs.Moves.{AreMoves, is_cell_among, move_to}
use Rattle.pdp_moves.proofs.Same.{same_number}
use Rattle.pdp_moves.proofs.RowMoves.{alike, both, by, nothing_moves, of_both, of_codes, other_at, registers_move}

-- a row that changes core, the codes and buffers alone
abbrev limited : (DataCell → List DataCell) → DataCell → List DataCell
limited made (CoreByte k half) = made (CoreByte k half)
limited made (CodeNow code) = made (CodeNow code)
limited made (Buffer buffer) = made (Buffer buffer)
limited made c = c ∷ []

module _ (size : Size) (physical : ℕ) (from : Halves) where
  abbrev changed : Slave → DataCell → List DataCell
  changed slave = limited (slave_changed size physical slave from)

  core : (k : ℕ) → AreMoves (changed (Core k)) (slave_moves size physical (Core k) from)
  core k = by (changed (Core k)) (both (λ half. CoreByte k half)) (record { others = others; distinct = (refl, (refl, tt)) })
      (of_both (changed (Core k)) (λ half. CoreByte k half) ∙ rw (same_number k) refl)
    where
      others : (c : DataCell) → is_cell_among (both (λ half. CoreByte k half)) c ≡ false → changed (Core k) c ≡ c ∷ []
      others (CoreByte n half) is = rw (other_at half (n == k) is) refl
      others c is = refl

  status : AreMoves (changed (Device register.ProgramStatus)) (slave_moves size physical (Device register.ProgramStatus) from)
  status = by (changed (Device register.ProgramStatus)) (each_code CodeNow) (record { others = others; distinct = (refl, (refl, (refl, (refl, tt)))) })
      (of_codes (changed (Device register.ProgramStatus)) CodeNow)
    where
      others : (c : DataCell) → is_cell_among (each_code CodeNow) c ≡ false → changed (Device register.ProgramStatus) c ≡ c ∷ []
      others (CodeNow Negative) is = absurd (cc is)
      others (CodeNow Zero) is = absurd (cc is)
      others (CodeNow Overflow) is = absurd (cc is)
      others (CodeNow Carry) is = absurd (cc is)
      others c is = refl

  printer : AreMoves (changed (Device (register.Console PrinterBuffer))) (slave_moves size physical (Device (register.Console PrinterBuffer)) from)
  printer = by (changed (Device (register.Console PrinterBuffer))) (Buffer Printer ∷ []) (record { others = others; distinct = (refl, tt) })
      (append-nil (move_to (Buffer Printer) (buffer_put size physical (Buffer Printer) from)))
    where
      others : (c : DataCell) → is_cell_among (Buffer Printer ∷ []) c ≡ false → changed (Device (register.Console PrinterBuffer)) c ≡ c ∷ []
      others (Buffer Printer) is = absurd (cc is)
      others c is = refl

  punch : AreMoves (changed (Device (register.PaperTape PunchBuffer))) (slave_moves size physical (Device (register.PaperTape PunchBuffer)) from)
  punch = by (changed (Device (register.PaperTape PunchBuffer))) (Buffer Punch ∷ []) (record { others = others; distinct = (refl, tt) })
      (append-nil (move_to (Buffer Punch) (buffer_put size physical (Buffer Punch) from)))
    where
      others : (c : DataCell) → is_cell_among (Buffer Punch ∷ []) c ≡ false → changed (Device (register.PaperTape PunchBuffer)) c ≡ c ∷ []
      others (Buffer Punch) is = absurd (cc is)
      others c is = refl

  reader : AreMoves (changed (Device (register.PaperTape ReaderStatus))) (slave_moves size physical (Device (register.PaperTape ReaderStatus)) from)
  reader = by (changed (Device (register.PaperTape ReaderStatus))) (Buffer Reader ∷ []) (record { others = others; distinct = (refl, tt) })
      (append-nil (move_to (Buffer Reader) (Buffer Reader ∷ whole_of (halves_put size physical of_nothing from))))
    where
      others : (c : DataCell) → is_cell_among (Buffer Reader ∷ []) c ≡ false → changed (Device (register.PaperTape ReaderStatus)) c ≡ c ∷ []
      others (Buffer Reader) is = absurd (cc is)
      others c is = refl

  -- nothing else is data
  still : (slave : Slave) → ((c : DataCell) → c ∷ [] ≡ changed slave c) → AreMoves (changed slave) []
  still slave same = alike of_itself (changed slave) [] nothing_moves same

  abbrev is_quiet : Register → Bool
  is_quiet register.ProgramStatus = false
  is_quiet (register.Console PrinterBuffer) = false
  is_quiet (register.PaperTape PunchBuffer) = false
  is_quiet (register.PaperTape ReaderStatus) = false
  is_quiet r = true

  quiet : (r : Register) → is_quiet r ≡ true → (c : DataCell) → c ∷ [] ≡ changed (Device r) c
  quiet register.ProgramStatus is c = absurd (cc is)
  quiet (register.Console PrinterBuffer) is c = absurd (cc is)
  quiet (register.PaperTape PunchBuffer) is c = absurd (cc is)
  quiet (register.PaperTape ReaderStatus) is c = absurd (cc is)
  quiet r is (CoreByte k half) = refl
  quiet r is (CodeNow code) = refl
  quiet r is (Buffer buffer) = refl
  quiet r is c = refl

  devices : (r : Register) → AreMoves (changed (Device r)) (slave_moves size physical (Device r) from)
  devices register.ProgramStatus = status
  devices (register.Console PrinterBuffer) = printer
  devices (register.PaperTape PunchBuffer) = punch
  devices (register.PaperTape ReaderStatus) = reader
  devices r = still (Device r) (quiet r refl)

  slaves : (slave : Slave) → AreMoves (changed slave) (slave_moves size physical slave from)
  slaves (Core k) = core k
  slaves (Device r) = devices r
  slaves Nobody = still Nobody same
    where
      same : (c : DataCell) → c ∷ [] ≡ changed Nobody c
      same (CoreByte k half) = refl
      same (CodeNow code) = refl
      same (Buffer buffer) = refl
      same c = refl

placed : (size : Size) (b : BusWorld) (from : Halves) (place : Result ℕ Abort)
    → AreMoves (limited (changed_if_placed size b place from)) (write_moves size b place from)
placed size b from (Ok physical) = slaves size physical from (slave_at (length b.core) physical)
placed size b from (Err abort) = alike of_itself (limited (changed_if_placed size b (Err abort) from)) [] nothing_moves same
  where
    same : (c : DataCell) → c ∷ [] ≡ limited (changed_if_placed size b (Err abort) from) c
    same (CoreByte k half) = refl
    same (CodeNow code) = refl
    same (Buffer buffer) = refl
    same c = refl

pub references_move : (size : Size) (mode : Mode) (address : ℕ) (b : BusWorld) (from : Halves)
    → AreMoves (changed_by_reference size mode address b from) (write_moves size b (place_of_write mode address b) from)
references_move size mode address b from =
    alike (limited (changed_if_placed size b (place_of_write mode address b) from)) (changed_by_reference size mode address b from)
    (write_moves size b (place_of_write mode address b) from) (placed size b from (place_of_write mode address b)) same
  where
    same : (c : DataCell) → limited (changed_if_placed size b (place_of_write mode address b) from) c ≡ changed_by_reference size mode address b from c
    same (CoreByte k half) = refl
    same (CodeNow code) = refl
    same (Buffer buffer) = refl
    same c = refl

pub writes_move : (how : Fill) (place : Place) (s : State) → AreMoves (changed_by_write how place s) (operand_moves how place s.world.bus)
writes_move how (Reg id) s = registers_move id (halves_filled how (halves_of id) halves_of_result)
writes_move how (Mem cell) s = references_move (size_of_fill how) cell.mode cell.address s.world.bus halves_of_result
