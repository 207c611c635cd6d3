-- Whether two cells are the same.
use Rattle.std.proofs.Common.{◌≡◌, ℕ, ◌==◌, ◌&&◌, Bool, true, false, refl, ap, eq-eqb}
use Rattle.std.proofs.lemmas.Bool.{eqb-true}
use Rattle.pdp_made.specs.Cells.{Half, Low, High, ConditionCode, Negative, Zero, Overflow, Carry, DeviceBuffer, Keyboard, Printer, Reader, Punch, Switches}
use Rattle.pdp_made.specs.Cells.{DataCell, CoreByte, DriveByte, RegisterByte, CodeNow, Buffer, TapeByte, ValueByte, SourceByte, ResultByte, StatusByte, CodeDue, CodeSaved}
use Rattle.pdp_moves.specs.Moves.{is_half, is_code, is_buffer, is_cell}

both_true : (a b : Bool) → (a && b) ≡ true → (a ≡ true) × (b ≡ true)
both_true true b is = (refl, is)
both_true false b is = absurd (cc is)

half_is : (a b : Half) → is_half a b ≡ true → a ≡ b
half_is Low Low is = refl
half_is High High is = refl
half_is a b is = absurd (cc is)

code_is : (a b : ConditionCode) → is_code a b ≡ true → a ≡ b
code_is Negative Negative is = refl
code_is Zero Zero is = refl
code_is Overflow Overflow is = refl
code_is Carry Carry is = refl
code_is a b is = absurd (cc is)

buffer_is : (a b : DeviceBuffer) → is_buffer a b ≡ true → a ≡ b
buffer_is Keyboard Keyboard is = refl
buffer_is Printer Printer is = refl
buffer_is Reader Reader is = refl
buffer_is Punch Punch is = refl
buffer_is Switches Switches is = refl
buffer_is a b is = absurd (cc is)

pub same_half : (a : Half) → is_half a a ≡ true
same_half Low = refl
same_half High = refl

same_code : (a : ConditionCode) → is_code a a ≡ true
same_code Negative = refl
same_code Zero = refl
same_code Overflow = refl
same_code Carry = refl

same_buffer : (a : DeviceBuffer) → is_buffer a a ≡ true
same_buffer Keyboard = refl
same_buffer Printer = refl
same_buffer Reader = refl
same_buffer Punch = refl
same_buffer Switches = refl

pub same_number : (k : ℕ) → (k == k) ≡ true
same_number k = eq-eqb k k refl

-- a cell is the same as itself
pub same_cell : (c : DataCell) → is_cell c c ≡ true
same_cell (CoreByte k h) = rw (same_half h, same_number k) refl
same_cell (DriveByte d k h) = rw (same_half h, same_number d, same_number k) refl
same_cell (RegisterByte k h) = rw (same_half h, same_number k) refl
same_cell (CodeNow c) = same_code c
same_cell (Buffer b) = same_buffer b
same_cell (TapeByte k) = same_number k
same_cell (ValueByte h) = same_half h
same_cell (SourceByte h) = same_half h
same_cell (ResultByte h) = same_half h
same_cell (StatusByte h) = same_half h
same_cell (CodeDue c) = same_code c
same_cell (CodeSaved c) = same_code c

-- and two cells that are the same are one
pub cell_is : (a b : DataCell) → is_cell a b ≡ true → a ≡ b
cell_is (CoreByte k h) (CoreByte n g) is =
    let both = both_true (is_half h g) (k == n) is in rw (half_is h g both.0, eqb-true k n both.1) refl
cell_is (DriveByte d k h) (DriveByte e n g) is =
    let both = both_true (is_half h g) ((d == e) && (k == n)) is in
    let places = both_true (d == e) (k == n) both.1 in
    rw (half_is h g both.0, eqb-true d e places.0, eqb-true k n places.1) refl
cell_is (RegisterByte k h) (RegisterByte n g) is =
    let both = both_true (is_half h g) (k == n) is in rw (half_is h g both.0, eqb-true k n both.1) refl
cell_is (CodeNow c) (CodeNow d) is = ap CodeNow (code_is c d is)
cell_is (Buffer b) (Buffer c) is = ap Buffer (buffer_is b c is)
cell_is (TapeByte k) (TapeByte n) is = ap TapeByte (eqb-true k n is)
cell_is (ValueByte h) (ValueByte g) is = ap ValueByte (half_is h g is)
cell_is (SourceByte h) (SourceByte g) is = ap SourceByte (half_is h g is)
cell_is (ResultByte h) (ResultByte g) is = ap ResultByte (half_is h g is)
cell_is (StatusByte h) (StatusByte g) is = ap StatusByte (half_is h g is)
cell_is (CodeDue c) (CodeDue d) is = ap CodeDue (code_is c d is)
cell_is (CodeSaved c) (CodeSaved d) is = ap CodeSaved (code_is c d is)
cell_is a b is = absurd (cc is)
