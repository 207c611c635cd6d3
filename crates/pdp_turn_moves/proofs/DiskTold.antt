-- What the disk moves in the beginning of a turn.
use Rattle.std.proofs.Common.{◌≡◌, ◌∙◌, ℕ, zero, suc, ◌+◌, ◌-◌, ◌==◌, ◌&&◌, ◌||◌, Bool, true, false, List, [], ◌∷◌, Option, Some, None, map, length, nat_le, nat_lt, refl, sym, ap, true≢false, if◌then◌else◌}
use Rattle.pdp_device.specs.Operation.{is_due, is_under_way}
use Rattle.pdp_device.specs.declared.operation.Operation.{Operation}
use Rattle.pdp_rk11.specs.CompletionMoves.{completion_moves, function_moves, moves_unless_refused}
use Rattle.pdp_rk11.specs.Handbook.Completion.{DiskWorld, refusal, rk_completed}
use Rattle.pdp_rk11.specs.Handbook.Geometry.{drive_in}
use Rattle.pdp_rk11.specs.Handbook.Transfer.{core_word, disk_word, rest_of_sector}
use Rattle.pdp_rk11.specs.Laws.{transfer_in}
use Rattle.pdp_rk11.specs.Moves.{item_after}
use Rattle.pdp_rk11.specs.declared.failure.Failure.{Failure}
use Rattle.pdp_rk11.specs.declared.function.Function.{Function}
use Rattle.pdp_rk11.specs.declared.function.Function.TheVariants.{Write, Read}
use Rattle.pdp_rk11.specs.declared.transfer.Transfer.{Transfer}
use Rattle.pdp_rk11.proofs.Readiness.{completed_idle, completed_operation}
use Rattle.pdp_unibus.specs.Handbook.Beginning.{Progress, after_event}
use Rattle.pdp_unibus.specs.Handbook.BusWorld.{BusWorld, disk_world_of}
use Rattle.pdp_unibus.specs.declared.event.Event.{Event}
use Rattle.pdp_unibus.specs.declared.event.Event.TheVariants as event
use Rattle.pdp_made.specs.Cells.{Half, DataCell, DeviceBuffer, CoreByte, DriveByte, Buffer, Keyboard, Reader, Switches, TapeByte}
use Rattle.pdp_made_run.specs.BeginningRows.{made_by_disk, made_by_event, made_if}
use Rattle.pdp_made_run.specs.DiskRows.{core_moved, drive_written, item_after_all, made_by_completion, made_by_function, made_unless_refused}
use Rattle.pdp_made_run.specs.Origins.{Held, Origin, still_held}
use Rattle.pdp_turn_moves.specs.Beginnings.{disk_moved, disk_told, ends_function}
use Rattle.pdp_turn_moves.proofs.Ends.{AllHeld}

-- all cells but the buffers of the keyboard, of the reader and of the switches
abbrev pub IsPlain : DataCell → Type 0
IsPlain (Buffer Keyboard) = ⊥
IsPlain (Buffer Reader) = ⊥
IsPlain (Buffer Switches) = ⊥
IsPlain c = Unit {0}

abbrev pub AllPlain : List DataCell → Type 0
AllPlain [] = Unit {0}
AllPlain (c ∷ cs) = IsPlain c × AllPlain cs

held_plain : (cs : List DataCell) → AllPlain cs → AllHeld IsPlain (map Held cs)
held_plain [] all = tt
held_plain (c ∷ cs) all = (all.0, held_plain cs all.1)

-- the disk makes plain cells of plain cells
plain_by : (top : Bool) (new old : List DataCell) → AllPlain new → AllPlain old → AllPlain (if top then new else old)
plain_by true new old this other = this
plain_by false new old this other = other

plain_last : (item n : ℕ) (cells : ℕ → List DataCell) (k : ℕ) (old : List DataCell) → ((i : ℕ) → AllPlain (cells i)) → AllPlain old
    → AllPlain (item_after_all item n cells k old)
plain_last item zero cells k old each all = all
plain_last item (suc n) cells k old each all = plain_by (k == item) (cells n) old (each n) all

plain_after : (first n : ℕ) (cells : ℕ → List DataCell) (k : ℕ) (old : List DataCell) → ((i : ℕ) → AllPlain (cells i)) → AllPlain old
    → AllPlain (item_after first n cells k old)
plain_after first n cells k old each all = plain_by (nat_le first k && nat_lt k (first + n)) (cells (k - first)) old (each (k - first)) all

plain_core : (t : Transfer) (number k : ℕ) (half : Half) → AllPlain (core_moved t number k half)
plain_core t number k half =
    plain_by t.no_increment
    (item_after_all t.core_start t.count (λ i. DriveByte number (disk_word t i) half ∷ []) k (CoreByte k half ∷ []))
    (item_after t.core_start t.count (λ i. DriveByte number (disk_word t i) half ∷ []) k (CoreByte k half ∷ []))
    (plain_last t.core_start t.count (λ i. DriveByte number (disk_word t i) half ∷ []) k (CoreByte k half ∷ []) (λ i. (tt, tt)) (tt, tt))
    (plain_after t.core_start t.count (λ i. DriveByte number (disk_word t i) half ∷ []) k (CoreByte k half ∷ []) (λ i. (tt, tt)) (tt, tt))

plain_drive : (t : Transfer) (number k : ℕ) (half : Half) → AllPlain (drive_written t number k half)
plain_drive t number k half =
    plain_after (disk_word t t.count) (rest_of_sector t) (λ i. []) k
    (item_after t.disk_start t.count (λ i. CoreByte (core_word t i) half ∷ []) k (DriveByte number k half ∷ []))
    (λ i. tt)
    (plain_after t.disk_start t.count (λ i. CoreByte (core_word t i) half ∷ []) k (DriveByte number k half ∷ []) (λ i. (tt, tt)) (tt, tt))

plain_function : (f : Function) (t : Transfer) (number : ℕ) (c : DataCell) → IsPlain c → AllPlain (made_by_function f t number c)
plain_function Read t number (CoreByte k half) plain = plain_core t number k half
plain_function Write t number (DriveByte n k half) plain =
    plain_by (n == number) (drive_written t number k half) (DriveByte n k half ∷ []) (plain_drive t number k half) (tt, tt)
plain_function _ t number c plain = (plain, tt)

plain_unless : (refused : Option Failure) (w : DiskWorld) (c : DataCell) → IsPlain c → AllPlain (made_unless_refused refused w c)
plain_unless (Some failure) w c plain = (plain, tt)
plain_unless None w c plain = plain_function w.rk.function (transfer_in w) (drive_in w.rk.disk_address) c plain

plain_completion : (w : DiskWorld) (c : DataCell) → IsPlain c → AllPlain (made_by_completion w c)
plain_completion w c plain =
    plain_by (is_under_way w.rk.operation) (made_unless_refused (refusal w.rk (length w.drives)) w c) (c ∷ [])
    (plain_unless (refusal w.rk (length w.drives)) w c plain) (plain, tt)

-- what the disk makes, of its own world
abbrev pub moved_by : DiskWorld → DataCell → List Origin
moved_by w c = map Held (made_by_completion w c)

abbrev pub operation_of : DiskWorld → Operation
operation_of w = w.rk.operation

pub closed : (w : DiskWorld) (c : DataCell) → IsPlain c → AllHeld IsPlain (moved_by w c)
closed w c plain = held_plain (made_by_completion w c) (plain_completion w c plain)

pub idle : (w : DiskWorld) → is_under_way (operation_of w) ≡ false → (c : DataCell) → IsPlain c → moved_by w c ≡ still_held c
idle w none c plain = ap (λ busy. map Held (if busy then made_unless_refused (refusal w.rk (length w.drives)) w c else c ∷ [])) none

-- a function leaves all buffers, and the tape
buffer_by : (f : Function) (t : Transfer) (number : ℕ) (buffer : DeviceBuffer) → made_by_function f t number (Buffer buffer) ≡ Buffer buffer ∷ []
buffer_by Read t number buffer = refl
buffer_by Write t number buffer = refl
buffer_by _ t number buffer = refl

tape_by : (f : Function) (t : Transfer) (number k : ℕ) → made_by_function f t number (TapeByte k) ≡ TapeByte k ∷ []
tape_by Read t number k = refl
tape_by Write t number k = refl
tape_by _ t number k = refl

left_by : (busy : Bool) (refused : Option Failure) (w : DiskWorld) (c : DataCell) → made_by_function w.rk.function (transfer_in w) (drive_in w.rk.disk_address) c ≡ c ∷ []
    → map Held (if busy then made_unless_refused refused w c else c ∷ []) ≡ still_held c
left_by true (Some failure) w c left = refl
left_by true None w c left = ap (λ cs. map Held cs) left
left_by false refused w c left = refl

pub buffer_left : (b : BusWorld) (buffer : DeviceBuffer) → made_by_disk b (Buffer buffer) ≡ still_held (Buffer buffer)
buffer_left b buffer =
    let w = disk_world_of b in
    left_by (is_under_way w.rk.operation) (refusal w.rk (length w.drives)) w (Buffer buffer)
    (buffer_by w.rk.function (transfer_in w) (drive_in w.rk.disk_address) buffer)

pub tape_left : (b : BusWorld) (k : ℕ) → made_by_disk b (TapeByte k) ≡ still_held (TapeByte k)
tape_left b k =
    let w = disk_world_of b in
    left_by (is_under_way w.rk.operation) (refusal w.rk (length w.drives)) w (TapeByte k)
    (tape_by w.rk.function (transfer_in w) (drive_in w.rk.disk_address) k)

-- other events leave plain cells, and what the disk sees
pub others : (e : Event) → ends_function e ≡ false → (own : Origin) (b : BusWorld) (c : DataCell) → IsPlain c → made_by_event e own b c ≡ still_held c
others event.DiskDone is own b c plain = absurd (true≢false is)
others (event.Key key) is own b (Buffer Keyboard) plain = absurd plain
others (event.Key key) is own b (Buffer Reader) plain = absurd plain
others (event.Key key) is own b (Buffer Switches) plain = absurd plain
others (event.Key key) is own b c plain = refl
others (event.Switches word) is own b (Buffer Keyboard) plain = absurd plain
others (event.Switches word) is own b (Buffer Reader) plain = absurd plain
others (event.Switches word) is own b (Buffer Switches) plain = absurd plain
others (event.Switches word) is own b c plain = refl
others event.ReaderDone is own b (Buffer Keyboard) plain = absurd plain
others event.ReaderDone is own b (Buffer Reader) plain = absurd plain
others event.ReaderDone is own b (Buffer Switches) plain = absurd plain
others event.ReaderDone is own b c plain = refl
others _ is own b c plain = refl

pub done : (e : Event) → ends_function e ≡ true → (own : Origin) (b : BusWorld) (c : DataCell) → IsPlain c → made_by_event e own b c ≡ moved_by (disk_world_of b) c
done event.DiskDone is own b c plain = refl
done _ is own b c plain = absurd (true≢false (sym is))

pub kept : (e : Event) → ends_function e ≡ false → (p : Progress) → disk_world_of (after_event e p).bus ≡ disk_world_of p.bus
kept event.DiskDone is p = absurd (true≢false is)
kept _ is p = refl

completed : (busy : Bool) (turn : ℕ) (w : DiskWorld) → is_under_way w.rk.operation ≡ busy → is_under_way (rk_completed turn w).rk.operation ≡ false
completed true turn w is = ap (λ o. is_under_way o) (completed_operation turn w is)
completed false turn w is = ap (λ (v : DiskWorld). is_under_way v.rk.operation) (completed_idle turn w is) ∙ is

pub ended : (e : Event) → ends_function e ≡ true → (p : Progress) → is_under_way (operation_of (disk_world_of (after_event e p).bus)) ≡ false
ended event.DiskDone is p = completed (is_under_way p.bus.io_page.disk.operation) p.bus.turn (disk_world_of p.bus) refl
ended _ is p = absurd (true≢false (sym is))

-- what is told of the disk's moves
function_told : (f : Function) (w : DiskWorld) (c : DataCell) → w.rk.function ≡ f
    → disk_told (function_moves f w) c ≡ made_by_function f (transfer_in w) (drive_in w.rk.disk_address) c
function_told Read w c is = ap (λ f. made_by_function f (transfer_in w) (drive_in w.rk.disk_address) c) is
function_told Write w c is = ap (λ f. made_by_function f (transfer_in w) (drive_in w.rk.disk_address) c) is
function_told _ w c is = refl

refusal_told : (refused : Option Failure) (w : DiskWorld) (c : DataCell) → disk_told (moves_unless_refused refused w) c ≡ made_unless_refused refused w c
refusal_told (Some failure) w c = refl
refusal_told None w c = function_told w.rk.function w c refl

busy_told : (busy : Bool) (refused : Option Failure) (w : DiskWorld) (c : DataCell)
    → disk_told (if busy then moves_unless_refused refused w else None) c ≡ (if busy then made_unless_refused refused w c else c ∷ [])
busy_told true refused w c = refusal_told refused w c
busy_told false refused w c = refl

completion_told : (w : DiskWorld) (c : DataCell) → disk_told (completion_moves w) c ≡ made_by_completion w c
unfolding completion_moves
completion_told w c = busy_told (is_under_way w.rk.operation) (refusal w.rk (length w.drives)) w c

told_if : (now : Bool) (w : DiskWorld) (c : DataCell) → map Held (disk_told (if now then completion_moves w else None) c) ≡ made_if now (moved_by w) c
told_if true w c = ap (λ cs. map Held cs) (completion_told w c)
told_if false w c = refl

pub disk_is_told : (t : ℕ) (done : Bool) (b : BusWorld) (c : DataCell)
    → map Held (disk_told (disk_moved t done b) c) ≡ made_if (done || is_due t b.io_page.disk.operation) (moved_by (disk_world_of b)) c
disk_is_told t done b c = told_if (done || is_due t b.io_page.disk.operation) (disk_world_of b) c
