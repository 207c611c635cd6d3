-- An instruction that can't go on leaves the program status word.
use Rattle.std.proofs.Common.{◌≡◌, ℕ, Bool, true, false, [], refl, ◌∙◌, subst, Ok, Err, Result, length, if◌then◌else◌}
use Rattle.pdp_kt11.specs.declared.place.Access.TheVariants.{Read}
use Rattle.pdp_unibus.proofs.Frame.{use_leaves}
use Rattle.pdp_unibus.specs.Handbook.BusWorld.{BusWorld, with_mapping}
use Rattle.pdp_unibus.specs.Handbook.Cycle.{Slave, Core, Device, Nobody, slave_at}
use Rattle.pdp_io_page.specs.Laws.{Reading}
use Rattle.pdp_io_page.specs.Handbook.Register.{after_read}
use Rattle.pdp_io_page.specs.declared.io_page.IoPage.{IoPage}
use Rattle.pdp_io_page.specs.declared.register.Register.{Register}
use Rattle.pdp_io_page.specs.declared.register.Register.TheVariants as register
use Rattle.pdp_io_page.specs.declared.status.Status.{Status}
use Rattle.pdp_decode.specs.declared.instruction.Specifier.{Specifier}
use Rattle.pdp_decode.specs.declared.instruction.Specifier.TheVariants as specifier
use Rattle.pdp_word.specs.declared.size.Size.{Size}
use Rattle.pdp_word.specs.declared.size.Size.TheVariants.{Word, Byte}
use Rattle.pdp_operand.specs.Handbook.Reference.{Kind, ReadWord, ReadByte, WriteWord, WriteByte, Reference, access_of, is_odd, perform, translation}
use Rattle.pdp_kt11.specs.declared.place.Abort.{Abort}
use Rattle.pdp_operand.specs.Phases.Phase.{Phase, Inner, State, Stop, Request, Nothing, Ask, Raise, run, step, and_then, by_request, after_reply, inner_of}
use Rattle.pdp_operand.specs.Phases.Plan.{Plan, ◌▸◌, one, run_plan}
use Rattle.pdp_operand.specs.Handbook.Operand.{find, lower, name_register, point, grow, index, indirect, read_before_write, read_operand, reference_at, reading, mode_now}
use Rattle.pdp_operand.specs.declared.place.Place.{Place}
use Rattle.pdp_operand.specs.declared.place.Place.TheVariants.{Reg, Mem}
use Rattle.pdp_action.specs.declared.trap.Trap.{Trap}
use Rattle.pdp_operand.proofs.Shape.{reply_by, shape_if, shape_of, shape_at, shape_by, perform_is}

abbrev pub status_in : State → Status
status_in s = s.world.bus.io_page.status

-- the program status word is this one if the run stopped; it is, wherever the run ended; the run
-- did not stop
abbrev pub Stops : Status → Result State Stop → Type 0
Stops status (Ok t) = Unit {0}
Stops status (Err stop) = stop.world.bus.io_page.status ≡ status

abbrev pub Ends : Status → Result State Stop → Type 0
Ends status (Ok t) = status_in t ≡ status
Ends status (Err stop) = stop.world.bus.io_page.status ≡ status

abbrev pub Goes : Result State Stop → Type 0
Goes (Ok t) = Unit {0}
Goes (Err stop) = ⊥

-- what each run of a plan does
pub record Safe (plan : Plan) : Type 0 where
  pub at : (s : State) → Stops (status_in s) (run_plan plan s)

pub record Steady (plan : Plan) : Type 0 where
  pub at : (s : State) → Ends (status_in s) (run_plan plan s)

pub record Sure (plan : Plan) : Type 0 where
  pub at : (s : State) → Goes (run_plan plan s)

-- plans one after the other
stops_on : (status : Status) (r : Result State Stop) (next : State → Result State Stop) → Ends status r
    → ((t : State) → Stops (status_in t) (next t)) → Stops status (and_then r next)
stops_on status (Ok t) next ends rest = subst (λ status. Stops status (next t)) ends (rest t)
stops_on status (Err stop) next ends rest = ends

ends_on : (status : Status) (r : Result State Stop) (next : State → Result State Stop) → Ends status r
    → ((t : State) → Ends (status_in t) (next t)) → Ends status (and_then r next)
ends_on status (Ok t) next ends rest = subst (λ status. Ends status (next t)) ends (rest t)
ends_on status (Err stop) next ends rest = ends

gone_stops : (status : Status) (r : Result State Stop) → Goes r → Stops status r
gone_stops status (Ok t) goes = tt
gone_stops status (Err stop) goes = absurd goes

surely_on : (status : Status) (r : Result State Stop) (next : State → Result State Stop) → Stops status r
    → ((t : State) → Goes (next t)) → Stops status (and_then r next)
surely_on status (Ok t) next stops rest = gone_stops status (next t) (rest t)
surely_on status (Err stop) next stops rest = stops

pub steady_safe : (a b : Plan) → Steady a → Safe b → Safe (a ▸ b)
steady_safe a b first second =
    record { at = λ s. stops_on (status_in s) (run_plan a s) (run_plan b) (first.at s) second.at }

pub steady_steady : (a b : Plan) → Steady a → Steady b → Steady (a ▸ b)
steady_steady a b first second =
    record { at = λ s. ends_on (status_in s) (run_plan a s) (run_plan b) (first.at s) second.at }

pub safe_sure : (a b : Plan) → Safe a → Sure b → Safe (a ▸ b)
safe_sure a b first second =
    record { at = λ s. surely_on (status_in s) (run_plan a s) (run_plan b) (first.at s) second.at }

pub steady_if : (c : Bool) (a b : Plan) → Steady a → Steady b → Steady (if c then a else b)
steady_if true a b first second = first
steady_if false a b first second = second

-- a reference that is not answered leaves the I/O page, and one that reads leaves the program status word
abbrev Unanswered : IoPage → Result ℕ Trap → IoPage → Type 0
Unanswered io_page (Ok value) after = Unit {0}
Unanswered io_page (Err trap) after = after.status ≡ io_page.status

unanswered_at : (kind : Kind) (physical : ℕ) (b : BusWorld) (io_page : IoPage) (slave : Slave) → io_page.status ≡ b.io_page.status
    → Unanswered b.io_page (reply_by (shape_at kind physical b.turn (length b.drives) io_page slave) b).value (reply_by (shape_at kind physical b.turn (length b.drives) io_page slave) b).after.io_page
unanswered_at ReadWord physical b io_page (Core k) same = tt
unanswered_at ReadByte physical b io_page (Core k) same = tt
unanswered_at (WriteWord word) physical b io_page (Core k) same = tt
unanswered_at (WriteByte byte) physical b io_page (Core k) same = tt
unanswered_at ReadWord physical b io_page (Device r) same = tt
unanswered_at ReadByte physical b io_page (Device r) same = tt
unanswered_at (WriteWord word) physical b io_page (Device r) same = tt
unanswered_at (WriteByte byte) physical b io_page (Device r) same = tt
unanswered_at ReadWord physical b io_page Nobody same = same
unanswered_at ReadByte physical b io_page Nobody same = same
unanswered_at (WriteWord word) physical b io_page Nobody same = same
unanswered_at (WriteByte byte) physical b io_page Nobody same = same

unanswered_by : (kind : Kind) (b : BusWorld) (io_page : IoPage) (place : Result ℕ Abort) → io_page.status ≡ b.io_page.status
    → Unanswered b.io_page (reply_by (shape_by kind (length b.core) b.turn (length b.drives) io_page place) b).value (reply_by (shape_by kind (length b.core) b.turn (length b.drives) io_page place) b).after.io_page
unanswered_by kind b io_page (Ok physical) same = unanswered_at kind physical b io_page (slave_at (length b.core) physical) same
unanswered_by kind b io_page (Err abort) same = same

unanswered_if : (odd : Bool) (r : Reference) (b : BusWorld)
    → Unanswered b.io_page (reply_by (shape_if odd r b) b).value (reply_by (shape_if odd r b) b).after.io_page
unanswered_if true r b = refl
unanswered_if false r b =
    unanswered_by r.kind b (with_mapping b (translation r b).after).io_page (translation r b).address refl

unanswered : (r : Reference) (b : BusWorld) → Unanswered b.io_page (perform r b).value (perform r b).after.io_page
unfolding shape_of
unanswered r b = rw (perform_is r b) (unanswered_if (is_odd r.kind r.address) r b)

read_leaves : (r : Register) (io_page : IoPage) → (after_read r io_page).status ≡ io_page.status
unfolding after_read
read_leaves register.ProgramStatus io_page = refl
read_leaves r io_page = (use_leaves (Reading r) io_page).status (λ is. cc is)

read_at : (kind : Kind) (physical : ℕ) (b : BusWorld) (io_page : IoPage) (slave : Slave) → access_of kind ≡ Read
    → (reply_by (shape_at kind physical b.turn (length b.drives) io_page slave) b).after.io_page.status ≡ io_page.status
read_at ReadWord physical b io_page (Core k) reads = refl
read_at ReadByte physical b io_page (Core k) reads = refl
read_at ReadWord physical b io_page (Device r) reads = read_leaves r io_page
read_at ReadByte physical b io_page (Device r) reads = read_leaves r io_page
read_at ReadWord physical b io_page Nobody reads = refl
read_at ReadByte physical b io_page Nobody reads = refl
read_at (WriteWord word) physical b io_page slave reads = absurd (cc reads)
read_at (WriteByte byte) physical b io_page slave reads = absurd (cc reads)

read_by : (kind : Kind) (b : BusWorld) (io_page : IoPage) (place : Result ℕ Abort) → access_of kind ≡ Read
    → (reply_by (shape_by kind (length b.core) b.turn (length b.drives) io_page place) b).after.io_page.status ≡ io_page.status
read_by kind b io_page (Ok physical) reads = read_at kind physical b io_page (slave_at (length b.core) physical) reads
read_by kind b io_page (Err abort) reads = refl

read_if : (odd : Bool) (r : Reference) (b : BusWorld) → access_of r.kind ≡ Read
    → (reply_by (shape_if odd r b) b).after.io_page.status ≡ b.io_page.status
read_if true r b reads = refl
read_if false r b reads = read_by r.kind b (with_mapping b (translation r b).after).io_page (translation r b).address reads

read_keeps : (r : Reference) (b : BusWorld) → access_of r.kind ≡ Read → (perform r b).after.io_page.status ≡ b.io_page.status
unfolding shape_of
read_keeps r b reads = rw (perform_is r b) (read_if (is_odd r.kind r.address) r b reads)

-- one phase: each is safe; it is steady if it reads at most and leaves the word itself; it is sure
-- if it asks for nothing
replied_stops : (p : Phase) (s : State) (value : Result ℕ Trap) (after : BusWorld) → Unanswered s.world.bus.io_page value after.io_page
    → Stops (status_in s) (and_then (after_reply p s (record { value = value; after = after })) (λ t. run [] t))
unfolding run
replied_stops p s (Ok value) after so = tt
replied_stops p s (Err trap) after so = so

requested_stops : (p : Phase) (s : State) (request : Request) → Stops (status_in s) (and_then (by_request p s request) (λ t. run [] t))
unfolding run
requested_stops p s Nothing = tt
requested_stops p s (Raise trap) = refl
requested_stops p s (Ask r) = replied_stops p s (perform r s.world.bus).value (perform r s.world.bus).after (unanswered r s.world.bus)

pub phase_safe : (p : Phase) → Safe (one p)
unfolding run
phase_safe p = record { at = λ s. requested_stops p s (p.request (inner_of s)) }

abbrev pub ReadsAtMost : Request → Type 0
ReadsAtMost Nothing = Unit {0}
ReadsAtMost (Ask r) = access_of r.kind ≡ Read
ReadsAtMost (Raise trap) = Unit {0}

abbrev LeavesStatus : Phase → Type 0
LeavesStatus p = (i : Inner) (value : ℕ) → (p.resume i value).io_page.status ≡ i.io_page.status

replied_ends : (p : Phase) (s : State) (value : Result ℕ Trap) (after : BusWorld) → LeavesStatus p → after.io_page.status ≡ status_in s
    → Ends (status_in s) (and_then (after_reply p s (record { value = value; after = after })) (λ t. run [] t))
unfolding run
replied_ends p s (Ok value) after leaves so = leaves _ value ∙ so
replied_ends p s (Err trap) after leaves so = so

requested_ends : (p : Phase) (s : State) (request : Request) → LeavesStatus p → ReadsAtMost request
    → Ends (status_in s) (and_then (by_request p s request) (λ t. run [] t))
unfolding run
requested_ends p s Nothing leaves reads = leaves _ 0
requested_ends p s (Raise trap) leaves reads = refl
requested_ends p s (Ask r) leaves reads =
    replied_ends p s (perform r s.world.bus).value (perform r s.world.bus).after leaves (read_keeps r s.world.bus reads)

pub phase_steady : (p : Phase) → ((i : Inner) → ReadsAtMost (p.request i)) → LeavesStatus p → Steady (one p)
unfolding run
phase_steady p reads leaves =
    record { at = λ s. requested_ends p s (p.request (inner_of s)) leaves (reads (inner_of s)) }

requested_goes : (p : Phase) (s : State) (request : Request) → request ≡ Nothing → Goes (and_then (by_request p s request) (λ t. run [] t))
unfolding run
requested_goes p s request is = rw is tt

pub phase_sure : (p : Phase) → ((i : Inner) → p.request i ≡ Nothing) → Sure (one p)
unfolding run
phase_sure p asks = record { at = λ s. requested_goes p s (p.request (inner_of s)) (asks (inner_of s)) }

-- finding and reading an operand
reads_place : (size : Size) (place : Place) → ReadsAtMost (reference_at (reading size) place)
reads_place Word (Reg id) = tt
reads_place Word (Mem cell) = refl
reads_place Byte (Reg id) = tt
reads_place Byte (Mem cell) = refl

limit_reads : (c : Bool) (trap : Trap) → ReadsAtMost (if c then Raise trap else Nothing)
limit_reads true trap = tt
limit_reads false trap = tt

steady_index : (r : ℕ) → Steady (one (index r))
unfolding index
steady_index r = phase_steady _ (λ i. refl) (λ i value. refl)

steady_indirect : Steady (one indirect)
unfolding indirect
steady_indirect = phase_steady _ (λ i. reads_place Word i.latch.place) (λ i value. refl)

steady_grow : (r step : ℕ) → Steady (one (grow r step))
unfolding grow
steady_grow r step = phase_steady _ (λ i. tt) (λ i value. refl)

steady_lower : (r step : ℕ) → Steady (one (lower mode_now r step))
unfolding lower
steady_lower r step = phase_steady _ (λ i. limit_reads _ _) (λ i value. refl)

steady_name : (r : ℕ) → Steady (one (name_register r))
unfolding name_register
steady_name r = phase_steady _ (λ i. tt) (λ i value. refl)

steady_point : (r : ℕ) → Steady (one (point r))
unfolding point
steady_point r = phase_steady _ (λ i. tt) (λ i value. refl)

pub steady_find : (size : Size) (spec : Specifier) → Steady (find size spec)
unfolding find
steady_find size (specifier.Register r) = steady_name _
steady_find size (specifier.Deferred r) = steady_point _
steady_find size (specifier.Autoincrement r) = steady_grow _ _
steady_find size (specifier.AutoincrementDeferred r) = steady_steady _ _ (steady_grow _ _) steady_indirect
steady_find size (specifier.Autodecrement r) = steady_lower _ _
steady_find size (specifier.AutodecrementDeferred r) = steady_steady _ _ (steady_lower _ _) steady_indirect
steady_find size (specifier.Index r) = steady_index _
steady_find size (specifier.IndexDeferred r) = steady_steady _ _ (steady_index _) steady_indirect

pub steady_read : (size : Size) → Steady (one (read_operand size))
unfolding read_operand
steady_read size = phase_steady _ (λ i. reads_place size i.latch.place) (λ i value. refl)

pub steady_read_before_write : (size : Size) → Steady (one (read_before_write size))
unfolding read_before_write
steady_read_before_write size = phase_steady _ (λ i. reads_place size i.latch.place) (λ i value. refl)
