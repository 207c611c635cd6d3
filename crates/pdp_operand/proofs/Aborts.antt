-- References that memory management aborts.
use Rattle.std.proofs.Common.{◌≡◌, ℕ, Bool, true, false, None, Ok, Err, Result, refl, sym, ◌∙◌, ap, length}
use Rattle.pdp_kt11.proofs.AbortLaws.{abort_leaves_the_rest, read_only}
use Rattle.pdp_kt11.specs.Laws.{AbortsInStatusAlone}
use Rattle.pdp_kt11.specs.declared.kt.Kt.{Kt}
use Rattle.pdp_kt11.specs.declared.place.Abort.{Abort}
use Rattle.pdp_kt11.specs.declared.status.MappingStatus.{MappingStatus}
use Rattle.pdp_unibus.specs.Handbook.BusWorld.{BusWorld, with_mapping}
use Rattle.pdp_unibus.specs.Handbook.Cycle.{Slave, Core, Device, Nobody, slave_at}
use Rattle.pdp_io_page.specs.declared.io_page.IoPage.{IoPage}
use Rattle.pdp_operand.specs.Handbook.Reference.{Kind, ReadWord, ReadByte, WriteWord, WriteByte, Reference, Reply, access_of, is_odd, translation}
use Rattle.pdp_operand.specs.Laws.Aborted.{AbortsLeaveCore, FailsWith, ReadOnlyPagesKeepTheirWords, ToldAbortsLeaveCore, refusal_of, with_mapping_status}
use Rattle.pdp_action.specs.declared.trap.Trap.{Trap}
use Rattle.pdp_action.specs.declared.trap.Trap.TheVariants.{MappingAbort, OddAddress}
use Rattle.pdp_operand.proofs.Shape.{perform_is, reply_by, shape_at, shape_by, shape_if, shape_of, touches_is}
use Rattle.pdp_operand.proofs.Shape.Shape.{Apart}

-- a reference that no word of core answers, and that leaves all of the I/O page but SR0
apart_fails : (r : Reference) (b : BusWorld) (status : MappingStatus) (trap : Trap)
    → shape_of r b ≡ Apart None (with_mapping_status status b.io_page) (Err trap) → FailsWith trap r b
apart_fails r b status trap is = record {
  told = rw (perform_is r b, is) refl;
  core = rw (perform_is r b, is) refl;
  stamps = rw (perform_is r b, is) refl;
  drives = rw (perform_is r b, is) refl;
  tape = rw (perform_is r b, is) refl;
  bytes_read = rw (perform_is r b, is) refl;
  turn = rw (perform_is r b, is) refl;
  first_touches = rw (perform_is r b, is) refl;
  log = rw (perform_is r b, is) refl;
  io_page = rw (perform_is r b, is) refl;
  touches_none = rw (touches_is r b, is) refl;
}

-- one that has no physical address
unplaced_fails : (r : Reference) (b : BusWorld) → is_odd r.kind r.address ≡ false
    → AbortsInStatusAlone r.mode r.address (access_of r.kind) b.io_page.mapping → FailsWith MappingAbort r b
unfolding shape_of
unplaced_fails r b even aborts =
    apart_fails r b (translation r b).after.status MappingAbort
    (rw (even, aborts.aborts.1) (ap (λ (kt : Kt). Apart None (record b.io_page { mapping = kt }) (Err MappingAbort)) aborts.leaves))

-- what has a physical address isn't aborted
placed_answers : (kind : Kind) (physical turn drives : ℕ) (io_page : IoPage) (slave : Slave) (b : BusWorld)
    → (reply_by (shape_at kind physical turn drives io_page slave) b).value ≡ Err MappingAbort → ⊥
placed_answers ReadWord physical turn drives io_page (Core k) b is = cc
placed_answers ReadWord physical turn drives io_page (Device register) b is = cc
placed_answers ReadByte physical turn drives io_page (Core k) b is = cc
placed_answers ReadByte physical turn drives io_page (Device register) b is = cc
placed_answers (WriteWord word) physical turn drives io_page (Core k) b is = cc
placed_answers (WriteWord word) physical turn drives io_page (Device register) b is = cc
placed_answers (WriteByte byte) physical turn drives io_page (Core k) b is = cc
placed_answers (WriteByte byte) physical turn drives io_page (Device register) b is = cc
placed_answers ReadWord physical turn drives io_page Nobody b is = cc
placed_answers ReadByte physical turn drives io_page Nobody b is = cc
placed_answers (WriteWord word) physical turn drives io_page Nobody b is = cc
placed_answers (WriteByte byte) physical turn drives io_page Nobody b is = cc

unplaced_at : (kind : Kind) (words turn drives : ℕ) (io_page : IoPage) (place : Result ℕ Abort) (b : BusWorld)
    → (reply_by (shape_by kind words turn drives io_page place) b).value ≡ Err MappingAbort → (abort : Abort) × (place ≡ Err abort)
unplaced_at kind words turn drives io_page (Err abort) b is = (abort, refl)
unplaced_at kind words turn drives io_page (Ok physical) b is =
    absurd (placed_answers kind physical turn drives io_page (slave_at words physical) b is)

unplaced_if : (odd : Bool) (r : Reference) (b : BusWorld) → (reply_by (shape_if odd r b) b).value ≡ Err MappingAbort
    → (odd ≡ false) × ((abort : Abort) × ((translation r b).address ≡ Err abort))
unplaced_if true r b is = cc
unplaced_if false r b is =
    (refl, unplaced_at r.kind (length b.core) b.turn (length b.drives) (with_mapping b (translation r b).after).io_page (translation r b).address b is)

pub aborts_leave : AbortsLeaveCore
aborts_leave r b abort even is = unplaced_fails r b even (abort_leaves_the_rest r.mode r.address (access_of r.kind) b.io_page.mapping abort is)

pub told_aborts_leave : ToldAbortsLeaveCore
unfolding shape_of
told_aborts_leave r b is =
    let why = unplaced_if (is_odd r.kind r.address) r b (sym (ap (λ (reply : Reply). reply.value) (perform_is r b)) ∙ is) in
    unplaced_fails r b why.0 (abort_leaves_the_rest r.mode r.address (access_of r.kind) b.io_page.mapping why.1.0 why.1.1)

read_only_if : (odd : Bool) (r : Reference) (b : BusWorld) → is_odd r.kind r.address ≡ odd
    → AbortsInStatusAlone r.mode r.address (access_of r.kind) b.io_page.mapping → FailsWith (refusal_of odd) r b
unfolding shape_of
read_only_if true r b odd aborts = apart_fails r b b.io_page.mapping.status OddAddress (rw odd refl)
read_only_if false r b even aborts = unplaced_fails r b even aborts

pub read_only_keeps : ReadOnlyPagesKeepTheirWords
read_only_keeps r b page writing on used locked =
    read_only_if (is_odd r.kind r.address) r b refl
    (rw writing (read_only r.mode r.address b.io_page.mapping page on used locked))
