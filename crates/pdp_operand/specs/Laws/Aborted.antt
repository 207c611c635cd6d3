-- What a reference that memory management aborts leaves: DEC PDP-11/40 Processor Handbook (1972),
-- Memory management; that an odd address goes first is [P].
use Rattle.std.specs.Prelude.{◌≡◌, [], Some, Err, Bool, true, false}
use Rattle.pdp_kt11.specs.Laws.{page_used}
use Rattle.pdp_kt11.specs.declared.apr.AccessControl.TheVariants as control
use Rattle.pdp_kt11.specs.declared.apr.Apr.{Apr}
use Rattle.pdp_kt11.specs.declared.place.Abort.{Abort}
use Rattle.pdp_kt11.specs.declared.place.Access.TheVariants.{Write}
use Rattle.pdp_kt11.specs.declared.status.MappingStatus.{MappingStatus}
use Rattle.pdp_unibus.specs.Handbook.BusWorld.{BusWorld}
use Rattle.pdp_io_page.specs.declared.io_page.IoPage.{IoPage}
use Rattle.pdp_operand.specs.Handbook.Reference.{Reference, access_of, is_odd, perform, translation}
use Rattle.pdp_operand.specs.Laws.Trace.{touches}
use Rattle.pdp_action.specs.declared.trap.Trap.{Trap}
use Rattle.pdp_action.specs.declared.trap.Trap.TheVariants.{MappingAbort, OddAddress}

-- the I/O page with another SR0 of memory management
abbrev pub with_mapping_status : MappingStatus → IoPage → IoPage
with_mapping_status status io_page = record io_page {
  mapping = record io_page.mapping {
    status =
        status;
  };
}

-- a reference fails with this trap, and leaves core, its stamps, the drives, the tape, how far it
-- is read, the turn and the log, and all of the I/O page but SR0 of memory management; no word of
-- core answers it
pub record FailsWith (trap : Trap) (r : Reference) (b : BusWorld) : Type 0 where
  pub told : (perform r b).value ≡ Err trap
  pub core : (perform r b).after.core ≡ b.core
  pub stamps : (perform r b).after.stamps ≡ b.stamps
  pub drives : (perform r b).after.drives ≡ b.drives
  pub tape : (perform r b).after.tape ≡ b.tape
  pub bytes_read : (perform r b).after.bytes_read ≡ b.bytes_read
  pub turn : (perform r b).after.turn ≡ b.turn
  pub first_touches : (perform r b).after.first_touches ≡ b.first_touches
  pub log : (perform r b).after.log ≡ b.log
  pub io_page : (perform r b).after.io_page ≡ with_mapping_status (perform r
      b).after.io_page.mapping.status b.io_page
  pub touches_none : touches r b ≡ []

-- each one that memory management aborts, whyever, fails with a mapping abort, unless its address
-- is odd
abbrev pub AbortsLeaveCore : Type 0
AbortsLeaveCore = (r : Reference) (b : BusWorld) (abort : Abort)
    → is_odd r.kind r.address ≡ false → (translation r b).address ≡ Err abort
    → FailsWith MappingAbort r b

-- and so does each that is told one
abbrev pub ToldAbortsLeaveCore : Type 0
ToldAbortsLeaveCore = (r : Reference) (b : BusWorld) → (perform r b).value ≡ Err MappingAbort
    → FailsWith MappingAbort r b

-- an odd address goes before an abort
abbrev pub refusal_of : Bool → Trap
refusal_of true = OddAddress
refusal_of false = MappingAbort

-- each write through a read-only page fails
abbrev pub ReadOnlyPagesKeepTheirWords : Type 0
ReadOnlyPagesKeepTheirWords = (r : Reference) (b : BusWorld) (page : Apr)
    → access_of r.kind ≡ Write → b.io_page.mapping.status.enabled ≡ true
    → page_used r.mode r.address b.io_page.mapping ≡ Some page → page.access ≡ control.ReadOnly
    → FailsWith (refusal_of (is_odd r.kind r.address)) r b
