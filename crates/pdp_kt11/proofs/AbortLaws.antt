-- Mapping off, writes to read-only pages, and what SR0 tells of aborts.
use Rattle.std.proofs.Common.{◌≡◌, ℕ, zero, suc, ◌+◌, ◌*◌, ◌/◌, ◌<◌, ◌||◌, Bool, true, false, Option, Some, None, Ok, Err, refl, sym, ◌∙◌, ap, arith}
use Rattle.std.proofs.lemmas.Bool.{or_parts}
use Rattle.pdp_kt11.specs.Handbook.Kt.{kt_fetched, page_at, with_page}
use Rattle.pdp_kt11.specs.Laws.{AbortsInStatusAlone, AbortsLeaveThePages, FetchesAreFollowedUntilAnAbort, LaterAbortsAreNotTold, MappingOffIsTheOldRule, PassesLeaveStatus, ReadOnlyPagesAreNeverWritten, TheFirstAbortIsTold, abort_flag, page_through, place_of}
use Rattle.pdp_kt11.specs.Handbook.Mode.{mode_bits}
use Rattle.pdp_kt11.specs.Handbook.Apr.{numbered_page, page_number, space_of}
use Rattle.pdp_kt11.specs.Handbook.Status.{abort_told, with_abort_flag, mapping_status_word, tells_abort}
use Rattle.pdp_kt11.specs.Handbook.Translation.{Translation, aborted_translation, abort_in, block_of, checked_translation, is_within_length, mapped_translation, mapped_in, page_of, with_w_bit, translate}
use Rattle.pdp_kt11.specs.declared.registers.MappingRegisters.{MappingRegisters}
use Rattle.pdp_kt11.specs.declared.mode.Mode.{Mode}
use Rattle.pdp_kt11.specs.declared.apr.AccessControl.TheVariants as control
use Rattle.pdp_kt11.specs.declared.apr.Apr.{Apr}
use Rattle.pdp_kt11.specs.declared.apr.PageNumber.{PageNumber}
use Rattle.pdp_kt11.specs.declared.apr.Space.{Space}
use Rattle.pdp_kt11.specs.declared.apr.Space.TheVariants as space
use Rattle.pdp_kt11.specs.declared.place.Abort.{Abort}
use Rattle.pdp_kt11.specs.declared.place.Abort.TheVariants.{Resident, Length, ReadOnly}
use Rattle.pdp_kt11.specs.declared.place.Access.{Access}
use Rattle.pdp_kt11.specs.declared.place.Access.TheVariants.{Read, Write}
use Rattle.pdp_kt11.specs.declared.status.MappingStatus.{MappingStatus}

pub mapping_off : MappingOffIsTheOldRule
unfolding translate
mapping_off mode address access kt off = (rw off refl, rw off refl)

-- an access while mapping is on
pub while_on : (mode : Mode) (address : ℕ) (access : Access) (kt : MappingRegisters) → kt.status.enabled ≡ true
    → translate mode address access kt ≡ mapped_in (space_of mode) mode address access kt
unfolding translate mapped_translation
while_on mode address access kt on = rw on refl

-- a write to a read-only page fails one of the tests
refused : (page : Apr) (block : ℕ) → page.access ≡ control.ReadOnly → (abort : Abort) × (abort_in page Write block ≡ Some abort)
refused page block locked = by_length (is_within_length page.expansion page.length block) refl where
  by_length : (within : Bool) → is_within_length page.expansion page.length block ≡ within
      → (abort : Abort) × (abort_in page Write block ≡ Some abort)
  by_length true is = (ReadOnly, rw (locked, is) refl)
  by_length false is = (Length, rw (locked, is) refl)

refused_in : (space : Option Space) (mode : Mode) (address : ℕ) (kt : MappingRegisters) (page : Apr) → page_through space address kt ≡ Some page
    → page.access ≡ control.ReadOnly → (abort : Abort) × (mapped_in space mode address Write kt ≡ aborted_translation abort mode address kt)
refused_in None mode address kt page used locked = cc
refused_in (Some space) mode address kt page used locked =
    let same : page_at space (page_of address) kt ≡ page = cc in
    let why = refused (page_at space (page_of address) kt) (block_of address) (ap (λ (p : Apr). p.access) same ∙ locked) in
    (why.0, rw why.1 refl)

-- an abort changes SR0 alone
aborts_in_status : (mode : Mode) (address : ℕ) (access : Access) (kt : MappingRegisters) (abort : Abort)
    → translate mode address access kt ≡ aborted_translation abort mode address kt → AbortsInStatusAlone mode address access kt
aborts_in_status mode address access kt abort is = record {
  aborts = (abort, ap (λ (t : Translation). t.address) is);
  leaves = ap (λ (t : Translation). t.after) is ∙ sym (ap (λ (t : Translation). record kt { status = t.after.status }) is);
}

pub read_only : ReadOnlyPagesAreNeverWritten
read_only mode address kt page on used locked =
    let why = refused_in (space_of mode) mode address kt page used locked in
    aborts_in_status mode address Write kt why.0 (while_on mode address Write kt on ∙ why.1)

-- what isn't an abort has a place
checked_to : (outcome : Option Abort) (space : Space) (mode : Mode) (address : ℕ) (access : Access) (kt : MappingRegisters) (abort : Abort)
    → (checked_translation outcome space mode address access kt).address ≡ Err abort
    → checked_translation outcome space mode address access kt ≡ aborted_translation abort mode address kt
checked_to (Some why) space mode address access kt abort is =
    let same : why ≡ abort = cc in ap (λ a. aborted_translation a mode address kt) same
checked_to None space mode address access kt abort is = cc

mapped_to : (space : Option Space) (mode : Mode) (address : ℕ) (access : Access) (kt : MappingRegisters) (abort : Abort)
    → (mapped_in space mode address access kt).address ≡ Err abort
    → mapped_in space mode address access kt ≡ aborted_translation abort mode address kt
mapped_to (Some space) mode address access kt abort is =
    checked_to (abort_in (page_at space (page_of address) kt) access (block_of address)) space mode address access kt abort is
mapped_to None mode address access kt abort is =
    let same : Resident ≡ abort = cc in ap (λ a. aborted_translation a mode address kt) same

-- an access that aborts does so while mapping is on
aborted_is : (mode : Mode) (address : ℕ) (access : Access) (kt : MappingRegisters) (abort : Abort) → (translate mode address access kt).address ≡ Err abort
    → (kt.status.enabled ≡ true) × (translate mode address access kt ≡ aborted_translation abort mode address kt)
aborted_is mode address access kt abort is = by_enable kt.status.enabled refl where
  by_enable : (on : Bool) → kt.status.enabled ≡ on
      → (kt.status.enabled ≡ true) × (translate mode address access kt ≡ aborted_translation abort mode address kt)
  by_enable true enabled =
      let way = while_on mode address access kt enabled in
      (enabled, way ∙ mapped_to (space_of mode) mode address access kt abort (rw way at is))
  by_enable false enabled = let there = (mapping_off mode address access kt enabled).0 in cc

pub abort_leaves_the_rest : (mode : Mode) (address : ℕ) (access : Access) (kt : MappingRegisters) (abort : Abort)
    → (translate mode address access kt).address ≡ Err abort → AbortsInStatusAlone mode address access kt
abort_leaves_the_rest mode address access kt abort is =
    aborts_in_status mode address access kt abort (aborted_is mode address access kt abort is).1

pub number_back : (n : ℕ) → n < 8 → page_number (numbered_page n) ≡ n
unfolding numbered_page
number_back zero small = refl
number_back (suc zero) small = refl
number_back (suc (suc zero)) small = refl
number_back (suc (suc (suc zero))) small = refl
number_back (suc (suc (suc (suc zero)))) small = refl
number_back (suc (suc (suc (suc (suc zero))))) small = refl
number_back (suc (suc (suc (suc (suc (suc zero)))))) small = refl
number_back (suc (suc (suc (suc (suc (suc (suc zero))))))) small = refl
number_back (suc (suc (suc (suc (suc (suc (suc (suc n)))))))) small = absurd (omega arith)

-- the word of a status that told of no abort and now tells of one
told_word : (abort : Abort) (mode : Mode) (page : PageNumber) (s : MappingStatus) → tells_abort s ≡ false → s.enabled ≡ true
    → mapping_status_word (abort_told abort mode page s) ≡ abort_flag abort + mode_bits mode * 0o40 + page_number page * 2 + 1
unfolding abort_told
told_word abort mode page s clear on = rw clear (by_flag abort) where
  upper : ((s.resident_abort || s.length_abort) ≡ false) × (s.read_only_abort ≡ false)
  upper = or_parts (s.resident_abort || s.length_abort) s.read_only_abort clear

  lower : (s.resident_abort ≡ false) × (s.length_abort ≡ false)
  lower = or_parts s.resident_abort s.length_abort upper.0

  by_flag : (abort : Abort) → mapping_status_word (with_abort_flag abort (record s { mode = mode; page = page }))
      ≡ abort_flag abort + mode_bits mode * 0o40 + page_number page * 2 + 1
  by_flag Resident = rw (lower.1, upper.1, on) (omega arith)
  by_flag Length = rw (lower.0, upper.1, on) (omega arith)
  by_flag ReadOnly = rw (lower.0, lower.1, on) (omega arith)

pub first_is_told : TheFirstAbortIsTold
first_is_told mode address access kt abort fits clear is =
    let why = aborted_is mode address access kt abort is in
    let page : page_number (page_of address) ≡ address / 0o20000 = number_back (address / 0o20000) (omega arith) in
    ap (λ (t : Translation). mapping_status_word t.after.status) why.1
    ∙ told_word abort mode (page_of address) kt.status clear why.0
    ∙ ap (λ number. abort_flag abort + mode_bits mode * 0o40 + number * 2 + 1) page

-- a page changes, and no status
status_passed : (access : Access) (space : Space) (page : PageNumber) (kt : MappingRegisters) → (with_w_bit access space page kt).status ≡ kt.status
unfolding with_page
status_passed Read space page kt = refl
status_passed Write space.Kernel page kt = refl
status_passed Write space.User page kt = refl

told_already : (abort : Abort) (mode : Mode) (page : PageNumber) (s : MappingStatus) → tells_abort s ≡ true
    → abort_told abort mode page s ≡ s
unfolding abort_told
told_already abort mode page s told = rw told refl

status_checked : (outcome : Option Abort) (space : Space) (mode : Mode) (address : ℕ) (access : Access) (kt : MappingRegisters)
    → tells_abort kt.status ≡ true → (checked_translation outcome space mode address access kt).after.status ≡ kt.status
status_checked (Some abort) space mode address access kt told = told_already abort mode (page_of address) kt.status told
status_checked None space mode address access kt told = status_passed access space (page_of address) kt

status_mapped : (space : Option Space) (mode : Mode) (address : ℕ) (access : Access) (kt : MappingRegisters)
    → tells_abort kt.status ≡ true → (mapped_in space mode address access kt).after.status ≡ kt.status
status_mapped (Some space) mode address access kt told =
    status_checked (abort_in (page_at space (page_of address) kt) access (block_of address)) space mode address access kt told
status_mapped None mode address access kt told = told_already Resident mode (page_of address) kt.status told

pub later_is_not_told : LaterAbortsAreNotTold
later_is_not_told mode address access kt told = by_enable kt.status.enabled refl where
  by_enable : (on : Bool) → kt.status.enabled ≡ on → (translate mode address access kt).after.status ≡ kt.status
  by_enable true enabled = rw (while_on mode address access kt enabled) (status_mapped (space_of mode) mode address access kt told)
  by_enable false enabled = ap (λ (k : MappingRegisters). k.status) (mapping_off mode address access kt enabled).1

-- what passes changes a page at most
status_unchecked : (outcome : Option Abort) (space : Space) (mode : Mode) (address : ℕ) (access : Access) (kt : MappingRegisters) (p : ℕ)
    → (checked_translation outcome space mode address access kt).address ≡ Ok p
    → (checked_translation outcome space mode address access kt).after.status ≡ kt.status
status_unchecked (Some abort) space mode address access kt p is = cc
status_unchecked None space mode address access kt p is = status_passed access space (page_of address) kt

status_unmapped : (space : Option Space) (mode : Mode) (address : ℕ) (access : Access) (kt : MappingRegisters) (p : ℕ)
    → (mapped_in space mode address access kt).address ≡ Ok p → (mapped_in space mode address access kt).after.status ≡ kt.status
status_unmapped (Some space) mode address access kt p is =
    status_unchecked (abort_in (page_at space (page_of address) kt) access (block_of address)) space mode address access kt p is
status_unmapped None mode address access kt p is = cc

pub pass_leaves_status : PassesLeaveStatus
pass_leaves_status mode address access kt p is = by_enable kt.status.enabled refl where
  by_enable : (on : Bool) → kt.status.enabled ≡ on → (translate mode address access kt).after.status ≡ kt.status
  by_enable true enabled =
      let way = while_on mode address access kt enabled in
      rw way (status_unmapped (space_of mode) mode address access kt p (rw (way, place_of) at is))
  by_enable false enabled = ap (λ (k : MappingRegisters). k.status) (mapping_off mode address access kt enabled).1

pub abort_leaves_pages : AbortsLeaveThePages
abort_leaves_pages mode address access kt abort is = (abort_leaves_the_rest mode address access kt abort is).leaves

pub fetch_follows : FetchesAreFollowedUntilAnAbort
unfolding kt_fetched
fetch_follows address kt = (λ clear. rw clear refl, λ told. rw told refl)
