-- The bits that the registers give, and what they keep of a word.
use Rattle.std.proofs.Common.{◌≡◌, ℕ, zero, suc, ◌+◌, ◌*◌, ◌/◌, ◌%◌, ◌<◌, ◌==◌, Bool, true, false, [], ◌∷◌, Option, Some, None, if◌then◌else◌, refl, ◌∙◌, ap, arith}
use Rattle.pdp_kt11.proofs.AbortLaws.{mapping_off, while_on}
use Rattle.pdp_kt11.proofs.WrittenLaws.{fetch_apart, number_below, page_changed, powered_page, status_apart, use_keeps_pages}
use Rattle.pdp_kt11.specs.Handbook.Kt.{kt_fetched, kt_value, kt_written, page_at, with_page}
use Rattle.pdp_kt11.specs.Laws.{HasBitsInRange, HasEightPages, OtherBitsReadZero, PagesAreInRange, PowerGivesPagesInRange, KtUse, UsesKeepPagesInRange, WrittenAddressReadsBack, WrittenDescriptorReadsBack, WrittenStatus0ReadsBack, kt_after_use, is_same_page}
use Rattle.pdp_kt11.specs.Laws.KtUse.{Accessing, Writing, Fetching, Resetting}
use Rattle.pdp_kt11.specs.Handbook.Mode.{mode_bits}
use Rattle.pdp_kt11.specs.Handbook.Apr.{access_bits, access_control_of, address_written, descriptor_word, descriptor_written, empty_page, expansion_bit, expansion_of, page_number, space_of}
use Rattle.pdp_kt11.specs.Handbook.Status.{mapping_status_word, mapping_status_written}
use Rattle.pdp_kt11.specs.Handbook.Translation.{abort_in, block_of, checked_translation, mapped_in, page_of, with_w_bit, translate}
use Rattle.pdp_kt11.specs.declared.registers.MappingRegisters.{MappingRegisters}
use Rattle.pdp_kt11.specs.declared.mode.Mode.{Mode}
use Rattle.pdp_kt11.specs.declared.mode.Mode.TheVariants as mode
use Rattle.pdp_kt11.specs.declared.apr.AccessControl.{AccessControl}
use Rattle.pdp_kt11.specs.declared.apr.AccessControl.TheVariants as control
use Rattle.pdp_kt11.specs.declared.apr.Expansion.{Expansion}
use Rattle.pdp_kt11.specs.declared.apr.Expansion.TheVariants.{Upward, Downward}
use Rattle.pdp_kt11.specs.declared.apr.Apr.{Apr}
use Rattle.pdp_kt11.specs.declared.apr.PageNumber.{PageNumber}
use Rattle.pdp_kt11.specs.declared.apr.PageNumber.TheVariants.{P0, P1, P2, P3, P4, P5, P6, P7}
use Rattle.pdp_kt11.specs.declared.apr.Space.{Space}
use Rattle.pdp_kt11.specs.declared.apr.Space.TheVariants as space
use Rattle.pdp_kt11.specs.declared.place.Abort.{Abort}
use Rattle.pdp_kt11.specs.declared.place.Access.{Access}
use Rattle.pdp_kt11.specs.declared.place.Access.TheVariants.{Read, Write}
use Rattle.pdp_kt11.specs.declared.register.KtRegister.TheVariants.{Status0, Status1, Status2, Descriptor, Address}
use Rattle.pdp_kt11.specs.declared.status.MappingStatus.{MappingStatus}
use Rattle.pdp_word.specs.Bits.{bit_of, has_bit}

-- how many values each part has
flag_below : (flag : Bool) → bit_of flag < 2
flag_below true = omega arith
flag_below false = omega arith

mode_below : (m : Mode) → mode_bits m < 4
mode_below mode.Kernel = omega arith
mode_below mode.Bad1 = omega arith
mode_below mode.Bad2 = omega arith
mode_below mode.User = omega arith

expansion_below : (expansion : Expansion) → expansion_bit expansion < 2
expansion_below Upward = omega arith
expansion_below Downward = omega arith

access_below : (access : AccessControl) → access_bits access < 4
access_below control.NonResident = omega arith
access_below control.ReadOnly = omega arith
access_below control.Unused = omega arith
access_below control.ReadWrite = omega arith

-- words made of parts give back the parts
status_parts : (resident length read_only mode page enabled word : ℕ) → resident < 2 → length < 2 → read_only < 2 → mode < 4 → page < 8 → enabled < 2
    → word ≡ resident * 0o100000 + length * 0o40000 + read_only * 0o20000 + mode * 0o40 + page * 2 + enabled
    → (word / 0o20000 % 8 ≡ resident * 4 + length * 2 + read_only) × (word / 0o40 % 4 ≡ mode) × (word % 0o20 ≡ page * 2 + enabled)
status_parts resident length read_only mode page enabled word resident_fits length_fits read_only_fits mode_fits page_fits enabled_fits is =
    (omega arith, omega arith, omega arith)

descriptor_parts : (length written expansion access word : ℕ) → length < 0o200 → written < 2 → expansion < 2 → access < 4
    → word ≡ length * 0o400 + written * 0o100 + expansion * 0o10 + access * 2
    → word ≡ word / 0o400 % 0o200 * 0o400 + word / 0o100 % 2 * 0o100 + word % 0o20 / 2 * 2
descriptor_parts length written expansion access word length_fits written_fits expansion_fits access_fits is = omega arith

status_of_parts : (s : MappingStatus)
    → (mapping_status_word s / 0o20000 % 8 ≡ bit_of s.resident_abort * 4 + bit_of s.length_abort * 2 + bit_of s.read_only_abort)
    × (mapping_status_word s / 0o40 % 4 ≡ mode_bits s.mode) × (mapping_status_word s % 0o20 ≡ page_number s.page * 2 + bit_of s.enabled)
status_of_parts s =
    status_parts (bit_of s.resident_abort) (bit_of s.length_abort) (bit_of s.read_only_abort) (mode_bits s.mode) (page_number s.page) (bit_of s.enabled)
    (mapping_status_word s) (flag_below s.resident_abort) (flag_below s.length_abort) (flag_below s.read_only_abort) (mode_below s.mode)
    (number_below s.page) (flag_below s.enabled) refl

whole : (resident length read_only mode page enabled word high middle low : ℕ)
    → word ≡ resident * 0o100000 + length * 0o40000 + read_only * 0o20000 + mode * 0o40 + page * 2 + enabled
    → high ≡ resident * 4 + length * 2 + read_only → middle ≡ mode → low ≡ page * 2 + enabled
    → word ≡ high * 0o20000 + middle * 0o40 + low
whole resident length read_only mode page enabled word high middle low is high_is middle_is low_is = omega arith

pub others_zero : OtherBitsReadZero
unfolding kt_value
others_zero Status0 kt ranged =
    let part = status_of_parts kt.status in
    whole (bit_of kt.status.resident_abort) (bit_of kt.status.length_abort) (bit_of kt.status.read_only_abort) (mode_bits kt.status.mode)
    (page_number kt.status.page) (bit_of kt.status.enabled) (mapping_status_word kt.status) _ _ _ refl part.0 part.1 part.2
others_zero Status1 kt ranged = refl
others_zero Status2 kt ranged = refl
others_zero (Descriptor space number) kt ranged =
    let page = page_at space number kt in
    descriptor_parts page.length (bit_of page.written) (expansion_bit page.expansion) (access_bits page.access) (descriptor_word page)
    (ranged space number).length (flag_below page.written) (expansion_below page.expansion) (access_below page.access) refl
others_zero (Address space number) kt ranged = let fits = (ranged space number).frame in omega arith

-- what was written, part by part
bit_of_flag : (n : ℕ) → n < 2 → bit_of (n == 1) ≡ n
bit_of_flag zero small = refl
bit_of_flag (suc zero) small = refl
bit_of_flag (suc (suc n)) small = absurd (omega arith)

expansion_back : (flag : Bool) → expansion_bit (expansion_of flag) ≡ bit_of flag
expansion_back true = refl
expansion_back false = refl

access_back : (n : ℕ) → n < 4 → access_bits (access_control_of n) ≡ n
unfolding access_control_of
access_back zero small = refl
access_back (suc zero) small = refl
access_back (suc (suc zero)) small = refl
access_back (suc (suc (suc zero))) small = refl
access_back (suc (suc (suc (suc n)))) small = absurd (omega arith)

descriptor_of_word : (word expansion access : ℕ) → expansion ≡ word / 8 % 2 → access ≡ word / 2 % 4
    → word / 0o400 % 0o200 * 0o400 + 0 * 0o100 + expansion * 0o10 + access * 2
    ≡ word / 0o400 % 0o200 * 0o400 + word % 0o20 / 2 * 2
descriptor_of_word word expansion access expansion_is access_is = omega arith

written_descriptor : (word : ℕ) (page : Apr)
    → descriptor_word (descriptor_written word page) ≡ word / 0o400 % 0o200 * 0o400 + word % 0o20 / 2 * 2
unfolding descriptor_written
written_descriptor word page =
    descriptor_of_word word (expansion_bit (expansion_of (has_bit 3 word))) (access_bits (access_control_of (word / 2 % 4)))
    (expansion_back (has_bit 3 word) ∙ bit_of_flag (word / 8 % 2) (omega arith)) (access_back (word / 2 % 4) (omega arith))

pub same_page : (space : Space) (number : PageNumber) → is_same_page space number space number ≡ true
same_page space.Kernel P0 = refl
same_page space.Kernel P1 = refl
same_page space.Kernel P2 = refl
same_page space.Kernel P3 = refl
same_page space.Kernel P4 = refl
same_page space.Kernel P5 = refl
same_page space.Kernel P6 = refl
same_page space.Kernel P7 = refl
same_page space.User P0 = refl
same_page space.User P1 = refl
same_page space.User P2 = refl
same_page space.User P3 = refl
same_page space.User P4 = refl
same_page space.User P5 = refl
same_page space.User P6 = refl
same_page space.User P7 = refl

changed_is : (space : Space) (number : PageNumber) (page : Apr) (kt : MappingRegisters) → HasEightPages kt
    → page_at space number (with_page space number page kt) ≡ page
changed_is space number page kt eight = page_changed space space number number page kt eight ∙ rw (same_page space number) refl

pub descriptor_back : WrittenDescriptorReadsBack
unfolding kt_value kt_written
descriptor_back space number word kt eight =
    ap descriptor_word (changed_is space number (descriptor_written word (page_at space number kt)) kt eight)
    ∙ written_descriptor word (page_at space number kt)

pub address_back : WrittenAddressReadsBack
unfolding kt_value kt_written address_written
address_back space number word kt eight =
    ap (λ (p : Apr). p.frame) (changed_is space number (address_written word (page_at space number kt)) kt eight) ∙ omega arith

status_of_word : (word resident length read_only mode page enabled middle low old : ℕ)
    → resident ≡ word / 0o100000 % 2 → length ≡ word / 0o40000 % 2 → read_only ≡ word / 0o20000 % 2 → enabled ≡ word / 1 % 2
    → middle ≡ mode → low ≡ page * 2 + old → old < 2
    → resident * 0o100000 + length * 0o40000 + read_only * 0o20000 + mode * 0o40 + page * 2 + enabled
    ≡ word / 0o20000 % 8 * 0o20000 + middle * 0o40 + low / 2 * 2 + word % 2
status_of_word word resident length read_only mode page enabled middle low old resident_is length_is read_only_is enabled_is middle_is low_is old_fits =
    omega arith

pub status_back : WrittenStatus0ReadsBack
unfolding kt_value kt_written mapping_status_written
status_back word kt =
    let part = status_of_parts kt.status in
    status_of_word word _ _ _ (mode_bits kt.status.mode) (page_number kt.status.page) _ _ _ (bit_of kt.status.enabled)
    (bit_of_flag (word / 0o100000 % 2) (omega arith)) (bit_of_flag (word / 0o40000 % 2) (omega arith))
    (bit_of_flag (word / 0o20000 % 2) (omega arith)) (bit_of_flag (word / 1 % 2) (omega arith)) part.1 part.2 (flag_below kt.status.enabled)

-- pages in range stay so
pub power_in_range : PowerGivesPagesInRange
unfolding empty_page
power_in_range space number = rw (powered_page space number) (record { frame = omega arith; length = omega arith })

either : (same : Bool) (page old : Apr) → HasBitsInRange page → HasBitsInRange old → HasBitsInRange (if same then page else old)
either true page old new before = new
either false page old new before = before

changed_in_range : (space : Space) (number : PageNumber) (page : Apr) (kt : MappingRegisters) → HasEightPages kt → PagesAreInRange kt → HasBitsInRange page
    → PagesAreInRange (with_page space number page kt)
changed_in_range space number page kt eight ranged new other another =
    rw (page_changed other space another number page kt eight)
    (either (is_same_page other another space number) page (page_at other another kt) new (ranged other another))

status_in_range : (status : MappingStatus) (kt : MappingRegisters) → PagesAreInRange kt → PagesAreInRange (record kt { status = status })
status_in_range status kt ranged space number = rw (status_apart space number status kt) (ranged space number)

fetch_in_range : (frozen : Bool) (address : ℕ) (kt : MappingRegisters) → PagesAreInRange kt → PagesAreInRange (if frozen then kt else record kt { last_fetch = address })
fetch_in_range frozen address kt ranged space number = rw (fetch_apart frozen space number address kt) (ranged space number)

passed_in_range : (access : Access) (space : Space) (number : PageNumber) (kt : MappingRegisters) → HasEightPages kt → PagesAreInRange kt
    → PagesAreInRange (with_w_bit access space number kt)
passed_in_range Read space number kt eight ranged = ranged
passed_in_range Write space number kt eight ranged =
    let here = ranged space number in
    changed_in_range space number (record (page_at space number kt) { written = true }) kt eight ranged (record { frame = here.frame; length = here.length })

checked_in_range : (outcome : Option Abort) (space : Space) (mode : Mode) (address : ℕ) (access : Access) (kt : MappingRegisters) → HasEightPages kt
    → PagesAreInRange kt → PagesAreInRange (checked_translation outcome space mode address access kt).after
checked_in_range (Some abort) space mode address access kt eight ranged = status_in_range _ kt ranged
checked_in_range None space mode address access kt eight ranged = passed_in_range access space (page_of address) kt eight ranged

mapped_in_range : (home : Option Space) (mode : Mode) (address : ℕ) (access : Access) (kt : MappingRegisters) → HasEightPages kt
    → PagesAreInRange kt → PagesAreInRange (mapped_in home mode address access kt).after
mapped_in_range (Some space) mode address access kt eight ranged =
    checked_in_range (abort_in (page_at space (page_of address) kt) access (block_of address)) space mode address access kt eight ranged
mapped_in_range None mode address access kt eight ranged = status_in_range _ kt ranged

access_in_range : (mode : Mode) (address : ℕ) (access : Access) (kt : MappingRegisters) (on : Bool) → kt.status.enabled ≡ on → HasEightPages kt
    → PagesAreInRange kt → PagesAreInRange (translate mode address access kt).after
access_in_range mode address access kt false enabled eight ranged = rw ((mapping_off mode address access kt enabled).1) ranged
access_in_range mode address access kt true enabled eight ranged =
    rw (while_on mode address access kt enabled) (mapped_in_range (space_of mode) mode address access kt eight ranged)

use_in_range : (use_of : KtUse) (kt : MappingRegisters) → HasEightPages kt → PagesAreInRange kt → PagesAreInRange (kt_after_use use_of kt)
unfolding kt_written kt_fetched descriptor_written address_written
use_in_range (Accessing mode address access) kt eight ranged = access_in_range mode address access kt kt.status.enabled refl eight ranged
use_in_range (Writing Status0 word) kt eight ranged = status_in_range _ kt ranged
use_in_range (Writing Status1 word) kt eight ranged = ranged
use_in_range (Writing Status2 word) kt eight ranged = ranged
use_in_range (Writing (Descriptor space number) word) kt eight ranged =
    changed_in_range space number (descriptor_written word (page_at space number kt)) kt eight ranged
    (record { frame = (ranged space number).frame; length = omega arith })
use_in_range (Writing (Address space number) word) kt eight ranged =
    changed_in_range space number (address_written word (page_at space number kt)) kt eight ranged
    (record { frame = omega arith; length = (ranged space number).length })
use_in_range (Fetching address) kt eight ranged = fetch_in_range _ address kt ranged
use_in_range Resetting kt eight ranged = status_in_range _ kt ranged

pub uses_keep_range : UsesKeepPagesInRange
uses_keep_range [] kt eight ranged = ranged
uses_keep_range (use_of ∷ uses) kt eight ranged =
    uses_keep_range uses (kt_after_use use_of kt) (use_keeps_pages use_of kt eight) (use_in_range use_of kt eight ranged)
