-- W of a page along the uses of the registers.
use Rattle.std.proofs.Common.{◌≡◌, ℕ, ◌<◌, ◌==◌, Bool, true, false, not, ◌&&◌, ◌||◌, List, [], ◌∷◌, length, slice_index_or, slice_set, if◌then◌else◌, Option, Some, None, is_ok, refl, ◌∙◌, ap, arith, length-set, get_or-set_same, get_or-set_other}
use Rattle.std.proofs.lemmas.Bool.{eqb-true, eqb-false}
use Rattle.pdp_kt11.proofs.AbortLaws.{mapping_off, while_on}
use Rattle.pdp_kt11.specs.Handbook.Kt.{kt_fetched, kt_written, page_at, kt_at_power_up, with_page}
use Rattle.pdp_kt11.specs.Laws.{HasEightPages, PowerClearsWrittenBits, PowerGivesEightPages, KtUse, UsesKeepEightPages, WrittenBitsTellTheTruth, kt_after_use, is_address_in, is_same_page, place_of, told_by, told_after, writes_through}
use Rattle.pdp_kt11.specs.Handbook.Apr.{address_written, descriptor_written, empty_page, page_number, space_of}
use Rattle.pdp_kt11.specs.Handbook.Translation.{abort_in, block_of, checked_translation, mapped_in, page_of, with_w_bit, translate}
use Rattle.pdp_kt11.specs.declared.registers.MappingRegisters.{MappingRegisters}
use Rattle.pdp_kt11.specs.declared.mode.Mode.{Mode}
use Rattle.pdp_kt11.specs.declared.apr.Apr.{Apr}
use Rattle.pdp_kt11.specs.declared.apr.PageNumber.{PageNumber}
use Rattle.pdp_kt11.specs.declared.apr.PageNumber.TheVariants.{P0, P1, P2, P3, P4, P5, P6, P7}
use Rattle.pdp_kt11.specs.declared.apr.Space.{Space}
use Rattle.pdp_kt11.specs.declared.apr.Space.TheVariants.{Kernel, User}
use Rattle.pdp_kt11.specs.declared.place.Abort.{Abort}
use Rattle.pdp_kt11.specs.declared.place.Access.{Access}
use Rattle.pdp_kt11.specs.declared.place.Access.TheVariants.{Read, Write}
use Rattle.pdp_kt11.specs.declared.register.KtRegister.TheVariants.{Status0, Status1, Status2, Descriptor, Address}
use Rattle.pdp_kt11.specs.declared.status.MappingStatus.{MappingStatus}
use Rattle.pdp_kt11.specs.Laws.KtUse.{Accessing, Writing, Fetching, Resetting}

pub number_below : (number : PageNumber) → page_number number < 8
number_below P0 = omega arith
number_below P1 = omega arith
number_below P2 = omega arith
number_below P3 = omega arith
number_below P4 = omega arith
number_below P5 = omega arith
number_below P6 = omega arith
number_below P7 = omega arith

-- a list of eight pages in which one is exchanged
exchanged : (pages : List Apr) (i j : ℕ) (page : Apr) (same : Bool) → (i == j) ≡ same → j < length pages
    → slice_index_or (slice_set pages j page) i empty_page ≡ (if same then page else slice_index_or pages i empty_page)
exchanged pages i j page true is within = rw (eqb-true i j is) (get_or-set_same pages j page empty_page within)
exchanged pages i j page false is within = get_or-set_other pages j i page empty_page (eqb-false i j is)

-- the pages with one of them changed
pub page_changed : (space other : Space) (number another : PageNumber) (page : Apr) (kt : MappingRegisters) → HasEightPages kt
    → page_at space number (with_page other another page kt)
    ≡ (if is_same_page space number other another then page else page_at space number kt)
unfolding page_at with_page
page_changed Kernel Kernel number another page kt eight =
    let below = number_below another in
    exchanged kt.kernel (page_number number) (page_number another) page _ refl (omega (arith, eight.kernel, below))
page_changed Kernel User number another page kt eight = refl
page_changed User Kernel number another page kt eight = refl
page_changed User User number another page kt eight =
    let below = number_below another in
    exchanged kt.user (page_number number) (page_number another) page _ refl (omega (arith, eight.user, below))

-- W of a page if a page was exchanged for one with W clear, or for one with W set
cleared : (same : Bool) (page old : Apr) → page.written ≡ false → (if same then page else old).written ≡ (not same && old.written)
cleared true page old clear = clear
cleared false page old clear = refl

marked : (same : Bool) (page old : Apr) → page.written ≡ true → (if same then page else old).written ≡ (same || old.written)
marked true page old set = set
marked false page old set = refl

-- the status and what was fetched are of no page
pub status_apart : (space : Space) (number : PageNumber) (status : MappingStatus) (kt : MappingRegisters)
    → page_at space number (record kt { status = status }) ≡ page_at space number kt
unfolding page_at
status_apart Kernel number status kt = refl
status_apart User number status kt = refl

pub fetch_apart : (frozen : Bool) (space : Space) (number : PageNumber) (address : ℕ) (kt : MappingRegisters)
    → page_at space number (if frozen then kt else record kt { last_fetch = address }) ≡ page_at space number kt
unfolding page_at
fetch_apart true space number address kt = refl
fetch_apart false Kernel number address kt = refl
fetch_apart false User number address kt = refl

-- an access to a page of this space
checked_tells : (outcome : Option Abort) (space other : Space) (number : PageNumber) (mode : Mode) (address : ℕ) (kt : MappingRegisters) → HasEightPages kt
    → (page_at space number (checked_translation outcome other mode address Write kt).after).written
    ≡ (is_ok (checked_translation outcome other mode address Write kt).address && is_same_page space number other (page_of address) || (page_at space number kt).written)
checked_tells (Some abort) space other number mode address kt eight = ap (λ (p : Apr). p.written) (status_apart space number _ kt)
checked_tells None space other number mode address kt eight =
    ap (λ (p : Apr). p.written) (page_changed space other number (page_of address) _ kt eight)
    ∙ marked (is_same_page space number other (page_of address)) _ (page_at space number kt) refl

write_tells : (home : Option Space) (space : Space) (number : PageNumber) (mode : Mode) (address : ℕ) (kt : MappingRegisters) → HasEightPages kt
    → (page_at space number (mapped_in home mode address Write kt).after).written
    ≡ (is_ok (mapped_in home mode address Write kt).address && is_address_in space number home address || (page_at space number kt).written)
write_tells None space number mode address kt eight = ap (λ (p : Apr). p.written) (status_apart space number _ kt)
write_tells (Some other) space number mode address kt eight =
    checked_tells (abort_in (page_at other (page_of address) kt) Write (block_of address)) space other number mode address kt eight

read_leaves : (outcome : Option Abort) (space other : Space) (number : PageNumber) (mode : Mode) (address : ℕ) (kt : MappingRegisters)
    → page_at space number (checked_translation outcome other mode address Read kt).after ≡ page_at space number kt
read_leaves (Some abort) space other number mode address kt = status_apart space number _ kt
read_leaves None space other number mode address kt = refl

read_tells : (home : Option Space) (space : Space) (number : PageNumber) (mode : Mode) (address : ℕ) (kt : MappingRegisters)
    → page_at space number (mapped_in home mode address Read kt).after ≡ page_at space number kt
read_tells None space number mode address kt = status_apart space number _ kt
read_tells (Some other) space number mode address kt =
    read_leaves (abort_in (page_at other (page_of address) kt) Read (block_of address)) space other number mode address kt

while_set : (on passes inside before : Bool) → on ≡ true → (passes && inside || before) ≡ (on && passes && inside || before)
while_set on passes inside before set = rw set refl

access_tells : (access : Access) (space : Space) (number : PageNumber) (mode : Mode) (address : ℕ) (kt : MappingRegisters) (on : Bool)
    → kt.status.enabled ≡ on → HasEightPages kt
    → (page_at space number (translate mode address access kt).after).written
    ≡ (writes_through space number mode address access kt || (page_at space number kt).written)
access_tells Read space number mode address kt false enabled eight = rw ((mapping_off mode address Read kt enabled).1) refl
access_tells Write space number mode address kt false enabled eight = rw ((mapping_off mode address Write kt enabled).1, enabled) refl
access_tells Read space number mode address kt true enabled eight =
    rw (while_on mode address Read kt enabled) (ap (λ (p : Apr). p.written) (read_tells (space_of mode) space number mode address kt))
access_tells Write space number mode address kt true enabled eight =
    rw (while_on mode address Write kt enabled, place_of) (write_tells (space_of mode) space number mode address kt eight ∙ while_set _ _ _ _ enabled)

-- W after one use
use_tells : (use_of : KtUse) (space : Space) (number : PageNumber) (kt : MappingRegisters) → HasEightPages kt
    → (page_at space number (kt_after_use use_of kt)).written ≡ told_after space number use_of kt (page_at space number kt).written
unfolding kt_written kt_fetched descriptor_written address_written
use_tells (Accessing mode address access) space number kt eight = access_tells access space number mode address kt kt.status.enabled refl eight
use_tells (Writing Status0 word) space number kt eight = ap (λ (p : Apr). p.written) (status_apart space number _ kt)
use_tells (Writing Status1 word) space number kt eight = refl
use_tells (Writing Status2 word) space number kt eight = refl
use_tells (Writing (Descriptor other another) word) space number kt eight =
    ap (λ (p : Apr). p.written) (page_changed space other number another (descriptor_written word (page_at other another kt)) kt eight)
    ∙ cleared (is_same_page space number other another) _ (page_at space number kt) refl
use_tells (Writing (Address other another) word) space number kt eight =
    ap (λ (p : Apr). p.written) (page_changed space other number another (address_written word (page_at other another kt)) kt eight)
    ∙ cleared (is_same_page space number other another) _ (page_at space number kt) refl
use_tells (Fetching address) space number kt eight = ap (λ (p : Apr). p.written) (fetch_apart _ space number address kt)
use_tells Resetting space number kt eight = ap (λ (p : Apr). p.written) (status_apart space number _ kt)

-- nothing takes a page away
changed_keeps : (space : Space) (number : PageNumber) (page : Apr) (kt : MappingRegisters) → HasEightPages kt → HasEightPages (with_page space number page kt)
unfolding with_page
changed_keeps Kernel number page kt eight = record { kernel = length-set _ _ _ ∙ eight.kernel; user = eight.user }
changed_keeps User number page kt eight = record { kernel = eight.kernel; user = length-set _ _ _ ∙ eight.user }

status_keeps : (status : MappingStatus) (kt : MappingRegisters) → HasEightPages kt → HasEightPages (record kt { status = status })
status_keeps status kt eight = record { kernel = eight.kernel; user = eight.user }

fetch_keeps : (frozen : Bool) (address : ℕ) (kt : MappingRegisters) → HasEightPages kt → HasEightPages (if frozen then kt else record kt { last_fetch = address })
fetch_keeps true address kt eight = eight
fetch_keeps false address kt eight = record { kernel = eight.kernel; user = eight.user }

passed_keeps : (access : Access) (space : Space) (number : PageNumber) (kt : MappingRegisters) → HasEightPages kt → HasEightPages (with_w_bit access space number kt)
passed_keeps Read space number kt eight = eight
passed_keeps Write space number kt eight = changed_keeps space number _ kt eight

checked_keeps : (outcome : Option Abort) (space : Space) (mode : Mode) (address : ℕ) (access : Access) (kt : MappingRegisters) → HasEightPages kt
    → HasEightPages (checked_translation outcome space mode address access kt).after
checked_keeps (Some abort) space mode address access kt eight = status_keeps _ kt eight
checked_keeps None space mode address access kt eight = passed_keeps access space (page_of address) kt eight

mapped_keeps : (home : Option Space) (mode : Mode) (address : ℕ) (access : Access) (kt : MappingRegisters) → HasEightPages kt
    → HasEightPages (mapped_in home mode address access kt).after
mapped_keeps (Some space) mode address access kt eight =
    checked_keeps (abort_in (page_at space (page_of address) kt) access (block_of address)) space mode address access kt eight
mapped_keeps None mode address access kt eight = status_keeps _ kt eight

access_keeps : (mode : Mode) (address : ℕ) (access : Access) (kt : MappingRegisters) (on : Bool) → kt.status.enabled ≡ on → HasEightPages kt
    → HasEightPages (translate mode address access kt).after
access_keeps mode address access kt false enabled eight = rw ((mapping_off mode address access kt enabled).1) eight
access_keeps mode address access kt true enabled eight =
    rw (while_on mode address access kt enabled) (mapped_keeps (space_of mode) mode address access kt eight)

pub use_keeps_pages : (use_of : KtUse) (kt : MappingRegisters) → HasEightPages kt → HasEightPages (kt_after_use use_of kt)
unfolding kt_written kt_fetched
use_keeps_pages (Accessing mode address access) kt eight = access_keeps mode address access kt kt.status.enabled refl eight
use_keeps_pages (Writing Status0 word) kt eight = status_keeps _ kt eight
use_keeps_pages (Writing Status1 word) kt eight = eight
use_keeps_pages (Writing Status2 word) kt eight = eight
use_keeps_pages (Writing (Descriptor space number) word) kt eight = changed_keeps space number _ kt eight
use_keeps_pages (Writing (Address space number) word) kt eight = changed_keeps space number _ kt eight
use_keeps_pages (Fetching address) kt eight = fetch_keeps _ address kt eight
use_keeps_pages Resetting kt eight = status_keeps _ kt eight

pub uses_keep_pages : UsesKeepEightPages
uses_keep_pages [] kt eight = eight
uses_keep_pages (use_of ∷ uses) kt eight = uses_keep_pages uses (kt_after_use use_of kt) (use_keeps_pages use_of kt eight)

pub written_tells : WrittenBitsTellTheTruth
written_tells space number [] kt eight = refl
written_tells space number (use_of ∷ uses) kt eight =
    written_tells space number uses (kt_after_use use_of kt) (use_keeps_pages use_of kt eight)
    ∙ ap (told_by space number uses (kt_after_use use_of kt)) (use_tells use_of space number kt eight)

-- as of power-up
pub power_gives_pages : PowerGivesEightPages
unfolding kt_at_power_up
power_gives_pages = record { kernel = refl; user = refl }

pub powered_page : (space : Space) (number : PageNumber) → page_at space number kt_at_power_up ≡ empty_page
unfolding page_at kt_at_power_up
powered_page Kernel P0 = refl
powered_page Kernel P1 = refl
powered_page Kernel P2 = refl
powered_page Kernel P3 = refl
powered_page Kernel P4 = refl
powered_page Kernel P5 = refl
powered_page Kernel P6 = refl
powered_page Kernel P7 = refl
powered_page User P0 = refl
powered_page User P1 = refl
powered_page User P2 = refl
powered_page User P3 = refl
powered_page User P4 = refl
powered_page User P5 = refl
powered_page User P6 = refl
powered_page User P7 = refl

pub power_clears_written : PowerClearsWrittenBits
unfolding empty_page
power_clears_written space number = ap (λ (p : Apr). p.written) (powered_page space number)
