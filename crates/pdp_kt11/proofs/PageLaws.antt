-- Where the physical addresses of a page are.
use Rattle.std.proofs.Common.{◌≡◌, ◌≢◌, ℕ, ◌+◌, ◌*◌, ◌/◌, ◌%◌, ◌<◌, ◌≤◌, Bool, true, false, Option, Some, None, Ok, inl, inr, refl, arith}
use Rattle.std.proofs.lemmas.Bool.{leb-true}
use Rattle.pdp_kt11.proofs.AbortLaws.{while_on}
use Rattle.pdp_kt11.specs.Handbook.Kt.{page_at}
use Rattle.pdp_kt11.specs.Laws.{AreDisjoint, DisjointPagesNeverMeet, FitsIn18Bits, first_block, first_grown, last_block, last_grown, page_through, place_of}
use Rattle.pdp_kt11.specs.Handbook.Apr.{space_of}
use Rattle.pdp_kt11.specs.Handbook.Translation.{abort_in, block_of, checked_translation, is_resident, is_within_length, mapped_address, mapped_in, page_of}
use Rattle.pdp_kt11.specs.declared.registers.MappingRegisters.{MappingRegisters}
use Rattle.pdp_kt11.specs.declared.mode.Mode.{Mode}
use Rattle.pdp_kt11.specs.declared.apr.Expansion.{Expansion}
use Rattle.pdp_kt11.specs.declared.apr.Expansion.TheVariants.{Upward, Downward}
use Rattle.pdp_kt11.specs.declared.apr.Apr.{Apr}
use Rattle.pdp_kt11.specs.declared.apr.Space.{Space}
use Rattle.pdp_kt11.specs.declared.place.Abort.{Abort}
use Rattle.pdp_kt11.specs.declared.place.Access.{Access}

-- a place of a page: in its first block, its last one, or between them
record IsInPage (page : Apr) (p : ℕ) : Type 0 where
  least : first_block page * 0o100 ≤ p
  most : p < (last_block page + 1) * 0o100

in_blocks : (expansion : Expansion) (page : Apr) (block byte : ℕ) → is_within_length expansion page.length block ≡ true → block < 0o200 → byte < 0o100
    → last_grown expansion page < 0o10000
    → (first_grown expansion page * 0o100 ≤ ((page.frame + block) * 0o100 + byte) % 0o1000000)
    × (((page.frame + block) * 0o100 + byte) % 0o1000000 < (last_grown expansion page + 1) * 0o100)
in_blocks Upward page block byte within small low fits =
    let below : block ≤ page.length = leb-true block page.length within in (omega arith, omega arith)
in_blocks Downward page block byte within small low fits =
    let above : page.length ≤ block = leb-true page.length block within in (omega arith, omega arith)

-- what goes through a page goes to one of its blocks
unaborted : (page : Apr) (access : Access) (block : ℕ) → abort_in page access block ≡ None → is_within_length page.expansion page.length block ≡ true
unaborted page access block passes = by_length (is_within_length page.expansion page.length block) refl where
  by_length : (within : Bool) → is_within_length page.expansion page.length block ≡ within → is_within_length page.expansion page.length block ≡ true
  by_length true is = is
  by_length false is = absurd (by_residence (is_resident page.access) refl) where
    by_residence : (resident : Bool) → is_resident page.access ≡ resident → ⊥
    by_residence true resides = let why = rw (resides, is) at passes in cc
    by_residence false resides = let why = rw resides at passes in cc

in_page : (page : Apr) (address : ℕ) (access : Access) → abort_in page access (block_of address) ≡ None → FitsIn18Bits page
    → IsInPage page (mapped_address page address)
in_page page address access passes fits =
    let here =
    in_blocks page.expansion page (block_of address) (address % 0o100) (unaborted page access (block_of address) passes)
    (omega arith) (omega arith) fits in
    record { least = here.0; most = here.1 }

place_checked : (outcome : Option Abort) (space : Space) (mode : Mode) (address : ℕ) (access : Access) (kt : MappingRegisters) (p : ℕ)
    → (checked_translation outcome space mode address access kt).address ≡ Ok p
    → (outcome ≡ None) × (p ≡ mapped_address (page_at space (page_of address) kt) address)
place_checked (Some abort) space mode address access kt p is = cc
place_checked None space mode address access kt p is = (refl, cc)

place_in : (space : Option Space) (mode : Mode) (address : ℕ) (access : Access) (kt : MappingRegisters) (page : Apr) (p : ℕ)
    → page_through space address kt ≡ Some page → (mapped_in space mode address access kt).address ≡ Ok p
    → FitsIn18Bits page → IsInPage page p
place_in None mode address access kt page p used is fits = cc
place_in (Some space) mode address access kt page p used is fits =
    let same : page_at space (page_of address) kt ≡ page = cc in
    let there = place_checked (abort_in (page_at space (page_of address) kt) access (block_of address)) space mode address access kt p is in
    let passes : abort_in page access (block_of address) ≡ None = rw same at there.0 in
    let place : p ≡ mapped_address page address = rw same at there.1 in
    rw place (in_page page address access passes fits)

apart : (page other : Apr) (p q : ℕ) → IsInPage page p → IsInPage other q → AreDisjoint page other → p / 2 ≢ q / 2
apart page other p q here there (inl ends) same = omega arith
apart page other p q here there (inr ends) same = omega arith

pub never_meet : DisjointPagesNeverMeet
never_meet kt mode another a b first second page other p q on used also fits too disjoint goes ends =
    apart page other p q
    (place_in (space_of mode) mode a first kt page p used (rw (while_on mode a first kt on, place_of) at goes) fits)
    (place_in (space_of another) another b second kt other q also (rw (while_on another b second kt on, place_of) at ends) too)
    disjoint
