use Rattle.std.proofs.Common.{◌≡◌, ◌*◌, ◌/◌, ℕ, true, List, [], Option, replicate, refl}
use Rattle.pdp_store.specs.declared.paged_drive.Backing.{Backing}
use Rattle.pdp_store.specs.declared.paged_drive.Backing.TheVariants.{Written}
use Rattle.pdp_store.specs.Pages.{PagedWords, SharedPage, blank_words}
use Rattle.pdp_store.specs.Stored.{no_touch_in}
use Rattle.pdp_store.specs.DriveBackings.{AreDriveFields, words_read, bases_held}
use Rattle.pdp_store.proofs.DriveBackings.{fields-blank, words-blank, bases-blank}
use Rattle.pdp_store.proofs.paged_drive.PagedDrive.new.Goals as goal

fields : (pages : List SharedPage) (backings : List Backing) (own : List ℕ) (len : ℕ) → (len / 256) * 256 ≡ len → pages ≡ []
    → backings ≡ replicate (len / 256) Written → own ≡ replicate len 0 → AreDriveFields pages backings own 0 true
fields pages backings own len whole none written zeros = rw (none, written, zeros) (fields-blank len whole)

abbrev drive : List ℕ → List (Option ℕ) → List ℕ → PagedWords
drive words bases first_touches = record { words = words; bases = bases; given = 0; first_touches = first_touches }

value : (pages : List SharedPage) (backings : List Backing) (own first_touches : List ℕ) (len : ℕ) → pages ≡ []
    → backings ≡ replicate (len / 256) Written → own ≡ replicate len 0 → first_touches ≡ no_touch_in len
    → drive (words_read pages backings own) (bases_held pages backings) first_touches ≡ blank_words len
value pages backings own first_touches len none written zeros blank =
    rw (none, written, zeros, blank) (rw (words-blank (len / 256) len, bases-blank (len / 256)) refl)

pub invariant_of-result : goal.invariant_of-result
invariant_of-result c =
    fields _ _ _ c.args.len c.requires (rw c.in_ok-pages.ensures.ok c.new-list.ensures.items) (c.in_ok-backings.ensures.items_if_clones_equal (λ y same. same)) (c.in_ok-own.ensures.items_if_clones_equal (λ y same. same))

pub returns : goal.returns
returns c =
    value _ _ _ _ c.args.len (rw c.in_ok-pages.ensures.ok c.new-list.ensures.items) (c.in_ok-backings.ensures.items_if_clones_equal (λ y same. same)) (c.in_ok-own.ensures.items_if_clones_equal (λ y same. same)) c.in_ok-touches.ensures
