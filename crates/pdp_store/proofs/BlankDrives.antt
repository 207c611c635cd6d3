-- A drive as it is made of one page of zeros.
use Rattle.std.proofs.Common.{◌≡◌, ℕ, suc, zero, ◌+◌, ◌*◌, ◌/◌, false, List, [], ◌∷◌, ◌++◌, Some, length, map, replicate, refl, sym, ◌∙◌, ap, arith}
use Rattle.std.proofs.lemmas.List.{length-map, length-replicate, map-append, replicate-append-replicate, replicate_more}
use Rattle.pdp_store.specs.declared.page.Page.{Page}
use Rattle.pdp_store.specs.declared.paged_drive.Backing.{Backing}
use Rattle.pdp_store.specs.declared.paged_drive.Backing.TheVariants.{Shared}
use Rattle.pdp_store.specs.Bases.{IsPageOf}
use Rattle.pdp_store.specs.DriveBackings.{AreDriveFields, AreZeros, bases_held, drive_from_pages, words_read}
use Rattle.pdp_store.specs.Pages.{SharedPage, blank_drive, stamps_of, page_stamps, page_serial, page_words, serials, words_of}
use Rattle.pdp_store.specs.Stored.{no_touch_in}
use Rattle.pdp_store.proofs.DriveTaken.{drive, fields-renewed, renewed}
use Rattle.pdp_store.proofs.Pages.{stamps_of-push, words_of-push}

pub zeros-none : AreZeros 0 []
unfolding words_of stamps_of
zeros-none = record { zeros = refl; no_stamps = refl; first = refl }

-- one owner more of the page
pub zeros-more : (count serial : ℕ) (pages : List SharedPage) (page owner : SharedPage) → AreZeros count pages
    → IsPageOf page (replicate 256 0) [] serial → serial ≡ 1 → owner.value ≡ page.value → AreZeros (count + 1) (pages ++ owner ∷ [])
zeros-more count serial pages page owner are is first same =
    let size : count * 256 + 256 ≡ (count + 1) * 256 = omega arith in
    record {
      zeros =
          words_of-push pages owner ∙ ap (λ xs. xs ++ page_words owner) are.zeros
          ∙ ap (λ xs. replicate (count * 256) 0 ++ xs) (ap (λ (p : Page). p.words.items) same ∙ is.has_words)
          ∙ replicate-append-replicate (count * 256) 256 0 ∙ ap (λ n. replicate n 0) size;
      no_stamps =
          stamps_of-push pages owner ∙ ap (λ xs. xs ++ page_stamps owner) are.no_stamps
          ∙ ap (λ (p : Page). p.stamps.value.items) same ∙ is.has_stamps;
      first =
          map-append page_serial pages (owner ∷ []) ∙ ap (λ xs. xs ++ page_serial owner ∷ []) are.first
          ∙ ap (λ n. replicate count 1 ++ n ∷ []) (ap (λ (p : Page). p.serial) same ∙ is.has_serial ∙ first)
          ∙ replicate_more count 1;
    }

-- as many pages as places
count-zeros : (count : ℕ) (pages : List SharedPage) → AreZeros count pages → length pages ≡ count
count-zeros count pages are = sym (length-map pages page_serial) ∙ ap length are.first ∙ length-replicate count 1

map-first : (count : ℕ) → map {A = ℕ} Some (replicate count 1) ≡ replicate count (Some 1)
map-first zero = refl
map-first (suc count) = ap (λ xs. Some 1 ∷ xs) (map-first count)

loaded-zeros : (count len : ℕ) (pages : List SharedPage) → AreZeros count pages → count ≡ len / 256 → count * 256 ≡ len
    → drive_from_pages pages 1 (no_touch_in len) ≡ blank_drive len
loaded-zeros count len pages are many whole =
    let words : words_of pages ≡ replicate len 0 = are.zeros ∙ ap (λ n. replicate n 0) whole in
    let bases : map Some (serials pages) ≡ replicate (len / 256) (Some 1) =
    ap (map {A = ℕ} Some) are.first ∙ map-first count ∙ ap (λ n. replicate n (Some 1)) many in
    rw (words, bases) refl

pub blank-value : (pages : List SharedPage) (backings : List Backing) (own first_touches : List ℕ) (count len : ℕ) → AreZeros count pages
    → count ≡ len / 256 → count * 256 ≡ len → backings ≡ replicate count Shared → own ≡ replicate len 0 → first_touches ≡ no_touch_in len
    → drive (words_read pages backings own) (bases_held pages backings) 1 first_touches ≡ blank_drive len
blank-value pages backings own first_touches count len are many whole shared zeros none =
    let size : length own ≡ count * 256 = ap length zeros ∙ length-replicate len 0 ∙ sym whole in
    renewed pages backings own 1 count first_touches (count-zeros count pages are) size shared
    ∙ ap (drive_from_pages pages 1) none ∙ loaded-zeros count len pages are many whole

pub blank-fields : (pages : List SharedPage) (backings : List Backing) (own : List ℕ) (count len : ℕ) → AreZeros count pages
    → count * 256 ≡ len → backings ≡ replicate count Shared → own ≡ replicate len 0 → AreDriveFields pages backings own 1 false
blank-fields pages backings own count len are whole shared zeros =
    fields-renewed pages backings own 1 count (count-zeros count pages are) (ap length zeros ∙ length-replicate len 0 ∙ sym whole) shared
    (omega arith) are.no_stamps
