-- A drive taken as pages, and loaded from them.
use Rattle.std.proofs.Common.{◌≡◌, ◌≢◌, ℕ, suc, zero, ◌+◌, ◌*◌, ◌/◌, ◌%◌, ◌-◌, ◌<◌, ◌≤◌, ◌^◌, Bool, false, true, List, [], ◌∷◌, ◌++◌, Option, Some, None, length, map, take, drop, get_or, replicate, slice_get, slice_set, refl, sym, ◌∙◌, ap, arith, length-append, length-set, append_assoc}
use Rattle.std.proofs.lemmas.List.{ext_get_or, length-map, map-append, length-replicate, length-take-le, length-drop, take_all, take_at, take_more, take_more_set}
use Rattle.pdp_store.specs.declared.paged_drive.Backing.{Backing}
use Rattle.pdp_store.specs.declared.paged_drive.Backing.TheVariants.{Shared, Written, Copied}
use Rattle.pdp_store.specs.Pages.{PagedWords, SharedPage, page_words, page_stamps, page_serial, words_of, stamps_of, serials, serials_taken, given_after, next_serial, next_given}
use Rattle.pdp_store.specs.declared.Stamp.{Stamp}
use Rattle.pdp_store.specs.Bases.{IsPageOf, serial_there, given_there}
use Rattle.pdp_store.specs.Pieces.{piece}
use Rattle.pdp_store.specs.DriveBackings.{AreDriveFields, AreTaken, copied_from, drive_from_pages, base_from, backing_at, base_at, word_from, words_read, bases_held, with_part}
use Rattle.pdp_store.proofs.DriveBackings.{length-words_read, length-bases_held, get_or-bases_held, get_or-piece, read_shared, read_own, not_none, same_words, same_bases, words-shared, bases-shared, length-with_part}
use Rattle.pdp_store.proofs.Pages.{length-words_of, words_of-push, stamps_of-push, take-piece}

-- how many words and places there are
pub count_own : (pages : List SharedPage) (backings : List Backing) (own words : List ℕ) → words_read pages backings own ≡ words → length words ≡ length own
count_own pages backings own words is = sym (ap length is) ∙ length-words_read pages backings own

pub count_places : (pages : List SharedPage) (backings : List Backing) (bases : List (Option ℕ)) → bases_held pages backings ≡ bases → length bases ≡ length backings
count_places pages backings bases is = sym (ap length is) ∙ length-bases_held pages backings

-- the base of a place
pub base_there : (pages : List SharedPage) (backings : List Backing) (bases : List (Option ℕ)) (k : ℕ) (held : Backing) → bases_held pages backings ≡ bases
    → k < length backings → held ≡ backing_at backings k → get_or bases k None ≡ base_from held (slice_get pages k)
base_there pages backings bases k held is within here =
    ap (λ xs. get_or xs k None) (sym is) ∙ get_or-bases_held pages backings k None within ∙ ap (λ p. base_from p (slice_get pages k)) (sym here)

given_with : (page : Option SharedPage) (given : ℕ) → page ≢ None → given ≡ given_there (base_from Shared page) given
given_with None given some = absurd (some refl)
given_with (Some page) given some = refl

-- a place that was not written takes no new serial
pub given_kept : (held : Backing) (pages : List SharedPage) (k given : ℕ) → held ≢ Written → (held ≡ Shared → k < length pages)
    → given ≡ given_there (base_from held (slice_get pages k)) given
given_kept Shared pages k given other shared = given_with (slice_get pages k) given (not_none pages k (shared refl))
given_kept Written pages k given other shared = absurd (other refl)
given_kept (Copied serial) pages k given other shared = refl

pub base_of_own : (held : Backing) (page : Option SharedPage) → held ≢ Shared → base_from held page ≡ base_from held None
base_of_own Shared page other = absurd (other refl)
base_of_own Written page other = refl
base_of_own (Copied serial) page other = refl

length-piece : (k : ℕ) (xs : List ℕ) → k * 256 + 256 ≤ length xs → length (piece k xs) ≡ 256
unfolding piece
length-piece k xs within =
    let rest : length (drop (k * 256) xs) ≡ length xs - k * 256 = length-drop (k * 256) xs in
    length-take-le 256 (drop (k * 256) xs) (omega arith)

pub length-part : (k : ℕ) (xs part : List ℕ) → part ≡ piece k xs → k * 256 + 256 ≤ length xs → length part ≡ 256
length-part k xs part is within = ap length is ∙ length-piece k xs within

-- the words that are read of a place
pub piece-shared : (pages : List SharedPage) (backings : List Backing) (own : List ℕ) (k : ℕ) (page : SharedPage) → length own ≡ length backings * 256
    → k < length backings → backing_at backings k ≡ Shared → slice_get pages k ≡ Some page → page_words page ≡ piece k (words_read pages backings own)
piece-shared pages backings own k page full within is at =
    let all : length (words_read pages backings own) ≡ length own = length-words_read pages backings own in
    let many : length (page_words page) ≡ 256 = page.value.full in
    let size : length (piece k (words_read pages backings own)) ≡ 256 = length-piece k (words_read pages backings own) (omega arith) in
    ext_get_or 0 (page_words page) (piece k (words_read pages backings own)) (many ∙ sym size) (λ j below.
    let place : (k * 256 + j) / 256 ≡ k = omega arith in
    let left : (k * 256 + j) % 256 ≡ j = omega arith in
    ap (λ n. get_or (page_words page) n 0) (sym left)
    ∙ sym (read_shared pages backings own (k * 256 + j) page (omega arith) (ap (λ n. backing_at backings n) place ∙ is) (ap (λ n. slice_get pages n) place ∙ at))
    ∙ sym (get_or-piece k (words_read pages backings own) j (omega arith)))

pub piece-own : (pages : List SharedPage) (backings : List Backing) (own : List ℕ) (k : ℕ) → length own ≡ length backings * 256
    → k < length backings → backing_at backings k ≢ Shared → piece k own ≡ piece k (words_read pages backings own)
piece-own pages backings own k full within other =
    let all : length (words_read pages backings own) ≡ length own = length-words_read pages backings own in
    let many : length (piece k own) ≡ 256 = length-piece k own (omega arith) in
    let size : length (piece k (words_read pages backings own)) ≡ 256 = length-piece k (words_read pages backings own) (omega arith) in
    ext_get_or 0 (piece k own) (piece k (words_read pages backings own)) (many ∙ sym size) (λ j below.
    let place : (k * 256 + j) / 256 ≡ k = omega arith in
    get_or-piece k own j (omega arith)
    ∙ sym (read_own pages backings own (k * 256 + j) (omega arith) (λ is. other (sym (ap (λ n. backing_at backings n) place) ∙ is)))
    ∙ sym (get_or-piece k (words_read pages backings own) j (omega arith)))

-- the pages of a list without stamps have none
pub stamps-none : (pages : List SharedPage) (k : ℕ) (page : SharedPage) → stamps_of pages ≡ [] → slice_get pages k ≡ Some page → page_stamps page ≡ []
unfolding stamps_of
stamps-none [] k page none is = absurd (cc)
stamps-none (first ∷ pages) k page none is = in_parts (λ j rest at. stamps-none pages j page rest at) (page_stamps first) refl k is
  where
    in_parts : ((j : ℕ) → stamps_of pages ≡ [] → slice_get pages j ≡ Some page → page_stamps page ≡ []) → (stamps : List (Option Stamp)) → stamps ≡ page_stamps first → (k : ℕ) → slice_get (first ∷ pages) k ≡ Some page → page_stamps page ≡ []
    in_parts others (last ∷ stamps) these k is = let joined : (last ∷ stamps) ++ stamps_of pages ≡ [] = ap (λ xs. xs ++ stamps_of pages) these ∙ none in absurd (cc)
    in_parts others [] these zero is = let same : first ≡ page = cc in ap page_stamps (sym same) ∙ sym these
    in_parts others [] these (suc k) is = let rest : stamps_of pages ≡ [] = ap (λ xs. xs ++ stamps_of pages) these ∙ none in others k rest is

-- the serials of one place more, and how many are given then
serials_taken-push : (bases : List (Option ℕ)) (base : Option ℕ) (given : ℕ)
    → serials_taken (bases ++ base ∷ []) given ≡ serials_taken bases given ++ serial_there base (given_after bases given) ∷ []
unfolding serials_taken given_after
serials_taken-push [] None given = refl
serials_taken-push [] (Some serial) given = refl
serials_taken-push (None ∷ bases) base given = ap (λ xs. next_serial given ∷ xs) (serials_taken-push bases base (next_given given))
serials_taken-push (Some serial ∷ bases) base given = ap (λ xs. serial ∷ xs) (serials_taken-push bases base given)

given_after-push : (bases : List (Option ℕ)) (base : Option ℕ) (given : ℕ)
    → given_after (bases ++ base ∷ []) given ≡ given_there base (given_after bases given)
unfolding given_after
given_after-push [] None given = refl
given_after-push [] (Some serial) given = refl
given_after-push (None ∷ bases) base given = given_after-push bases base (next_given given)
given_after-push (Some serial ∷ bases) base given = given_after-push bases base given

-- if each place has a base, they are given again
pub serials_taken-held : (xs : List ℕ) (given : ℕ) → serials_taken (map Some xs) given ≡ xs
unfolding serials_taken
serials_taken-held [] given = refl
serials_taken-held (x ∷ xs) given = ap (λ ys. x ∷ ys) (serials_taken-held xs given)

pub given_after-held : (xs : List ℕ) (given : ℕ) → given_after (map Some xs) given ≡ given
unfolding given_after
given_after-held [] given = refl
given_after-held (x ∷ xs) given = given_after-held xs given

pub taken-none : (words : List ℕ) (bases : List (Option ℕ)) (given : ℕ) → AreTaken [] given (take (0 * 256) words) (take 0 bases) given
unfolding words_of stamps_of serials_taken given_after
taken-none words bases given = record { has_words = refl; has_stamps = refl; has_serials = refl; is_after = refl }

pub taken-more : (pages : List SharedPage) (after next : ℕ) (words : List ℕ) (bases : List (Option ℕ)) (given k : ℕ) (page : SharedPage)
    → AreTaken pages after (take (k * 256) words) (take k bases) given → k < length bases
    → IsPageOf page (piece k words) [] (serial_there (get_or bases k None) after) → next ≡ given_there (get_or bases k None) after
    → AreTaken (pages ++ page ∷ []) next (take ((k + 1) * 256) words) (take (k + 1) bases) given
taken-more pages after next words bases given k page taken within made then =
    let more : take (k + 1) bases ≡ take k bases ++ get_or bases k None ∷ [] = take_more bases k None within in
    let b = get_or bases k None in
    record {
      has_words =
          words_of-push pages page ∙ ap (λ xs. xs ++ page_words page) taken.has_words ∙ ap (λ xs. take (k * 256) words ++ xs) made.has_words
          ∙ sym (take-piece k words);
      has_stamps = stamps_of-push pages page ∙ ap (λ xs. xs ++ page_stamps page) taken.has_stamps ∙ made.has_stamps;
      has_serials =
          map-append page_serial pages (page ∷ []) ∙ ap (λ xs. xs ++ page_serial page ∷ []) taken.has_serials
          ∙ ap (λ x. serials_taken (take k bases) given ++ x ∷ []) (made.has_serial ∙ ap (λ n. serial_there (get_or bases k None) n) taken.is_after)
          ∙ sym (serials_taken-push (take k bases) (get_or bases k None) given)
          ∙ ap (λ xs. serials_taken xs given) (sym more);
      is_after =
          then ∙ ap (λ n. given_there (get_or bases k None) n) taken.is_after
          ∙ sym (given_after-push (take k bases) (get_or bases k None) given)
          ∙ ap (λ xs. given_after xs given) (sym more);
    }

pub taken-all : (pages : List SharedPage) (after : ℕ) (words : List ℕ) (bases : List (Option ℕ)) (given k : ℕ)
    → AreTaken pages after (take (k * 256) words) (take k bases) given → length bases ≤ k → length words ≤ k * 256 → AreTaken pages after words bases given
taken-all pages after words bases given k taken all_bases all_words = record {
  has_words = taken.has_words ∙ take_all (k * 256) words all_words;
  has_stamps = taken.has_stamps;
  has_serials = taken.has_serials ∙ ap (λ xs. serials_taken xs given) (take_all k bases all_bases);
  is_after = taken.is_after ∙ ap (λ xs. given_after xs given) (take_all k bases all_bases);
}

-- a drive that reads all from a list of pages
abbrev pub drive : List ℕ → List (Option ℕ) → ℕ → List ℕ → PagedWords
drive words bases given first_touches = record { words = words; bases = bases; given = given; first_touches = first_touches }

pub renewed : (pages : List SharedPage) (backings : List Backing) (own : List ℕ) (given n : ℕ) (first_touches : List ℕ) → length pages ≡ n → length own ≡ n * 256
    → backings ≡ replicate n Shared → drive (words_read pages backings own) (bases_held pages backings) given first_touches ≡ drive_from_pages pages given first_touches
renewed pages backings own given n first_touches many full all =
    rw all (rw (words-shared pages n own many full, bases-shared pages n many) refl)

pub fields-renewed : (pages : List SharedPage) (backings : List Backing) (own : List ℕ) (given n : ℕ) → length pages ≡ n → length own ≡ n * 256
    → backings ≡ replicate n Shared → given < 2 ^ 64 → stamps_of pages ≡ [] → AreDriveFields pages backings own given false
fields-renewed pages backings own given n many full all range stamps = rw all (
    let size : length (replicate n Shared) ≡ n = length-replicate n Shared in
    record {
      words = rw size full;
      range = range;
      shared = λ k is. below k is;
      stamps = stamps;
      unchanged = λ same. (many ∙ sym size, ap (λ m. replicate m Shared) (sym size));
    })
  where
    written_past : (m k : ℕ) → backing_at (replicate m Shared) k ≡ Shared → k < m
    written_past zero k is = absurd (cc)
    written_past (suc m) zero is = omega arith
    written_past (suc m) (suc k) is = let rest : k < m = written_past m k is in omega arith

    below : (k : ℕ) → backing_at (replicate n Shared) k ≡ Shared → k < length pages
    below k is = let inside : k < n = written_past n k is in omega arith

-- pages that were copied, up to place k
pub record AreCopied (k : ℕ) (pages : List SharedPage) (own : List ℕ) (backings : List Backing) : Type 0 where
  pub words : take (k * 256) own ≡ words_of (take k pages)
  pub marks : take k backings ≡ map copied_from (take k pages)
  pub size : length own ≡ length pages * 256
  pub count : length backings ≡ length pages

pub copied-none : (pages : List SharedPage) (own : List ℕ) (backings : List Backing) → length own ≡ length pages * 256 → length backings ≡ length pages
    → AreCopied 0 pages own backings
unfolding words_of
copied-none pages own backings size count = record { words = refl; marks = refl; size = size; count = count }

take-with_part : (k : ℕ) (part xs : List ℕ) → length part ≡ 256 → k * 256 + 256 ≤ length xs
    → take ((k + 1) * 256) (with_part k part xs) ≡ take (k * 256) xs ++ part
unfolding with_part
take-with_part k part xs full fits =
    let front : length (take (k * 256) xs) ≡ k * 256 = length-take-le (k * 256) xs (omega arith) in
    let both : length (take (k * 256) xs ++ part) ≡ length (take (k * 256) xs) + length part = length-append (take (k * 256) xs) part in
    ap (λ ys. take ((k + 1) * 256) ys) (sym (append_assoc (take (k * 256) xs) part (drop 256 (drop (k * 256) xs))))
    ∙ take_at (take (k * 256) xs ++ part) (drop 256 (drop (k * 256) xs)) ((k + 1) * 256) (omega arith)

pub copied-more : (k : ℕ) (pages : List SharedPage) (own written : List ℕ) (backings : List Backing) (page : SharedPage) → AreCopied k pages own backings
    → k < length pages → page ≡ get_or pages k page → written ≡ with_part k (page_words page) own
    → AreCopied (k + 1) pages written (slice_set backings k (copied_from page))
copied-more k pages own written backings page copied within is put =
    let next : take (k + 1) pages ≡ take k pages ++ page ∷ [] = take_more pages k page within ∙ ap (λ p. take k pages ++ p ∷ []) (sym is) in
    let full : length (page_words page) ≡ 256 = page.value.full in
    let room : k * 256 + 256 ≤ length own = omega (arith, copied.size) in
    record {
      words =
          ap (λ xs. take ((k + 1) * 256) xs) put ∙ take-with_part k (page_words page) own full room
          ∙ ap (λ xs. xs ++ page_words page) copied.words ∙ sym (words_of-push (take k pages) page) ∙ ap words_of (sym next);
      marks =
          take_more_set backings k (copied_from page) (omega (arith, copied.count))
          ∙ ap (λ xs. xs ++ copied_from page ∷ []) copied.marks ∙ sym (map-append copied_from (take k pages) (page ∷ [])) ∙ ap (map copied_from) (sym next);
      size = ap length put ∙ length-with_part k (page_words page) own full room ∙ copied.size;
      count = length-set backings k (copied_from page) ∙ copied.count;
    }

pub copied-words : (k : ℕ) (pages : List SharedPage) (own : List ℕ) (backings : List Backing) → AreCopied k pages own backings → length pages ≤ k
    → own ≡ words_of pages
copied-words k pages own backings copied all =
    sym (take_all (k * 256) own (omega (arith, copied.size))) ∙ copied.words ∙ ap words_of (take_all k pages all)

pub copied-backings : (k : ℕ) (pages : List SharedPage) (own : List ℕ) (backings : List Backing) → AreCopied k pages own backings → length pages ≤ k
    → backings ≡ map copied_from pages
copied-backings k pages own backings copied all =
    sym (take_all k backings (omega (arith, copied.count))) ∙ copied.marks ∙ ap (map copied_from) (take_all k pages all)

-- a drive whose places are all copied
copied-there : (others : List SharedPage) (k : ℕ) → (backing_at (map copied_from others) k ≡ Shared) → ⊥
copied-there [] k is = absurd (cc)
copied-there (page ∷ others) zero is = absurd (cc)
copied-there (page ∷ others) (suc k) is = copied-there others k is

word-copied : (held : Backing) (page : Option SharedPage) (own : List ℕ) (i : ℕ) → held ≢ Shared → word_from held page own i ≡ get_or own i 0
word-copied Shared page own i other = absurd (other refl)
word-copied Written page own i other = refl
word-copied (Copied serial) page own i other = refl

base-copied : (pages others : List SharedPage) (k : ℕ) → k < length others → base_at pages (map copied_from others) k ≡ get_or (map Some (serials others)) k None
base-copied pages others k within = by_place others k within (slice_get pages k)
  where
    by_place : (others : List SharedPage) (k : ℕ) → k < length others → (page : Option SharedPage)
        → base_from (backing_at (map copied_from others) k) page ≡ get_or (map Some (serials others)) k None
    by_place [] k within page = absurd (omega arith)
    by_place (first ∷ others) zero within page = refl
    by_place (first ∷ others) (suc k) within page = by_place others k (omega arith) page

pub all-copied : (pages others : List SharedPage) (backings : List Backing) (own : List ℕ) (given : ℕ) (first_touches : List ℕ) → backings ≡ map copied_from others → own ≡ words_of others
    → drive (words_read pages backings own) (bases_held pages backings) given first_touches ≡ drive_from_pages others given first_touches
all-copied pages others backings own given first_touches marks words =
    let size : length (map copied_from others) ≡ length others = length-map others copied_from in
    let many : length (map Some (serials others)) ≡ length others = length-map (serials others) Some ∙ length-map others page_serial in
    let reads : words_read pages (map copied_from others) (words_of others) ≡ words_of others =
    same_words pages (map copied_from others) (words_of others) (words_of others) refl (λ i within.
    word-copied (backing_at (map copied_from others) (i / 256)) (slice_get pages (i / 256)) (words_of others) i (copied-there others (i / 256))) in
    let holds : bases_held pages (map copied_from others) ≡ map Some (serials others) =
    same_bases pages (map copied_from others) (map Some (serials others)) (size ∙ sym many) (λ k within. base-copied pages others k (omega arith)) in
    rw (marks, words) (rw (reads, holds) refl)

pub fields-copied : (pages others : List SharedPage) (backings old_places : List Backing) (own old_own : List ℕ) (given : ℕ) (changed : Bool)
    → AreDriveFields pages old_places old_own given changed → backings ≡ map copied_from others → own ≡ words_of others
    → AreDriveFields pages backings own given true
fields-copied pages others backings old_places own old_own given changed old marks words = rw (marks, words) (record {
  words = length-words_of others ∙ ap (λ n. n * 256) (sym (length-map others copied_from));
  range = old.range;
  shared = λ k is. absurd (copied-there others k is);
  stamps = old.stamps;
  unchanged = λ same. absurd (cc);
})
