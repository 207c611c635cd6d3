-- What a drive reads: its words one by one, after a write, and over other pages.
use Rattle.std.proofs.Common.{◌≡◌, ◌≢◌, ◌⊎◌, inl, inr, ℕ, suc, zero, ◌+◌, ◌*◌, ◌/◌, ◌%◌, ◌-◌, ◌<◌, ◌≤◌, Bool, true, List, [], ◌∷◌, ◌++◌, Option, Some, None, length, map, take, drop, get_or, replicate, slice_get, slice_set, slice_index, refl, sym, ◌∙◌, ap, arith, length-append, length-set, get_or-set_same, get_or-set_other}
use Rattle.std.proofs.lemmas.Bool.{cases_eq, cases_order}
use Rattle.std.proofs.lemmas.List.{ext_get_or, length-map, get_or-take, get_or-drop, take_at, length-replicate, get_or_append_left, get_or-append_right, length-take-le, length-drop, get_or-replicate}
use Rattle.std.proofs.lemmas.List.FromFn.{length-map-range_with_len, get_or-map-range_with_len}
use Rattle.pdp_store.specs.declared.paged_drive.Backing.{Backing}
use Rattle.pdp_store.specs.declared.paged_drive.Backing.TheVariants.{Shared, Written, Copied}
use Rattle.pdp_store.specs.Pages.{SharedPage, page_words, page_serial, words_of, stamps_of, serials}
use Rattle.pdp_store.specs.Pieces.{piece}
use Rattle.pdp_store.specs.DriveBackings.{AreDriveFields, word_from, base_from, backing_at, word_read, base_at, words_read, bases_held, with_part, own_with_copy}
use borrow.Rule.Slice.PartMut.{put_mid}
use Rattle.pdp_store.proofs.Pages.{length-words_of, piece-words_of}

pub length-words_read : (pages : List SharedPage) (backings : List Backing) (own : List ℕ) → length (words_read pages backings own) ≡ length own
unfolding words_read
length-words_read pages backings own = length-map-range_with_len (word_read pages backings own) 0 (length own)

pub length-bases_held : (pages : List SharedPage) (backings : List Backing) → length (bases_held pages backings) ≡ length backings
unfolding bases_held
length-bases_held pages backings = length-map-range_with_len (base_at pages backings) 0 (length backings)

-- each word, and each base
pub get_or-words_read : (pages : List SharedPage) (backings : List Backing) (own : List ℕ) (i d : ℕ) → i < length own
    → get_or (words_read pages backings own) i d ≡ word_read pages backings own i
unfolding words_read
get_or-words_read pages backings own i d within =
    get_or-map-range_with_len (word_read pages backings own) 0 (length own) i i d within (omega arith)

pub get_or-bases_held : (pages : List SharedPage) (backings : List Backing) (k : ℕ) (d : Option ℕ) → k < length backings
    → get_or (bases_held pages backings) k d ≡ base_at pages backings k
unfolding bases_held
get_or-bases_held pages backings k d within =
    get_or-map-range_with_len (base_at pages backings) 0 (length backings) k k d within (omega arith)

-- a list with as many words, and the same ones, is what is read
pub same_words : (pages : List SharedPage) (backings : List Backing) (own xs : List ℕ) → length own ≡ length xs
    → ((i : ℕ) → i < length own → word_read pages backings own i ≡ get_or xs i 0) → words_read pages backings own ≡ xs
same_words pages backings own xs many same =
    let all : length (words_read pages backings own) ≡ length own = length-words_read pages backings own in
    ext_get_or 0 (words_read pages backings own) xs (all ∙ many) (λ i within.
    let inside : i < length own = omega arith in
    get_or-words_read pages backings own i 0 inside ∙ same i inside)

pub same_bases : (pages : List SharedPage) (backings : List Backing) (xs : List (Option ℕ)) → length backings ≡ length xs
    → ((k : ℕ) → k < length backings → base_at pages backings k ≡ get_or xs k None) → bases_held pages backings ≡ xs
same_bases pages backings xs many same =
    let all : length (bases_held pages backings) ≡ length backings = length-bases_held pages backings in
    ext_get_or None (bases_held pages backings) xs (all ∙ many) (λ k within.
    let inside : k < length backings = omega arith in
    get_or-bases_held pages backings k None inside ∙ same k inside)

-- the words of a page put into a place of others
pub length-with_part : (k : ℕ) (part xs : List ℕ) → length part ≡ 256 → k * 256 + 256 ≤ length xs → length (with_part k part xs) ≡ length xs
unfolding with_part
length-with_part k part xs full fits =
    let front : length (take (k * 256) xs) ≡ k * 256 = length-take-le (k * 256) xs (omega arith) in
    let all = length-append (take (k * 256) xs) (part ++ drop 256 (drop (k * 256) xs)) in
    let tail = length-append part (drop 256 (drop (k * 256) xs)) in
    let rest = length-drop 256 (drop (k * 256) xs) in
    let back = length-drop (k * 256) xs in
    omega arith

with_part-inside : (k : ℕ) (part xs : List ℕ) (i : ℕ) → length part ≡ 256 → k * 256 + 256 ≤ length xs → k * 256 ≤ i → i < k * 256 + 256
    → get_or (with_part k part xs) i 0 ≡ get_or part (i - k * 256) 0
unfolding with_part
with_part-inside k part xs i full fits from below =
    let front : length (take (k * 256) xs) ≡ k * 256 = length-take-le (k * 256) xs (omega arith) in
    get_or-append_right (take (k * 256) xs) (part ++ drop 256 (drop (k * 256) xs)) (k * 256) i 0 front from
    ∙ get_or_append_left part (drop 256 (drop (k * 256) xs)) 0 (i - k * 256) (omega arith)

with_part-below : (k : ℕ) (part xs : List ℕ) (i : ℕ) → k * 256 + 256 ≤ length xs → i < k * 256 → get_or (with_part k part xs) i 0 ≡ get_or xs i 0
unfolding with_part
with_part-below k part xs i fits below =
    let front : length (take (k * 256) xs) ≡ k * 256 = length-take-le (k * 256) xs (omega arith) in
    get_or_append_left (take (k * 256) xs) (part ++ drop 256 (drop (k * 256) xs)) 0 i (omega arith)
    ∙ get_or-take (k * 256) xs i 0 below

with_part-above : (k : ℕ) (part xs : List ℕ) (i : ℕ) → length part ≡ 256 → k * 256 + 256 ≤ length xs → k * 256 + 256 ≤ i
    → get_or (with_part k part xs) i 0 ≡ get_or xs i 0
unfolding with_part
with_part-above k part xs i full fits from =
    let front : length (take (k * 256) xs) ≡ k * 256 = length-take-le (k * 256) xs (omega arith) in
    let place : k * 256 + (256 + (i - k * 256 - 256)) ≡ i = omega arith in
    get_or-append_right (take (k * 256) xs) (part ++ drop 256 (drop (k * 256) xs)) (k * 256) i 0 front (omega arith)
    ∙ get_or-append_right part (drop 256 (drop (k * 256) xs)) 256 (i - k * 256) 0 full (omega arith)
    ∙ get_or-drop 256 (drop (k * 256) xs) (i - k * 256 - 256) 0
    ∙ get_or-drop (k * 256) xs (256 + (i - k * 256 - 256)) 0
    ∙ ap (λ n. get_or xs n 0) place

pub with_part-here : (k : ℕ) (part xs : List ℕ) (i : ℕ) → length part ≡ 256 → k * 256 + 256 ≤ length xs → i / 256 ≡ k
    → get_or (with_part k part xs) i 0 ≡ get_or part (i % 256) 0
with_part-here k part xs i full fits here =
    let left : i - k * 256 ≡ i % 256 = omega arith in
    with_part-inside k part xs i full fits (omega arith) (omega arith) ∙ ap (λ n. get_or part n 0) left

pub with_part-other : (k : ℕ) (part xs : List ℕ) (i : ℕ) → length part ≡ 256 → k * 256 + 256 ≤ length xs → i / 256 ≢ k
    → get_or (with_part k part xs) i 0 ≡ get_or xs i 0
with_part-other k part xs i full fits other = by_side (cases_order (i / 256) k) where
  by_side : (i / 256 ≡ k) ⊎ ((i / 256 < k) ⊎ (k < i / 256)) → get_or (with_part k part xs) i 0 ≡ get_or xs i 0
  by_side (inl same) = absurd (other same)
  by_side (inr (inl below)) = with_part-below k part xs i fits (omega arith)
  by_side (inr (inr above)) = with_part-above k part xs i full fits (omega arith)

-- what the code makes of a list, a part of which it wrote
pub rewrapped : (k len : ℕ) (part written xs old : List ℕ) → old ≡ xs → written ≡ part → len ≡ length xs → length part ≡ 256 → k * 256 + 256 ≤ length xs
    → take len (put_mid (k * 256) (k * 256 + 256 - k * 256) old written ++ drop (length (put_mid (k * 256) (k * 256 + 256 - k * 256) old written)) xs)
    ≡ with_part k part xs
unfolding with_part
rewrapped k len part written xs old same_old same_part many full fits =
    let size : k * 256 + 256 - k * 256 ≡ 256 = omega arith in
    rw (same_old, same_part, size) (whole k len part xs many full fits)
  where
    whole : (k len : ℕ) (part xs : List ℕ) → len ≡ length xs → length part ≡ 256 → k * 256 + 256 ≤ length xs
        → take len (with_part k part xs ++ drop (length (with_part k part xs)) xs) ≡ with_part k part xs
    whole k len part xs many full fits =
        take_at (with_part k part xs) (drop (length (with_part k part xs)) xs) len (length-with_part k part xs full fits ∙ sym many)

-- a place that is made the drive's own
length-page : (page : SharedPage) → length (page_words page) ≡ 256
length-page page = page.value.full

pub length-unshared : (held : Backing) (page : Option SharedPage) (k : ℕ) (own : List ℕ) → k * 256 + 256 ≤ length own
    → length (own_with_copy held page k own) ≡ length own
length-unshared Shared None k own fits = refl
length-unshared Shared (Some page) k own fits = length-with_part k (page_words page) own (length-page page) fits
length-unshared Written page k own fits = refl
length-unshared (Copied serial) page k own fits = refl

unshared-here : (held : Backing) (page : Option SharedPage) (k : ℕ) (own : List ℕ) (i : ℕ) → k * 256 + 256 ≤ length own → i / 256 ≡ k
    → get_or (own_with_copy held page k own) i 0 ≡ word_from held page own i
unshared-here Shared None k own i fits here = refl
unshared-here Shared (Some page) k own i fits here = with_part-here k (page_words page) own i (length-page page) fits here
unshared-here Written page k own i fits here = refl
unshared-here (Copied serial) page k own i fits here = refl

unshared-other : (held : Backing) (page : Option SharedPage) (k : ℕ) (own : List ℕ) (i : ℕ) → k * 256 + 256 ≤ length own → i / 256 ≢ k
    → get_or (own_with_copy held page k own) i 0 ≡ get_or own i 0
unshared-other Shared None k own i fits other = refl
unshared-other Shared (Some page) k own i fits other = with_part-other k (page_words page) own i (length-page page) fits other
unshared-other Written page k own i fits other = refl
unshared-other (Copied serial) page k own i fits other = refl

-- a word is the same if its own word is
word_from-same : (held : Backing) (page : Option SharedPage) (own others : List ℕ) (i : ℕ) → get_or others i 0 ≡ get_or own i 0
    → word_from held page others i ≡ word_from held page own i
word_from-same Shared None own others i same = same
word_from-same Shared (Some page) own others i same = refl
word_from-same Written page own others i same = same
word_from-same (Copied serial) page own others i same = same

-- the words of a drive's own after a write of word i
abbrev replaced : List SharedPage → List Backing → List ℕ → ℕ → ℕ → List ℕ
replaced pages backings own i w = slice_set (own_with_copy (backing_at backings (i / 256)) (slice_get pages (i / 256)) (i / 256) own) i w

length-replaced : (pages : List SharedPage) (backings : List Backing) (own : List ℕ) (i w : ℕ) → length own ≡ length backings * 256 → i < length own
    → length (replaced pages backings own i w) ≡ length own
length-replaced pages backings own i w full within =
    length-set (own_with_copy (backing_at backings (i / 256)) (slice_get pages (i / 256)) (i / 256) own) i w
    ∙ length-unshared (backing_at backings (i / 256)) (slice_get pages (i / 256)) (i / 256) own (omega arith)

replaced-word : (pages : List SharedPage) (backings : List Backing) (own : List ℕ) (i w j : ℕ) → length own ≡ length backings * 256 → i < length own
    → j < length own → (j ≡ i) ⊎ (j ≢ i) → (j / 256 ≡ i / 256) ⊎ (j / 256 ≢ i / 256)
    → word_read pages (slice_set backings (i / 256) Written) (replaced pages backings own i w) j ≡ get_or (slice_set (words_read pages backings own) i w) j 0
replaced-word pages backings own i w j full within inside (inl same) place =
    let many : length (words_read pages backings own) ≡ length own = length-words_read pages backings own in
    let mine : length (own_with_copy (backing_at backings (i / 256)) (slice_get pages (i / 256)) (i / 256) own) ≡ length own =
    length-unshared (backing_at backings (i / 256)) (slice_get pages (i / 256)) (i / 256) own (omega arith) in
    rw same (
    ap (λ held. word_from held (slice_get pages (i / 256)) (replaced pages backings own i w) i) (get_or-set_same backings (i / 256) Written Written (omega arith))
    ∙ get_or-set_same (own_with_copy (backing_at backings (i / 256)) (slice_get pages (i / 256)) (i / 256) own) i w 0 (omega arith)
    ∙ sym (get_or-set_same (words_read pages backings own) i w 0 (omega arith)))
replaced-word pages backings own i w j full within inside (inr differs) (inl here) =
    let at : get_or (slice_set backings (i / 256) Written) (j / 256) Written ≡ Written =
    ap (λ k. get_or (slice_set backings (i / 256) Written) k Written) here ∙ get_or-set_same backings (i / 256) Written Written (omega arith) in
    ap (λ held. word_from held (slice_get pages (j / 256)) (replaced pages backings own i w) j) at
    ∙ get_or-set_other (own_with_copy (backing_at backings (i / 256)) (slice_get pages (i / 256)) (i / 256) own) i j w 0 differs
    ∙ unshared-here (backing_at backings (i / 256)) (slice_get pages (i / 256)) (i / 256) own j (omega arith) here
    ∙ ap (λ k. word_from (backing_at backings k) (slice_get pages k) own j) (sym here)
    ∙ sym (get_or-words_read pages backings own j 0 inside)
    ∙ sym (get_or-set_other (words_read pages backings own) i j w 0 differs)
replaced-word pages backings own i w j full within inside (inr differs) (inr other) =
    let at : get_or (slice_set backings (i / 256) Written) (j / 256) Written ≡ backing_at backings (j / 256) =
    get_or-set_other backings (i / 256) (j / 256) Written Written other in
    let mine : get_or (replaced pages backings own i w) j 0 ≡ get_or own j 0 =
    get_or-set_other (own_with_copy (backing_at backings (i / 256)) (slice_get pages (i / 256)) (i / 256) own) i j w 0 differs
    ∙ unshared-other (backing_at backings (i / 256)) (slice_get pages (i / 256)) (i / 256) own j (omega arith) other in
    ap (λ held. word_from held (slice_get pages (j / 256)) (replaced pages backings own i w) j) at
    ∙ word_from-same (backing_at backings (j / 256)) (slice_get pages (j / 256)) own (replaced pages backings own i w) j mine
    ∙ sym (get_or-words_read pages backings own j 0 inside)
    ∙ sym (get_or-set_other (words_read pages backings own) i j w 0 differs)

-- a write changes its word alone
pub words-replaced : (pages : List SharedPage) (backings : List Backing) (own : List ℕ) (i w : ℕ) → length own ≡ length backings * 256 → i < length own
    → words_read pages (slice_set backings (i / 256) Written) (replaced pages backings own i w) ≡ slice_set (words_read pages backings own) i w
words-replaced pages backings own i w full within =
    let many : length (replaced pages backings own i w) ≡ length own = length-replaced pages backings own i w full within in
    let all : length (slice_set (words_read pages backings own) i w) ≡ length own = length-set (words_read pages backings own) i w ∙ length-words_read pages backings own in
    same_words pages (slice_set backings (i / 256) Written) (replaced pages backings own i w) (slice_set (words_read pages backings own) i w) (many ∙ sym all) (λ j below.
    let inside : j < length own = omega arith in
    replaced-word pages backings own i w j full within inside (cases_eq j i) (cases_eq (j / 256) (i / 256)))

-- and leaves its place, alone, without a base
replaced-base : (pages : List SharedPage) (backings : List Backing) (k j : ℕ) → k < length backings → j < length backings → (j ≡ k) ⊎ (j ≢ k)
    → base_at pages (slice_set backings k Written) j ≡ get_or (slice_set (bases_held pages backings) k None) j None
replaced-base pages backings k j within inside (inl same) =
    let many : length (bases_held pages backings) ≡ length backings = length-bases_held pages backings in
    rw same (
    ap (λ held. base_from held (slice_get pages k)) (get_or-set_same backings k Written Written within)
    ∙ sym (get_or-set_same (bases_held pages backings) k None None (omega arith)))
replaced-base pages backings k j within inside (inr other) =
    ap (λ held. base_from held (slice_get pages j)) (get_or-set_other backings k j Written Written other)
    ∙ sym (get_or-bases_held pages backings j None inside)
    ∙ sym (get_or-set_other (bases_held pages backings) k j None None other)

pub bases-replaced : (pages : List SharedPage) (backings : List Backing) (k : ℕ) → k < length backings
    → bases_held pages (slice_set backings k Written) ≡ slice_set (bases_held pages backings) k None
bases-replaced pages backings k within =
    let all : length (slice_set (bases_held pages backings) k None) ≡ length backings = length-set (bases_held pages backings) k None ∙ length-bases_held pages backings in
    let many : length (slice_set backings k Written) ≡ length backings = length-set backings k Written in
    same_bases pages (slice_set backings k Written) (slice_set (bases_held pages backings) k None) (many ∙ sym all) (λ j below.
    let inside : j < length backings = omega arith in
    replaced-base pages backings k j within inside (cases_eq j k))

shared-still : (backings : List Backing) (k j : ℕ) → k < length backings → (j ≡ k) ⊎ (j ≢ k) → backing_at (slice_set backings k Written) j ≡ Shared → backing_at backings j ≡ Shared
shared-still backings k j within (inl same) is =
    let here : backing_at (slice_set backings k Written) k ≡ Written = get_or-set_same backings k Written Written within in
    let there : backing_at (slice_set backings k Written) k ≡ Shared = ap (λ n. backing_at (slice_set backings k Written) n) (sym same) ∙ is in
    absurd (cc)
shared-still backings k j within (inr other) is = sym (get_or-set_other backings k j Written Written other) ∙ is

pub fields-replaced : (pages : List SharedPage) (backings : List Backing) (own : List ℕ) (given i w : ℕ) (changed : Bool)
    → AreDriveFields pages backings own given changed → i < length own
    → AreDriveFields pages (slice_set backings (i / 256) Written) (replaced pages backings own i w) given true
fields-replaced pages backings own given i w changed old within = record {
  words =
      let many : length (slice_set backings (i / 256) Written) ≡ length backings = length-set backings (i / 256) Written in
      let all : length (replaced pages backings own i w) ≡ length own = length-replaced pages backings own i w old.words within in
      omega (arith, old.words);
  range = old.range;
  shared = λ k is. old.shared k (shared-still backings (i / 256) k (omega (arith, old.words)) (cases_eq k (i / 256)) is);
  stamps = old.stamps;
  unchanged = λ same. absurd (cc);
}

-- a word of the drive is one of its own
pub within_own : (pages : List SharedPage) (backings : List Backing) (own words : List ℕ) (i : ℕ) → words_read pages backings own ≡ words
    → i < length words → i < length own
within_own pages backings own words i is within =
    let all : length (words_read pages backings own) ≡ length own = length-words_read pages backings own in
    let same : length (words_read pages backings own) ≡ length words = ap length is in
    omega arith

-- a word of a place that is shared, and of one that isn't
pub read_shared : (pages : List SharedPage) (backings : List Backing) (own : List ℕ) (i : ℕ) (page : SharedPage) → i < length own
    → backing_at backings (i / 256) ≡ Shared → slice_get pages (i / 256) ≡ Some page
    → get_or (words_read pages backings own) i 0 ≡ slice_index (page_words page) (i % 256)
read_shared pages backings own i page within is at =
    get_or-words_read pages backings own i 0 within
    ∙ ap (λ held. word_from held (slice_get pages (i / 256)) own i) is
    ∙ ap (λ there. word_from Shared there own i) at

word_from-own : (held : Backing) (page : Option SharedPage) (own : List ℕ) (i : ℕ) → held ≢ Shared → word_from held page own i ≡ get_or own i 0
word_from-own Shared page own i other = absurd (other refl)
word_from-own Written page own i other = refl
word_from-own (Copied serial) page own i other = refl

pub read_own : (pages : List SharedPage) (backings : List Backing) (own : List ℕ) (i : ℕ) → i < length own → backing_at backings (i / 256) ≢ Shared
    → get_or (words_read pages backings own) i 0 ≡ get_or own i 0
read_own pages backings own i within other =
    get_or-words_read pages backings own i 0 within ∙ word_from-own (backing_at backings (i / 256)) (slice_get pages (i / 256)) own i other

-- a place below the number of pages has a page
pub not_none : {X : Type 0} (xs : List X) (k : ℕ) → k < length xs → slice_get xs k ≢ None
not_none [] k within is = absurd (omega arith)
not_none (x ∷ xs) zero within is = absurd (cc)
not_none (x ∷ xs) (suc k) within is = not_none xs k (omega arith) is

pub get_or-piece : (k : ℕ) (xs : List ℕ) (j : ℕ) → j < 256 → get_or (piece k xs) j 0 ≡ get_or xs (k * 256 + j) 0
unfolding piece
get_or-piece k xs j below = get_or-take 256 (drop (k * 256) xs) j 0 below ∙ get_or-drop (k * 256) xs j 0

-- a drive as it is made
written-all : (n k : ℕ) → backing_at (replicate n Written) k ≡ Written
written-all zero k = refl
written-all (suc n) zero = refl
written-all (suc n) (suc k) = written-all n k

pub words-blank : (n len : ℕ) → words_read [] (replicate n Written) (replicate len 0) ≡ replicate len 0
words-blank n len =
    same_words [] (replicate n Written) (replicate len 0) (replicate len 0) refl (λ i within.
    ap (λ held. word_from held None (replicate len 0) i) (written-all n (i / 256)))

pub bases-blank : (n : ℕ) → bases_held [] (replicate n Written) ≡ replicate n None
bases-blank n =
    same_bases [] (replicate n Written) (replicate n None) (length-replicate n Written ∙ sym (length-replicate n None)) (λ k within.
    ap (λ held. base_from held None) (written-all n k)
    ∙ sym (get_or-replicate n k None None (omega (arith, length-replicate n Written))))

pub fields-blank : (len : ℕ) → (len / 256) * 256 ≡ len → AreDriveFields [] (replicate (len / 256) Written) (replicate len 0) 0 true
unfolding stamps_of
fields-blank len whole = record {
  words =
      let all : length (replicate {A = ℕ} len 0) ≡ len = length-replicate len 0 in
      let many : length (replicate (len / 256) Written) ≡ len / 256 = length-replicate (len / 256) Written in
      omega arith;
  range = omega arith;
  shared = λ k is. let here : backing_at (replicate (len / 256) Written) k ≡ Written = written-all (len / 256) k in absurd (cc);
  stamps = refl;
  unchanged = λ same. absurd (cc);
}

-- a drive whose places are all shared
shared-all : (n k : ℕ) → k < n → backing_at (replicate n Shared) k ≡ Shared
shared-all n k within = get_or-replicate n k Shared Written within

pub words-shared : (pages : List SharedPage) (n : ℕ) (own : List ℕ) → length pages ≡ n → length own ≡ n * 256
    → words_read pages (replicate n Shared) own ≡ words_of pages
words-shared pages n own many full =
    let all : length (words_of pages) ≡ length pages * 256 = length-words_of pages in
    same_words pages (replicate n Shared) own (words_of pages) (omega arith) (λ i within.
    let d = i / 256 in
    let inside : i / 256 < length pages = omega arith in
    at_page i (slice_get pages (i / 256)) refl within inside)
  where
    at_page : (i : ℕ) (page : Option SharedPage) → page ≡ slice_get pages (i / 256) → i < length own → i / 256 < length pages
        → word_from (backing_at (replicate n Shared) (i / 256)) (slice_get pages (i / 256)) own i ≡ get_or (words_of pages) i 0
    at_page i None is within inside = absurd (not_none pages (i / 256) inside (sym is))
    at_page i (Some page) is within inside =
        let place : i / 256 * 256 + i % 256 ≡ i = omega arith in
        ap (λ held. word_from held (slice_get pages (i / 256)) own i) (shared-all n (i / 256) (omega arith))
        ∙ ap (λ there. word_from Shared there own i) (sym is)
        ∙ ap (λ xs. get_or xs (i % 256) 0) (sym (piece-words_of pages (i / 256) page (sym is)))
        ∙ get_or-piece (i / 256) (words_of pages) (i % 256) (omega arith)
        ∙ ap (λ k. get_or (words_of pages) k 0) place

serial_there : (pages : List SharedPage) (k : ℕ) (page : SharedPage) → slice_get pages k ≡ Some page
    → get_or (map Some (serials pages)) k None ≡ Some (page_serial page)
serial_there [] k page is = absurd (cc)
serial_there (first ∷ pages) zero page is = let same : first ≡ page = cc in ap (λ (p : SharedPage). Some (page_serial p)) same
serial_there (first ∷ pages) (suc k) page is = serial_there pages k page is

pub bases-shared : (pages : List SharedPage) (n : ℕ) → length pages ≡ n → bases_held pages (replicate n Shared) ≡ map Some (serials pages)
bases-shared pages n many =
    let all : length (map Some (serials pages)) ≡ length pages = length-map (serials pages) Some ∙ length-map pages page_serial in
    same_bases pages (replicate n Shared) (map Some (serials pages)) (length-replicate n Shared ∙ sym (all ∙ many)) (λ k within.
    at_page k (slice_get pages k) refl (omega (arith, length-replicate n Shared)))
  where
    at_page : (k : ℕ) (page : Option SharedPage) → page ≡ slice_get pages k → k < length pages
        → base_from (backing_at (replicate n Shared) k) (slice_get pages k) ≡ get_or (map Some (serials pages)) k None
    at_page k None is within = absurd (not_none pages k within (sym is))
    at_page k (Some page) is within =
        ap (λ held. base_from held (slice_get pages k)) (shared-all n k (omega arith))
        ∙ ap (λ there. base_from Shared there) (sym is)
        ∙ sym (serial_there pages k page (sym is))
