-- Pages in a row: their words and last stamps, and the piece of these at each place.
use Rattle.std.proofs.Common.{◌≡◌, ℕ, suc, zero, ◌+◌, ◌*◌, ◌<◌, ◌≤◌, List, [], ◌∷◌, ◌++◌, Option, Some, length, take, drop, slice_get, refl, sym, ◌∙◌, ap, subst, arith, length-append, append_assoc, append-nil}
use Rattle.std.proofs.Math.Seq.{drop-append-add}
use Rattle.std.proofs.lemmas.List.{take_at, take-take, take-append-drop, drop-take, drop_all, nil_from_length}
use Rattle.std.specs.List.{flat_map}
use Rattle.pdp_store.specs.declared.Stamp.{Stamp}
use Rattle.pdp_store.specs.Pages.{SharedPage, page_words, page_stamps, words_of, stamps_of}
use Rattle.pdp_store.specs.Pieces.{piece}

-- at most 256 items of each page
abbrev AreShort : {X : Type 0} → (SharedPage → List X) → Type 0
AreShort f = (page : SharedPage) → length (f page) ≤ 256

short_in_all : {X : Type 0} (f : SharedPage → List X) → AreShort f → (pages : List SharedPage) → length (flat_map f pages) ≤ length pages * 256
short_in_all f short [] = omega arith
short_in_all f short (page ∷ pages) =
    let here : length (f page) ≤ 256 = short page in
    let rest : length (flat_map f pages) ≤ length pages * 256 = short_in_all f short pages in
    let all : length (f page ++ flat_map f pages) ≡ length (f page) + length (flat_map f pages) = length-append (f page) (flat_map f pages) in
    omega arith

first_is_whole : {X : Type 0} (f : SharedPage → List X) → AreShort f → (first : SharedPage) (pages : List SharedPage)
    → length (flat_map f (first ∷ pages)) ≡ length (first ∷ pages) * 256 → (length (f first) ≡ 256) × (length (flat_map f pages) ≡ length pages * 256)
first_is_whole f short first pages full =
    let here : length (f first) ≤ 256 = short first in
    let rest : length (flat_map f pages) ≤ length pages * 256 = short_in_all f short pages in
    let all : length (f first ++ flat_map f pages) ≡ length (f first) + length (flat_map f pages) = length-append (f first) (flat_map f pages) in
    (omega arith, omega arith)

piece_of : {X : Type 0} (f : SharedPage → List X) → AreShort f → (pages : List SharedPage) (k : ℕ) (page : SharedPage)
    → length (flat_map f pages) ≡ length pages * 256 → slice_get pages k ≡ Some page → take 256 (drop (k * 256) (flat_map f pages)) ≡ f page
piece_of f short [] k page full is = absurd (cc)
piece_of f short (first ∷ pages) zero page full is =
    let same : first ≡ page = cc in
    take_at (f first) (flat_map f pages) 256 (first_is_whole f short first pages full).0 ∙ ap f same
piece_of f short (first ∷ pages) (suc k) page full is =
    let whole = first_is_whole f short first pages full in
    let here : length (f first) ≡ 256 = whole.0 in
    let past : suc k * 256 ≡ length (f first) + k * 256 = omega arith in
    ap (λ n. take 256 (drop n (f first ++ flat_map f pages))) past
    ∙ ap (take 256) (drop-append-add (f first) (flat_map f pages) (k * 256))
    ∙ piece_of f short pages k page whole.1 is

words_are_short : AreShort page_words
words_are_short page = let full : length (page_words page) ≡ 256 = page.value.full in omega arith

short_stamps : (stamps : List (Option Stamp)) → (0 < length stamps → length stamps ≡ 256) → length stamps ≤ 256
short_stamps [] stamped = omega arith
short_stamps (last ∷ stamps) stamped = let all : length (last ∷ stamps) ≡ 256 = stamped (omega arith) in omega arith

stamps_are_short : AreShort page_stamps
stamps_are_short page = short_stamps (page_stamps page) page.value.stamped

pub length-words_of : (pages : List SharedPage) → length (words_of pages) ≡ length pages * 256
unfolding words_of
length-words_of [] = refl
length-words_of (page ∷ pages) =
    let full : length (page_words page) ≡ 256 = page.value.full in
    let rest : length (words_of pages) ≡ length pages * 256 = length-words_of pages in
    let all : length (page_words page ++ words_of pages) ≡ length (page_words page) + length (words_of pages) = length-append (page_words page) (words_of pages) in
    omega arith

-- the words of pages, at a place, are those of the page there
pub piece-words_of : (pages : List SharedPage) (k : ℕ) (page : SharedPage) → slice_get pages k ≡ Some page → piece k (words_of pages) ≡ page_words page
unfolding words_of piece
piece-words_of pages k page is = piece_of page_words words_are_short pages k page (length-words_of pages) is

-- a list without items has none at any place
pub piece_of_none : {X : Type 0} (k : ℕ) → piece {X = X} k [] ≡ []
unfolding piece
piece_of_none {X = X} k =
    let short : length {A = X} [] ≤ k * 256 = omega arith in
    ap (λ (xs : List X). take 256 xs) (drop_all (k * 256) [] short)

none_of_each : (pages : List SharedPage) (k : ℕ) (page : SharedPage) → length (stamps_of pages) ≡ 0 → slice_get pages k ≡ Some page → page_stamps page ≡ []
unfolding stamps_of
none_of_each [] k page none is = absurd (cc)
none_of_each (first ∷ pages) zero page none is =
    let all : length (page_stamps first ++ stamps_of pages) ≡ length (page_stamps first) + length (stamps_of pages) = length-append (page_stamps first) (stamps_of pages) in
    let here : length (page_stamps first) ≡ 0 = omega arith in
    let same : first ≡ page = cc in
    ap page_stamps (sym same) ∙ nil_from_length (page_stamps first) here
none_of_each (first ∷ pages) (suc k) page none is =
    let all : length (page_stamps first ++ stamps_of pages) ≡ length (page_stamps first) + length (stamps_of pages) = length-append (page_stamps first) (stamps_of pages) in
    let rest : length (stamps_of pages) ≡ 0 = omega arith in
    none_of_each pages k page rest is

piece_of_all : (pages : List SharedPage) (k : ℕ) (page : SharedPage) → length (stamps_of pages) ≡ length (words_of pages)
    → slice_get pages k ≡ Some page → piece k (stamps_of pages) ≡ page_stamps page
unfolding stamps_of piece
piece_of_all pages k page many is = piece_of page_stamps stamps_are_short pages k page (many ∙ length-words_of pages) is

-- and their last stamps, if there are as many as words, or none
pub piece-stamps_of : (pages : List SharedPage) (k : ℕ) (page : SharedPage) → (0 < length (stamps_of pages) → length (stamps_of pages) ≡ length (words_of pages))
    → slice_get pages k ≡ Some page → piece k (stamps_of pages) ≡ page_stamps page
piece-stamps_of pages k page stamped is = by_length (stamps_of pages) refl
  where
    by_length : (stamps : List (Option Stamp)) → stamps ≡ stamps_of pages → piece k (stamps_of pages) ≡ page_stamps page
    by_length [] none = ap (piece k) (sym none) ∙ piece_of_none k ∙ sym (none_of_each pages k page (ap length (sym none)) is)
    by_length (last ∷ stamps) these = piece_of_all pages k page (stamped (subst (λ xs. 0 < length xs) these (omega arith))) is

-- one page more, at the end
pub words_of-push : (pages : List SharedPage) (page : SharedPage) → words_of (pages ++ page ∷ []) ≡ words_of pages ++ page_words page
unfolding words_of
words_of-push [] page = append-nil (page_words page)
words_of-push (first ∷ pages) page = ap (λ xs. page_words first ++ xs) (words_of-push pages page) ∙ sym (append_assoc (page_words first) (words_of pages) (page_words page))

pub stamps_of-push : (pages : List SharedPage) (page : SharedPage) → stamps_of (pages ++ page ∷ []) ≡ stamps_of pages ++ page_stamps page
unfolding stamps_of
stamps_of-push [] page = append-nil (page_stamps page)
stamps_of-push (first ∷ pages) page = ap (λ xs. page_stamps first ++ xs) (stamps_of-push pages page) ∙ sym (append_assoc (page_stamps first) (stamps_of pages) (page_stamps page))

take_part : {X : Type 0} (n m : ℕ) (xs : List X) → take (n + m) xs ≡ take n xs ++ take m (drop n xs)
take_part n m xs =
    sym (take-append-drop n (take (n + m) xs))
    ∙ ap (λ ys. ys ++ drop n (take (n + m) xs)) (take-take n (n + m) xs (omega arith))
    ∙ ap (λ ys. take n xs ++ ys) (drop-take n m xs)

-- one piece more of a list
pub take-piece : {X : Type 0} (k : ℕ) (xs : List X) → take ((k + 1) * 256) xs ≡ take (k * 256) xs ++ piece k xs
unfolding piece
take-piece k xs =
    let next : (k + 1) * 256 ≡ k * 256 + 256 = omega arith in
    ap (λ n. take n xs) next ∙ take_part (k * 256) 256 xs
