-- Lists of pages with another page at one place.
use Rattle.std.proofs.Common.{◌≡◌, ◌∙◌, ℕ, zero, suc, ◌+◌, ◌-◌, ◌*◌, ◌<◌, ◌/◌, ◌%◌, List, [], ◌∷◌, ◌++◌, Some, ap, ap₂, add-one, arith, get_or, length, refl, slice_get, slice_set, sym, take}
use Rattle.std.proofs.Math.Seq.{take-suc}
use Rattle.std.proofs.lemmas.Nat.{div-add-mod'}
use Rattle.std.proofs.lemmas.Option.{slice_get-get_or}
use Rattle.std.proofs.lemmas.List.{get_or-map, map-append, map-set, set-append_left, set-append_right}
use Rattle.std.specs.List.{flat_map}
use Rattle.pdp_store.specs.declared.page.Page.{Page}
use Rattle.pdp_store.specs.PageLists.{pages_shared}
use Rattle.pdp_store.specs.Pieces.{piece}
use Rattle.pdp_store.specs.Stored.{HasLastOfEachOrNone}
use Rattle.pdp_store.proofs.Pages.{length-words_of, piece-stamps_of, piece-words_of}
use Rattle.pdp_store.specs.Pages.{SharedPage, stamps_of, page_stamps, page_words, words_of}

-- one page more is shared
pub one_more_shared : (pages first : List SharedPage) (i : ℕ) (page same : SharedPage) → pages_shared first ≡ take i (pages_shared pages)
    → i < length pages → i < length (pages_shared pages) → page ≡ get_or pages i page → same.value ≡ page.value
    → pages_shared (first ++ same ∷ []) ≡ take (i + 1) (pages_shared pages)
one_more_shared pages first i page same is below within there alike =
    let last : same.value ≡ get_or (pages_shared pages) i page.value
    = alike ∙ ap (λ (p : SharedPage). p.value) there ∙ sym (get_or-map (λ (p : SharedPage). p.value) pages i page page.value below) in
    map-append (λ (p : SharedPage). p.value) first (same ∷ []) ∙ ap₂ (λ xs x. xs ++ x ∷ []) is last
    ∙ sym (rw add-one (take-suc (pages_shared pages) i page.value within))

-- what is seen of each page is seen of the list
same_items : {X : Type 0} (f : Page → List X) (xs ys : List SharedPage) → pages_shared xs ≡ pages_shared ys
    → flat_map (λ (p : SharedPage). f p.value) xs ≡ flat_map (λ (p : SharedPage). f p.value) ys
same_items f [] [] is = refl
same_items f [] (y ∷ ys) is = absurd (cc is)
same_items f (x ∷ xs) [] is = absurd (cc is)
same_items f (x ∷ xs) (y ∷ ys) is =
    let here : x.value ≡ y.value = cc is in
    ap₂ ◌++◌ (ap f here) (same_items f xs ys (cc is))

words_set : (pages : List SharedPage) (k j w : ℕ) (old new : SharedPage) → slice_get pages k ≡ Some old → j < 256
    → page_words new ≡ slice_set (page_words old) j w → words_of (slice_set pages k new) ≡ slice_set (words_of pages) (k * 256 + j) w
unfolding words_of
words_set [] k j w old new there below is = absurd (cc there)
words_set (page ∷ pages) zero j w old new there below is =
    let none : 0 * 256 + j ≡ j = omega arith in
    let same : page ≡ old = cc there in
    let full : length (page_words page) ≡ 256 = page.value.full in
    ap (λ xs. xs ++ words_of pages) (is ∙ ap (λ p. slice_set (page_words p) j w) (sym same))
    ∙ sym (set-append_left (page_words page) (words_of pages) j w (omega arith))
    ∙ ap (λ n. slice_set (page_words page ++ words_of pages) n w) (sym none)
words_set (page ∷ pages) (suc k) j w old new there below is =
    let full : length (page_words page) ≡ 256 = page.value.full in
    let past : suc k * 256 + j - 256 ≡ k * 256 + j = omega arith in
    ap (λ xs. page_words page ++ xs) (words_set pages k j w old new there below is)
    ∙ ap (λ n. page_words page ++ slice_set (words_of pages) n w) (sym past)
    ∙ sym (set-append_right (page_words page) (words_of pages) 256 (suc k * 256 + j) w full (omega arith))

stamps_set : (pages : List SharedPage) (k : ℕ) (old new : SharedPage) → slice_get pages k ≡ Some old
    → page_stamps new ≡ page_stamps old → stamps_of (slice_set pages k new) ≡ stamps_of pages
unfolding stamps_of
stamps_set [] k old new there is = absurd (cc there)
stamps_set (page ∷ pages) zero old new there is =
    let same : page ≡ old = cc there in
    ap (λ xs. xs ++ stamps_of pages) (is ∙ ap page_stamps (sym same))
stamps_set (page ∷ pages) (suc k) old new there is = ap (λ xs. page_stamps page ++ xs) (stamps_set pages k old new there is)

-- a list whose pages are these, but for one
abbrev pub IsChanged : List SharedPage → List SharedPage → ℕ → SharedPage → Type 0
IsChanged pages list k new = pages_shared list ≡ slice_set (pages_shared pages) k new.value

as_set : (pages list : List SharedPage) (k : ℕ) (new : SharedPage) → IsChanged pages list k new → pages_shared list ≡ pages_shared (slice_set pages k new)
as_set pages list k new is = is ∙ sym (map-set (λ (p : SharedPage). p.value) pages k new)

-- the place of a word is one of the pages
pub there_within : (pages : List SharedPage) (i : ℕ) → i < length (words_of pages) → i / 256 < length pages
there_within pages i below =
    let many : length (words_of pages) ≡ length pages * 256 = length-words_of pages in
    omega arith

-- the page at the place of a word has these words and these last stamps, but for that word
pub words_with_page : (pages list : List SharedPage) (i w : ℕ) (new : SharedPage) → IsChanged pages list (i / 256) new
    → i < length (words_of pages) → page_words new ≡ slice_set (piece (i / 256) (words_of pages)) (i % 256) w
    → words_of list ≡ slice_set (words_of pages) i w
unfolding words_of
words_with_page pages list i w new is inside words =
    let k = i / 256 in
    let old = get_or pages k new in
    let at : slice_get pages k ≡ Some old = slice_get-get_or pages k new (there_within pages i inside) in
    let these : page_words new ≡ slice_set (page_words old) (i % 256) w =
    words ∙ ap (λ xs. slice_set xs (i % 256) w) (piece-words_of pages k old at) in
    let small : i % 256 < 256 = omega arith in
    same_items (λ (p : Page). p.words.items) list (slice_set pages k new) (as_set pages list k new is)
    ∙ words_set pages k (i % 256) w old new at small these
    ∙ ap (λ n. slice_set (words_of pages) n w) (div-add-mod' i 256)

pub stamps_with_page : (pages list : List SharedPage) (k : ℕ) (new : SharedPage) → IsChanged pages list k new → k < length pages
    → HasLastOfEachOrNone (words_of pages) (stamps_of pages) → page_stamps new ≡ piece k (stamps_of pages)
    → stamps_of list ≡ stamps_of pages
unfolding stamps_of
stamps_with_page pages list k new is inside stamped stamps =
    let old = get_or pages k new in
    let at : slice_get pages k ≡ Some old = slice_get-get_or pages k new inside in
    let these : page_stamps new ≡ page_stamps old = stamps ∙ piece-stamps_of pages k old stamped at in
    same_items (λ (p : Page). p.stamps.value.items) list (slice_set pages k new) (as_set pages list k new is)
    ∙ stamps_set pages k old new at these
