-- The words of pages, compared with others page by page.
use Rattle.std.proofs.Common.{◌≡◌, ◌∙◌, ℕ, ◌+◌, ◌*◌, ◌<◌, ◌≤◌, List, [], ◌∷◌, ◌++◌, length, take, get_or, refl, sym, ap, arith}
use Rattle.std.proofs.lemmas.List.{take_all, take_more}
use Rattle.std.proofs.lemmas.Option.{slice_get_read}
use Rattle.pdp_store.specs.Pages.{SharedPage, page_words, words_of}
use Rattle.pdp_store.specs.Pieces.{piece}
use Rattle.pdp_store.proofs.Pages.{length-words_of, piece-words_of, take-piece, words_of-push}

pub none_compared : words_of [] ≡ []
unfolding words_of
none_compared = refl

pub room_for_page : (words : List ℕ) (pages : List SharedPage) (place : ℕ) → length (words_of pages) ≡ length words → place < length pages
    → place * 256 + 256 ≤ length words
room_for_page words pages place same below =
    let all = length-words_of pages in
    omega (arith, all, same, below)

pub page_compared : (words : List ℕ) (pages : List SharedPage) (place : ℕ) (page : SharedPage) → place < length pages → page ≡ get_or pages place page
    → take (place * 256) words ≡ words_of (take place pages) → piece place words ≡ page_words page
    → take ((place + 1) * 256) words ≡ words_of (take (place + 1) pages)
page_compared words pages place page below is before here =
    take-piece place words
    ∙ ap (λ xs. xs ++ piece place words) before
    ∙ ap (λ xs. words_of (take place pages) ++ xs) here
    ∙ sym (words_of-push (take place pages) page)
    ∙ ap (λ (p : SharedPage). words_of (take place pages ++ p ∷ [])) is
    ∙ ap words_of (sym (take_more pages place page below))

pub all_compared : (words : List ℕ) (pages : List SharedPage) (place : ℕ) → length (words_of pages) ≡ length words → length pages ≤ place
    → take (place * 256) words ≡ words_of (take place pages) → words ≡ words_of pages
all_compared words pages place same past before =
    let all = length-words_of pages in
    sym (take_all (place * 256) words (omega (arith, all, same, past))) ∙ before ∙ ap words_of (take_all place pages past)

-- equal words are equal at each place
pub page_same : (words : List ℕ) (pages : List SharedPage) (place : ℕ) (page : SharedPage) → words ≡ words_of pages → place < length pages → page ≡ get_or pages place page
    → piece place words ≡ page_words page
page_same words pages place page same below is =
    ap (piece place) same ∙ piece-words_of pages place page (slice_get_read pages (length pages) place page refl below is)
