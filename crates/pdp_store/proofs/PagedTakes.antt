-- The pages of a paged store as they are taken, one place after the other; and the store's fields afterwards.
use Rattle.std.proofs.Common.{◌≡◌, ℕ, suc, zero, ◌+◌, ◌*◌, ◌<◌, ◌≤◌, Bool, true, false, List, [], ◌∷◌, ◌++◌, Option, Some, None, length, take, drop, get_or, slice_get, refl, sym, ◌∙◌, ap, subst, arith, append_assoc, append-nil}
use Rattle.std.proofs.lemmas.List.{drop_more, drop_all, map-append, take_all, take_at}
use Rattle.std.proofs.lemmas.Option.{slice_get_within}
use Rattle.pdp_store.specs.declared.Stamp.{Stamp}
use Rattle.pdp_store.specs.declared.page.Page.{Page}
use Rattle.pdp_store.specs.declared.base.Base.{Base}
use Rattle.pdp_store.specs.Pages.{SharedPage, PagedStored, page_serial, page_words, page_stamps, serials, serials_taken, given_after, words_of, stamps_of}
use Rattle.pdp_store.specs.Bases.{AreAllTaken, AreBases, AreFields, AreTakenBelow, IsPageOf, bases_of, given_there, serial_there}
use Rattle.pdp_store.specs.Pieces.{piece}
use Rattle.pdp_store.proofs.Pages.{length-words_of, words_of-push, stamps_of-push, take-piece, piece-words_of, piece-stamps_of}

pub length-bases_of : (marks : List Bool) (bases : List Base) → length marks ≡ length bases → length (bases_of marks bases) ≡ length bases
unfolding bases_of
length-bases_of [] [] same = refl
length-bases_of [] (base ∷ bases) same = absurd (omega arith)
length-bases_of (mark ∷ marks) [] same = absurd (omega arith)
length-bases_of (true ∷ marks) (base ∷ bases) same = ap suc (length-bases_of marks bases (omega arith))
length-bases_of (false ∷ marks) (base ∷ bases) same = ap suc (length-bases_of marks bases (omega arith))

next_taken : (base : Option ℕ) (bases : List (Option ℕ)) (given : ℕ) → serials_taken (base ∷ bases) given ≡ serial_there base given ∷ serials_taken bases (given_there base given)
unfolding serials_taken
next_taken None bases given = refl
next_taken (Some serial) bases given = refl

next_after : (base : Option ℕ) (bases : List (Option ℕ)) (given : ℕ) → given_after (base ∷ bases) given ≡ given_after bases (given_there base given)
unfolding given_after
next_after None bases given = refl
next_after (Some serial) bases given = refl

-- a page of equal words, last stamps and serial
pub page_is : (page : SharedPage) (xs words : List ℕ) (ys stamps : List (Option Stamp)) (n serial : ℕ) → xs ≡ words → ys ≡ stamps → n ≡ serial
    → IsPageOf page xs ys n → IsPageOf page words stamps serial
page_is page xs words ys stamps n serial words_are stamps_are serial_is is = record {
  has_words = is.has_words ∙ words_are;
  has_stamps = is.has_stamps ∙ stamps_are;
  has_serial = is.has_serial ∙ serial_is;
}

pub none_taken : (store : PagedStored) → AreTakenBelow 0 [] store.given store
unfolding words_of stamps_of
none_taken store = record { words_so_far = refl; stamps_so_far = refl; serials_so_far = refl; given_so_far = refl }

pub one_taken_more : (store : PagedStored) (n given : ℕ) (pages : List SharedPage) (page : SharedPage) → AreTakenBelow n pages given store → n < length store.bases
    → IsPageOf page (piece n store.words) (piece n store.stamps) (serial_there (get_or store.bases n None) given)
    → AreTakenBelow (n + 1) (pages ++ page ∷ []) (given_there (get_or store.bases n None) given) store
one_taken_more store n given pages page taken below is =
    let base = get_or store.bases n None in
    let rest = drop (n + 1) store.bases in
    let step : drop n store.bases ≡ get_or store.bases n None ∷ drop (n + 1) store.bases = drop_more store.bases n None below in
    record {
      words_so_far =
          words_of-push pages page ∙ ap (λ xs. xs ++ page_words page) taken.words_so_far
          ∙ ap (λ xs. take (n * 256) store.words ++ xs) is.has_words ∙ sym (take-piece n store.words);
      stamps_so_far =
          stamps_of-push pages page ∙ ap (λ xs. xs ++ page_stamps page) taken.stamps_so_far
          ∙ ap (λ xs. take (n * 256) store.stamps ++ xs) is.has_stamps ∙ sym (take-piece n store.stamps);
      serials_so_far =
          ap (λ xs. xs ++ serials_taken (drop (n + 1) store.bases) (given_there (get_or store.bases n None) given)) (map-append page_serial pages (page ∷ []))
          ∙ append_assoc (serials pages) (page_serial page ∷ []) (serials_taken (drop (n + 1) store.bases) (given_there (get_or store.bases n None) given))
          ∙ ap (λ s. serials pages ++ s ∷ serials_taken (drop (n + 1) store.bases) (given_there (get_or store.bases n None) given)) is.has_serial
          ∙ ap (λ xs. serials pages ++ xs) (sym (next_taken (get_or store.bases n None) (drop (n + 1) store.bases) given))
          ∙ ap (λ xs. serials pages ++ serials_taken xs given) (sym step)
          ∙ taken.serials_so_far;
      given_so_far =
          sym (next_after (get_or store.bases n None) (drop (n + 1) store.bases) given)
          ∙ ap (λ xs. given_after xs given) (sym step) ∙ taken.given_so_far;
    }

pub all_taken : (store : PagedStored) (n given : ℕ) (pages : List SharedPage) → AreTakenBelow n pages given store → length store.bases ≤ n
    → length store.words ≤ n * 256 → length store.stamps ≤ n * 256 → AreAllTaken pages given store
unfolding serials_taken given_after
all_taken store n given pages taken all words stamps = record {
  all_words = taken.words_so_far ∙ take_all (n * 256) store.words words;
  all_stamps = taken.stamps_so_far ∙ take_all (n * 256) store.stamps stamps;
  all_serials =
      sym (append-nil (serials pages))
      ∙ ap (λ xs. serials pages ++ serials_taken xs given) (sym (drop_all n store.bases all)) ∙ taken.serials_so_far;
  all_given = ap (λ xs. given_after xs given) (sym (drop_all n store.bases all)) ∙ taken.given_so_far;
}

-- as many pages as bases, if they have as many words as the store
pub as_many_pages : (pages : List SharedPage) (places : ℕ) → length (words_of pages) ≡ places * 256 → length pages ≡ places
as_many_pages pages places all =
    let words : length (words_of pages) ≡ length pages * 256 = length-words_of pages in
    omega arith

get_within : {X : Type 0} (xs : List X) (k : ℕ) → k < length xs → (x : X) × (slice_get xs k ≡ Some x)
get_within [] k below = absurd (omega arith)
get_within (x ∷ xs) zero below = (x, refl)
get_within (x ∷ xs) (suc k) below = get_within xs k (omega arith)

-- the fields of a store whose words are those of pages that are its bases
pub fields_of_pages : (pages : List SharedPage) (words : List ℕ) (stamps : List (Option Stamp)) (bases : List Base) (marks : List Bool)
    → words ≡ words_of pages → stamps ≡ stamps_of pages → (0 < length (stamps_of pages) → length (stamps_of pages) ≡ length (words_of pages)) → AreBases pages bases marks
    → AreFields words stamps bases marks
fields_of_pages pages words stamps bases marks words_are stamps_are stamped are = record {
  places = are.places ∙ sym are.count;
  all_words = ap length words_are ∙ length-words_of pages ∙ ap (λ n. n * 256) (sym are.count);
  all_stamps = λ some. ap length stamps_are ∙ stamped (subst (λ xs. 0 < length xs) stamps_are some) ∙ sym (ap length words_are);
  held = λ k base _ there shared is.
      let its = get_within pages k (within k base there) in
      let its_page = its.0 in
      let at : slice_get pages k ≡ Some its.0 = its.1 in
      let same = are.same k base its.0 there at in
      let one : shared.value ≡ its.0.value = same.same shared is in (
        ap (λ (p : Page). p.words.items) one ∙ sym (piece-words_of pages k its.0 at) ∙ ap (piece k) (sym words_are),
        ap (λ (p : Page). p.stamps.value.items) one ∙ sym (piece-stamps_of pages k its.0 stamped at) ∙ ap (piece k) (sym stamps_are),
      );
}
  where
    within : (k : ℕ) (base : Base) → slice_get bases k ≡ Some base → k < length pages
    within k base there =
        let below : k < length bases = slice_get_within bases k base there in
        let count : length bases ≡ length pages = are.count in
        omega arith

-- as many stamps as words, or none, if both are as many as others
pub as_stamped : (stamps words a b : ℕ) → stamps ≡ a → words ≡ b → (0 < a → a ≡ b) → 0 < stamps → stamps ≡ words
as_stamped stamps words a b same_stamps same_words stamped some = same_stamps ∙ stamped (subst (λ n. 0 < n) same_stamps some) ∙ sym same_words

-- a list that was written through a slice of all of it
pub rewrapped : {X : Type 0} (now old : List X) (len : ℕ) → length now ≡ len → take len (now ++ drop (length now) old) ≡ now
rewrapped now old len all = take_at now (drop (length now) old) len all
