-- Stamps laid over others, one after the other.
use Rattle.std.proofs.Common.{◌≡◌, ◌≢◌, ◌⊎◌, inl, inr, subst, length-set, ◌∙◌, ℕ, suc, zero, ◌+◌, ◌-◌, ◌*◌, ◌<◌, ◌≤◌, Bool, false, List, [], ◌∷◌, ◌++◌, Option, Some, None, length, min, take, drop, get_or, slice_get, slice_set, refl, sym, ap, arith}
use Rattle.std.proofs.lemmas.List.{append-nil, drop_all, drop_at, length-append, length-drop, length-take, length-take-le, take_more, take_all}
use Rattle.std.proofs.lemmas.Bool.{cases_eq}
use Rattle.std.proofs.lemmas.List.Concat.{get_or-flat_map}
use Rattle.std.proofs.lemmas.List.Folds.{length-flat_map-take}
use Rattle.std.specs.List.{flat_map}
use Rattle.std.proofs.lemmas.Option.{slice_get_read, slice_get_within}
use Rattle.pdp_store.specs.declared.Stamp.{Stamp}
use Rattle.pdp_store.specs.declared.base.Base.{Base}
use Rattle.pdp_store.specs.Bases.{AreFields, Holds, IsBaseOf}
use Rattle.pdp_store.specs.declared.page.Page.{Page}
use Rattle.pdp_store.specs.Overlays.{laid_to, stamp_over, stamps_over}
use Rattle.pdp_store.specs.Pages.{SharedPage, page_stamps, page_words, stamps_of, words_of}
use Rattle.pdp_store.specs.Pieces.{piece}
use Rattle.pdp_store.proofs.PageRuns.{set_here, set_there}
use Rattle.pdp_store.proofs.PagedTakes.{as_stamped}
use Rattle.pdp_store.proofs.Pages.{length-words_of, piece-stamps_of, piece-words_of}

pub laid_more : (turn : ℕ) (under over : List (Option Stamp)) (k : ℕ) (d e : Option Stamp) → k < length under → length over ≡ length under
    → slice_set (take k (stamps_over turn under over) ++ drop k under) k
    (stamp_over turn (get_or (take k (stamps_over turn under over) ++ drop k under) k d) (get_or over k e))
    ≡ take (k + 1) (stamps_over turn under over) ++ drop (k + 1) under
laid_more turn [] over k d e below same = absurd (omega arith)
laid_more turn (x ∷ under) [] k d e below same = absurd (omega arith)
laid_more turn (x ∷ under) (y ∷ over) zero d e below same = refl
laid_more turn (x ∷ under) (y ∷ over) (suc k) d e below same =
    let more : suc k + 1 ≡ suc (k + 1) = omega arith in
    rw more (ap (λ zs. stamp_over turn x y ∷ zs) (laid_more turn under over k d e (omega arith) (omega arith)))

pub length-stamps_over : (turn : ℕ) (under over : List (Option Stamp)) → length over ≡ length under → length (stamps_over turn under over) ≡ length under
length-stamps_over turn [] over same = refl
length-stamps_over turn (x ∷ under) [] same = absurd (omega arith)
length-stamps_over turn (x ∷ under) (y ∷ over) same = ap suc (length-stamps_over turn under over (omega arith))

pub all_laid : (turn : ℕ) (under over now : List (Option Stamp)) (k : ℕ) → length under ≤ k → length over ≡ length under
    → now ≡ take k (stamps_over turn under over) ++ drop k under → now ≡ stamps_over turn under over
all_laid turn under over now k past same is =
    let size = length-stamps_over turn under over same in
    is ∙ ap (λ xs. xs ++ drop k under) (take_all k (stamps_over turn under over) (omega (arith, size)))
    ∙ ap (λ xs. stamps_over turn under over ++ xs) (drop_all k under past)
    ∙ append-nil (stamps_over turn under over)

pub length-laid_to : (n turn : ℕ) (under all now : List (Option Stamp)) → length all ≡ length under → now ≡ laid_to n turn under all → length now ≡ length under
length-laid_to n turn under all now same is =
    let size = length-stamps_over turn under all same in
    ap length is ∙ length-append (take n (stamps_over turn under all)) (drop n under)
    ∙ omega (arith, size, length-take n (stamps_over turn under all), length-drop n under)

-- one stamp more of a page is laid
pub one_laid_on : (turn start k : ℕ) (under all over items now : List (Option Stamp)) → start + k < length under → length all ≡ length under
    → get_or all (start + k) None ≡ get_or over k None → items ≡ laid_to (start + k) turn under all
    → now ≡ slice_set items (start + k) (stamp_over turn (get_or items (start + k) None) (get_or over k None))
    → now ≡ laid_to (start + (k + 1)) turn under all
one_laid_on turn start k under all over items now below same part is left =
    let more : start + k + 1 ≡ start + (k + 1) = omega arith in
    left
    ∙ ap (λ x. slice_set items (start + k) (stamp_over turn (get_or items (start + k) None) x)) (sym part)
    ∙ ap (λ xs. slice_set xs (start + k) (stamp_over turn (get_or xs (start + k) None) (get_or all (start + k) None))) is
    ∙ laid_more turn under all (start + k) None None below same
    ∙ ap (λ n. laid_to n turn under all) more

-- there is room for the next page, whose stamps are part of all
pub room_to_lay : (turn n at : ℕ) (pages : List SharedPage) (before now part : List (Option Stamp)) (page : SharedPage) → at ≡ length (flat_map page_stamps (take n pages))
    → length (flat_map page_stamps pages) ≡ length before → now ≡ laid_to at turn before (flat_map page_stamps pages) → n < length pages → page ≡ get_or pages n page
    → part ≡ page_stamps page → at + length part ≤ length now
room_to_lay turn n at pages before now part page here all is below there part_is =
    let fits = length-flat_map-take page_stamps pages n page below in
    let same : length part ≡ length (page_stamps (get_or pages n page)) = ap length part_is ∙ ap (λ p. length (page_stamps p)) there in
    let size = length-laid_to at turn before (flat_map page_stamps pages) now all is in
    omega (arith, fits, same, size, here, all)

pub page_is_part : (n at k : ℕ) (pages : List SharedPage) (part : List (Option Stamp)) (page : SharedPage) → at ≡ length (flat_map page_stamps (take n pages))
    → n < length pages → page ≡ get_or pages n page → part ≡ page_stamps page → k < length part
    → get_or (flat_map page_stamps pages) (at + k) None ≡ get_or part k None
page_is_part n at k pages part page here below there part_is within =
    let is : part ≡ page_stamps (get_or pages n page) = part_is ∙ ap page_stamps there in
    ap (λ m. get_or (flat_map page_stamps pages) (m + k) None) here
    ∙ get_or-flat_map page_stamps pages n k page None below (subst (λ xs. k < length xs) is within)
    ∙ ap (λ xs. get_or xs k None) (sym is)

pub all_pages_laid : (turn n at : ℕ) (pages : List SharedPage) (before now : List (Option Stamp)) → at ≡ length (flat_map page_stamps (take n pages))
    → length (flat_map page_stamps pages) ≡ length before → length pages ≤ n → now ≡ laid_to at turn before (flat_map page_stamps pages)
    → now ≡ stamps_over turn before (flat_map page_stamps pages)
all_pages_laid turn n at pages before now here all past is =
    let end : at ≡ length before = here ∙ ap (λ ps. length (flat_map page_stamps ps)) (take_all n pages past) ∙ all in
    all_laid turn before (flat_map page_stamps pages) now at (omega arith) all is

-- stamps of one place
get_or-stamps_over : (turn : ℕ) (under over : List (Option Stamp)) (k : ℕ) (d e f : Option Stamp) → k < length under → length over ≡ length under
    → get_or (stamps_over turn under over) k d ≡ stamp_over turn (get_or under k e) (get_or over k f)
get_or-stamps_over turn [] over k d e f below same = absurd (omega arith)
get_or-stamps_over turn (x ∷ under) [] k d e f below same = absurd (omega arith)
get_or-stamps_over turn (x ∷ under) (y ∷ over) zero d e f below same = refl
get_or-stamps_over turn (x ∷ under) (y ∷ over) (suc k) d e f below same = get_or-stamps_over turn under over k d e f (omega arith) (omega arith)

over_none : (turn : ℕ) (under : List (Option Stamp)) → stamps_over turn under [] ≡ []
over_none turn [] = refl
over_none turn (x ∷ under) = refl

take-stamps_over : (turn n : ℕ) (under over : List (Option Stamp)) → take n (stamps_over turn under over) ≡ stamps_over turn (take n under) (take n over)
take-stamps_over turn zero under over = refl
take-stamps_over turn (suc n) [] over = refl
take-stamps_over turn (suc n) (x ∷ under) [] = refl
take-stamps_over turn (suc n) (x ∷ under) (y ∷ over) = ap (λ zs. stamp_over turn x y ∷ zs) (take-stamps_over turn n under over)

drop-stamps_over : (turn n : ℕ) (under over : List (Option Stamp)) → drop n (stamps_over turn under over) ≡ stamps_over turn (drop n under) (drop n over)
drop-stamps_over turn zero under over = refl
drop-stamps_over turn (suc n) [] over = refl
drop-stamps_over turn (suc n) (x ∷ under) [] = sym (over_none turn (drop n under))
drop-stamps_over turn (suc n) (x ∷ under) (y ∷ over) = drop-stamps_over turn n under over

pub piece-stamps_over : (turn k : ℕ) (under over : List (Option Stamp)) → piece k (stamps_over turn under over) ≡ stamps_over turn (piece k under) (piece k over)
unfolding piece
piece-stamps_over turn k under over =
    ap (take 256) (drop-stamps_over turn (k * 256) under over) ∙ take-stamps_over turn 256 (drop (k * 256) under) (drop (k * 256) over)

-- one stamp more comes to what it should
pub one_laid_more : (turn k : ℕ) (under over these : List (Option Stamp)) (d e f : Option Stamp) → k < length under → length over ≡ length under → length these ≡ length under
    → take k (stamps_over turn under over) ≡ take k these → stamp_over turn (get_or under k d) (get_or over k e) ≡ get_or these k f
    → take (k + 1) (stamps_over turn under over) ≡ take (k + 1) these
one_laid_more turn k under over these d e f below same count before here =
    let size = length-stamps_over turn under over same in
    take_more (stamps_over turn under over) k None (omega (arith, size))
    ∙ ap (λ xs. xs ++ get_or (stamps_over turn under over) k None ∷ []) before
    ∙ ap (λ x. take k these ++ x ∷ []) (get_or-stamps_over turn under over k None d e below same ∙ here)
    ∙ sym (take_more these k f (omega arith))

pub all_laid_so : (turn k : ℕ) (under over these : List (Option Stamp)) → length under ≤ k → length over ≡ length under → length these ≡ length under
    → take k (stamps_over turn under over) ≡ take k these → stamps_over turn under over ≡ these
all_laid_so turn k under over these past same count before =
    let size = length-stamps_over turn under over same in
    sym (take_all k (stamps_over turn under over) (omega (arith, size))) ∙ before ∙ take_all k these (omega arith)

-- the first places have their bases of what the store comes to, the others still those of what it had
pub record AreFieldsSoFar (n : ℕ) (words : List ℕ) (before : List (Option Stamp)) (pages : List SharedPage) (stamps : List (Option Stamp))
    (bases : List Base) (marks : List Bool) : Type 0 where
  pub count : length bases ≡ length pages
  pub places : length marks ≡ length pages
  pub held : (k : ℕ) (base : Base) → k < n → slice_get marks k ≡ Some false → slice_get bases k ≡ Some base
      → Holds base (piece k (words_of pages)) (piece k stamps)
  pub rest : (k : ℕ) (base : Base) → n ≤ k → slice_get marks k ≡ Some false → slice_get bases k ≡ Some base
      → Holds base (piece k words) (piece k before)

pub none_so_far : (words : List ℕ) (before : List (Option Stamp)) (pages : List SharedPage) (stamps : List (Option Stamp)) (bases : List Base) (marks : List Bool)
    → length (words_of pages) ≡ length words → AreFields words before bases marks → AreFieldsSoFar 0 words before pages stamps bases marks
none_so_far words before pages stamps bases marks same fields =
    let many = length-words_of pages in
    let all = fields.all_words in
    let places = fields.places in
    record {
      count = omega (arith, many, all, same);
      places = places ∙ omega (arith, many, all, same);
      held = λ k base below. absurd (omega arith);
      rest = λ k base from unmarked there. fields.held k base unmarked there;
    }

-- a place keeps its base
pub one_kept_more : (words : List ℕ) (before : List (Option Stamp)) (pages : List SharedPage) (stamps : List (Option Stamp)) (bases : List Base) (marks : List Bool) (n : ℕ)
    → AreFieldsSoFar n words before pages stamps bases marks → piece n words ≡ piece n (words_of pages) → piece n before ≡ piece n stamps
    → AreFieldsSoFar (n + 1) words before pages stamps bases marks
one_kept_more words before pages stamps bases marks n so same_words same_stamps = record {
  count = so.count;
  places = so.places;
  held = λ k base below unmarked there. held k base below unmarked there (cases_eq k n);
  rest = λ k base from unmarked there. so.rest k base (omega arith) unmarked there;
}
  where
    held : (k : ℕ) (base : Base) → k < n + 1 → slice_get marks k ≡ Some false → slice_get bases k ≡ Some base → (k ≡ n) ⊎ (k ≢ n)
        → Holds base (piece k (words_of pages)) (piece k stamps)
    held k base below unmarked there (inl here) =
        let old = so.rest k base (omega (arith, here)) unmarked there in
        let words_are : piece k words ≡ piece k (words_of pages) = subst (λ j. piece j words ≡ piece j (words_of pages)) (sym here) same_words in
        let stamps_are : piece k before ≡ piece k stamps = subst (λ j. piece j before ≡ piece j stamps) (sym here) same_stamps in
        λ page is. ((old page is).0 ∙ words_are, (old page is).1 ∙ stamps_are)
    held k base below unmarked there (inr other) = so.held k base (omega arith) unmarked there

held_here : (pages : List SharedPage) (stamps : List (Option Stamp)) (n : ℕ) (base : Base) (page : SharedPage) → IsBaseOf base page → slice_get pages n ≡ Some page
    → piece n stamps ≡ page_stamps page → Holds base (piece n (words_of pages)) (piece n stamps)
held_here pages stamps n base page is at stamped = λ other there.
    let same = is.same other there in
    (ap (λ (p : Page). p.words.items) same ∙ sym (piece-words_of pages n page at), ap (λ (p : Page). p.stamps.value.items) same ∙ sym stamped)

-- a place has its page as its base, or is marked
pub one_put_more : (words : List ℕ) (before : List (Option Stamp)) (pages : List SharedPage) (stamps : List (Option Stamp)) (bases : List Base) (marks : List Bool)
    (n : ℕ) (base : Base) (page : SharedPage) (mark : Bool) → AreFieldsSoFar n words before pages stamps bases marks → slice_get pages n ≡ Some page → IsBaseOf base page
    → (mark ≡ false → piece n stamps ≡ page_stamps page)
    → AreFieldsSoFar (n + 1) words before pages stamps (slice_set bases n base) (slice_set marks n mark)
one_put_more words before pages stamps bases marks n base page mark so is new same = record {
  count = length-set bases n base ∙ so.count;
  places = length-set marks n mark ∙ so.places;
  held = λ k other k_below unmarked there. held k other k_below unmarked there (cases_eq k n);
  rest = λ k other from unmarked there.
      let apart : k ≢ n = λ equal. absurd (omega (arith, from, equal)) in
      so.rest k other (omega arith) (sym (set_there marks n k mark apart) ∙ unmarked) (sym (set_there bases n k base apart) ∙ there);
}
  where
    held : (k : ℕ) (other : Base) → k < n + 1 → slice_get (slice_set marks n mark) k ≡ Some false → slice_get (slice_set bases n base) k ≡ Some other → (k ≡ n) ⊎ (k ≢ n)
        → Holds other (piece k (words_of pages)) (piece k stamps)
    held k other k_below unmarked there (inl here) =
        let at : slice_get (slice_set bases n base) n ≡ Some other = subst (λ j. slice_get (slice_set bases n base) j ≡ Some other) here there in
        let at_mark : slice_get (slice_set marks n mark) n ≡ Some false = subst (λ j. slice_get (slice_set marks n mark) j ≡ Some false) here unmarked in
        let one : other ≡ base = set_here bases n base other at in
        let no : false ≡ mark = set_here marks n mark false at_mark in
        subst (λ j. Holds other (piece j (words_of pages)) (piece j stamps)) (sym here)
        (subst (λ b. Holds b (piece n (words_of pages)) (piece n stamps)) (sym one) (held_here pages stamps n base page new is (same (sym no))))
    held k other k_below unmarked there (inr else) =
        so.held k other (omega arith) (sym (set_there marks n k mark else) ∙ unmarked) (sym (set_there bases n k base else) ∙ there)

pub all_so_far : (words : List ℕ) (before : List (Option Stamp)) (pages : List SharedPage) (stamps : List (Option Stamp)) (bases : List Base) (marks : List Bool)
    → (0 < length stamps → length stamps ≡ length (words_of pages)) → AreFieldsSoFar (length pages) words before pages stamps bases marks
    → AreFields (words_of pages) stamps bases marks
all_so_far words before pages stamps bases marks stamped so =
    let many = length-words_of pages in
    let count = so.count in
    let places = so.places in
    record {
      places = places ∙ sym count;
      all_words = many ∙ ap (λ n. n * 256) (sym count);
      all_stamps = stamped;
      held = λ k base unmarked there.
          let inside : k < length bases = slice_get_within bases k base there in
          so.held k base (omega (arith, inside, count)) unmarked there;
    }

-- pieces of lists that are as long
pub as_long : {X Y : Type 0} (k : ℕ) (xs : List X) (ys : List Y) → length xs ≡ length ys → length (piece k xs) ≡ length (piece k ys)
unfolding piece
as_long k xs ys same =
    length-take 256 (drop (k * 256) xs) ∙ ap (min 256) (length-drop (k * 256) xs ∙ ap (λ n. n - k * 256) same ∙ sym (length-drop (k * 256) ys))
    ∙ sym (length-take 256 (drop (k * 256) ys))

-- a page's stamps are those of its place, if there are as many as a store has that has them right
pub stamps_here : (words : List ℕ) (before : List (Option Stamp)) (pages : List SharedPage) (bases : List Base) (marks : List Bool) (place : ℕ) (page : SharedPage)
    → AreFields words before bases marks → length (words_of pages) ≡ length words → length (stamps_of pages) ≡ length before
    → place < length pages → page ≡ get_or pages place page → piece place (stamps_of pages) ≡ page_stamps page
stamps_here words before pages bases marks place page fields same_words same_stamps below is =
    piece-stamps_of pages place page (as_stamped (length (stamps_of pages)) (length (words_of pages)) (length before) (length words) same_stamps same_words fields.all_stamps)
    (slice_get_read pages (length pages) place page refl below is)

pub room_for_place : (pages : List SharedPage) (many place : ℕ) → many ≡ length (words_of pages) → place < length pages → place * 256 + 256 ≤ many
room_for_place pages many place same below =
    let all = length-words_of pages in
    omega (arith, all, same, below)

-- where the words of the first n pages end
words_end : (pages : List SharedPage) (n at : ℕ) → n ≤ length pages → at ≡ length (flat_map page_words (take n pages)) → at ≡ n * 256
unfolding words_of
words_end pages n at within here =
    let all : length (flat_map page_words (take n pages)) ≡ length (take n pages) * 256 = length-words_of (take n pages) in
    let count : length (take n pages) ≡ n = length-take-le n pages within in
    omega arith

-- the words of the next place are those before, while the words of the pages before it are put
pub words_left : (pages : List SharedPage) (n at : ℕ) (before now : List ℕ) → n ≤ length pages → at ≡ length (flat_map page_words (take n pages))
    → now ≡ flat_map page_words (take n pages) ++ drop at before → piece n now ≡ piece n before
unfolding piece
words_left pages n at before now within here items =
    let place = words_end pages n at within here in
    ap (λ k. take 256 (drop k now)) (sym place)
    ∙ ap (λ xs. take 256 (drop at xs)) items
    ∙ ap (take 256) (drop_at (flat_map page_words (take n pages)) (drop at before) at (sym here))
    ∙ ap (λ k. take 256 (drop k before)) place

-- the words of the next place are those of its page already
pub words_there : (pages : List SharedPage) (n at : ℕ) (now part : List ℕ) (page : SharedPage) → n ≤ length pages → at ≡ length (flat_map page_words (take n pages))
    → part ≡ page_words page → piece n now ≡ page_words page → take (length part) (drop at now) ≡ part
unfolding piece
words_there pages n at now part page within here part_is same =
    let full : length (page_words page) ≡ 256 = page.value.full in
    ap (λ k. take k (drop at now)) (ap length part_is ∙ full)
    ∙ ap (λ k. take 256 (drop k now)) (words_end pages n at within here)
    ∙ same
    ∙ sym part_is
