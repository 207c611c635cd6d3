-- Pages in a row as they are put into arrays, one at a time.
use Rattle.std.proofs.Common.{◌≡◌, ◌≢◌, ◌⊎◌, inl, inr, ℕ, suc, zero, ◌+◌, ◌-◌, ◌*◌, ◌<◌, ◌≤◌, Bool, true, false, List, [], ◌∷◌, ◌++◌, Some, length, map, take, drop, get_or, slice_get, slice_set, refl, sym, ◌∙◌, ap, subst, arith, append-nil}
use Rattle.std.proofs.lemmas.Bool.{cases_eq}
use Rattle.std.proofs.lemmas.Grind.{flat_map-append}
use Rattle.std.proofs.lemmas.List.{append_assoc, drop-drop, drop_all, drop_at, take_more, take_all, take_at, length-set, length-append, length-take-le, length-drop, take-append-drop}
use Rattle.std.proofs.lemmas.List.Folds.{length-flat_map-take}
use Rattle.std.proofs.lemmas.Option.{slice_get_within}
use Rattle.std.specs.List.{flat_map}
use Rattle.pdp_store.specs.declared.base.Base.{Base}
use Rattle.pdp_store.specs.Pages.{SharedPage, serials}
use Rattle.pdp_store.specs.Bases.{AreBases, AreBasesBelow, IsBaseOf, bases_of}
use Rattle.pdp_store.specs.Pieces.{piece, with_items_at}

pub length-piece : {X : Type 0} (k : ℕ) (xs : List X) → k * 256 + 256 ≤ length xs → length (piece k xs) ≡ 256
unfolding piece
length-piece k xs within =
    let rest : length (drop (k * 256) xs) ≡ length xs - k * 256 = length-drop (k * 256) xs in
    length-take-le 256 (drop (k * 256) xs) (omega arith)

-- the first k pages, and the next
one_more : {X : Type 0} (f : SharedPage → List X) (pages : List SharedPage) (n : ℕ) (d : SharedPage) → n < length pages
    → flat_map f (take (n + 1) pages) ≡ flat_map f (take n pages) ++ f (get_or pages n d)
one_more f pages n d below =
    ap (flat_map f) (take_more pages n d below) ∙ flat_map-append f (take n pages) (get_or pages n d ∷ [])
    ∙ ap (λ xs. flat_map f (take n pages) ++ xs) (append-nil (f (get_or pages n d)))

-- how far the pages reach
pub put_ends : {X : Type 0} (f : SharedPage → List X) (pages : List SharedPage) (n at end : ℕ) (part : List X) (page : SharedPage)
    → end ≡ at + length part → at ≡ length (flat_map f (take n pages)) → n < length pages → page ≡ get_or pages n page → part ≡ f page
    → end ≡ length (flat_map f (take (n + 1) pages))
put_ends f pages n at end part page end_is here below is part_is =
    let next : length (flat_map f (take (n + 1) pages)) ≡ length (flat_map f (take n pages)) + length (f (get_or pages n page))
    = ap length (one_more f pages n page below) ∙ length-append (flat_map f (take n pages)) (f (get_or pages n page)) in
    let same : length part ≡ length (f (get_or pages n page)) = ap length part_is ∙ ap (λ p. length (f p)) is in
    omega arith

-- there is room for the next page
pub has_room : {X : Type 0} (f : SharedPage → List X) (pages : List SharedPage) (n at : ℕ) (before now part : List X) (page : SharedPage)
    → at ≡ length (flat_map f (take n pages)) → now ≡ flat_map f (take n pages) ++ drop at before
    → length (flat_map f pages) ≡ length before → n < length pages → page ≡ get_or pages n page → part ≡ f page
    → at + length part ≤ length now
has_room f pages n at before now part page here items all below is part_is =
    let fits : length (flat_map f (take n pages)) + length (f (get_or pages n page)) ≤ length (flat_map f pages) = length-flat_map-take f pages n page below in
    let same : length part ≡ length (f (get_or pages n page)) = ap length part_is ∙ ap (λ p. length (f p)) is in
    let rest : length (drop at before) ≡ length before - at = length-drop at before in
    let whole : length now ≡ length (flat_map f (take n pages)) + length (drop at before)
    = ap length items ∙ length-append (flat_map f (take n pages)) (drop at before) in
    omega arith

-- the next page is put after those before it
pub put_more : {X : Type 0} (f : SharedPage → List X) (pages : List SharedPage) (n at end : ℕ) (before now part after : List X) (page : SharedPage)
    → after ≡ with_items_at at part now → end ≡ at + length part → at ≡ length (flat_map f (take n pages))
    → now ≡ flat_map f (take n pages) ++ drop at before → n < length pages → page ≡ get_or pages n page → part ≡ f page
    → after ≡ flat_map f (take (n + 1) pages) ++ drop end before
unfolding with_items_at
put_more f pages n at end before now part after page after_is end_is here items below is part_is =
    let done = flat_map f (take n pages) in
    let next : flat_map f (take (n + 1) pages) ≡ done ++ f page
    = one_more f pages n page below ∙ ap (λ p. done ++ f p) (sym is) in
    let front : take at now ≡ done = ap (take at) items ∙ take_at done (drop at before) at (sym here) in
    let back : drop at now ≡ drop at before = ap (drop at) items ∙ drop_at done (drop at before) at (sym here) in
    let past : drop (length part) (drop at now) ≡ drop end before
    = ap (drop (length part)) back ∙ drop-drop (length part) at before ∙ ap (λ k. drop k before) (sym end_is) in
    after_is
    ∙ ap (λ xs. xs ++ (part ++ drop (length part) (drop at now))) front
    ∙ ap (λ xs. done ++ (part ++ xs)) past
    ∙ ap (λ xs. done ++ (xs ++ drop end before)) part_is
    ∙ sym (append_assoc done (f page) (drop end before))
    ∙ ap (λ xs. xs ++ drop end before) (sym next)

-- items that are there are put
pub same_put : {X : Type 0} (at : ℕ) (part xs : List X) → take (length part) (drop at xs) ≡ part → xs ≡ with_items_at at part xs
unfolding with_items_at
same_put at part xs same =
    sym (take-append-drop at xs)
    ∙ ap (λ ys. take at xs ++ ys) (sym (take-append-drop (length part) (drop at xs)))
    ∙ ap (λ ys. take at xs ++ (ys ++ drop (length part) (drop at xs))) same

pub put_all : {X : Type 0} (f : SharedPage → List X) (pages : List SharedPage) (n at : ℕ) (before now : List X)
    → at ≡ length (flat_map f (take n pages)) → now ≡ flat_map f (take n pages) ++ drop at before
    → length (flat_map f pages) ≡ length before → length pages ≤ n → now ≡ flat_map f pages
put_all f pages n at before now here items all past =
    let whole : flat_map f (take n pages) ≡ flat_map f pages = ap (flat_map f) (take_all n pages past) in
    let end : at ≡ length before = here ∙ ap length whole ∙ all in
    items
    ∙ ap (λ xs. xs ++ drop at before) whole
    ∙ ap (λ xs. flat_map f pages ++ xs) (drop_all at before (omega arith))
    ∙ append-nil (flat_map f pages)

pub set_here : {X : Type 0} (xs : List X) (k : ℕ) (x y : X) → slice_get (slice_set xs k x) k ≡ Some y → y ≡ x
set_here [] k x y is = absurd (cc)
set_here (z ∷ xs) zero x y is = cc
set_here (z ∷ xs) (suc k) x y is = set_here xs k x y is

pub set_there : {X : Type 0} (xs : List X) (k j : ℕ) (x : X) → j ≢ k → slice_get (slice_set xs k x) j ≡ slice_get xs j
set_there [] k j x other = refl
set_there (z ∷ xs) zero zero x other = absurd (other refl)
set_there (z ∷ xs) zero (suc j) x other = refl
set_there (z ∷ xs) (suc k) zero x other = refl
set_there (z ∷ xs) (suc k) (suc j) x other = set_there xs k j x (λ e. other (omega arith))

pub set_within : {X : Type 0} (xs : List X) (k : ℕ) (x : X) → k < length xs → slice_get (slice_set xs k x) k ≡ Some x
set_within [] k x below = absurd (omega arith)
set_within (z ∷ xs) zero x below = refl
set_within (z ∷ xs) (suc k) x below = set_within xs k x (omega arith)

pub no_bases_below : (pages : List SharedPage) (bases : List Base) (marks : List Bool) → length bases ≡ length pages → length marks ≡ length pages
    → AreBasesBelow 0 pages bases marks
no_bases_below pages bases marks count places = record {
  count = count;
  places = places;
  unmarked = λ k below. absurd (omega arith);
  same = λ k base page below. absurd (omega arith);
}

pub one_base_more : (pages : List SharedPage) (bases : List Base) (marks : List Bool) (n : ℕ) (base : Base) (page : SharedPage)
    → AreBasesBelow n pages bases marks → n < length pages → slice_get pages n ≡ Some page → IsBaseOf base page
    → AreBasesBelow (n + 1) pages (slice_set bases n base) (slice_set marks n false)
one_base_more pages bases marks n base page before below is new = record {
  count = length-set bases n base ∙ before.count;
  places = length-set marks n false ∙ before.places;
  unmarked = λ k k_below. unmarked k k_below (cases_eq k n);
  same = λ k other its k_below there its_page. same k other its k_below there its_page (cases_eq k n);
}
  where
    unmarked : (k : ℕ) → k < n + 1 → (k ≡ n) ⊎ (k ≢ n) → slice_get (slice_set marks n false) k ≡ Some false
    unmarked k k_below (inl here) =
        let many : length marks ≡ length pages = before.places in
        ap (λ j. slice_get (slice_set marks n false) j) here ∙ set_within marks n false (omega arith)
    unmarked k k_below (inr there) = set_there marks n k false there ∙ before.unmarked k (omega arith)

    same : (k : ℕ) (other : Base) (its : SharedPage) → k < n + 1 → slice_get (slice_set bases n base) k ≡ Some other → slice_get pages k ≡ Some its → (k ≡ n) ⊎ (k ≢ n) → IsBaseOf other its
    same k other its k_below there its_page (inl here) =
        let at : slice_get (slice_set bases n base) n ≡ Some other = subst (λ j. slice_get (slice_set bases n base) j ≡ Some other) here there in
        let at_page : slice_get pages n ≡ Some its = subst (λ j. slice_get pages j ≡ Some its) here its_page in
        let one : other ≡ base = set_here bases n base other at in
        let its_is : its ≡ page = cc in
        subst (λ b. IsBaseOf b its) (sym one) (subst (λ p. IsBaseOf base p) (sym its_is) new)
    same k other its k_below there its_page (inr else) = before.same k other its (omega arith) (sym (set_there bases n k base else) ∙ there) its_page

bases_of-unmarked : (pages : List SharedPage) (bases : List Base) (marks : List Bool) → length bases ≡ length pages → length marks ≡ length pages
    → ((k : ℕ) → k < length pages → slice_get marks k ≡ Some false)
    → ((k : ℕ) (base : Base) (page : SharedPage) → slice_get bases k ≡ Some base → slice_get pages k ≡ Some page → IsBaseOf base page)
    → bases_of marks bases ≡ map Some (serials pages)
unfolding bases_of
bases_of-unmarked [] bases [] count places unmarked same = refl
bases_of-unmarked [] bases (mark ∷ marks) count places unmarked same = absurd (omega arith)
bases_of-unmarked (page ∷ pages) bases [] count places unmarked same = absurd (omega arith)
bases_of-unmarked (page ∷ pages) [] (mark ∷ marks) count places unmarked same = absurd (omega arith)
bases_of-unmarked (page ∷ pages) (base ∷ bases) (true ∷ marks) count places unmarked same =
    let none : Some true ≡ Some false = unmarked 0 (omega arith) in absurd (cc)
bases_of-unmarked (page ∷ pages) (base ∷ bases) (false ∷ marks) count places unmarked same =
    let first = same 0 base page refl refl in
    let rest : bases_of marks bases ≡ map Some (serials pages) = bases_of-unmarked pages bases marks (omega arith) (omega arith)
    (λ k below. unmarked (suc k) (omega arith)) (λ k other its there its_page. same (suc k) other its there its_page) in
    rw (first.serial, rest) refl

pub all_bases : (pages : List SharedPage) (bases : List Base) (marks : List Bool) → AreBasesBelow (length pages) pages bases marks → AreBases pages bases marks
all_bases pages bases marks below =
    let same : (k : ℕ) (base : Base) (page : SharedPage) → slice_get bases k ≡ Some base → slice_get pages k ≡ Some page → IsBaseOf base page
    = λ k base page there its. below.same k base page (slice_get_within pages k page its) there its in
    record {
      count = below.count;
      places = below.places;
      serials = bases_of-unmarked pages bases marks below.count below.places below.unmarked same;
      same = same;
    }
