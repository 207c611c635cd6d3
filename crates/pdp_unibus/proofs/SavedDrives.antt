-- Drives that are taken, or loaded, one after the other.
use Rattle.std.proofs.Common.{◌≡◌, ◌∙◌, ℕ, zero, suc, ◌+◌, ◌<◌, ◌≤◌, List, [], ◌∷◌, ◌++◌, ap, ap₂, arith, add-one, drop, get_or, length, map, refl, slice_set, sym, take, append_assoc, append-nil}
use Rattle.std.proofs.Math.Seq.{map-set_same, set-append_seam, take-suc, drop-cons}
use Rattle.std.proofs.Math.ListN.{drop_of_length-le}
use Rattle.std.proofs.lemmas.List.{get_or-map, take_all, length-map, length-take-le, map-append, map-set}
use Rattle.std.specs.Prelude.{Option, slice_index_or}
use Rattle.pdp_store.specs.declared.Stamp.{Stamp}
use Rattle.pdp_store.specs.Pages.{next_given}
use Rattle.pdp_unibus.specs.PatchedPages.{given_by_drives}
use Rattle.pdp_unibus.specs.SavedBusData.{SavedBusData}
use Rattle.pdp_unibus.specs.SavedDrives.{AreUnstamped, PageList, pages_stamps, pages_words}

-- what is seen of the drive of a number
pub seen : {X Z : Type 0} (f : X → List Z) (xs : List X) (i : ℕ) (d : X) → i < length xs → f (get_or xs i d) ≡ slice_index_or (map f xs) i []
seen f xs i d below = sym (get_or-map f xs i d [] below)

-- a drive takes the place of one that is seen alike
pub same_for_one : {X Z : Type 0} (f : X → List Z) (xs : List X) (i : ℕ) (x d : X) → f x ≡ f (get_or xs i d) → map f (slice_set xs i x) ≡ map f xs
same_for_one f xs i x d is = map-set_same f xs i x d is

pub put_one : {X Z : Type 0} (f : X → List Z) (xs : List X) (i : ℕ) (x : X) (ys : List Z) → f x ≡ ys → map f (slice_set xs i x) ≡ slice_set (map f xs) i ys
put_one f xs i x ys is = map-set f xs i x ∙ ap (slice_set (map f xs) i) is

-- the count of the drive of a number, and one more of it
pub count_at : {X : Type 0} (f : X → ℕ) (xs : List X) (i : ℕ) (d : X) → i < length xs → f (get_or xs i d) ≡ slice_index_or (map f xs) i 0
count_at f xs i d below = sym (get_or-map f xs i d 0 below)

pub count_one : {X : Type 0} (f : X → ℕ) (xs : List X) (i : ℕ) (x d : X) → i < length xs → f x ≡ next_given (f (get_or xs i d))
    → map f (slice_set xs i x) ≡ given_by_drives i (map f xs)
count_one f xs i x d below is = map-set f xs i x ∙ ap (slice_set (map f xs) i) (is ∙ ap next_given (count_at f xs i d below))

-- a drive of the number is there: core doesn't count
pub count_there : (xs : List ℕ) (i core : ℕ) → i < length xs → slice_index_or xs i core ≡ slice_index_or xs i 0
count_there [] i core below = absurd (omega (arith, below))
count_there (x ∷ xs) zero core below = refl
count_there (x ∷ xs) (suc i) core below = count_there xs i core (omega (arith, below))

-- none is there: core counts alone
pub count_past : (xs : List ℕ) (i core : ℕ) → length xs ≤ i → slice_index_or xs i core ≡ core
count_past [] i core over = refl
count_past (x ∷ xs) zero core over = absurd (omega (arith, over))
count_past (x ∷ xs) (suc i) core over = count_past xs i core (omega (arith, over))

pub none_counted : (xs : List ℕ) (i : ℕ) → length xs ≤ i → xs ≡ given_by_drives i xs
none_counted xs i over = sym (past xs i _ over) where
  past : (xs : List ℕ) (i n : ℕ) → length xs ≤ i → slice_set xs i n ≡ xs
  past [] i n over = refl
  past (x ∷ xs) zero n over = absurd (omega (arith, over))
  past (x ∷ xs) (suc i) n over = ap (λ ys. x ∷ ys) (past xs i n (omega (arith, over)))

-- one more is taken of a list, as it is seen through g
pub one_more : {Y Z : Type 0} (g : Y → List Z) (all : List (List Z)) (taken : List Y) (i : ℕ) (p : Y)
    → map g taken ≡ take i all → i < length all → g p ≡ slice_index_or all i [] → map g (taken ++ p ∷ []) ≡ take (i + 1) all
one_more g all taken i p is below gives =
    map-append g taken (p ∷ []) ∙ ap₂ (λ xs x. xs ++ x ∷ []) is gives ∙ sym (rw add-one (take-suc all i [] below))

-- the first i of a list are loaded from another, whose items are of the same lengths; the others are as they were
pub record Loaded {Z : Type 0} (pages first now : List (List Z)) (i : ℕ) : Type 0 where
  pub sizes : map length pages ≡ map length now
  pub items : now ≡ take i pages ++ drop i first

pub none_loaded : {Z : Type 0} (pages first : List (List Z)) → map length pages ≡ map length first → Loaded pages first first 0
none_loaded pages first sizes = record { sizes = sizes; items = refl }

sizes_at : {Z : Type 0} (pages first now : List (List Z)) (i k : ℕ) → Loaded pages first now k → i < length now
    → length (slice_index_or pages i []) ≡ length (slice_index_or now i [])
sizes_at pages first now i k so below = at pages now i so.sizes where
  at : {Z : Type 0} (xs ys : List (List Z)) (j : ℕ) → map length xs ≡ map length ys → length (get_or xs j []) ≡ length (get_or ys j [])
  at [] [] j is = refl
  at [] (y ∷ ys) j is = absurd (cc is)
  at (x ∷ xs) [] j is = absurd (cc is)
  at (x ∷ xs) (y ∷ ys) zero is = cc is
  at (x ∷ xs) (y ∷ ys) (suc j) is = at xs ys j (cc is)

set_next : {Z : Type 0} (front rest : List Z) (i : ℕ) (old new : Z) → length front ≡ i → slice_set (front ++ old ∷ rest) i new ≡ (front ++ new ∷ []) ++ rest
set_next front rest i old new is =
    ap (λ k. slice_set (front ++ old ∷ rest) k new) (sym is) ∙ set-append_seam front old rest new ∙ sym (append_assoc front (new ∷ []) rest)

moved : {Z : Type 0} (pages first : List (List Z)) (i : ℕ) → i < length pages → i < length first
    → slice_set (take i pages ++ drop i first) i (slice_index_or pages i []) ≡ take (i + 1) pages ++ drop (i + 1) first
moved pages first i within below = rw add-one (
    ap (λ xs. slice_set (take i pages ++ xs) i (slice_index_or pages i [])) (drop-cons first i [] below)
    ∙ set_next (take i pages) (drop (suc i) first) i (get_or first i []) (slice_index_or pages i []) (length-take-le i pages (omega (arith, within)))
    ∙ ap (λ xs. xs ++ drop (suc i) first) (sym (take-suc pages i [] within)))

one_more_loaded : {Z : Type 0} (pages first now : List (List Z)) (i : ℕ) → Loaded pages first now i → i < length now → i < length pages
    → i < length first → Loaded pages first (slice_set now i (slice_index_or pages i [])) (i + 1)
one_more_loaded pages first now i so below within inside = record {
  sizes = so.sizes ∙ sym (map-set_same length now i (slice_index_or pages i []) [] (sizes_at pages first now i i so below));
  items = ap (λ xs. slice_set xs i (slice_index_or pages i [])) so.items ∙ moved pages first i within inside;
}

count_of : {X Z : Type 0} (f : X → List Z) (xs : List X) (i : ℕ) → i < length xs → i < length (map f xs)
count_of f xs i below = rw length-map below

pub size_at : {X Z : Type 0} (f : X → List Z) (pages first : List (List Z)) (xs : List X) (i : ℕ) → Loaded pages first (map f xs) i → i < length xs
    → length (slice_index_or pages i []) ≡ length (slice_index_or (map f xs) i [])
size_at f pages first xs i so below = sizes_at pages first (map f xs) i i so (count_of f xs i below)

pub one_loaded : {X Y Z : Type 0} (f : X → List Z) (g : Y → List Z) (ps : List Y) (zs xs ys : List X) (i : ℕ)
    → Loaded (map g ps) (map f zs) (map f xs) i → i < length xs → i < length ps → i < length zs
    → map f ys ≡ slice_set (map f xs) i (slice_index_or (map g ps) i [])
    → Loaded (map g ps) (map f zs) (map f ys) (i + 1)
one_loaded f g ps zs xs ys i so below within inside is =
    rw is (one_more_loaded (map g ps) (map f zs) (map f xs) i so (count_of f xs i below) (count_of g ps i within) (count_of f zs i inside))

pub all_loaded : {Z : Type 0} (pages first now : List (List Z)) (i : ℕ) → Loaded pages first now i → length pages ≤ i → length first ≤ i → now ≡ pages
all_loaded pages first now i so over past =
    so.items ∙ ap₂ ◌++◌ (take_all i pages over) (drop_of_length-le first past) ∙ append-nil pages

-- drives that keep no stamps
same_constant : {X Y Z : Type 0} (z : Z) (xs : List X) (ys : List Y) → length xs ≡ length ys → map (λ _. z) xs ≡ map (λ _. z) ys
same_constant z [] [] as_many = refl
same_constant z [] (y ∷ ys) as_many = absurd (cc as_many)
same_constant z (x ∷ xs) [] as_many = absurd (cc as_many)
same_constant z (x ∷ xs) (y ∷ ys) as_many = ap (λ zs. z ∷ zs) (same_constant z xs ys (cc as_many))

as_many_items : {X Y A B : Type 0} (f : X → A) (g : Y → B) (xs : List X) (ys : List Y) → length (map f xs) ≡ length (map g ys) → length xs ≡ length ys
as_many_items f g xs ys is = sym (length-map xs f) ∙ is ∙ length-map ys g

pub unstamped : {X : Type 0} (pages : List PageList) (drives : List X) → map pages_stamps pages ≡ map (λ _. []) drives → AreUnstamped pages
unstamped pages drives is =
    is ∙ sym (same_constant [] pages drives (as_many_items pages_stamps (λ _. []) pages drives (ap length is)))

pub blank_sizes : {X : Type 0} (f : X → List ℕ) (pages : List PageList) (drives : List X) → AreUnstamped pages
    → map length (map pages_words pages) ≡ map length (map f drives)
    → map length (map pages_stamps pages) ≡ map (λ _. 0) drives
blank_sizes f pages drives blank sizes = ap (map length) blank ∙ zeros pages ∙ same_constant 0 pages drives as_many where
  as_many : length pages ≡ length drives
  as_many = as_many_items pages_words f pages drives (as_many_items length length (map pages_words pages) (map f drives) (ap length sizes))

  zeros : (xs : List PageList) → map length (map {A = PageList} {B = List (Option Stamp)} (λ _. []) xs) ≡ map (λ _. 0) xs
  zeros [] = refl
  zeros (x ∷ xs) = ap (λ ns. 0 ∷ ns) (zeros xs)

pub no_stamps : {X : Type 0} (drives : List X) → map length (map {A = X} {B = List (Option Stamp)} (λ _. []) drives) ≡ map (λ _. 0) drives
no_stamps [] = refl
no_stamps (x ∷ xs) = ap (λ ns. 0 ∷ ns) (no_stamps xs)

-- another list without stamps takes a place
pub put_unstamped : (xs : List PageList) (k : ℕ) (new : PageList) → AreUnstamped xs → pages_stamps new ≡ [] → AreUnstamped (slice_set xs k new)
put_unstamped [] k new is none = refl
put_unstamped (x ∷ xs) zero new is none = let rest : AreUnstamped xs = cc is in ap₂ ◌∷◌ none rest
put_unstamped (x ∷ xs) (suc k) new is none =
    let first : pages_stamps x ≡ [] = cc is in
    let rest : AreUnstamped xs = cc is in
    ap₂ ◌∷◌ first (put_unstamped xs k new rest none)

-- a list that has words is there
pub list_there : {X : Type 0} (f : X → List ℕ) (xs : List X) (k word : ℕ) → word < length (slice_index_or (map f xs) k []) → k < length xs
list_there f [] k word below = absurd (omega (arith, below))
list_there f (x ∷ xs) zero word below = omega arith
list_there f (x ∷ xs) (suc k) word below = let rest = list_there f xs k word below in omega (arith, rest)

-- the words of the drive of a number, as its list has them
pub words_there : (xs : List PageList) (k : ℕ) (pages : PageList) → pages ≡ get_or xs k pages → k < length xs → pages_words pages ≡ slice_index_or (map pages_words xs) k []
words_there xs k pages there below = ap pages_words there ∙ sym (get_or-map pages_words xs k pages [] below)

-- saved buses that are alike
pub alike_saved_buses : (c d : SavedBusData) → c.io_page ≡ d.io_page → c.core ≡ d.core → c.stamps ≡ d.stamps → c.drives ≡ d.drives → c.bytes_read ≡ d.bytes_read
    → c.turn ≡ d.turn → c ≡ d
alike_saved_buses c d io_page core stamps drives bytes_read turn =
    ap (λ x. record c { io_page = x }) io_page
    ∙ ap (λ x. record c { io_page = d.io_page; core = x }) core
    ∙ ap (λ x. record c { io_page = d.io_page; core = d.core; stamps = x }) stamps
    ∙ ap (λ x. record c { io_page = d.io_page; core = d.core; stamps = d.stamps; drives = x }) drives
    ∙ ap (λ x. record d { bytes_read = x; turn = c.turn }) bytes_read
    ∙ ap (λ x. record d { turn = x }) turn

-- one more of a list is changed, if those before it were
pub changed_next : {X : Type 0} (f : X → X) (i : ℕ) (d : X) (xs : List X) → i < length xs
    → slice_set (map f (take i xs) ++ drop i xs) i (f (slice_index_or (map f (take i xs) ++ drop i xs) i d)) ≡ map f (take (i + 1) xs) ++ drop (i + 1) xs
changed_next f i d [] below = absurd (omega arith)
changed_next f zero d (x ∷ xs) below = refl
changed_next f (suc i) d (x ∷ xs) below =
    let e : suc i + 1 ≡ suc (i + 1) = omega arith in
    rw e (ap (λ ys. f x ∷ ys) (changed_next f i d xs (omega arith)))
