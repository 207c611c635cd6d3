-- Drives that are compared, or whose first touches are laid over others, one after the other.
use Rattle.std.proofs.Common.{◌≡◌, ◌∙◌, ℕ, suc, zero, ◌+◌, ◌<◌, ◌≤◌, List, [], ◌∷◌, ◌++◌, ap, ap₂, append-nil, arith, drop, get_or, length, map, refl, slice_set, sym, take}
use Rattle.std.proofs.lemmas.List.{drop_all, get_or-map, length-map, take_all, take_more}
use Rattle.pdp_store.specs.FirstTouches.{first_touches_before}
use Rattle.pdp_store.specs.Overlays.{drives_over, touches_over}

-- lists of the same lengths
pub alike_at : {Y Z : Type 0} (xs : List (List Y)) (ys : List (List Z)) (i : ℕ) → map length xs ≡ map length ys → length (get_or xs i []) ≡ length (get_or ys i [])
alike_at [] [] i is = refl
alike_at [] (y ∷ ys) i is = absurd (cc is)
alike_at (x ∷ xs) [] i is = absurd (cc is)
alike_at (x ∷ xs) (y ∷ ys) zero is = cc is
alike_at (x ∷ xs) (y ∷ ys) (suc i) is = alike_at xs ys i (cc is)

pub as_many_alike : {Y Z : Type 0} (xs : List (List Y)) (ys : List (List Z)) → map length xs ≡ map length ys → length xs ≡ length ys
as_many_alike xs ys is = sym (length-map xs length) ∙ ap length is ∙ length-map ys length

pub as_many_seen : {X Y A B : Type 0} (f : X → List A) (g : Y → List B) (xs : List X) (ys : List Y) → map length (map f xs) ≡ map length (map g ys) → length xs ≡ length ys
as_many_seen f g xs ys is = sym (length-map xs f) ∙ as_many_alike (map f xs) (map g ys) is ∙ length-map ys g

-- the first i of two lists are the same, and so is the next
pub one_same_more : {Z : Type 0} (xs ys : List (List Z)) (i : ℕ) → i < length xs → length xs ≡ length ys → take i xs ≡ take i ys → get_or xs i [] ≡ get_or ys i []
    → take (i + 1) xs ≡ take (i + 1) ys
one_same_more xs ys i below same before is =
    take_more xs i [] below ∙ ap₂ (λ zs z. zs ++ z ∷ []) before is ∙ sym (take_more ys i [] (omega arith))

pub all_same : {Z : Type 0} (xs ys : List (List Z)) (i : ℕ) → length xs ≤ i → length xs ≡ length ys → take i xs ≡ take i ys → xs ≡ ys
all_same xs ys i past same is = sym (take_all i xs past) ∙ is ∙ take_all i ys (omega arith)

-- first touches laid over those of each drive
pub length-drives_over : (turn : ℕ) (under over : List (List ℕ)) → length over ≡ length under → length (drives_over turn under over) ≡ length under
length-drives_over turn [] over same = refl
length-drives_over turn (x ∷ under) [] same = absurd (omega arith)
length-drives_over turn (x ∷ under) (y ∷ over) same = ap suc (length-drives_over turn under over (omega arith))

get_or-drives_over : (turn : ℕ) (under over : List (List ℕ)) (k : ℕ) → k < length under → length over ≡ length under
    → get_or (drives_over turn under over) k [] ≡ touches_over turn (get_or under k []) (get_or over k [])
get_or-drives_over turn [] over k below same = absurd (omega arith)
get_or-drives_over turn (x ∷ under) [] k below same = absurd (omega arith)
get_or-drives_over turn (x ∷ under) (y ∷ over) zero below same = refl
get_or-drives_over turn (x ∷ under) (y ∷ over) (suc k) below same = get_or-drives_over turn under over k (omega arith) (omega arith)

more_laid : (turn : ℕ) (under over : List (List ℕ)) (k : ℕ) → k < length under → length over ≡ length under
    → slice_set (take k (drives_over turn under over) ++ drop k under) k
    (touches_over turn (get_or (take k (drives_over turn under over) ++ drop k under) k []) (get_or over k []))
    ≡ take (k + 1) (drives_over turn under over) ++ drop (k + 1) under
more_laid turn [] over k below same = absurd (omega arith)
more_laid turn (x ∷ under) [] k below same = absurd (omega arith)
more_laid turn (x ∷ under) (y ∷ over) zero below same = refl
more_laid turn (x ∷ under) (y ∷ over) (suc k) below same =
    let more : suc k + 1 ≡ suc (k + 1) = omega arith in
    rw more (ap (λ zs. touches_over turn x y ∷ zs) (more_laid turn under over k (omega arith) (omega arith)))

-- with those of another run before a turn alone
pub drive_comes_to : (turn to : ℕ) (under over : List (List ℕ)) (k : ℕ) → k < length under → length over ≡ length under
    → get_or (drives_over turn under (map (first_touches_before to) over)) k [] ≡ touches_over turn (get_or under k []) (first_touches_before to (get_or over k []))
drive_comes_to turn to under over k below same =
    get_or-drives_over turn under (map (first_touches_before to) over) k below (length-map over (first_touches_before to) ∙ same)
    ∙ ap (touches_over turn (get_or under k [])) (get_or-map (first_touches_before to) over k [] [] (omega arith))

pub drive_laid_more : (from to : ℕ) (under over items now : List (List ℕ)) (k : ℕ) → k < length under → length over ≡ length under
    → items ≡ take k (drives_over from under (map (first_touches_before to) over)) ++ drop k under
    → now ≡ slice_set items k (touches_over from (get_or items k []) (first_touches_before to (get_or over k [])))
    → now ≡ take (k + 1) (drives_over from under (map (first_touches_before to) over)) ++ drop (k + 1) under
drive_laid_more from to under over items now k below same is left =
    let size : length (map (first_touches_before to) over) ≡ length under = length-map over (first_touches_before to) ∙ same in
    left
    ∙ ap (λ x. slice_set items k (touches_over from (get_or items k []) x)) (sym (get_or-map (first_touches_before to) over k [] [] (omega arith)))
    ∙ ap (λ xs. slice_set xs k (touches_over from (get_or xs k []) (get_or (map (first_touches_before to) over) k []))) is
    ∙ more_laid from under (map (first_touches_before to) over) k below size

-- the next drive still has its own first touches, of as many pages
not_there : (k : ℕ) → get_or (take k [] ++ drop k []) k [] ≡ get_or {A = List ℕ} [] k []
not_there zero = refl
not_there (suc k) = refl

untouched : (from to : ℕ) (under over : List (List ℕ)) (k : ℕ) → length over ≡ length under
    → get_or (take k (drives_over from under (map (first_touches_before to) over)) ++ drop k under) k [] ≡ get_or under k []
untouched from to [] over k many = not_there k
untouched from to (x ∷ under) [] k many = absurd (omega arith)
untouched from to (x ∷ under) (y ∷ over) zero many = refl
untouched from to (x ∷ under) (y ∷ over) (suc k) many = untouched from to under over k (omega arith)

pub laid_alike : (from to : ℕ) (under over items : List (List ℕ)) (k : ℕ) → map length over ≡ map length under
    → items ≡ take k (drives_over from under (map (first_touches_before to) over)) ++ drop k under
    → length (get_or over k []) ≡ length (get_or items k [])
laid_alike from to under over items k same is =
    alike_at over under k same ∙ ap length (sym (ap (λ xs. get_or xs k []) is ∙ untouched from to under over k (as_many_alike over under same)))

pub drives_all_laid : (from to : ℕ) (under over now : List (List ℕ)) (k : ℕ) → length under ≤ k → length over ≡ length under
    → now ≡ take k (drives_over from under (map (first_touches_before to) over)) ++ drop k under → now ≡ drives_over from under (map (first_touches_before to) over)
drives_all_laid from to under over now k past same is =
    let size = length-drives_over from under (map (first_touches_before to) over) (length-map over (first_touches_before to) ∙ same) in
    is ∙ ap (λ xs. xs ++ drop k under) (take_all k (drives_over from under (map (first_touches_before to) over)) (omega (arith, size)))
    ∙ ap (λ xs. drives_over from under (map (first_touches_before to) over) ++ xs) (drop_all k under past)
    ∙ append-nil (drives_over from under (map (first_touches_before to) over))
