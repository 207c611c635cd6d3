-- First touches laid over others, one page after the other.
use Rattle.std.proofs.Common.{◌≡◌, ◌∙◌, ℕ, suc, zero, ◌+◌, ◌<◌, ◌≤◌, List, [], ◌∷◌, ◌++◌, length, take, drop, get_or, slice_set, refl, sym, ap, arith}
use Rattle.std.proofs.lemmas.List.{append-nil, drop_all, get_or-map, length-map, take_all, take_more}
use Rattle.pdp_store.specs.FirstTouches.{first_before, first_touches_before}
use Rattle.pdp_store.specs.Overlays.{touch_over, touches_over}

pub length-touches_over : (turn : ℕ) (under over : List ℕ) → length over ≡ length under → length (touches_over turn under over) ≡ length under
length-touches_over turn [] over same = refl
length-touches_over turn (x ∷ under) [] same = absurd (omega arith)
length-touches_over turn (x ∷ under) (y ∷ over) same = ap suc (length-touches_over turn under over (omega arith))

pub length-laid_touches : (from to : ℕ) (under over : List ℕ) → length over ≡ length under → length (touches_over from under (first_touches_before to over)) ≡ length under
length-laid_touches from to under over same = length-touches_over from under (first_touches_before to over) (length-map over (first_before to) ∙ same)

get_or-touches_over : (turn : ℕ) (under over : List ℕ) (k d e f : ℕ) → k < length under → length over ≡ length under
    → get_or (touches_over turn under over) k d ≡ touch_over turn (get_or under k e) (get_or over k f)
get_or-touches_over turn [] over k d e f below same = absurd (omega arith)
get_or-touches_over turn (x ∷ under) [] k d e f below same = absurd (omega arith)
get_or-touches_over turn (x ∷ under) (y ∷ over) zero d e f below same = refl
get_or-touches_over turn (x ∷ under) (y ∷ over) (suc k) d e f below same = get_or-touches_over turn under over k d e f (omega arith) (omega arith)

more_laid : (turn : ℕ) (under over : List ℕ) (k d e : ℕ) → k < length under → length over ≡ length under
    → slice_set (take k (touches_over turn under over) ++ drop k under) k
    (touch_over turn (get_or (take k (touches_over turn under over) ++ drop k under) k d) (get_or over k e))
    ≡ take (k + 1) (touches_over turn under over) ++ drop (k + 1) under
more_laid turn [] over k d e below same = absurd (omega arith)
more_laid turn (x ∷ under) [] k d e below same = absurd (omega arith)
more_laid turn (x ∷ under) (y ∷ over) zero d e below same = refl
more_laid turn (x ∷ under) (y ∷ over) (suc k) d e below same =
    let more : suc k + 1 ≡ suc (k + 1) = omega arith in
    rw more (ap (λ zs. touch_over turn x y ∷ zs) (more_laid turn under over k d e (omega arith) (omega arith)))

-- an item is the one there, whatever it would be past the end
pub read_there : (xs : List ℕ) (k d : ℕ) → get_or xs k d ≡ get_or xs k (get_or xs k d)
read_there [] k d = refl
read_there (x ∷ xs) zero d = refl
read_there (x ∷ xs) (suc k) d = read_there xs k d

-- one page more has its first touch
pub page_laid_more : (from to : ℕ) (under over items : List ℕ) (k cut read now : ℕ) → k < length under → length over ≡ length under
    → items ≡ take k (touches_over from under (first_touches_before to over)) ++ drop k under
    → cut ≡ first_before to (get_or over k 0) → read ≡ get_or items k read → now ≡ touch_over from read cut
    → slice_set items k now ≡ take (k + 1) (touches_over from under (first_touches_before to over)) ++ drop (k + 1) under
page_laid_more from to under over items k cut read now below same is before here left =
    let size : length (first_touches_before to over) ≡ length under = length-map over (first_before to) ∙ same in
    let reads : get_or (first_touches_before to over) k cut ≡ cut =
    get_or-map (first_before to) over k 0 cut (omega arith) ∙ sym before in
    ap (slice_set items k) (left ∙ ap (λ x. touch_over from x cut) here ∙ ap (touch_over from (get_or items k read)) (sym reads))
    ∙ ap (λ xs. slice_set xs k (touch_over from (get_or xs k read) (get_or (first_touches_before to over) k cut))) is
    ∙ more_laid from under (first_touches_before to over) k read cut below size

pub pages_all_laid : (from to : ℕ) (under over now : List ℕ) (k : ℕ) → length under ≤ k → length over ≡ length under
    → now ≡ take k (touches_over from under (first_touches_before to over)) ++ drop k under → now ≡ touches_over from under (first_touches_before to over)
pages_all_laid from to under over now k past same is =
    let size = length-touches_over from under (first_touches_before to over) (length-map over (first_before to) ∙ same) in
    is ∙ ap (λ xs. xs ++ drop k under) (take_all k (touches_over from under (first_touches_before to over)) (omega (arith, size)))
    ∙ ap (λ xs. touches_over from under (first_touches_before to over) ++ xs) (drop_all k under past)
    ∙ append-nil (touches_over from under (first_touches_before to over))

-- what a page comes to, of first touches that are laid over others
pub page_comes_to : (turn to : ℕ) (under over : List ℕ) (k cut first : ℕ) → k < length under → length over ≡ length under
    → cut ≡ first_before to (get_or over k 0) → first ≡ get_or under k first
    → get_or (touches_over turn under (first_touches_before to over)) k first ≡ touch_over turn first cut
page_comes_to turn to under over k cut first below same before here =
    let size : length (first_touches_before to over) ≡ length under = length-map over (first_before to) ∙ same in
    get_or-touches_over turn under (first_touches_before to over) k first first cut below size
    ∙ ap (λ x. touch_over turn x (get_or (first_touches_before to over) k cut)) (sym here)
    ∙ ap (touch_over turn first) (get_or-map (first_before to) over k 0 cut (omega arith) ∙ sym before)

-- the pages so far come to what they are, and so does one more
pub page_stays_more : (turn : ℕ) (under laid : List ℕ) (k first : ℕ) → k < length under → length laid ≡ length under
    → take k laid ≡ take k under → get_or laid k first ≡ first → first ≡ get_or under k first → take (k + 1) laid ≡ take (k + 1) under
page_stays_more turn under laid k first below size before stays here =
    take_more laid k first (omega arith) ∙ ap (λ xs. xs ++ get_or laid k first ∷ []) before
    ∙ ap (λ x. take k under ++ x ∷ []) (stays ∙ here) ∙ sym (take_more under k first below)

pub pages_all_stay : (under laid : List ℕ) (k : ℕ) → length under ≤ k → length laid ≡ length under → take k laid ≡ take k under → laid ≡ under
pages_all_stay under laid k past size before =
    sym (take_all k laid (omega arith)) ∙ before ∙ take_all k under past
