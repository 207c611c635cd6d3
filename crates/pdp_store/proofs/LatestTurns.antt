-- The greatest turn of some last stamps: those that are all before a turn leave what they are laid over.
use Rattle.std.proofs.Common.{◌≡◌, ◌∙◌, ℕ, suc, zero, ◌+◌, ◌<◌, ◌≤◌, List, [], ◌∷◌, ◌++◌, Option, Some, None, length, max, take, get_or, slice_set, refl, sym, ap, arith}
use Rattle.std.proofs.lemmas.List.{set-get_or, take_more}
use Rattle.pdp_store.specs.declared.Stamp.{Stamp}
use Rattle.pdp_store.specs.Overlays.{laid_to, later_turn, latest_turn, stamp_over, stamps_over, AreBefore, IsBefore}
use Rattle.pdp_store.proofs.OverlayLaws.{early_stamp, over_early}
use Rattle.pdp_store.proofs.Overlays.{laid_more}

latest-append : (xs : List (Option Stamp)) (x : Option Stamp) → latest_turn (xs ++ x ∷ []) ≡ later_turn (latest_turn xs) x
unfolding latest_turn
latest-append [] None = refl
latest-append [] (Some s) = refl
latest-append (None ∷ xs) x = latest-append xs x
latest-append (Some y ∷ xs) None = ap (λ n. max n y.turn) (latest-append xs None)
latest-append (Some y ∷ xs) (Some s) = ap (λ n. max n y.turn) (latest-append xs (Some s)) ∙ omega arith

pub latest_more : (xs : List (Option Stamp)) (k : ℕ) (d : Option Stamp) → k < length xs → latest_turn (take (k + 1) xs) ≡ later_turn (latest_turn (take k xs)) (get_or xs k d)
latest_more xs k d below = ap latest_turn (take_more xs k d below) ∙ latest-append (take k xs) (get_or xs k d)

are_before : (turn : ℕ) (over : List (Option Stamp)) → latest_turn over < turn → AreBefore turn over
unfolding latest_turn
are_before turn [] less = tt
are_before turn (None ∷ over) less = (tt, are_before turn over less)
are_before turn (Some s ∷ over) less = (omega (arith, less), are_before turn over (omega (arith, less)))

before_at : (turn : ℕ) (over : List (Option Stamp)) (k : ℕ) → AreBefore turn over → IsBefore turn (get_or over k None)
before_at turn [] k all = tt
before_at turn (x ∷ over) zero all = all.0
before_at turn (x ∷ over) (suc k) all = before_at turn over k all.1

pub early_stamps : (turn : ℕ) (under over : List (Option Stamp)) → length over ≡ length under → latest_turn over < turn → stamps_over turn under over ≡ under
early_stamps turn under over same less = over_early turn under over (sym same) (are_before turn over less)

-- the stamps of one page are laid, of all
pub laid_past : (turn start n : ℕ) (under all over : List (Option Stamp)) → length all ≡ length under → latest_turn over < turn
    → ((k : ℕ) → k < n → get_or all (start + k) None ≡ get_or over k None) → start + n ≤ length under
    → laid_to start turn under all ≡ laid_to (start + n) turn under all
laid_past turn start zero under all over same less part fits = ap (λ m. laid_to m turn under all) (omega arith)
laid_past turn start (suc n) under all over same less part fits =
    let so = laid_past turn start n under all over same less (λ k below. part k (omega arith)) (omega arith) in
    let here = laid_to (start + n) turn under all in
    let last = get_or here (start + n) None in
    let stays : stamp_over turn last (get_or all (start + n) None) ≡ last
    = ap (stamp_over turn last) (part n (omega arith)) ∙ early_stamp turn last (get_or over n None) (before_at turn over n (are_before turn over less)) in
    let more : start + n + 1 ≡ start + suc n = omega arith in
    so ∙ sym (ap (λ x. slice_set here (start + n) x) stays ∙ set-get_or here (start + n) None)
    ∙ laid_more turn under all (start + n) None None (omega arith) same
    ∙ ap (λ m. laid_to m turn under all) more
