-- Moves past the end of a list go nowhere.
use Rattle.std.proofs.Common.{◌≡◌, ℕ, ◌-◌, ◌<◌, min, List, [], ◌∷◌, refl, length, get_or, arith, ap, sym, ◌∙◌}
use Rattle.std.proofs.lemmas.Bool.Decides.{nat_tests}
use Rattle.std.proofs.lemmas.List.{same_lists}
use Rattle.pdp_rk11.specs.Moves.{item_after, moved_items}
use Rattle.pdp_rk11.proofs.Moves.{get_or-moved, length-moved}

same_item : {A : Type 0} (first n size : ℕ) (value : ℕ → A) (k : ℕ) (x : A) → k < size
    → item_after first (min n (size - first)) value k x ≡ item_after first n value k x
same_item first n size value k x within = grind (arith, nat_tests)

pub moved_within : {A : Type 0} (first n : ℕ) (value : ℕ → A) (xs : List A)
    → moved_items first (min n (length xs - first)) value xs ≡ moved_items first n value xs
moved_within first n value xs =
    let less = min n (length xs - first) in
    same_lists (moved_items first less value xs) (moved_items first n value xs)
    (length-moved first less value xs ∙ sym (length-moved first n value xs))
    (λ k d within.
    let inside : k < length xs = omega (arith, length-moved first less value xs) in
    get_or-moved first less value xs k d inside
    ∙ same_item first n (length xs) value k (get_or xs k d) inside
    ∙ sym (get_or-moved first n value xs k d inside))

no_items : {A : Type 0} (first n : ℕ) (value : ℕ → A) → moved_items first n value [] ≡ []
unfolding moved_items
no_items first n value = refl

-- a list into which as many items were moved as have room
pub moved_as_far : {A : Type 0} (first n done : ℕ) (value : ℕ → A) (xs ys : List A) → ys ≡ moved_items first done value xs
    → done ≡ min n (length xs - first) → ys ≡ moved_items first n value xs
moved_as_far first n done value xs ys is far = is ∙ ap (λ k. moved_items first k value xs) far ∙ moved_within first n value xs

-- a list that is empty, or as long as another one, into which as many items were moved as that one has room for
pub moved_as_far_or_none : {A B : Type 0} (first n done : ℕ) (value : ℕ → A) (xs ys : List A) (words : List B)
    → ys ≡ moved_items first done value xs → done ≡ min n (length words - first) → (0 < length xs → length xs ≡ length words)
    → ys ≡ moved_items first n value xs
moved_as_far_or_none first n done value [] ys words is far sized =
    is ∙ no_items first done value ∙ sym (no_items first n value)
moved_as_far_or_none first n done value (x ∷ xs) ys words is far sized =
    moved_as_far first n done value (x ∷ xs) ys is (far ∙ ap (λ k. min n (k - first)) (sym (sized (omega arith))))
