-- Facts on lists, in the forms that functions name.
use Rattle.std.proofs.Common.{◌≡◌, ℕ, ◌<◌, List, [], length, map, get_or, slice_index_or, slice_set, ◌∙◌, sym, ap}
use Rattle.std.proofs.lemmas.List.{get_or-map, length-map, map-set}
use Rattle.pdp_rk11.specs.Moves.{moved_items}
use Rattle.pdp_rk11.proofs.Moves.{length-moved}

pub moved_length : {A : Type 0} (first n : ℕ) (value : ℕ → A) (xs : List A) → length (moved_items first n value xs) ≡ length xs
moved_length first n value xs = length-moved first n value xs

pub map_length : {A B : Type 0} (f : A → B) (xs : List A) → length (map f xs) ≡ length xs
map_length f xs = length-map xs f

-- the words, or the stamps, of a store that is item i of a list
pub map_get : {A B : Type 0} (f : A → List B) (xs : List A) (i : ℕ) (x : A) → i < length xs → x ≡ get_or xs i x
    → slice_index_or (map f xs) i [] ≡ f x
map_get f xs i x within is = get_or-map f xs i x [] within ∙ ap f (sym is)

pub map_with : {A B : Type 0} (f : A → List B) (xs : List A) (i : ℕ) (x : A) → map f (slice_set xs i x) ≡ slice_set (map f xs) i (f x)
map_with f xs i x = map-set f xs i x
