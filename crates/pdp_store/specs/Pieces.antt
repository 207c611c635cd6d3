-- Lists of words cut into pieces of 256, one for each page. No rule of the handbook is here.
use Rattle.std.specs.Prelude.{ℕ, ◌*◌, List, ◌++◌, drop, length, take}

-- the 256 items at this place
unfoldable pub piece : {X : Type 0} → ℕ → List X → List X
piece place xs = take 256 (drop (place * 256) xs)

-- the list with these items in place of as many from item `at` on
unfoldable pub with_items_at : {X : Type 0} → ℕ → List X → List X → List X
with_items_at at part xs = take at xs ++ (part ++ drop (length part) (drop at xs))
