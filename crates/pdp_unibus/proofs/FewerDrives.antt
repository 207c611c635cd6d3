-- The first drives of a bus.
use Rattle.std.proofs.Common.{◌≡◌, ℕ, List, map, sym, take}
use Rattle.std.proofs.lemmas.List.{take-map}

-- the first of a list are seen as the first of those seen
pub first_seen : {X Z : Type 0} (f : X → List Z) (count : ℕ) (xs : List X) → map f (take count xs) ≡ take count (map f xs)
first_seen f count xs = sym (take-map f count xs)
