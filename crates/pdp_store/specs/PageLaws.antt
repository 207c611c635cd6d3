-- What the laws of pages say: each name is the law's sentence.
use Rattle.std.specs.Prelude.{ℕ, ◌≡◌, ◌+◌, ◌<◌, ◌≤◌, Option, Some, None, List, [], ◌∷◌, slice_get}
use Rattle.pdp_store.specs.Pages.{given_after, most_serials, serials_taken}

-- how many places have no base
abbrev pub places_without_base : List (Option ℕ) → ℕ
places_without_base [] = 0
places_without_base (Some serial ∷ bases) = places_without_base bases
places_without_base (None ∷ bases) = places_without_base bases + 1

-- of the serials that places are taken under, if so many were given before: a base keeps its own;
-- that of each other place was not given before; and no two such places have the same
pub record AreGivenOnce (bases : List (Option ℕ)) (given : ℕ) : Type 0 where
  pub kept : (k serial : ℕ) → slice_get bases k ≡ Some (Some serial) → slice_get
      (serials_taken bases given) k ≡ Some serial
  pub new : (k serial : ℕ) → slice_get bases k ≡ Some None → slice_get (serials_taken bases given) k
      ≡ Some serial → (given < serial) × (serial ≤ given_after bases given)
  pub differ : (j k serial : ℕ) → slice_get bases j ≡ Some None → slice_get bases k ≡ Some None
      → slice_get (serials_taken bases given) j ≡ Some serial → slice_get
      (serials_taken bases given) k ≡ Some serial → j ≡ k

-- while there are serials enough
abbrev pub SerialsAreGivenOnce : Type 0
SerialsAreGivenOnce = (bases : List (Option ℕ)) (given : ℕ) → given + places_without_base bases
    ≤ most_serials → AreGivenOnce bases given
