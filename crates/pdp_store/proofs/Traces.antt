-- Traces one after the other: what the whole says of its parts.
use Rattle.std.proofs.Common.{◌≡◌, ℕ, List, [], ◌∷◌, ◌++◌, Option, refl}
use Rattle.pdp_store.specs.declared.Stamp.{Stamp}
use Rattle.pdp_store.specs.TracedAccess.{Avoids, TracedAccess, last_write}
use Rattle.pdp_store.specs.declared.part.Part.{Part}

pub last_write-append : (xs ys : List TracedAccess) (k : ℕ) (before : Option Stamp)
    → last_write (xs ++ ys) k before ≡ last_write ys k (last_write xs k before)
last_write-append [] ys k before = refl
last_write-append (x ∷ xs) ys k before = last_write-append xs ys k _

pub Avoids-first : (part : Part) (page : ℕ) (xs ys : List TracedAccess) → Avoids part page (xs ++ ys) → Avoids part page xs
Avoids-first part page [] ys avoids = tt
Avoids-first part page (x ∷ xs) ys avoids = (avoids.0, Avoids-first part page xs ys avoids.1)

pub Avoids-second : (part : Part) (page : ℕ) (xs ys : List TracedAccess) → Avoids part page (xs ++ ys) → Avoids part page ys
Avoids-second part page [] ys avoids = avoids
Avoids-second part page (x ∷ xs) ys avoids = Avoids-second part page xs ys avoids.1
