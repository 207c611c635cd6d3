-- What a write makes of a word that is made of nothing.
use Rattle.std.proofs.Common.{◌≡◌, ℕ, ◌%◌, ◌==◌, Bool, true, false, refl, if◌then◌else◌}
use Rattle.pdp_word.specs.declared.size.Size.{Size}
use Rattle.pdp_word.specs.declared.size.Size.TheVariants.{Word, Byte}
use Rattle.pdp_made.specs.Cells.{Low, High}
use Rattle.pdp_made.specs.ReferenceRows.{Halves, halves_put, of_nothing, whole_of, with_byte_at}

all_if : (even : Bool) (from : Halves) → whole_of (with_byte_at (if even then Low else High) of_nothing from) ≡ whole_of from
all_if true from = refl
all_if false from = refl

pub all_is_put : (size : Size) (physical : ℕ) (from : Halves) → whole_of (halves_put size physical of_nothing from) ≡ whole_of from
all_is_put Word physical from = refl
all_is_put Byte physical from = all_if (physical % 2 == 0) from
