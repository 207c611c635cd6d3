-- An image, the words of core or of a drive as a file has them [P].
use Rattle.std.specs.Prelude.{ℕ, ◌+◌, ◌*◌, ◌%◌, ◌==◌, if◌then◌else◌, List, [], ◌∷◌, length, Result}
use Rattle.std.specs.Prelude.{Ok, Err}
use Rattle.pdp_script.specs.declared.faults.Fault.{Fault}
use Rattle.pdp_script.specs.declared.faults.Fault.TheVariants.{BadImage}

-- two bytes a word, the low one first
unfoldable pub image_words : List ℕ → List ℕ
image_words (low ∷ high ∷ bytes) = (low + 256 * high) ∷ image_words bytes
image_words _ = []

-- an image has whole words
unfoldable pub image_read : List ℕ → Result (List ℕ) Fault
image_read bytes = (if length bytes % 2 == 0 then Ok (image_words bytes) else Err BadImage)
