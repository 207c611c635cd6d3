-- Registers by their places among the words.
use Rattle.std.proofs.Common.{◌≡◌, ℕ, List, [], ◌∷◌, Option, Some, None, refl}
use Rattle.pdp_operand.specs.declared.processor.RegisterId.{RegisterId}
use Rattle.pdp_operand.specs.declared.processor.RegisterId.TheVariants.{R0, R1, R2, R3, R4, R5, KernelStack, ProgramCounter, UserStack}
use Rattle.pdp_made.specs.Cells.{Half, Low, High, DataCell, RegisterByte}
use Rattle.pdp_made.specs.ReferenceRows.{halves_of, whole_of}
use Rattle.pdp_moves.specs.Built.{place_of_register}

abbrev half_at : Option ℕ → Half → List DataCell
half_at (Some n) half = RegisterByte n half ∷ []
half_at None half = []

abbrev word_at : Option ℕ → List DataCell
word_at (Some n) = RegisterByte n Low ∷ RegisterByte n High ∷ []
word_at None = []

pub halves_by_place : (id : RegisterId) (half : Half) → halves_of id half ≡ half_at (place_of_register id) half
halves_by_place ProgramCounter half = refl
halves_by_place R0 half = refl
halves_by_place R1 half = refl
halves_by_place R2 half = refl
halves_by_place R3 half = refl
halves_by_place R4 half = refl
halves_by_place R5 half = refl
halves_by_place KernelStack half = refl
halves_by_place UserStack half = refl

pub whole_by_place : (id : RegisterId) → whole_of (halves_of id) ≡ word_at (place_of_register id)
whole_by_place ProgramCounter = refl
whole_by_place R0 = refl
whole_by_place R1 = refl
whole_by_place R2 = refl
whole_by_place R3 = refl
whole_by_place R4 = refl
whole_by_place R5 = refl
whole_by_place KernelStack = refl
whole_by_place UserStack = refl
