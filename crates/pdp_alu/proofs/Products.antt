-- The product of two words as a number of 32 bits.
use Rattle.std.proofs.Common.{◌≡◌, ℕ, ◌<◌, ◌≤◌, ℤ, pos, negsuc, ◌*ℤ◌, false, unsigned_abs, arith}
use Rattle.std.specs.Int.{w32, cast_unsigned}
use Rattle.std.specs.Int.RustNames.{FitsSigned}
use Rattle.std.proofs.lemmas.Int.{ints, fits_signed_mul}
use Rattle.pdp_word.specs.declared.size.Size.TheVariants.{Word}
use Rattle.pdp_word.specs.Word.{signed_value}
use Rattle.pdp_alu.specs.Long.{signed_long, low_word}
use Rattle.pdp_alu.specs.Multiplication.{mul_effect}
use Rattle.pdp_alu.specs.Operand.{overflows}

-- a signed number that 32 bits hold is that of its bits
signed_of_bits : (z : ℤ) → FitsSigned w32 z → signed_long (cast_unsigned w32 z) ≡ z
signed_of_bits (pos n) fits = let small = fits.sfits in grind (arith, ints)
signed_of_bits (negsuc n) fits = let small = fits.sfits in grind (arith, ints)

-- a signed word is that of its low 16 bits
signed_of_low_bits : (z : ℤ) → overflows Word z ≡ false → signed_value (low_word (cast_unsigned w32 z)) ≡ z
signed_of_low_bits (pos n) fits = grind (arith, ints)
signed_of_low_bits (negsuc n) fits = grind (arith, ints)

size_of_word : (word : ℕ) → word < 0o200000 → unsigned_abs (signed_value word) ≤ 0o100000
size_of_word word fits = grind (arith, ints)

product_fits : (a b : ℤ) → unsigned_abs a ≤ 0o100000 → unsigned_abs b ≤ 0o100000 → FitsSigned w32 (a *ℤ b)
product_fits a b a_small b_small = fits_signed_mul w32 a b 0o100000 0o100000 a_small b_small (omega arith)

pub signed_product : (a b : ℕ) → a < 0o200000 → b < 0o200000 → signed_long (mul_effect a b).value ≡ signed_value a *ℤ signed_value b
unfolding mul_effect
signed_product a b a_fits b_fits =
    signed_of_bits (signed_value a *ℤ signed_value b) (product_fits (signed_value a) (signed_value b) (size_of_word a a_fits) (size_of_word b b_fits))

pub signed_low_product : (a b : ℕ) → a < 0o200000 → b < 0o200000 → (mul_effect a b).codes.c ≡ false
    → signed_value (low_word (mul_effect a b).value) ≡ signed_value a *ℤ signed_value b
unfolding mul_effect
signed_low_product a b a_fits b_fits clear = signed_of_low_bits (signed_value a *ℤ signed_value b) clear
