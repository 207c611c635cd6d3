-- What the laws of MUL, DIV, ASH and ASHC say, for all operands that fit: each name is the law's
-- sentence (DEC PDP-11/40 Processor Handbook (1972), Instruction set; what it leaves open is [P]).
use Rattle.std.specs.Prelude.{◌≡◌, ℕ, ℤ, pos, ◌-◌, ◌*◌, ◌%◌, ◌^◌, ◌<◌, ◌≤◌, ◌*ℤ◌, ◌⊎◌, true, false}
use Rattle.std.specs.Prelude.{int_div, int_rem, unsigned_abs, IsFalse}
use Rattle.std.specs.Int.{int_div_euclid, int_rem_euclid}
use Rattle.pdp_word.specs.Bits.{bit_of, field}
use Rattle.pdp_word.specs.declared.size.Size.TheVariants.{Word}
use Rattle.pdp_word.specs.Word.{signed_value}
use Rattle.pdp_alu.specs.ArithmeticShifts.{ash_effect, ashc_effect}
use Rattle.pdp_alu.specs.Division.{IsDivision, div_effect, overflow_codes, zero_divisor_codes}
use Rattle.pdp_alu.specs.Effect.{effect}
use Rattle.pdp_alu.specs.Laws.{codes_of_value}
use Rattle.pdp_alu.specs.Long.{long_effect, low_word, overflows_long, signed_long}
use Rattle.pdp_alu.specs.Multiplication.{mul_effect}
use Rattle.pdp_alu.specs.Operand.{overflows}
use Rattle.pdp_alu.specs.declared.quotient.Div.{Div}
use Rattle.pdp_alu.specs.declared.quotient.Div.TheVariants.{Done, Kept}

-- each dividend and each divisor but 0 have a quotient and a remainder: those of `int_div` and
-- `int_rem`
abbrev pub QuotientsExist : Type 0
QuotientsExist = (dividend divisor : ℤ) → 0 < unsigned_abs divisor
    → IsDivision dividend divisor (int_div dividend divisor) (int_rem dividend divisor)

-- no dividend and divisor have two
abbrev pub QuotientsAreUnique : Type 0
QuotientsAreUnique = (dividend divisor quotient remainder other_quotient other_remainder : ℤ)
    → IsDivision dividend divisor quotient remainder → IsDivision dividend divisor other_quotient
    other_remainder
    → (quotient ≡ other_quotient) × (remainder ≡ other_remainder)

-- what DIV may make of its operands: quotient and remainder as signed words, and codes that tell of
-- the quotient; or nothing, if the divisor is 0, or if it isn't and the one quotient that there is
-- is no signed word
abbrev pub IsWordDivision : ℕ → ℕ → Div → Type 0
IsWordDivision dividend divisor (Done quotient remainder codes) =
    IsDivision (signed_long dividend) (signed_value divisor) (signed_value quotient)
    (signed_value remainder)
    × (codes ≡ codes_of_value Word quotient false false)
IsWordDivision dividend divisor (Kept codes) =
    (divisor ≡ 0) × (codes ≡ zero_divisor_codes)
    ⊎ ((quotient remainder : ℤ) → IsDivision (signed_long dividend) (signed_value divisor) quotient
    remainder
    → overflows Word quotient ≡ true) × (0 < divisor) × (codes ≡ overflow_codes)

-- DIV divides the signed numbers, if the quotient is a signed word
abbrev pub DivisionsAreExact : Type 0
DivisionsAreExact = (dividend divisor : ℕ) → dividend < 2 ^ 32 → divisor < 0o200000
    → IsWordDivision dividend divisor (div_effect dividend divisor)

-- ASH to the left: if V is clear, the signed word is multiplied by 2 to the count
abbrev pub WordShiftsMultiply : Type 0
WordShiftsMultiply = (word count : ℕ) → word < 0o200000 → count < 0o40 → IsFalse
    (ash_effect word count).codes.v
    → signed_value (ash_effect word count).value ≡ signed_value word *ℤ pos (2 ^ count)

-- ASHC to the left: if V is clear, the signed number is multiplied by 2 to the count
abbrev pub LongShiftsMultiply : Type 0
LongShiftsMultiply = (long count : ℕ) → long < 2 ^ 32 → count < 0o40 → IsFalse
    (ashc_effect long count).codes.v
    → signed_long (ashc_effect long count).value ≡ signed_long long *ℤ pos (2 ^ count)

-- ASH to the left: V is set exactly if the signed word times 2 to the count is no signed word
abbrev pub OverflowMarksWordMultiples : Type 0
OverflowMarksWordMultiples = (word count : ℕ) → word < 0o200000 → count < 0o40
    → (ash_effect word count).codes.v ≡ overflows Word (signed_value word *ℤ pos (2 ^ count))

-- ASHC to the left: V is set exactly if the signed number times 2 to the count is no signed number
-- of 32 bits
abbrev pub OverflowMarksLongMultiples : Type 0
OverflowMarksLongMultiples = (long count : ℕ) → long < 2 ^ 32 → count < 0o40
    → (ashc_effect long count).codes.v ≡ overflows_long (signed_long long *ℤ pos (2 ^ count))

-- ASH to the left: C is the last bit that left the word, which is bit 16 of the word times 2 to the
-- count
abbrev pub CarryIsBitAboveWord : Type 0
CarryIsBitAboveWord = (word count : ℕ) → word < 0o200000 → count < 0o40
    → bit_of (ash_effect word count).codes.c ≡ field 16 1 (word * 2 ^ count)

-- ASHC to the left: C is the last bit that left the number, which is bit 32 of the number times 2
-- to the count
abbrev pub CarryIsBitAboveLong : Type 0
CarryIsBitAboveLong = (long count : ℕ) → long < 2 ^ 32 → count < 0o40
    → bit_of (ashc_effect long count).codes.c ≡ field 32 1 (long * 2 ^ count)

-- ASH to the right: the signed word is divided by 2 to the count, rounded down
abbrev pub WordShiftsDivide : Type 0
WordShiftsDivide = (word count : ℕ) → word < 0o200000 → 0 < count → count ≤ 0o40
    → signed_value (ash_effect word (0o100 - count)).value ≡ int_div_euclid (signed_value word)
    (pos (2 ^ count))

-- ASHC to the right: the signed number is divided by 2 to the count, rounded down
abbrev pub LongShiftsDivide : Type 0
LongShiftsDivide = (long count : ℕ) → long < 2 ^ 32 → 0 < count → count ≤ 0o40
    → signed_long (ashc_effect long (0o100 - count)).value ≡ int_div_euclid (signed_long long) (pos
    (2 ^ count))

-- ASH to the right: C is the last bit that left the word, the lowest of what one place less leaves
abbrev pub CarryIsBitBelowWord : Type 0
CarryIsBitBelowWord = (word count : ℕ) → word < 0o200000 → 0 < count → count ≤ 0o40
    → pos (bit_of (ash_effect word (0o100 - count)).codes.c)
    ≡ int_rem_euclid (int_div_euclid (signed_value word) (pos (2 ^ (count - 1)))) (pos 2)

-- ASHC to the right: C is the last bit that left the number, the lowest of what one place less
-- leaves
abbrev pub CarryIsBitBelowLong : Type 0
CarryIsBitBelowLong = (long count : ℕ) → long < 2 ^ 32 → 0 < count → count ≤ 0o40
    → pos (bit_of (ashc_effect long (0o100 - count)).codes.c)
    ≡ int_rem_euclid (int_div_euclid (signed_long long) (pos (2 ^ (count - 1)))) (pos 2)

-- ASH and ASHC to the right leave V clear
abbrev pub RightShiftsNeverOverflow : Type 0
RightShiftsNeverOverflow = (number count : ℕ) → 0 < count → count ≤ 0o40
    → (IsFalse (ash_effect number (0o100 - count)).codes.v) × (IsFalse (ashc_effect number
    (0o100 - count)).codes.v)

-- ASH and ASHC with the count 0 leave the number, with V and C clear
abbrev pub CountZeroMovesNothing : Type 0
CountZeroMovesNothing = (number : ℕ)
    → (number < 0o200000 → ash_effect number 0 ≡ effect Word number false false)
    × (ashc_effect number 0 ≡ long_effect number false false)

-- ASH and ASHC: the low six bits of the source are the count
abbrev pub CountsHaveSixBits : Type 0
CountsHaveSixBits = (number source : ℕ)
    → (ash_effect number source ≡ ash_effect number (source % 0o100))
    × (ashc_effect number source ≡ ashc_effect number (source % 0o100))

-- MUL: the 32 bits of the result are the product of the signed words
abbrev pub ProductsAreExact : Type 0
ProductsAreExact = (multiplicand multiplier : ℕ) → multiplicand < 0o200000 → multiplier < 0o200000
    → signed_long (mul_effect multiplicand multiplier).value ≡ signed_value multiplicand *ℤ
    signed_value multiplier

-- MUL: if C is clear, the low word alone is the product of the signed words
abbrev pub LowProductsAreExact : Type 0
LowProductsAreExact = (multiplicand multiplier : ℕ) → multiplicand < 0o200000 → multiplier
    < 0o200000
    → IsFalse (mul_effect multiplicand multiplier).codes.c
    → signed_value (low_word (mul_effect multiplicand multiplier).value)
    ≡ signed_value multiplicand *ℤ signed_value multiplier

-- MUL: C is set exactly if the product is no signed word, and V is clear
abbrev pub CarryMarksLongProducts : Type 0
CarryMarksLongProducts = (multiplicand multiplier : ℕ) → multiplicand < 0o200000 → multiplier
    < 0o200000
    → ((mul_effect multiplicand multiplier).codes.c ≡ overflows Word (signed_value multiplicand *ℤ
    signed_value multiplier))
    × (IsFalse (mul_effect multiplicand multiplier).codes.v)
