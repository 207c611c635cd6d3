-- What the laws of the effects say, for all operands that fit: each name is the law's sentence (DEC
-- PDP-11/40 Processor Handbook (1972), Instruction set; what it leaves open is [P]).
use Rattle.std.specs.Prelude.{◌≡◌, ℕ, pos, ◌+◌, ◌*◌, ◌<◌, ◌==◌, ◌+ℤ◌, ◌-ℤ◌, ◌*ℤ◌, neg_ℤ, int_lt}
use Rattle.std.specs.Prelude.{nat_lt, Bool, false, not, ◌&&◌, ◌||◌, IsFalse}
use Rattle.pdp_word.specs.Bits.{bit_of, has_bit}
use Rattle.pdp_word.specs.declared.codes.Codes.{Codes}
use Rattle.pdp_word.specs.declared.size.Size.{Size}
use Rattle.pdp_word.specs.declared.size.Size.TheVariants.{Word, Byte}
use Rattle.pdp_word.specs.Size.{span}
use Rattle.pdp_word.specs.Word.{signed_value, low_byte, high_byte}
use Rattle.pdp_alu.specs.Arithmetic.{add_effect, cmp_effect, sub_effect}
use Rattle.pdp_alu.specs.Bytes.{swab_effect, sxt_effect}
use Rattle.pdp_alu.specs.Effect.{mov_effect, tst_effect}
use Rattle.pdp_alu.specs.Logic.{bic_effect, bis_effect, bit_effect, xor_effect}
use Rattle.pdp_alu.specs.Operand.{overflows, signed_at, width}
use Rattle.pdp_alu.specs.Shifts.{asl_effect, asr_effect, differ, rol_effect, ror_effect}
use Rattle.pdp_alu.specs.SingleOperand.{adc_effect, clr_effect, com_effect, dec_effect, inc_effect}
use Rattle.pdp_alu.specs.SingleOperand.{neg_effect, sbc_effect}

-- ADD: with C as the bit above the word, the sum is that of the operands
abbrev pub SumsAreExact : Type 0
SumsAreExact = (source destination : ℕ) → source < 0o200000 → destination < 0o200000
    → (add_effect source destination).value + 0o200000 * bit_of (add_effect source
    destination).codes.c
    ≡ destination + source

-- ADD: if V is clear, the signed sum is that of the signed operands
abbrev pub SignedSumsAreExact : Type 0
SignedSumsAreExact = (source destination : ℕ) → source < 0o200000 → destination < 0o200000
    → IsFalse (add_effect source destination).codes.v
    → signed_value (add_effect source destination).value ≡ signed_value destination +ℤ signed_value
    source

-- ADD: V is set exactly if the signed sum is no signed word
abbrev pub OverflowMarksSums : Type 0
OverflowMarksSums = (source destination : ℕ) → source < 0o200000 → destination < 0o200000
    → (add_effect source destination).codes.v ≡ overflows Word (signed_value destination +ℤ
    signed_value source)

-- SUB: with C as a borrow from the bit above the word, the difference is that of the operands
abbrev pub DifferencesAreExact : Type 0
DifferencesAreExact = (source destination : ℕ) → source < 0o200000 → destination < 0o200000
    → (sub_effect source destination).value + source
    ≡ destination + 0o200000 * bit_of (sub_effect source destination).codes.c

-- SUB: if V is clear, the signed difference is that of the signed operands
abbrev pub SignedDifferencesAreExact : Type 0
SignedDifferencesAreExact = (source destination : ℕ) → source < 0o200000 → destination < 0o200000
    → IsFalse (sub_effect source destination).codes.v
    → signed_value (sub_effect source destination).value ≡ signed_value destination -ℤ signed_value
    source

-- SUB: V is set exactly if the signed difference is no signed word
abbrev pub OverflowMarksDifferences : Type 0
OverflowMarksDifferences = (source destination : ℕ) → source < 0o200000 → destination < 0o200000
    → (sub_effect source destination).codes.v ≡ overflows Word (signed_value destination -ℤ
    signed_value source)

-- CMP: Z tells whether source equals destination
abbrev pub ComparisonsTellEqual : Type 0
ComparisonsTellEqual = (size : Size) (source destination : ℕ) → source < span size → destination
    < span size
    → (cmp_effect size source destination).codes.z ≡ (source == destination)

-- CMP: C tells whether source is below destination
abbrev pub ComparisonsTellBelow : Type 0
ComparisonsTellBelow = (size : Size) (source destination : ℕ) → source < span size → destination
    < span size
    → (cmp_effect size source destination).codes.c ≡ nat_lt source destination

-- CMP: N exclusive or V tells whether source is below destination as a signed number
abbrev pub ComparisonsTellLess : Type 0
ComparisonsTellLess = (size : Size) (source destination : ℕ) → source < span size → destination
    < span size
    → differ (cmp_effect size source destination).codes.n (cmp_effect size source
    destination).codes.v
    ≡ int_lt (signed_at size source) (signed_at size destination)

-- CMP: V is set exactly if the signed difference is no signed number of the size
abbrev pub OverflowMarksComparisons : Type 0
OverflowMarksComparisons = (size : Size) (source destination : ℕ) → source < span size
    → destination < span size
    → (cmp_effect size source destination).codes.v
    ≡ overflows size (signed_at size source -ℤ signed_at size destination)

-- COM twice
abbrev pub ComplementsUndoThemselves : Type 0
ComplementsUndoThemselves = (size : Size) (operand : ℕ) → operand < span size
    → (com_effect size (com_effect size operand).value).value ≡ operand

-- NEG twice
abbrev pub NegativesUndoThemselves : Type 0
NegativesUndoThemselves = (size : Size) (operand : ℕ) → operand < span size
    → (neg_effect size (neg_effect size operand).value).value ≡ operand

-- NEG is COM and then INC
abbrev pub NegativesAreComplementsPlusOne : Type 0
NegativesAreComplementsPlusOne = (size : Size) (operand : ℕ) (codes : Codes) → operand < span size
    → (inc_effect size (com_effect size operand).value codes).value ≡ (neg_effect size
    operand).value

-- INC: if V is clear, the signed result is one more
abbrev pub IncrementsAddOne : Type 0
IncrementsAddOne = (size : Size) (operand : ℕ) (codes : Codes) → operand < span size
    → IsFalse (inc_effect size operand codes).codes.v
    → signed_at size (inc_effect size operand codes).value ≡ signed_at size operand +ℤ pos 1

-- INC: V is set exactly if one more is no signed number of the size
abbrev pub OverflowMarksIncrements : Type 0
OverflowMarksIncrements = (size : Size) (operand : ℕ) (codes : Codes) → operand < span size
    → (inc_effect size operand codes).codes.v ≡ overflows size (signed_at size operand +ℤ pos 1)

-- DEC: if V is clear, the signed result is one less
abbrev pub DecrementsTakeOne : Type 0
DecrementsTakeOne = (size : Size) (operand : ℕ) (codes : Codes) → operand < span size
    → IsFalse (dec_effect size operand codes).codes.v
    → signed_at size (dec_effect size operand codes).value ≡ signed_at size operand -ℤ pos 1

-- DEC: V is set exactly if one less is no signed number of the size
abbrev pub OverflowMarksDecrements : Type 0
OverflowMarksDecrements = (size : Size) (operand : ℕ) (codes : Codes) → operand < span size
    → (dec_effect size operand codes).codes.v ≡ overflows size (signed_at size operand -ℤ pos 1)

-- NEG: if V is clear, the signed result is the negative
abbrev pub NegativesNegate : Type 0
NegativesNegate = (size : Size) (operand : ℕ) → operand < span size → IsFalse
    (neg_effect size operand).codes.v
    → signed_at size (neg_effect size operand).value ≡ neg_ℤ (signed_at size operand)

-- NEG: V is set exactly if the negative is no signed number of the size
abbrev pub OverflowMarksNegatives : Type 0
OverflowMarksNegatives = (size : Size) (operand : ℕ) → operand < span size
    → (neg_effect size operand).codes.v ≡ overflows size (neg_ℤ (signed_at size operand))

-- ADC: with the new C as the bit above the operand, the old C is added to it
abbrev pub CarriesRunOn : Type 0
CarriesRunOn = (size : Size) (operand : ℕ) (codes : Codes) → operand < span size
    → (adc_effect size operand codes).value + span size * bit_of (adc_effect size operand
    codes).codes.c
    ≡ operand + bit_of codes.c

-- ADC: V is set exactly if the signed operand plus the old C is no signed number of the size
abbrev pub OverflowMarksCarries : Type 0
OverflowMarksCarries = (size : Size) (operand : ℕ) (codes : Codes) → operand < span size
    → (adc_effect size operand codes).codes.v ≡ overflows size (signed_at size operand +ℤ pos
    (bit_of codes.c))

-- SBC: with the new C as a borrow from the bit above the operand, the old C is taken from it
abbrev pub BorrowsRunOn : Type 0
BorrowsRunOn = (size : Size) (operand : ℕ) (codes : Codes) → operand < span size
    → (sbc_effect size operand codes).value + bit_of codes.c
    ≡ operand + span size * bit_of (sbc_effect size operand codes).codes.c

-- SBC: V is set exactly if the signed operand less the old C is no signed number of the size
abbrev pub OverflowMarksBorrows : Type 0
OverflowMarksBorrows = (size : Size) (operand : ℕ) (codes : Codes) → operand < span size
    → (sbc_effect size operand codes).codes.v ≡ overflows size (signed_at size operand -ℤ pos
    (bit_of codes.c))

-- ROR after ROL gives the operand back
abbrev pub RotationsUndoEachOther : Type 0
RotationsUndoEachOther = (size : Size) (operand : ℕ) (codes : Codes) → operand < span size
    → (ror_effect size (rol_effect size operand codes).value (rol_effect size operand
    codes).codes).value ≡ operand

-- ROR after ROL gives C back
abbrev pub RotationsGiveCarryBack : Type 0
RotationsGiveCarryBack = (size : Size) (operand : ℕ) (codes : Codes) → operand < span size
    → (ror_effect size (rol_effect size operand codes).value (rol_effect size operand
    codes).codes).codes.c ≡ codes.c

-- ASR halves the signed operand, with C as the rest
abbrev pub ShiftsHalve : Type 0
ShiftsHalve = (size : Size) (operand : ℕ) → operand < span size
    → pos 2 *ℤ signed_at size (asr_effect size operand).value +ℤ pos (bit_of
    (asr_effect size operand).codes.c)
    ≡ signed_at size operand

-- ASL: if V is clear, the signed result is twice the signed operand
abbrev pub ShiftsDouble : Type 0
ShiftsDouble = (size : Size) (operand : ℕ) → operand < span size → IsFalse
    (asl_effect size operand).codes.v
    → signed_at size (asl_effect size operand).value ≡ pos 2 *ℤ signed_at size operand

-- ASL: V is set exactly if twice the signed operand is no signed number of the size
abbrev pub OverflowMarksDoubles : Type 0
OverflowMarksDoubles = (size : Size) (operand : ℕ) → operand < span size
    → (asl_effect size operand).codes.v ≡ overflows size (pos 2 *ℤ signed_at size operand)

-- the codes that tell of a value: N that it is negative as a signed number, Z that it is 0; V and C
-- as they are given
abbrev pub codes_of_value : Size → ℕ → Bool → Bool → Codes
codes_of_value size value overflow carry =
    record { n = int_lt (signed_at size value) (pos 0); z = value == 0; v = overflow; c = carry }

-- BIT: the bits that both operands have
abbrev pub BitsAreTested : Type 0
BitsAreTested = (size : Size) (source destination place : ℕ) (codes : Codes) → place < width size
    → has_bit place (bit_effect size source destination codes).value
    ≡ (has_bit place destination && has_bit place source)

-- BIC: the bits of destination that source lacks
abbrev pub BitsAreCleared : Type 0
BitsAreCleared = (size : Size) (source destination place : ℕ) (codes : Codes) → source < 0o200000
    → place < width size
    → has_bit place (bic_effect size source destination codes).value
    ≡ (has_bit place destination && not (has_bit place source))

-- BIS: the bits that one operand has, or both
abbrev pub BitsAreSet : Type 0
BitsAreSet = (size : Size) (source destination place : ℕ) (codes : Codes) → place < width size
    → has_bit place (bis_effect size source destination codes).value
    ≡ (has_bit place destination || has_bit place source)

-- XOR: the bits that one operand alone has
abbrev pub BitsAreFlipped : Type 0
BitsAreFlipped = (register destination place : ℕ) (codes : Codes) → place < width Word
    → has_bit place (xor_effect register destination codes).value
    ≡ differ (has_bit place destination) (has_bit place register)

-- BIT, BIC, BIS and XOR: N and Z tell of the value, V is clear, C is kept
abbrev pub LogicTellsOfItsValue : Type 0
LogicTellsOfItsValue = (size : Size) (source destination : ℕ) (codes : Codes)
    → (let e = bit_effect size source destination codes in e.codes ≡ codes_of_value size e.value
    false codes.c)
    × (let e = bic_effect size source destination codes in e.codes ≡ codes_of_value size e.value
    false codes.c)
    × (let e = bis_effect size source destination codes in e.codes ≡ codes_of_value size e.value
    false codes.c)
    × (let e = xor_effect source destination codes in e.codes ≡ codes_of_value Word e.value false
    codes.c)

-- CLR: 0, of which N and Z tell; V and C are clear
abbrev pub ClearingLeavesZero : Type 0
ClearingLeavesZero = (size : Size)
    → ((clr_effect size).value ≡ 0) × ((clr_effect size).codes ≡ codes_of_value size 0 false false)

-- TST: the operand, of which N and Z tell; V and C are clear
abbrev pub TestsTellOfTheOperand : Type 0
TestsTellOfTheOperand = (size : Size) (operand : ℕ) → operand < span size
    → ((tst_effect size operand).value ≡ operand)
    × ((tst_effect size operand).codes ≡ codes_of_value size operand false false)

-- MOV: the source, of which N and Z tell; V is clear, C is kept
abbrev pub MovesKeepTheSource : Type 0
MovesKeepTheSource = (size : Size) (source : ℕ) (codes : Codes) → source < span size
    → ((mov_effect size source codes).value ≡ source)
    × ((mov_effect size source codes).codes ≡ codes_of_value size source false codes.c)

-- SXT: as a signed word -1 if N is set and 0 if it is clear, of which N and Z tell; V is clear, C
-- is kept
abbrev pub ExtensionsSpreadTheSign : Type 0
ExtensionsSpreadTheSign = (codes : Codes)
    → (signed_value (sxt_effect codes).value ≡ neg_ℤ (pos (bit_of codes.n)))
    × ((sxt_effect codes).codes ≡ codes_of_value Word (sxt_effect codes).value false codes.c)

-- SWAB: each byte in the other's place; N and Z tell of the low byte of the result, V and C are
-- clear
abbrev pub SwapsExchangeBytes : Type 0
SwapsExchangeBytes = (word : ℕ) → word < 0o200000
    → (low_byte (swab_effect word).value ≡ high_byte word)
    × (high_byte (swab_effect word).value ≡ low_byte word)
    × ((swab_effect word).codes ≡ codes_of_value Byte (high_byte word) false false)

-- SWAB twice
abbrev pub SwapsUndoThemselves : Type 0
SwapsUndoThemselves = (word : ℕ) → word < 0o200000 → (swab_effect (swab_effect word).value).value
    ≡ word
