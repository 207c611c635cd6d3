-- The effects of CLR, COM, INC, DEC, NEG, ADC and SBC; the operand is cut to the size
-- (DEC PDP-11/40 Processor Handbook (1972), Instruction set).
use Rattle.std.specs.Prelude.{ℕ, ◌+◌, ◌-◌, ◌%◌, ◌==◌, ◌&&◌, true, false, not}
use Rattle.pdp_word.specs.Bits.{bit_of}
use Rattle.pdp_word.specs.declared.codes.Codes.{Codes}
use Rattle.pdp_word.specs.declared.size.Size.{Size}
use Rattle.pdp_word.specs.Size.{span}
use Rattle.pdp_alu.specs.declared.effect.Effect.{Effect}
use Rattle.pdp_alu.specs.Effect.{effect}
use Rattle.pdp_alu.specs.Operand.{most_positive, most_negative, all_ones}

-- CLR: 0 and the codes 0100 [4.9]
unfoldable pub clr_effect : Size → Effect
clr_effect size = record { value = 0; codes = record { n = false; z = true; v = false; c = false } }

-- COM: the complement; V is cleared, C is set [4.10]
unfoldable pub com_effect : Size → ℕ → Effect
com_effect size operand = effect size (all_ones size - operand % span size) false true

-- INC: plus 1; V if it was the largest positive number, C is kept [4.11]
unfoldable pub inc_effect : Size → ℕ → Codes → Effect
inc_effect size operand codes =
    let old = operand % span size in effect size (old + 1) (old == most_positive size) codes.c

-- DEC: minus 1; V if it was the most negative number, C is kept [4.12]
unfoldable pub dec_effect : Size → ℕ → Codes → Effect
dec_effect size operand codes =
    let old = operand % span size in effect size (span size + old - 1) (old == most_negative size)
    codes.c

-- NEG: 0 minus it; V if the result is the most negative number, C unless the result is 0 [4.13]
unfoldable pub neg_effect : Size → ℕ → Effect
neg_effect size operand =
    let result = (span size - operand % span size) % span size in
    effect size result (result == most_negative size) (not (result == 0))

-- ADC: plus C; V if C was set and it was the largest positive number, C if C was set and it was all
-- ones [4.14]
unfoldable pub adc_effect : Size → ℕ → Codes → Effect
adc_effect size operand codes =
    let old = operand % span size in
    effect size (old + bit_of codes.c) (codes.c && old == most_positive size)
    (codes.c && old == all_ones size)

-- SBC: minus C; V if C was set and it was the most negative number, C if C was set and it was 0
-- [4.15]
unfoldable pub sbc_effect : Size → ℕ → Codes → Effect
sbc_effect size operand codes =
    let old = operand % span size in
    effect size (span size + old - bit_of codes.c) (codes.c && old == most_negative size)
    (codes.c && old == 0)
