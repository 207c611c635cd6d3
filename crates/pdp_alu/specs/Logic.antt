-- The effects of BIT, BIC, BIS and XOR, bit by bit: V is cleared, C is kept
-- (DEC PDP-11/40 Processor Handbook (1972), Instruction set).
use Rattle.std.specs.Prelude.{ℕ, ◌-◌, bit_and, bit_or, bit_xor, false}
use Rattle.pdp_word.specs.declared.codes.Codes.{Codes}
use Rattle.pdp_word.specs.declared.size.Size.{Size}
use Rattle.pdp_word.specs.declared.size.Size.TheVariants.{Word}
use Rattle.pdp_alu.specs.declared.effect.Effect.{Effect}
use Rattle.pdp_alu.specs.Effect.{effect}
use Rattle.pdp_alu.specs.Operand.{all_ones}

-- BIT: destination and source, which is not stored [4.3]
unfoldable pub bit_effect : Size → ℕ → ℕ → Codes → Effect
bit_effect size source destination codes = effect size (bit_and destination source) false codes.c

-- BIC: destination and the complement of source [4.4]
unfoldable pub bic_effect : Size → ℕ → ℕ → Codes → Effect
bic_effect size source destination codes =
    effect size (bit_and destination (all_ones Word - source)) false codes.c

-- BIS: destination or source [4.5]
unfoldable pub bis_effect : Size → ℕ → ℕ → Codes → Effect
bis_effect size source destination codes = effect size (bit_or destination source) false codes.c

-- XOR: destination exclusive or register [4.8]
unfoldable pub xor_effect : ℕ → ℕ → Codes → Effect
xor_effect register destination codes = effect Word (bit_xor destination register) false codes.c
