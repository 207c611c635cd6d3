-- The effects of ADD, SUB and CMP: the sum or the difference, V if the signed one does not fit, C
-- if the unsigned one does not (DEC PDP-11/40 Processor Handbook (1972), Instruction set).
use Rattle.std.specs.Prelude.{ℕ, ◌+◌, ◌-◌, ◌%◌, ◌+ℤ◌, ◌-ℤ◌, nat_le, nat_lt}
use Rattle.pdp_word.specs.declared.size.Size.{Size}
use Rattle.pdp_word.specs.declared.size.Size.TheVariants.{Word}
use Rattle.pdp_word.specs.Size.{span}
use Rattle.pdp_word.specs.Word.{signed_value}
use Rattle.pdp_alu.specs.declared.effect.Effect.{Effect}
use Rattle.pdp_alu.specs.Effect.{effect}
use Rattle.pdp_alu.specs.Operand.{overflows, signed_at}

-- ADD: destination plus source; C on a carry out of the word [4.6]
unfoldable pub add_effect : ℕ → ℕ → Effect
add_effect source destination =
    effect Word (destination + source) (overflows Word (signed_value destination +ℤ signed_value
    source))
    (nat_le (span Word) (destination + source))

-- one operand less another, both cut to the size; C on a borrow
abbrev pub difference : Size → ℕ → ℕ → Effect
difference size minuend subtrahend =
    let from = minuend % span size in
    let less = subtrahend % span size in
    effect size (span size + from - less) (overflows size (signed_at size from -ℤ signed_at size
    less)) (nat_lt from less)

-- SUB: destination minus source [4.7]
unfoldable pub sub_effect : ℕ → ℕ → Effect
sub_effect source destination = difference Word destination source

-- CMP: source minus destination, which is not stored [4.2]
unfoldable pub cmp_effect : Size → ℕ → ℕ → Effect
cmp_effect size source destination = difference size source destination
