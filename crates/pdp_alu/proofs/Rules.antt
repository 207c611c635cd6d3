-- What attributes cite: lemmas by their subject, and definitions that are opened together, as an
-- `unfolding` of a name opens all that stands on the name's own line.
use Rattle.pdp_alu.proofs.BitLaws.{tested_bits, cleared_bits, set_bits, flipped_bits, sign_tells}
use Rattle.pdp_alu.proofs.EffectLaws.{less_after_cmp, negated_twice, complement_plus_one}
use Rattle.pdp_alu.proofs.Products.{signed_product, signed_low_product}
use Rattle.pdp_alu.proofs.ShiftCodes.{word_overflow, long_overflow, word_carry, long_carry}
use Rattle.pdp_alu.proofs.ShiftCodes.{word_right_carry, long_right_carry}
use Rattle.pdp_alu.proofs.ShiftLaws.{word_to_the_left, long_to_the_left}
use Rattle.pdp_alu.proofs.ShiftLaws.{word_to_the_right, long_to_the_right}
use Rattle.pdp_alu.specs.ArithmeticShifts.{ash_effect, ashc_effect}
use Rattle.pdp_alu.specs.Bytes.{sxt_effect}
use Rattle.pdp_alu.specs.Effect.{mov_effect, tst_effect}
use Rattle.pdp_alu.specs.SingleOperand.{clr_effect, inc_effect, dec_effect, neg_effect}

-- for goals on the value of a bit after BIT, BIC, BIS and XOR
pub ruleset bits = (tested_bits, cleared_bits, set_bits, flipped_bits)

-- for goals on the sign that an effect leaves or tells of
pub ruleset signs = (sign_tells, less_after_cmp, negated_twice, complement_plus_one)

-- for goals on the product that MUL leaves
pub ruleset products = (signed_product, signed_low_product)

-- for goals on the value and the codes that ASH and ASHC to the left leave
pub ruleset left_shifts = (
  word_to_the_left,
  long_to_the_left,
  word_overflow,
  long_overflow,
  word_carry,
  long_carry,
)

-- for goals on the value and the codes that ASH and ASHC to the right leave
pub ruleset right_shifts = (
  word_to_the_right,
  long_to_the_right,
  word_right_carry,
  long_right_carry,
)

-- opens the effects of ASH and ASHC
unfoldable pub shifts : Type 0
unfolding ash_effect ashc_effect
shifts = Unit {0}

-- opens the effects of INC, DEC and NEG
unfoldable pub signed_effects : Type 0
unfolding inc_effect dec_effect neg_effect
signed_effects = Unit {0}

-- opens the effects of CLR, TST, MOV and SXT
unfoldable pub plain_effects : Type 0
unfolding clr_effect tst_effect mov_effect sxt_effect
plain_effects = Unit {0}
