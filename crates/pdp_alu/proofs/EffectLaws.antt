-- What the laws of the effects rest on, size by size.
use Rattle.std.proofs.Common.{◌≡◌, ℕ, ◌<◌, ◌≤◌, ◌⊎◌, inl, inr, int_lt, arith}
use Rattle.std.proofs.lemmas.Bool.{cases_lt}
use Rattle.pdp_word.specs.declared.codes.Codes.{Codes}
use Rattle.pdp_word.specs.declared.size.Size.{Size}
use Rattle.pdp_word.specs.declared.size.Size.TheVariants.{Word, Byte}
use Rattle.pdp_word.specs.Size.{span, half}
use Rattle.pdp_alu.specs.Arithmetic.{cmp_effect}
use Rattle.pdp_alu.specs.Operand.{signed_at}
use Rattle.pdp_alu.specs.Shifts.{differ}
use Rattle.pdp_alu.specs.SingleOperand.{com_effect, inc_effect, neg_effect}

-- NEG twice
pub negated_twice : (size : Size) (operand : ℕ) → operand < span size →
    (neg_effect size (neg_effect size operand).value).value ≡ operand
unfolding neg_effect
negated_twice Word operand fits = omega arith
negated_twice Byte operand fits = omega arith

-- COM and then INC
pub complement_plus_one : (size : Size) (operand : ℕ) (codes : Codes) → operand < span size →
    (inc_effect size (com_effect size operand).value codes).value ≡ (neg_effect size operand).value
unfolding com_effect inc_effect neg_effect
complement_plus_one Word operand codes fits = omega arith
complement_plus_one Byte operand codes fits = omega arith

-- N exclusive or V after CMP, if it is known which operands have the top bit set
less_by_signs : (size : Size) (source destination : ℕ) → source < span size → destination < span size →
    (source < half size) ⊎ (half size ≤ source) → (destination < half size) ⊎ (half size ≤ destination) →
    differ (cmp_effect size source destination).codes.n (cmp_effect size source destination).codes.v
    ≡ int_lt (signed_at size source) (signed_at size destination)
unfolding cmp_effect
less_by_signs Word source destination source_fits destination_fits (inl s) (inl d) = grind arith
less_by_signs Word source destination source_fits destination_fits (inl s) (inr d) = grind arith
less_by_signs Word source destination source_fits destination_fits (inr s) (inl d) = grind arith
less_by_signs Word source destination source_fits destination_fits (inr s) (inr d) = grind arith
less_by_signs Byte source destination source_fits destination_fits (inl s) (inl d) = grind arith
less_by_signs Byte source destination source_fits destination_fits (inl s) (inr d) = grind arith
less_by_signs Byte source destination source_fits destination_fits (inr s) (inl d) = grind arith
less_by_signs Byte source destination source_fits destination_fits (inr s) (inr d) = grind arith

-- N exclusive or V after CMP
pub less_after_cmp : (size : Size) (source destination : ℕ) → source < span size → destination < span size →
    differ (cmp_effect size source destination).codes.n (cmp_effect size source destination).codes.v
    ≡ int_lt (signed_at size source) (signed_at size destination)
less_after_cmp size source destination source_fits destination_fits =
    less_by_signs size source destination source_fits destination_fits (cases_lt source (half size))
    (cases_lt destination (half size))
