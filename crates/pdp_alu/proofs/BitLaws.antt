-- Bits of results, and what the codes tell of them.
use Rattle.std.proofs.Common.{◌≡◌, ℕ, zero, suc, ◌+◌, ◌/◌, ◌^◌, ◌<◌, ◌≤◌, ◌⊎◌, inl, inr, pos, ◌-◌, ◌%◌, ◌==◌, ◌||◌, ◌&&◌, Bool, false, not, min, max, refl, sym, ap, ◌∙◌, int_lt, arith}
use Rattle.std.specs.Int.{bit_at, w16}
use Rattle.std.specs.Int.RustNames.{bit_and, bit_or, bit_xor}
use Rattle.std.proofs.lemmas.Bool.{cases_lt}
use Rattle.std.proofs.lemmas.Int.{ints}
use Rattle.std.proofs.lemmas.Nat.{shr_split}
use Rattle.std.proofs.lemmas.Nat.Bits.{bit_at-lt, bit_at_and, bit_at_or, bit_at_xor, bit_at_not, bit_at_cat_low}
use Rattle.pdp_word.specs.Bits.{has_bit}
use Rattle.pdp_word.specs.declared.codes.Codes.{Codes}
use Rattle.pdp_word.specs.declared.size.Size.{Size}
use Rattle.pdp_word.specs.declared.size.Size.TheVariants.{Word, Byte}
use Rattle.pdp_word.specs.Size.{span, is_negative}
use Rattle.pdp_alu.specs.Laws.{LogicTellsOfItsValue, codes_of_value}
use Rattle.pdp_alu.specs.Effect.{effect}
use Rattle.pdp_alu.specs.Logic.{bic_effect, bis_effect, bit_effect, xor_effect}
use Rattle.pdp_alu.specs.Operand.{all_ones, signed_at, width}
use Rattle.pdp_alu.specs.Shifts.{differ}

-- a number cut to the size has the same bits below its width
cut_bits : (bits n place : ℕ) → place < bits → bit_at (n % 2 ^ bits) place ≡ bit_at n place
cut_bits bits n place below =
    sym (bit_at_cat_low (n / 2 ^ bits) bits (n % 2 ^ bits) place below) ∙ ap (λ m. bit_at m place) (shr_split n bits)

kept_bit : (size : Size) (n place : ℕ) → place < width size → bit_at (n % span size) place ≡ bit_at n place
kept_bit Word n place below = cut_bits 16 n place below
kept_bit Byte n place below = cut_bits 8 n place below

both : (a b : ℕ) → a < 2 → b < 2 → (min a b == 1) ≡ ((a == 1) && (b == 1))
both zero b a_bit b_bit = grind arith
both (suc zero) zero a_bit b_bit = refl
both (suc zero) (suc zero) a_bit b_bit = refl
both (suc zero) (suc (suc b)) a_bit b_bit = absurd (omega arith)
both (suc (suc a)) b a_bit b_bit = absurd (omega arith)

either : (a b : ℕ) → a < 2 → b < 2 → (max a b == 1) ≡ ((a == 1) || (b == 1))
either zero zero a_bit b_bit = refl
either zero (suc zero) a_bit b_bit = refl
either zero (suc (suc b)) a_bit b_bit = absurd (omega arith)
either (suc zero) zero a_bit b_bit = refl
either (suc zero) (suc zero) a_bit b_bit = refl
either (suc zero) (suc (suc b)) a_bit b_bit = absurd (omega arith)
either (suc (suc a)) b a_bit b_bit = absurd (omega arith)

one_alone : (a b : ℕ) → a < 2 → b < 2 → ((a + b) % 2 == 1) ≡ differ (a == 1) (b == 1)
one_alone zero zero a_bit b_bit = refl
one_alone zero (suc zero) a_bit b_bit = refl
one_alone zero (suc (suc b)) a_bit b_bit = absurd (omega arith)
one_alone (suc zero) zero a_bit b_bit = refl
one_alone (suc zero) (suc zero) a_bit b_bit = refl
one_alone (suc zero) (suc (suc b)) a_bit b_bit = absurd (omega arith)
one_alone (suc (suc a)) b a_bit b_bit = absurd (omega arith)

other : (a : ℕ) → a < 2 → (1 - a == 1) ≡ not (a == 1)
other zero a_bit = refl
other (suc zero) a_bit = refl
other (suc (suc a)) a_bit = absurd (omega arith)

pub tested_bits : (size : Size) (source destination place : ℕ) (codes : Codes) → place < width size
    → has_bit place (bit_effect size source destination codes).value ≡ (has_bit place destination && has_bit place source)
unfolding bit_effect
tested_bits size source destination place codes below =
    ap (λ b. b == 1) (kept_bit size (bit_and destination source) place below ∙ bit_at_and destination source place)
    ∙ both (bit_at destination place) (bit_at source place) (bit_at-lt destination place) (bit_at-lt source place)

pub set_bits : (size : Size) (source destination place : ℕ) (codes : Codes) → place < width size
    → has_bit place (bis_effect size source destination codes).value ≡ (has_bit place destination || has_bit place source)
unfolding bis_effect
set_bits size source destination place codes below =
    ap (λ b. b == 1) (kept_bit size (bit_or destination source) place below ∙ bit_at_or destination source place)
    ∙ either (bit_at destination place) (bit_at source place) (bit_at-lt destination place) (bit_at-lt source place)

pub flipped_bits : (register destination place : ℕ) (codes : Codes) → place < 16
    → has_bit place (xor_effect register destination codes).value ≡ differ (has_bit place destination) (has_bit place register)
unfolding xor_effect
flipped_bits register destination place codes below =
    ap (λ b. b == 1) (kept_bit Word (bit_xor destination register) place below ∙ bit_at_xor destination register place)
    ∙ one_alone (bit_at destination place) (bit_at register place) (bit_at-lt destination place) (bit_at-lt register place)

narrow : (size : Size) (place : ℕ) → place < width size → place < 16
narrow Word place below = below
narrow Byte place below = omega arith

pub cleared_bits : (size : Size) (source destination place : ℕ) (codes : Codes) → source < 0o200000 → place < width size
    → has_bit place (bic_effect size source destination codes).value ≡ (has_bit place destination && not (has_bit place source))
unfolding bic_effect
cleared_bits size source destination place codes fits below =
    ap (λ b. b == 1) (kept_bit size (bit_and destination (all_ones Word - source)) place below ∙ bit_at_and destination (all_ones Word - source) place)
    ∙ both (bit_at destination place) (bit_at (all_ones Word - source) place) (bit_at-lt destination place) (bit_at-lt (all_ones Word - source) place)
    ∙ ap (λ b. has_bit place destination && b) (ap (λ b. b == 1) (bit_at_not w16 source place fits (narrow size place below)) ∙ other (bit_at source place) (bit_at-lt source place))

-- the top bit tells whether the signed number is negative
pub sign_tells : (size : Size) (value : ℕ) → value < span size → is_negative size value ≡ int_lt (signed_at size value) (pos 0)
sign_tells Word value fits = by_sign (cases_lt value 0o100000) where
  by_sign : (value < 0o100000) ⊎ (0o100000 ≤ value) → is_negative Word value ≡ int_lt (signed_at Word value) (pos 0)
  by_sign (inl below) = grind (arith, ints)
  by_sign (inr above) = grind (arith, ints)
sign_tells Byte value fits = by_sign (cases_lt value 0o200) where
  by_sign : (value < 0o200) ⊎ (0o200 ≤ value) → is_negative Byte value ≡ int_lt (signed_at Byte value) (pos 0)
  by_sign (inl below) = grind (arith, ints)
  by_sign (inr above) = grind (arith, ints)

below_span : (size : Size) (n : ℕ) → n % span size < span size
below_span Word n = omega arith
below_span Byte n = omega arith

effect_tells : (size : Size) (n : ℕ) (overflow carry : Bool)
    → (effect size n overflow carry).codes ≡ codes_of_value size (n % span size) overflow carry
effect_tells size n overflow carry =
    ap (λ b. codes_with b (n % span size == 0) overflow carry) (sign_tells size (n % span size) (below_span size n)) where
      codes_with : Bool → Bool → Bool → Bool → Codes
      codes_with n z v c = record { n = n; z = z; v = v; c = c }

pub logic_tells : LogicTellsOfItsValue
unfolding bit_effect bic_effect bis_effect xor_effect
logic_tells size source destination codes = (
  effect_tells size (bit_and destination source) false codes.c,
  effect_tells size (bit_and destination (all_ones Word - source)) false codes.c,
  effect_tells size (bit_or destination source) false codes.c,
  effect_tells Word (bit_xor destination source) false codes.c,
)
