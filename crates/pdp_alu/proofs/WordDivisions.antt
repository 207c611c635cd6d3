-- DIV as a division of signed words.
use Rattle.std.proofs.Common.{◌≡◌, ℕ, ◌<◌, ◌≤◌, ◌^◌, ◌==◌, inl, inr, ℤ, pos, negsuc, true, false, int_div, int_rem, unsigned_abs, refl, sym, ap, ◌∙◌, subst, arith, if◌then◌else◌, Bool}
use Rattle.std.specs.Int.{w16, cast_unsigned}
use Rattle.std.proofs.lemmas.Int.{ints}
use Rattle.pdp_alu.proofs.BitLaws.{sign_tells}
use Rattle.pdp_alu.proofs.Divisions.{division_exists, division_is_unique}
use Rattle.pdp_word.specs.declared.size.Size.TheVariants.{Word}
use Rattle.pdp_word.specs.declared.codes.Codes.{Codes}
use Rattle.pdp_word.specs.Size.{is_negative}
use Rattle.pdp_word.specs.Word.{signed_value}
use Rattle.pdp_alu.specs.Laws.{codes_of_value}
use Rattle.pdp_alu.specs.Division.{IsDivision, div_effect, quotient_and_remainder, overflow_codes, zero_divisor_codes}
use Rattle.pdp_alu.specs.ExtendedLaws.{IsWordDivision}
use Rattle.pdp_alu.specs.Long.{signed_long}
use Rattle.pdp_alu.specs.Operand.{overflows}
use Rattle.pdp_alu.specs.declared.quotient.Div.TheVariants.{Kept}

-- a signed word is that of its 16 bits
signed_of_word : (z : ℤ) → overflows Word z ≡ false → signed_value (cast_unsigned w16 z) ≡ z
signed_of_word (pos n) fits = grind (arith, ints)
signed_of_word (negsuc n) fits = grind (arith, ints)

-- so is a remainder, which is smaller than a word
signed_of_remainder : (z : ℤ) → unsigned_abs z < 0o100000 → signed_value (cast_unsigned w16 z) ≡ z
signed_of_remainder (pos n) small = grind (arith, ints)
signed_of_remainder (negsuc n) small = grind (arith, ints)

size_of_divisor : (divisor : ℕ) → divisor < 0o200000 → unsigned_abs (signed_value divisor) ≤ 0o100000
size_of_divisor divisor fits = grind (arith, ints)

zero_size : (divisor : ℕ) → divisor < 0o200000 → unsigned_abs (signed_value divisor) ≡ 0 → divisor ≡ 0
zero_size divisor fits none = grind (arith, ints)

some_size : (n : ℕ) → (n == 0) ≡ false → 0 < n
some_size n some = grind arith

no_size : (n : ℕ) → (n == 0) ≡ true → n ≡ 0
no_size n none = grind arith

some_divisor : (divisor : ℕ) → 0 < unsigned_abs (signed_value divisor) → 0 < divisor
some_divisor divisor some = grind (arith, ints)

-- the division that was done, with quotient and remainder as words
done : (a d : ℤ) → 0 < unsigned_abs d → unsigned_abs d ≤ 0o100000 → overflows Word (int_div a d) ≡ false
    → IsDivision a d (signed_value (cast_unsigned w16 (int_div a d))) (signed_value (cast_unsigned w16 (int_rem a d)))
done a d some small fits =
    subst (λ q. IsDivision a d q (signed_value (cast_unsigned w16 (int_rem a d)))) (sym (signed_of_word (int_div a d) fits))
    (subst (λ r. IsDivision a d (int_div a d) r) (sym (signed_of_remainder (int_rem a d) (omega (arith, (division_exists a d some).1)))) (division_exists a d some))

-- each quotient that there is is that of `int_div`
never_fits : (a d q r : ℤ) → 0 < unsigned_abs d → overflows Word (int_div a d) ≡ true → IsDivision a d q r → overflows Word q ≡ true
never_fits a d q r some large is =
    ap (overflows Word) (division_is_unique a d q r (int_div a d) (int_rem a d) is (division_exists a d some)).0 ∙ large

word_fits : (z : ℤ) → overflows Word z ≡ false → cast_unsigned w16 z < 0o200000
word_fits (pos n) fits = grind (arith, ints)
word_fits (negsuc n) fits = grind (arith, ints)

quotient_tells : (quotient : ℕ) → quotient < 0o200000
    → record { n = is_negative Word quotient; z = quotient == 0; v = false; c = false } ≡ codes_of_value Word quotient false false
quotient_tells quotient fits = ap (codes_with (quotient == 0)) (sign_tells Word quotient fits) where
  codes_with : Bool → Bool → Codes
  codes_with z n = record { n = n; z = z; v = false; c = false }

chosen : (dividend divisor : ℕ) (none large : Bool) → divisor < 0o200000
    → (unsigned_abs (signed_value divisor) == 0) ≡ none → overflows Word (int_div (signed_long dividend) (signed_value divisor)) ≡ large
    → IsWordDivision dividend divisor
    (if none then Kept zero_divisor_codes
    else if large then Kept overflow_codes
    else quotient_and_remainder (cast_unsigned w16 (int_div (signed_long dividend) (signed_value divisor))) (cast_unsigned w16 (int_rem (signed_long dividend) (signed_value divisor))))
chosen dividend divisor true large fits none_is large_is = inl (zero_size divisor fits (no_size _ none_is), refl)
chosen dividend divisor false true fits none_is large_is =
    let some : 0 < unsigned_abs (signed_value divisor) = some_size _ none_is in
    inr (λ q r is. never_fits (signed_long dividend) (signed_value divisor) q r some large_is is, some_divisor divisor some, refl)
chosen dividend divisor false false fits none_is large_is = (
  done (signed_long dividend) (signed_value divisor) (some_size _ none_is) (size_of_divisor divisor fits) large_is,
  quotient_tells (cast_unsigned w16 (int_div (signed_long dividend) (signed_value divisor))) (word_fits (int_div (signed_long dividend) (signed_value divisor)) large_is),
)

pub division_of_words : (dividend divisor : ℕ) → dividend < 2 ^ 32 → divisor < 0o200000
    → IsWordDivision dividend divisor (div_effect dividend divisor)
unfolding div_effect
division_of_words dividend divisor dividend_fits fits =
    chosen dividend divisor (unsigned_abs (signed_value divisor) == 0) (overflows Word (int_div (signed_long dividend) (signed_value divisor))) fits refl refl
