-- V and C after repeated single shifts.
use Rattle.std.proofs.Common.{◌≡◌, ℕ, zero, suc, ◌+◌, ◌*◌, ◌/◌, ◌^◌, ◌<◌, ◌≤◌, ◌⊎◌, inl, inr, ℤ, pos, negsuc, ◌+ℤ◌, ◌*ℤ◌, neg_ℤ, ◌-◌, ◌%◌, ◌==◌, ◌||◌, Bool, true, false, refl, sym, ap, ◌∙◌, nat_le, arith}
use Rattle.std.specs.Fn.{iterate}
use Rattle.std.specs.Int.{int_div_euclid, int_rem_euclid}
use Rattle.std.proofs.lemmas.Bool.{cases_lt}
use Rattle.std.proofs.lemmas.Int.{ints}
use Rattle.std.proofs.lemmas.Nat.{mul-mod_first, mod-mul-add, pow_pos}
use Rattle.std.proofs.Math.Nat.{two-pow-succ}
use Rattle.pdp_alu.proofs.Iterations.{iterate_last}
use Rattle.pdp_alu.proofs.ShiftLaws.{signed_by, left_fits, doubled_power, right_divides, right_keeps_fits, shifts_left, shifts_right, plain_signed, signed_long_by, times_one}
use Rattle.pdp_word.specs.Bits.{bit_of, field}
use Rattle.pdp_word.specs.declared.size.Size.TheVariants.{Word}
use Rattle.pdp_word.specs.Word.{signed_value}
use Rattle.pdp_alu.specs.ArithmeticShifts.{ash_effect, ashc_effect, shifted_left, shifted_right, sign_part, shifting_from}
use Rattle.pdp_alu.specs.Long.{overflows_long, signed_long}
use Rattle.pdp_alu.specs.Operand.{is_beyond, overflows}
use Rattle.pdp_alu.specs.Shifts.{differ}
use Rattle.pdp_alu.specs.declared.shifting.Shifting.{Shifting}

-- a number below twice its sign bit is a signed number
within : (sign n : ℕ) → n < 2 * sign → false ≡ is_beyond sign (signed_by sign n)
within sign n fits = by_sign (cases_lt n sign) where
  by_sign : (n < sign) ⊎ (sign ≤ n) → false ≡ is_beyond sign (signed_by sign n)
  by_sign (inl below) = grind (arith, ints)
  by_sign (inr above) = grind (arith, ints)

-- whether one place to the left changes the sign
changed_once : ℕ → ℕ → Bool
changed_once sign n = differ (nat_le sign n) (nat_le sign (2 * (n - sign_part sign n)))

once_marks : (sign n : ℕ) → n < 2 * sign → changed_once sign n ≡ is_beyond sign (signed_by sign n +ℤ signed_by sign n)
unfolding changed_once
once_marks sign n fits = by_sign (cases_lt n sign) where
  by_sign : (n < sign) ⊎ (sign ≤ n) → changed_once sign n ≡ is_beyond sign (signed_by sign n +ℤ signed_by sign n)
  by_sign (inl below) = grind (arith, ints)
  by_sign (inr above) = grind (arith, ints)

once_doubles : (sign n : ℕ) → n < 2 * sign → changed_once sign n ≡ false
    → signed_by sign (2 * (n - sign_part sign n)) ≡ signed_by sign n +ℤ signed_by sign n
unfolding changed_once
once_doubles sign n fits kept = by_sign (cases_lt n sign) where
  by_sign : (n < sign) ⊎ (sign ≤ n) → signed_by sign (2 * (n - sign_part sign n)) ≡ signed_by sign n +ℤ signed_by sign n
  by_sign (inl below) = grind (arith, ints)
  by_sign (inr above) = grind (arith, ints)

-- a number that is too large stays so when it is multiplied
grows : (a m : ℕ) → 0 < m → a ≤ a * m
grows a zero some = elim some [ ]
grows a (suc m) some = omega arith

stays_beyond : (sign m : ℕ) (z : ℤ) → 0 < m → is_beyond sign z ≡ true → is_beyond sign (z *ℤ pos m) ≡ true
stays_beyond sign m (pos a) some beyond = above (a * m) (grows a m some) where
  above : (b : ℕ) → a ≤ b → is_beyond sign (pos b) ≡ true
  above b more = grind (arith, ints)
stays_beyond sign m (negsuc a) some beyond = below (suc a * m) (grows (suc a) m some) where
  below : (b : ℕ) → suc a ≤ b → is_beyond sign (neg_ℤ (pos b)) ≡ true
  below b more = grind (arith, ints)

joined : (before once later all : Bool) → (once ≡ true → all ≡ true) → (once ≡ false → later ≡ all)
    → ((before || once) || later) ≡ (before || all)
joined true once later all marked unmarked = refl
joined false true later all marked unmarked = sym (marked refl)
joined false false later all marked unmarked = unmarked refl

-- the sign changes on the way exactly if the product is too large
left_marks : (sign n : ℕ) (s : Shifting) → s.number < 2 * sign
    → (iterate (shifted_left sign) n s).sign_changed ≡ (s.sign_changed || is_beyond sign (signed_by sign s.number *ℤ pos (2 ^ n)))
unfolding changed_once
left_marks sign zero s fits = unmoved s.sign_changed where
  unmoved : (b : Bool) → b ≡ (b || is_beyond sign (signed_by sign s.number *ℤ pos 1))
  unmoved true = refl
  unmoved false = within sign s.number fits ∙ ap (is_beyond sign) (times_one (signed_by sign s.number))
left_marks sign (suc n) s fits =
    left_marks sign n (shifted_left sign s) (left_fits sign s fits)
    ∙ joined s.sign_changed (changed_once sign s.number) (is_beyond sign (signed_by sign (shifted_left sign s).number *ℤ pos (2 ^ n)))
    (is_beyond sign (signed_by sign s.number *ℤ pos (2 ^ suc n))) marked unmarked where
      marked : changed_once sign s.number ≡ true → is_beyond sign (signed_by sign s.number *ℤ pos (2 ^ suc n)) ≡ true
      marked is =
          ap (is_beyond sign) (sym (doubled_power (signed_by sign s.number) n))
          ∙ stays_beyond sign (2 ^ n) (signed_by sign s.number +ℤ signed_by sign s.number) (pow_pos n) (sym (once_marks sign s.number fits) ∙ is)

      unmarked : changed_once sign s.number ≡ false
          → is_beyond sign (signed_by sign (shifted_left sign s).number *ℤ pos (2 ^ n)) ≡ is_beyond sign (signed_by sign s.number *ℤ pos (2 ^ suc n))
      unmarked is =
          ap (λ x. is_beyond sign (x *ℤ pos (2 ^ n))) (once_doubles sign s.number fits is)
          ∙ ap (is_beyond sign) (doubled_power (signed_by sign s.number) n)

pub word_overflow : (word count : ℕ) → word < 0o200000 → count < 0o40
    → (ash_effect word count).codes.v ≡ overflows Word (signed_value word *ℤ pos (2 ^ count))
unfolding ash_effect
word_overflow word count fits small =
    ap (λ s. s.sign_changed) (shifts_left 0o100000 word count small)
    ∙ left_marks 0o100000 count (shifting_from word) fits
    ∙ ap (λ x. is_beyond 0o100000 (x *ℤ pos (2 ^ count))) (sym (plain_signed word fits))

pub long_overflow : (long count : ℕ) → long < 2 ^ 32 → count < 0o40
    → (ashc_effect long count).codes.v ≡ overflows_long (signed_long long *ℤ pos (2 ^ count))
unfolding ashc_effect
long_overflow long count fits small =
    ap (λ s. s.sign_changed) (shifts_left (2 ^ 31) long count small)
    ∙ left_marks (2 ^ 31) count (shifting_from long) fits
    ∙ ap (λ x. is_beyond (2 ^ 31) (x *ℤ pos (2 ^ count))) (sym (signed_long_by long))

-- to the left the number is multiplied, and what is above the sign bit is lost
doubled : (sign n : ℕ) → n < 2 * sign → 2 * (n - sign_part sign n) ≡ (2 * n) % (2 * sign)
doubled sign n fits = by_sign (cases_lt n sign) where
  by_sign : (n < sign) ⊎ (sign ≤ n) → 2 * (n - sign_part sign n) ≡ (2 * n) % (2 * sign)
  by_sign (inl below) = let e : (0 * (2 * sign) + 2 * n) % (2 * sign) ≡ 2 * n = mod-mul-add 0 (2 * sign) (2 * n) (omega arith) in grind arith
  by_sign (inr above) =
      let split : 2 * n ≡ 1 * (2 * sign) + (2 * n - 2 * sign) = omega arith in
      let e : (1 * (2 * sign) + (2 * n - 2 * sign)) % (2 * sign) ≡ 2 * n - 2 * sign = mod-mul-add 1 (2 * sign) (2 * n - 2 * sign) (omega arith) in
      let f : (2 * n) % (2 * sign) ≡ 2 * n - 2 * sign = ap (λ m. m % (2 * sign)) split ∙ e in
      grind arith

regroup : (m p : ℕ) → 2 * m * p ≡ m * (p + p)
regroup m p = omega arith

left_number : (sign n : ℕ) (s : Shifting) → s.number < 2 * sign
    → (iterate (shifted_left sign) n s).number ≡ (s.number * 2 ^ n) % (2 * sign)
left_number sign zero s fits = sym (mod-mul-add 0 (2 * sign) s.number fits) ∙ ap (λ m. m % (2 * sign)) (omega arith)
left_number sign (suc n) s fits =
    left_number sign n (shifted_left sign s) (left_fits sign s fits)
    ∙ ap (λ m. (m * 2 ^ n) % (2 * sign)) (doubled sign s.number fits)
    ∙ mul-mod_first (2 * s.number) (2 ^ n) (2 * sign)
    ∙ ap (λ m. m % (2 * sign)) (regroup s.number (2 ^ n) ∙ ap (λ q. s.number * q) (sym (two-pow-succ n)))

-- C after one place or more to the left
left_out : (sign n : ℕ) (s : Shifting) → s.number < 2 * sign
    → (iterate (shifted_left sign) (suc n) s).out ≡ nat_le sign ((s.number * 2 ^ n) % (2 * sign))
left_out sign n s fits =
    ap (λ t. t.out) (iterate_last (shifted_left sign) n s) ∙ ap (nat_le sign) (left_number sign n s fits)

-- bit 16 of twice a number, bit 32
above_word : (m : ℕ) → bit_of (nat_le 0o100000 (m % 0o200000)) ≡ 2 * m / 2 ^ 16 % 2
above_word m = grind arith

above_long : (m : ℕ) → bit_of (nat_le (2 ^ 31) (m % 2 ^ 32)) ≡ 2 * m / 2 ^ 32 % 2
above_long m = grind arith

twice_more : (number n : ℕ) → 2 * (number * 2 ^ n) ≡ number * 2 ^ suc n
twice_more number n = twice number (2 ^ n) ∙ ap (λ q. number * q) (sym (two-pow-succ n)) where
  twice : (m p : ℕ) → 2 * (m * p) ≡ m * (p + p)
  twice m p = omega arith

word_carry_by : (word n : ℕ) → word < 0o200000
    → bit_of (iterate (shifted_left 0o100000) n (shifting_from word)).out ≡ field 16 1 (word * 2 ^ n)
word_carry_by word zero fits = unmoved (word * 2 ^ 0) (omega arith) where
  unmoved : (m : ℕ) → m < 0o200000 → 0 ≡ m / 2 ^ 16 % 2
  unmoved m small = omega arith
word_carry_by word (suc n) fits =
    ap bit_of (left_out 0o100000 n (shifting_from word) fits) ∙ above_word (word * 2 ^ n)
    ∙ ap (λ m. m / 2 ^ 16 % 2) (twice_more word n)

long_carry_by : (long n : ℕ) → long < 2 ^ 32
    → bit_of (iterate (shifted_left (2 ^ 31)) n (shifting_from long)).out ≡ field 32 1 (long * 2 ^ n)
long_carry_by long zero fits = unmoved (long * 2 ^ 0) (omega arith) where
  unmoved : (m : ℕ) → m < 2 ^ 32 → 0 ≡ m / 2 ^ 32 % 2
  unmoved m small = omega arith
long_carry_by long (suc n) fits =
    ap bit_of (left_out (2 ^ 31) n (shifting_from long) fits) ∙ above_long (long * 2 ^ n)
    ∙ ap (λ m. m / 2 ^ 32 % 2) (twice_more long n)

pub word_carry : (word count : ℕ) → word < 0o200000 → count < 0o40
    → bit_of (ash_effect word count).codes.c ≡ field 16 1 (word * 2 ^ count)
unfolding ash_effect
word_carry word count fits small =
    ap (λ s. bit_of s.out) (shifts_left 0o100000 word count small) ∙ word_carry_by word count fits

pub long_carry : (long count : ℕ) → long < 2 ^ 32 → count < 0o40
    → bit_of (ashc_effect long count).codes.c ≡ field 32 1 (long * 2 ^ count)
unfolding ashc_effect
long_carry long count fits small =
    ap (λ s. bit_of s.out) (shifts_left (2 ^ 31) long count small) ∙ long_carry_by long count fits

-- to the right the sign never changes
right_keeps_sign : (sign n : ℕ) (s : Shifting) → (iterate (shifted_right sign) n s).sign_changed ≡ s.sign_changed
right_keeps_sign sign zero s = refl
right_keeps_sign sign (suc n) s = right_keeps_sign sign n (shifted_right sign s)

-- the lowest bit of a number and of the signed number
lowest_bit : (sign n : ℕ) → n < 2 * sign → pos (bit_of (n % 2 == 1)) ≡ int_rem_euclid (signed_by sign n) (pos 2)
lowest_bit sign n fits = by_sign (cases_lt n sign) where
  by_sign : (n < sign) ⊎ (sign ≤ n) → pos (bit_of (n % 2 == 1)) ≡ int_rem_euclid (signed_by sign n) (pos 2)
  by_sign (inl below) = grind (arith, ints)
  by_sign (inr above) = grind (arith, ints)

-- C after one place or more to the right
right_out : (sign n : ℕ) (s : Shifting) → s.number < 2 * sign
    → pos (bit_of (iterate (shifted_right sign) (suc n) s).out)
    ≡ int_rem_euclid (int_div_euclid (signed_by sign s.number) (pos (2 ^ n))) (pos 2)
right_out sign n s fits =
    ap (λ t. pos (bit_of t.out)) (iterate_last (shifted_right sign) n s)
    ∙ lowest_bit sign (iterate (shifted_right sign) n s).number (right_keeps_fits sign n s fits)
    ∙ ap (λ x. int_rem_euclid x (pos 2)) (right_divides sign n s fits)

right_carry_by : (sign number count : ℕ) → number < 2 * sign → 0 < count
    → pos (bit_of (iterate (shifted_right sign) count (shifting_from number)).out)
    ≡ int_rem_euclid (int_div_euclid (signed_by sign number) (pos (2 ^ (count - 1)))) (pos 2)
right_carry_by sign number zero fits some = elim some [ ]
right_carry_by sign number (suc n) fits some =
    right_out sign n (shifting_from number) fits
    ∙ ap (λ m. int_rem_euclid (int_div_euclid (signed_by sign number) (pos (2 ^ m))) (pos 2)) (omega arith)

pub word_right_carry : (word count : ℕ) → word < 0o200000 → 0 < count → count ≤ 0o40
    → pos (bit_of (ash_effect word (0o100 - count)).codes.c)
    ≡ int_rem_euclid (int_div_euclid (signed_value word) (pos (2 ^ (count - 1)))) (pos 2)
unfolding ash_effect
word_right_carry word count fits some few =
    ap (λ s. pos (bit_of s.out)) (shifts_right 0o100000 word count some few)
    ∙ right_carry_by 0o100000 word count fits some
    ∙ ap (λ x. int_rem_euclid (int_div_euclid x (pos (2 ^ (count - 1)))) (pos 2)) (sym (plain_signed word fits))

pub long_right_carry : (long count : ℕ) → long < 2 ^ 32 → 0 < count → count ≤ 0o40
    → pos (bit_of (ashc_effect long (0o100 - count)).codes.c)
    ≡ int_rem_euclid (int_div_euclid (signed_long long) (pos (2 ^ (count - 1)))) (pos 2)
unfolding ashc_effect
long_right_carry long count fits some few =
    ap (λ s. pos (bit_of s.out)) (shifts_right (2 ^ 31) long count some few)
    ∙ right_carry_by (2 ^ 31) long count fits some
    ∙ ap (λ x. int_rem_euclid (int_div_euclid x (pos (2 ^ (count - 1)))) (pos 2)) (sym (signed_long_by long))

pub right_never_overflows : (number count : ℕ) → 0 < count → count ≤ 0o40
    → ((ash_effect number (0o100 - count)).codes.v ≡ false) × ((ashc_effect number (0o100 - count)).codes.v ≡ false)
unfolding ash_effect ashc_effect
right_never_overflows number count some few = (
  ap (λ s. s.sign_changed) (shifts_right 0o100000 number count some few) ∙ right_keeps_sign 0o100000 count (shifting_from number),
  ap (λ s. s.sign_changed) (shifts_right (2 ^ 31) number count some few) ∙ right_keeps_sign (2 ^ 31) count (shifting_from number),
)
