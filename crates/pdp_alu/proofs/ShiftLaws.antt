-- What repeated single shifts make of signed numbers.
use Rattle.std.proofs.Common.{◌≡◌, ℕ, zero, suc, ◌*◌, ◌/◌, ◌^◌, ◌<◌, ◌≤◌, ◌⊎◌, inl, inr, ℤ, pos, negsuc, ◌+ℤ◌, ◌-ℤ◌, ◌*ℤ◌, neg_ℤ, ◌-◌, ◌%◌, nat_lt, false, sym, ap, ◌∙◌, nat_le, if◌then◌else◌, arith}
use Rattle.std.specs.Fn.{iterate}
use Rattle.std.specs.Int.{int_div_euclid}
use Rattle.std.proofs.lemmas.Bool.{cases_lt}
use Rattle.std.proofs.lemmas.Int.{ints}
use Rattle.std.proofs.Math.IntN.{*ℤ_comm}
use Rattle.std.proofs.Math.Nat.{two-pow-succ, pow-succ', div-div-eq-div-mul}
use Rattle.pdp_alu.proofs.Divisions.{product_of_sum}
use Rattle.pdp_word.specs.Word.{signed_value}
use Rattle.pdp_alu.specs.ArithmeticShifts.{ash_effect, ashc_effect, shifted_by, shifted_left, shifted_right, shifting_from}
use Rattle.pdp_alu.specs.Long.{signed_long}
use Rattle.pdp_alu.specs.declared.shifting.Shifting.{Shifting}

-- a number below twice its sign bit, as a signed number
abbrev pub signed_by : ℕ → ℕ → ℤ
signed_by sign number = if nat_le sign number then pos number -ℤ pos (2 * sign) else pos number

pub left_fits : (sign : ℕ) (s : Shifting) → s.number < 2 * sign → (shifted_left sign s).number < 2 * sign
left_fits sign s fits = by_sign (cases_lt s.number sign) where
  by_sign : (s.number < sign) ⊎ (sign ≤ s.number) → (shifted_left sign s).number < 2 * sign
  by_sign (inl below) = grind arith
  by_sign (inr above) = grind arith

-- after a shift to the left that leaves the sign, the number is doubled
left_doubles : (sign : ℕ) (s : Shifting) → s.number < 2 * sign → (shifted_left sign s).sign_changed ≡ false
    → (s.sign_changed ≡ false) × (signed_by sign (shifted_left sign s).number ≡ signed_by sign s.number +ℤ signed_by sign s.number)
left_doubles sign s fits kept = by_sign (cases_lt s.number sign) where
  by_sign : (s.number < sign) ⊎ (sign ≤ s.number)
      → (s.sign_changed ≡ false) × (signed_by sign (shifted_left sign s).number ≡ signed_by sign s.number +ℤ signed_by sign s.number)
  by_sign (inl below) = grind (arith, ints)
  by_sign (inr above) = grind (arith, ints)

-- a shift to the right halves, rounded down
right_halves : (sign : ℕ) (s : Shifting) → s.number < 2 * sign
    → (signed_by sign (shifted_right sign s).number ≡ int_div_euclid (signed_by sign s.number) (pos 2)) × ((shifted_right sign s).number < 2 * sign)
right_halves sign s fits = by_sign (cases_lt s.number sign) where
  by_sign : (s.number < sign) ⊎ (sign ≤ s.number)
      → (signed_by sign (shifted_right sign s).number ≡ int_div_euclid (signed_by sign s.number) (pos 2)) × ((shifted_right sign s).number < 2 * sign)
  by_sign (inl below) = grind (arith, ints)
  by_sign (inr above) = grind (arith, ints)

pub times_one : (x : ℤ) → x ≡ x *ℤ pos 1
times_one (pos a) = ap pos (omega arith)
times_one (negsuc a) = ap (λ n. neg_ℤ (pos n)) (once (suc a)) where
  once : (n : ℕ) → n ≡ n * 1
  once n = omega arith

pub doubled_power : (x : ℤ) (n : ℕ) → (x +ℤ x) *ℤ pos (2 ^ n) ≡ x *ℤ pos (2 ^ suc n)
doubled_power x n =
    product_of_sum x (pos (2 ^ n)) x ∙ ap (λ y. y +ℤ x *ℤ pos (2 ^ n)) (*ℤ_comm x (pos (2 ^ n)))
    ∙ ap (λ y. pos (2 ^ n) *ℤ x +ℤ y) (*ℤ_comm x (pos (2 ^ n))) ∙ sym (product_of_sum (pos (2 ^ n)) x (pos (2 ^ n)))
    ∙ ap (λ m. pos m *ℤ x) (sym (two-pow-succ n)) ∙ *ℤ_comm (pos (2 ^ suc n)) x

-- one shift to the left before n others that multiply
left_before : (sign n : ℕ) (s : Shifting) → s.number < 2 * sign
    → ((shifted_left sign s).sign_changed ≡ false) × (signed_by sign (iterate (shifted_left sign) n (shifted_left sign s)).number ≡ signed_by sign (shifted_left sign s).number *ℤ pos (2 ^ n))
    → (s.sign_changed ≡ false) × (signed_by sign (iterate (shifted_left sign) (suc n) s).number ≡ signed_by sign s.number *ℤ pos (2 ^ suc n))
left_before sign n s fits (kept, others) = (doubles.0, others ∙ ap (λ x. x *ℤ pos (2 ^ n)) doubles.1 ∙ doubled_power (signed_by sign s.number) n) where
  doubles : (s.sign_changed ≡ false) × (signed_by sign (shifted_left sign s).number ≡ signed_by sign s.number +ℤ signed_by sign s.number)
  doubles = left_doubles sign s fits kept

-- so many shifts to the left multiply by a power of 2, if the sign never changed
left_multiplies : (sign n : ℕ) (s : Shifting) → s.number < 2 * sign
    → (iterate (shifted_left sign) n s).sign_changed ≡ false
    → (s.sign_changed ≡ false) × (signed_by sign (iterate (shifted_left sign) n s).number ≡ signed_by sign s.number *ℤ pos (2 ^ n))
left_multiplies sign zero s fits kept = (kept, times_one (signed_by sign s.number))
left_multiplies sign (suc n) s fits kept =
    left_before sign n s fits (left_multiplies sign n (shifted_left sign s) (left_fits sign s fits) kept)

halved_power : (x : ℤ) (n : ℕ) → int_div_euclid (int_div_euclid x (pos 2)) (pos (2 ^ n)) ≡ int_div_euclid x (pos (2 ^ suc n))
halved_power (pos a) n = ap pos (div-div-eq-div-mul a 2 (2 ^ n) ∙ ap (λ m. a / m) (sym (pow-succ' 2 n)))
halved_power (negsuc a) n = ap negsuc (div-div-eq-div-mul a 2 (2 ^ n) ∙ ap (λ m. a / m) (sym (pow-succ' 2 n)))

divided_by_one : (x : ℤ) → x ≡ int_div_euclid x (pos 1)
divided_by_one (pos a) = ap pos (omega arith)
divided_by_one (negsuc a) = ap negsuc (omega arith)

-- so many shifts to the right divide by a power of 2, rounded down
pub right_divides : (sign n : ℕ) (s : Shifting) → s.number < 2 * sign
    → signed_by sign (iterate (shifted_right sign) n s).number ≡ int_div_euclid (signed_by sign s.number) (pos (2 ^ n))
right_divides sign zero s fits = divided_by_one (signed_by sign s.number)
right_divides sign (suc n) s fits =
    right_divides sign n (shifted_right sign s) (right_halves sign s fits).1
    ∙ ap (λ x. int_div_euclid x (pos (2 ^ n))) (right_halves sign s fits).0 ∙ halved_power (signed_by sign s.number) n

left_keeps_fits : (sign n : ℕ) (s : Shifting) → s.number < 2 * sign → (iterate (shifted_left sign) n s).number < 2 * sign
left_keeps_fits sign zero s fits = fits
left_keeps_fits sign (suc n) s fits = left_keeps_fits sign n (shifted_left sign s) (left_fits sign s fits)

pub right_keeps_fits : (sign n : ℕ) (s : Shifting) → s.number < 2 * sign → (iterate (shifted_right sign) n s).number < 2 * sign
right_keeps_fits sign zero s fits = fits
right_keeps_fits sign (suc n) s fits = right_keeps_fits sign n (shifted_right sign s) (right_halves sign s fits).1

-- which shifts a source names
pub shifts_left : (sign number count : ℕ) → count < 0o40
    → shifted_by sign number count ≡ iterate (shifted_left sign) count (shifting_from number)
shifts_left sign number count small = chosen (count % 0o100) (omega arith) where
  chosen : (c : ℕ) → c ≡ count
      → (if nat_lt c 0o40 then iterate (shifted_left sign) c (shifting_from number) else iterate (shifted_right sign) (0o100 - c) (shifting_from number))
      ≡ iterate (shifted_left sign) count (shifting_from number)
  chosen c is = grind arith

pub shifts_right : (sign number count : ℕ) → 0 < count → count ≤ 0o40
    → shifted_by sign number (0o100 - count) ≡ iterate (shifted_right sign) count (shifting_from number)
shifts_right sign number count some few = chosen ((0o100 - count) % 0o100) (0o100 - (0o100 - count) % 0o100) (omega arith) (omega arith) where
  chosen : (c n : ℕ) → 0o40 ≤ c → n ≡ count
      → (if nat_lt c 0o40 then iterate (shifted_left sign) c (shifting_from number) else iterate (shifted_right sign) n (shifting_from number))
      ≡ iterate (shifted_right sign) count (shifting_from number)
  chosen c n right is = grind arith

signed_word : (n : ℕ) → n < 0o200000 → signed_value (n % 0o200000) ≡ signed_by 0o100000 n
signed_word n fits = grind (arith, ints)

pub signed_long_by : (n : ℕ) → signed_long n ≡ signed_by (2 ^ 31) n
signed_long_by n = grind (arith, ints)

pub plain_signed : (n : ℕ) → n < 0o200000 → signed_value n ≡ signed_by 0o100000 n
plain_signed n fits = grind (arith, ints)

pub word_to_the_left : (word count : ℕ) → word < 0o200000 → count < 0o40 → (ash_effect word count).codes.v ≡ false
    → signed_value (ash_effect word count).value ≡ signed_value word *ℤ pos (2 ^ count)
unfolding ash_effect
word_to_the_left word count fits small clear =
    ap (λ s. signed_value (s.number % 0o200000)) (shifts_left 0o100000 word count small)
    ∙ signed_word (iterate (shifted_left 0o100000) count (shifting_from word)).number (left_keeps_fits 0o100000 count (shifting_from word) fits)
    ∙ (left_multiplies 0o100000 count (shifting_from word) fits (ap (λ s. s.sign_changed) (sym (shifts_left 0o100000 word count small)) ∙ clear)).1
    ∙ ap (λ x. x *ℤ pos (2 ^ count)) (sym (plain_signed word fits))

pub long_to_the_left : (long count : ℕ) → long < 2 ^ 32 → count < 0o40 → (ashc_effect long count).codes.v ≡ false
    → signed_long (ashc_effect long count).value ≡ signed_long long *ℤ pos (2 ^ count)
unfolding ashc_effect
long_to_the_left long count fits small clear =
    ap (λ s. signed_long s.number) (shifts_left (2 ^ 31) long count small)
    ∙ signed_long_by (iterate (shifted_left (2 ^ 31)) count (shifting_from long)).number
    ∙ (left_multiplies (2 ^ 31) count (shifting_from long) fits (ap (λ s. s.sign_changed) (sym (shifts_left (2 ^ 31) long count small)) ∙ clear)).1
    ∙ ap (λ x. x *ℤ pos (2 ^ count)) (sym (signed_long_by long))

pub word_to_the_right : (word count : ℕ) → word < 0o200000 → 0 < count → count ≤ 0o40
    → signed_value (ash_effect word (0o100 - count)).value ≡ int_div_euclid (signed_value word) (pos (2 ^ count))
unfolding ash_effect
word_to_the_right word count fits some few =
    ap (λ s. signed_value (s.number % 0o200000)) (shifts_right 0o100000 word count some few)
    ∙ signed_word (iterate (shifted_right 0o100000) count (shifting_from word)).number (right_keeps_fits 0o100000 count (shifting_from word) fits)
    ∙ right_divides 0o100000 count (shifting_from word) fits
    ∙ ap (λ x. int_div_euclid x (pos (2 ^ count))) (sym (plain_signed word fits))

pub long_to_the_right : (long count : ℕ) → long < 2 ^ 32 → 0 < count → count ≤ 0o40
    → signed_long (ashc_effect long (0o100 - count)).value ≡ int_div_euclid (signed_long long) (pos (2 ^ count))
unfolding ashc_effect
long_to_the_right long count fits some few =
    ap (λ s. signed_long s.number) (shifts_right (2 ^ 31) long count some few)
    ∙ signed_long_by (iterate (shifted_right (2 ^ 31)) count (shifting_from long)).number
    ∙ right_divides (2 ^ 31) count (shifting_from long) fits
    ∙ ap (λ x. int_div_euclid x (pos (2 ^ count))) (sym (signed_long_by long))
