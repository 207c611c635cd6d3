-- A number in octal reads back.
use Rattle.std.proofs.Common.{◌≡◌, ℕ, suc, ◌+◌, ◌/◌, ◌%◌, ◌^◌, ◌<◌, ◌≤◌, ◌⊎◌, inl, inr, lit<, true, List, ◌∷◌, Some, refl, ◌∙◌, arith}
use Rattle.std.specs.List.{list_all}
use Rattle.std.proofs.lemmas.Bool.{cases_lt}
use Rattle.std.proofs.lemmas.Bool.Decides.{nat_tests}
use Rattle.std.specs.Prelude.{nat_le}
use Rattle.pdp_word.specs.Number.{is_digit, number_of, octal_digits}
use Rattle.pdp_word.proofs.Digits.{are_digits, length-octal_digits, worth-octal_digits}
use Rattle.pdp_disassembler.specs.Reading.{word_of_digits}
use Rattle.pdp_disassembler.specs.Text.{digit_count, octal_text}

-- how many digits a number has, and that they are enough
abbrev pub Counted : ℕ → Type 0
Counted number = (more : ℕ) × (more < 6) × (digit_count number ≡ suc more) × (number % 8 ^ suc more ≡ number)

one_digit : (number : ℕ) → number < 0o10 → digit_count number ≡ 1
one_digit number l = grind (arith, nat_tests)

two_digits : (number : ℕ) → 0o10 ≤ number → number < 0o100 → digit_count number ≡ 2
two_digits number g l = grind (arith, nat_tests)

three_digits : (number : ℕ) → 0o100 ≤ number → number < 0o1000 → digit_count number ≡ 3
three_digits number g l = grind (arith, nat_tests)

four_digits : (number : ℕ) → 0o1000 ≤ number → number < 0o10000 → digit_count number ≡ 4
four_digits number g l = grind (arith, nat_tests)

five_digits : (number : ℕ) → 0o10000 ≤ number → number < 0o100000 → digit_count number ≡ 5
five_digits number g l = grind (arith, nat_tests)

six_digits : (number : ℕ) → 0o100000 ≤ number → digit_count number ≡ 6
six_digits number g = grind (arith, nat_tests)

counted : (number : ℕ) → number < 0o200000 → Counted number
counted number fits = below (cases_lt number 0o10)
  where
    from_five : (0o10000 ≤ number) → (number < 0o100000) ⊎ (0o100000 ≤ number) → Counted number
    from_five g (inl l) = (4, lit< tt, five_digits number g l, omega arith)
    from_five g (inr h) = (5, lit< tt, six_digits number h, omega arith)

    from_four : (0o1000 ≤ number) → (number < 0o10000) ⊎ (0o10000 ≤ number) → Counted number
    from_four g (inl l) = (3, lit< tt, four_digits number g l, omega arith)
    from_four g (inr h) = from_five h (cases_lt number 0o100000)

    from_three : (0o100 ≤ number) → (number < 0o1000) ⊎ (0o1000 ≤ number) → Counted number
    from_three g (inl l) = (2, lit< tt, three_digits number g l, omega arith)
    from_three g (inr h) = from_four h (cases_lt number 0o10000)

    from_two : (0o10 ≤ number) → (number < 0o100) ⊎ (0o100 ≤ number) → Counted number
    from_two g (inl l) = (1, lit< tt, two_digits number g l, omega arith)
    from_two g (inr h) = from_three h (cases_lt number 0o1000)

    below : (number < 0o10) ⊎ (0o10 ≤ number) → Counted number
    below (inl l) = (0, lit< tt, one_digit number l, omega arith)
    below (inr h) = from_two h (cases_lt number 0o100)

few_digits : (more : ℕ) → more < 6 → (nat_le 1 (suc more) ≡ true) × (nat_le (suc more) 10 ≡ true)
few_digits more few = (grind (arith, nat_tests), grind (arith, nat_tests))

-- up to six digits that are enough for a number say it
digits_say : (more number : ℕ) → more < 6 → number % 8 ^ suc more ≡ number
    → number_of 8 (octal_digits (suc more) number) ≡ Some number
unfolding number_of
digits_say more number few enough =
    let size = length-octal_digits (suc more) number in
    let range = few_digits more few in
    let all = are_digits (suc more) number in
    let value = worth-octal_digits (suc more) number ∙ enough in
    rw (size, range.0, range.1, all, value) refl

digits_read : (more number : ℕ) → more < 6 → number < 0o200000 → number % 8 ^ suc more ≡ number
    → word_of_digits (octal_digits (suc more) number) ≡ number
digits_read more number few fits enough =
    let said = digits_say more number few enough in
    let small : number % 0o200000 ≡ number = omega arith in
    rw (said, small) refl

-- the six digits of a word say it
pub six_read : (word : ℕ) → word < 0o200000 → word_of_digits (octal_digits 6 word) ≡ word
six_read word fits = let enough : word % 8 ^ 6 ≡ word = omega arith in digits_read 5 word (lit< tt) fits enough

-- the text of a number: a digit, more of them, and the number that they are worth
pub record IsOctal (number : ℕ) (text : List ℕ) : Type 0 where
  pub first : ℕ
  pub others : List ℕ
  pub shown : text ≡ first ∷ others
  pub digit : ℕ
  pub shows : first ≡ 48 + digit
  pub small : digit < 8
  pub all : list_all (is_digit 8) (first ∷ others) ≡ true
  pub value : word_of_digits (first ∷ others) ≡ number

pub octal_is : (number : ℕ) → number < 0o200000 → IsOctal number (octal_text number)
unfolding octal_text octal_digits
octal_is number fits =
    let found = counted number fits in
    let more = found.0 in
    record {
      first = 48 + number / 8 ^ more % 8;
      others = octal_digits more number;
      shown = rw found.2 refl;
      digit = number / 8 ^ more % 8;
      shows = refl;
      small = omega arith;
      all = are_digits (suc more) number;
      value = digits_read more number found.1 fits found.3;
    }

-- a number is what its text says
pub octal_read : (number : ℕ) → number < 0o200000 → word_of_digits (octal_text number) ≡ number
octal_read number fits = let o = octal_is number fits in rw o.shown o.value
