-- What reading and writing digits rests on.
use Rattle.std.proofs.Common.{◌≡◌, ℕ, zero, suc, ◌+◌, ◌-◌, ◌*◌, ◌/◌, ◌%◌, ◌^◌, ◌<◌, ◌≤◌, true, List, [], ◌∷◌, ◌++◌, length, take, drop, get_or, refl, sym, ◌∙◌, arith, lit<, length-append, length-take, add-one, Some}
use Rattle.std.specs.List.{list_all}
use Rattle.std.proofs.Math.Arith.{mod-mul}
use Rattle.std.proofs.Math.Nat.{pow-zero, pow-suc, pow-succ', one-le-pow, mul-le-mul_right, pow-le-pow_left, pow-le-pow_right}
use Rattle.std.proofs.Math.Seq.{take-suc}
use Rattle.std.proofs.lemmas.Bool.{and_parts, and_from}
use Rattle.std.proofs.lemmas.List.{take-append-drop}
use Rattle.std.proofs.lemmas.List.Folds.{list_all-append, list_all_at}
use Rattle.pdp_word.specs.Number.{is_digit, worth, number_of, octal_digits}

pub length-octal_digits : (places number : ℕ) → length (octal_digits places number) ≡ places
unfolding octal_digits
length-octal_digits zero number = refl
length-octal_digits (suc places) number = grind (arith, length-octal_digits places number)

pub worth-octal_digits : (places number : ℕ) → worth 8 (octal_digits places number) ≡ number % 8 ^ places
unfolding octal_digits worth
worth-octal_digits zero number = grind arith
worth-octal_digits (suc places) number =
    let size : length (octal_digits places number) ≡ places = length-octal_digits places number in
    let rest : worth 8 (octal_digits places number) ≡ number % 8 ^ places = worth-octal_digits places number in
    let digit : 48 + number / 8 ^ places % 8 - 48 ≡ number / 8 ^ places % 8 = omega arith in
    rw (size, rest, digit, pow-succ' 8 places)
    (sym (mod-mul number (lit< tt) (one-le-pow places 8 (lit< tt))))

pub digit_is : (digit : ℕ) → digit < 8 → is_digit 8 (48 + digit) ≡ true
digit_is digit small = grind arith

pub are_digits : (places number : ℕ) → list_all (is_digit 8) (octal_digits places number) ≡ true
unfolding octal_digits
are_digits zero number = refl
are_digits (suc places) number =
    and_from _ _ (digit_is (number / 8 ^ places % 8) (omega arith)) (are_digits places number)

spread : (first power rest base last : ℕ) →
    first * (power * base) + (rest * base + last) ≡ (first * power + rest) * base + last
spread first power rest base last = omega arith

pub worth_push : (base : ℕ) (bytes : List ℕ) (byte : ℕ) →
    worth base (bytes ++ byte ∷ []) ≡ worth base bytes * base + (byte - 48)
unfolding worth
worth_push base [] byte = rw pow-zero (omega arith)
worth_push base (first ∷ bytes) byte =
    let longer : length (bytes ++ byte ∷ []) ≡ suc (length bytes) = grind (arith, length-append) in
    rw (longer, pow-suc base (length bytes), worth_push base bytes byte)
    (spread (first - 48) (base ^ length bytes) (worth base bytes) base (byte - 48))

pub digit_range : (base byte : ℕ) → is_digit base byte ≡ true → (48 ≤ byte) × (byte < 48 + base)
digit_range base byte digit = (grind arith, grind arith)

one_place : (digit base power rest : ℕ) → digit < base → rest < power → digit * power + rest < base * power
one_place digit base power rest small below =
    let room : (digit + 1) * power ≤ base * power = mul-le-mul_right power (omega arith) in
    omega arith

pub worth_below : (base : ℕ) (bytes : List ℕ) → list_all (is_digit base) bytes ≡ true →
    worth base bytes < base ^ length bytes
unfolding worth
worth_below base [] digits = rw pow-zero (lit< tt)
worth_below base (byte ∷ bytes) digits =
    let parts = and_parts (is_digit base byte) (list_all (is_digit base) bytes) digits in
    let range = digit_range base byte parts.0 in
    rw (pow-succ' base (length bytes))
    (one_place (byte - 48) base (base ^ length bytes) (worth base bytes) (omega arith)
    (worth_below base bytes parts.1))

pub digit_at : (base : ℕ) (text : List ℕ) (i : ℕ) → list_all (is_digit base) text ≡ true → i < length text →
    is_digit base (get_or text i 0) ≡ true
digit_at base text i digits inside = grind (arith, list_all_at)

pub digits_before : (base : ℕ) (text : List ℕ) (i : ℕ) → list_all (is_digit base) text ≡ true →
    list_all (is_digit base) (take i text) ≡ true
digits_before base text i digits =
    let whole : list_all (is_digit base) (take i text ++ drop i text) ≡ true = rw (take-append-drop i text) digits in
    (and_parts _ _ (sym (list_all-append (is_digit base) (take i text) (drop i text)) ∙ whole)).0

pub worth_next : (base : ℕ) (text : List ℕ) (i : ℕ) → i < length text →
    worth base (take (i + 1) text) ≡ worth base (take i text) * base + (get_or text i 0 - 48)
worth_next base text i inside =
    rw (add-one, take-suc text i 0 inside) (worth_push base (take i text) (get_or text i 0))

pub number_small : (base : ℕ) (text : List ℕ) → base ≤ 10 → length text ≤ 10 →
    list_all (is_digit base) text ≡ true → worth base text < 10 ^ 10
number_small base text low short digits =
    let below = worth_below base text digits in
    let wide : base ^ length text ≤ 10 ^ length text = pow-le-pow_left low (length text) in
    let long : 10 ^ length text ≤ 10 ^ 10 = pow-le-pow_right (lit< tt) short in
    omega arith

pub number_below : (base : ℕ) (text : List ℕ) → 0 < base → length text ≤ 10 →
    list_all (is_digit base) text ≡ true → worth base text < base ^ 10
number_below base text positive short digits =
    let below = worth_below base text digits in
    let long : base ^ length text ≤ base ^ 10 = pow-le-pow_right positive short in
    omega arith

pub next_small : (base : ℕ) (text : List ℕ) (i : ℕ) → base ≤ 10 → length text ≤ 10 →
    list_all (is_digit base) text ≡ true → i < length text →
    worth base (take i text) * base + (get_or text i 0 - 48) < 10 ^ 10
next_small base text i low short digits inside =
    rw (← worth_next base text i inside)
    (number_small base (take (i + 1) text) low (grind (arith, length-take)) (digits_before base text (i + 1) digits))

pub number_back : (number : ℕ) (text : List ℕ) → text ≡ octal_digits 6 number → number < 8 ^ 6 →
    number_of 8 text ≡ Some number
unfolding number_of
number_back number text written small =
    let size : length (octal_digits 6 number) ≡ 6 = length-octal_digits 6 number in
    let value : worth 8 (octal_digits 6 number) ≡ number = worth-octal_digits 6 number ∙ omega arith in
    rw (written, size, are_digits 6 number, value) refl
