-- Numbers as text: each digit by its place, the last one in place 0 [P].
use Rattle.std.specs.Prelude.{ℕ, zero, suc, ◌+◌, ◌-◌, ◌*◌, ◌/◌, ◌%◌, ◌^◌, Bool, ◌&&◌, nat_le}
use Rattle.std.specs.Prelude.{nat_lt, if◌then◌else◌, Option, Some, None, List, [], ◌∷◌, length}
use Rattle.std.specs.List.{list_all}

-- whether a byte is a digit, 0 to base - 1
abbrev pub is_digit : ℕ → ℕ → Bool
is_digit base byte = nat_le 48 byte && nat_lt byte (48 + base)

-- each digit times the base to the number of digits after it
unfoldable pub worth : ℕ → List ℕ → ℕ
worth base [] = 0
worth base (byte ∷ bytes) = (byte - 48) * base ^ length bytes + worth base bytes

-- whether a text is 1 to 10 digits
abbrev pub is_number : ℕ → List ℕ → Bool
is_number base text = nat_le 1 (length text) && nat_le (length text) 10 && list_all
    (is_digit base) text

-- the number that 1 to 10 digits write
unfoldable pub number_of : ℕ → List ℕ → Option ℕ
number_of base text = if is_number base text then Some (worth base text) else None

-- the last octal digits of a number, as many as are asked for
unfoldable pub octal_digits : ℕ → ℕ → List ℕ
octal_digits zero number = []
octal_digits (suc places) number = (48 + number / 8 ^ places % 8) ∷ octal_digits places number
